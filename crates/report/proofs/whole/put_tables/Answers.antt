use Rattle.report.specs.Objects.{numbered}
use Rattle.report.specs.Tables.{region_line, core_lines}
use Rattle.report.specs.Report.{slots_text}
use Rattle.text_out.proofs.Pieces.{stopped_second, writes_third}
use Rattle.report.proofs.whole.put_tables.Goals as goal

pub returns-in_err-put_slots-clause-lines : goal.returns-in_err-put_slots-clause-lines
returns-in_err-put_slots-clause-lines g c =
    let taken = g.K.Sink.taken in
    let f = c.args.finished.now in
    stopped_second (taken c.args.out.now) (taken c.put_each.new.out) (taken c.put_slots.new.out) c.from_residual-in_err-put_slots.result (numbered region_line 0 f.regions) (slots_text f) (core_lines 0 f.modes f.flushed)
    c.from_residual-in_err-put_slots.ensures.0 (rw c.as_slice.ensures at c.in_ok-put_each.ensures.lines.ok) c.in_err-put_slots.ensures.lines.err

pub returns-clause-lines : goal.returns-clause-lines
returns-clause-lines g c =
    let taken = g.K.Sink.taken in
    let f = c.args.finished.now in
    writes_third (taken c.args.out.now) (taken c.put_each.new.out) (taken c.put_slots.new.out) (taken c.put_cores.new.out) c.put_cores.result (numbered region_line 0 f.regions) (slots_text f) (core_lines 0 f.modes f.flushed)
    (rw c.as_slice.ensures at c.in_ok-put_each.ensures.lines.ok) c.in_ok-put_slots.ensures.lines.ok (rw (c.as_slice-2.ensures, c.as_slice-3.ensures) at c.put_cores.ensures.lines)
