use Rattle.std.specs.Prelude.{◌++◌}
use Rattle.text_out.specs.Written.{Writes}
use Rattle.report.specs.Objects.{numbered}
use Rattle.report.specs.Report.{end_line}
use Rattle.report.specs.Tables.{region_line, enclave_text, thread_text, core_lines}
use Rattle.text_out.proofs.Pieces.{stopped_second, writes_third}
use Rattle.legal_report.proofs.closing.put_closing.Goals as goal

pub returns-in_err-put_cores-clause-lines : goal.returns-in_err-put_cores-clause-lines
returns-in_err-put_cores-clause-lines g c =
    let taken = g.K.Sink.taken in
    let s = c.args.monitor.now.state in
    let slots = numbered region_line 0 s.regions ++ numbered enclave_text 0 s.enclaves ++ numbered thread_text 0 s.threads in
    stopped_second (taken c.args.out.now) (taken c.put_slots.new.out) (taken c.put_cores.new.out) c.from_residual-in_err-put_cores.result slots (core_lines 0 s.modes s.flushed) end_line
    c.from_residual-in_err-put_cores.ensures.0 c.in_ok-put_slots.ensures.lines.ok (rw (c.modes.ensures.list, c.flushed.ensures.list) at c.in_err-put_cores.ensures.lines.err)

pub returns-clause-lines : goal.returns-clause-lines
returns-clause-lines g c =
    let taken = g.K.Sink.taken in
    let s = c.args.monitor.now.state in
    let slots = numbered region_line 0 s.regions ++ numbered enclave_text 0 s.enclaves ++ numbered thread_text 0 s.threads in
    let last : Writes (taken c.put_cores.new.out) (taken c.put_piece.new.out) c.put_piece.result end_line = rw c.end.ensures at c.put_piece.ensures.text in
    writes_third (taken c.args.out.now) (taken c.put_slots.new.out) (taken c.put_cores.new.out) (taken c.put_piece.new.out) c.put_piece.result slots (core_lines 0 s.modes s.flushed) end_line
    c.in_ok-put_slots.ensures.lines.ok (rw (c.modes.ensures.list, c.flushed.ensures.list) at c.in_ok-put_cores.ensures.lines.ok) last
