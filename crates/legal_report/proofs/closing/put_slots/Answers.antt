use Rattle.report.specs.Objects.{numbered}
use Rattle.report.specs.Tables.{region_line, enclave_text, thread_text}
use Rattle.text_out.proofs.Pieces.{stopped_second, writes_third}
use Rattle.legal_report.proofs.closing.put_slots.Goals as goal

pub returns-in_err-put_each-2-clause-lines : goal.returns-in_err-put_each-2-clause-lines
returns-in_err-put_each-2-clause-lines g c =
    let taken = g.K.Sink.taken in
    let s = c.args.monitor.now.state in
    stopped_second (taken c.args.out.now) (taken c.put_each.new.out) (taken c.put_each-2.new.out) c.from_residual-in_err-put_each-2.result (numbered region_line 0 s.regions) (numbered enclave_text 0 s.enclaves) (numbered thread_text 0 s.threads)
    c.from_residual-in_err-put_each-2.ensures.0 (rw c.regions.ensures.list at c.in_ok-put_each.ensures.lines.ok) (rw c.enclaves.ensures.list at c.in_err-put_each-2.ensures.lines.err)

pub returns-clause-lines : goal.returns-clause-lines
returns-clause-lines g c =
    let taken = g.K.Sink.taken in
    let s = c.args.monitor.now.state in
    writes_third (taken c.args.out.now) (taken c.put_each.new.out) (taken c.put_each-2.new.out) (taken c.put_each-3.new.out) c.put_each-3.result (numbered region_line 0 s.regions) (numbered enclave_text 0 s.enclaves) (numbered thread_text 0 s.threads)
    (rw c.regions.ensures.list at c.in_ok-put_each.ensures.lines.ok) (rw c.enclaves.ensures.list at c.in_ok-put_each-2.ensures.lines.ok) (rw c.threads.ensures.list at c.put_each-3.ensures.lines)
