use Rattle.report.specs.Objects.{numbered}
use Rattle.report.specs.Tables.{enclave_text, thread_text}
use Rattle.text_out.proofs.Pieces.{writes_then}
use Rattle.report.proofs.whole.put_slots.Goals as goal

pub returns-clause-lines : goal.returns-clause-lines
returns-clause-lines g c =
    let taken = g.K.Sink.taken in
    writes_then (taken c.args.out.now) (taken c.put_each.new.out) (taken c.put_each-2.new.out) c.put_each-2.result (numbered enclave_text 0 c.args.finished.now.enclaves) (numbered thread_text 0 c.args.finished.now.threads)
    (rw c.as_slice.ensures at c.in_ok-put_each.ensures.lines.ok) (rw c.as_slice-2.ensures at c.put_each-2.ensures.lines)
