use Rattle.report.specs.Report.{head_text, calls_text}
use Rattle.text_out.proofs.Pieces.{writes_then}
use Rattle.report.proofs.whole.put_opening.Goals as goal

pub returns-clause-lines : goal.returns-clause-lines
returns-clause-lines g c =
    let taken = g.K.Sink.taken in
    writes_then (taken c.args.out.now) (taken c.put_head.new.out) (taken c.put_history.new.out) c.put_history.result (head_text c.args.finished.now.config) (calls_text c.args.finished.now.logs)
    c.in_ok-put_head.ensures.lines.ok (rw c.as_slice.ensures at c.put_history.ensures.lines)
