use Rattle.report.specs.Report.{title_line, machine_line}
use Rattle.text_out.proofs.Pieces.{writes_then}
use Rattle.report.proofs.whole.put_head.Goals as goal

pub returns-clause-lines : goal.returns-clause-lines
returns-clause-lines g c =
    let taken = g.K.Sink.taken in
    writes_then (taken c.args.out.now) (taken c.put_piece.new.out) (taken c.put_line.new.out) c.put_line.result title_line (machine_line c.args.config.now)
    (rw c.title.ensures at c.in_ok-put_piece.ensures.text.ok) (rw c.line_of_machine.ensures at c.put_line.ensures.text)
