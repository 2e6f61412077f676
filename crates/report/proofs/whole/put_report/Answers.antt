use Rattle.text_out.specs.Written.{Writes}
use Rattle.report.specs.Report.{opening_text, records_text, end_line}
use Rattle.text_out.proofs.Pieces.{stopped_second, writes_third}
use Rattle.report.proofs.whole.put_report.Goals as goal

pub returns-in_err-put_records-clause-lines : goal.returns-in_err-put_records-clause-lines
returns-in_err-put_records-clause-lines g c =
    let taken = g.K.Sink.taken in
    let f = c.args.finished.now in
    stopped_second (taken c.args.out.now) (taken c.put_opening.new.out) (taken c.put_records.new.out) c.from_residual-in_err-put_records.result (opening_text f) (records_text f) end_line c.from_residual-in_err-put_records.ensures.0 c.in_ok-put_opening.ensures.lines.ok c.in_err-put_records.ensures.lines.err

pub returns-clause-lines : goal.returns-clause-lines
returns-clause-lines g c =
    let taken = g.K.Sink.taken in
    let f = c.args.finished.now in
    let last : Writes (taken c.put_records.new.out) (taken c.put_piece.new.out) c.put_piece.result end_line = rw c.end.ensures at c.put_piece.ensures.text in
    writes_third (taken c.args.out.now) (taken c.put_opening.new.out) (taken c.put_records.new.out) (taken c.put_piece.new.out) c.put_piece.result (opening_text f) (records_text f) end_line c.in_ok-put_opening.ensures.lines.ok c.in_ok-put_records.ensures.lines.ok last
