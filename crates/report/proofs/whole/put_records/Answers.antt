use Rattle.report.specs.Report.{logs_text, tables_text}
use Rattle.text_out.proofs.Pieces.{writes_then}
use Rattle.report.proofs.whole.put_records.Goals as goal

pub returns-clause-lines : goal.returns-clause-lines
returns-clause-lines g c =
    let taken = g.K.Sink.taken in
    writes_then (taken c.args.out.now) (taken c.put_each.new.out) (taken c.put_tables.new.out) c.put_tables.result (logs_text c.args.finished.now.logs) (tables_text c.args.finished.now)
    (rw c.as_slice.ensures at c.in_ok-put_each.ensures.lines.ok) c.put_tables.ensures.lines
