use Rattle.std.proofs.Common.{sym, ◌∙◌}
use Rattle.std.proofs.lemmas.Bool.{eqb-true}
use Rattle.report_lines.specs.Lines.{ended_lines}
use Rattle.legal_report.proofs.Walk.{no_lines_at_all, no_machine, head_there, no_lines_in, was_title}
use Rattle.legal_report.proofs.form.read_head.Goals as goal

pub returns-then-is_empty-clause-fails : goal.returns-then-is_empty-clause-fails
returns-then-is_empty-clause-fails c = no_lines_at_all c.args.bytes.now (eqb-true _ 0 (sym c.is_empty.ensures ∙ c.if-is_empty.true))

pub returns-then-is_empty-2-clause-fails : goal.returns-then-is_empty-2-clause-fails
returns-then-is_empty-2-clause-fails c =
    no_machine c.args.bytes.now c.next_line.result.0.now (ended_lines c.next_line.result.1.now) c.next_line.ensures.lines (was_title c.next_line.result.0.now c.title.result.now c.ne.result c.title.ensures c.ne.ensures c.if-ne.false)
    (no_lines_in c.next_line.result.1.now (eqb-true _ 0 (sym c.is_empty-2.ensures ∙ c.if-is_empty-2.true)))

pub returns-in-Some-clause-head : goal.returns-in-Some-clause-head
returns-in-Some-clause-head c =
    head_there c.args.bytes.now c.next_line.result.0.now c.next_line.result.1.now c.next_line-2.result.0.now c.next_line-2.result.1.now c.in-Some.config c.next_line.ensures.lines (was_title c.next_line.result.0.now c.title.result.now c.ne.result c.title.ensures c.ne.ensures c.if-ne.false)
    c.next_line-2.ensures.lines c.next_line.ensures.joined c.next_line-2.ensures.joined (sym c.in-Some.ensures.exact)
