use Rattle.std.proofs.Common.{◌<◌, length, sym, ◌∙◌, arith}
use Rattle.std.proofs.lemmas.Bool.{eqb-true, eqb-false}
use Rattle.report_lines.proofs.Lined.{first_unended, first_ended}
use Rattle.report_lines.proofs.lines.next_line.Goals as goal

pub returns-then-is_empty-clause-lines : goal.returns-then-is_empty-clause-lines
returns-then-is_empty-clause-lines c =
    first_unended c.args.text.now c.split.result.1.now c.requires c.split.ensures.from
    (eqb-true _ 0 (sym c.is_empty.ensures ∙ c.if-is_empty.true))

pub returns-else-is_empty-clause-lines : goal.returns-else-is_empty-clause-lines
returns-else-is_empty-clause-lines c =
    let some : 0 < length c.split.result.1.now = omega (arith, eqb-false (length c.split.result.1.now) 0 (sym c.is_empty.ensures ∙ c.if-is_empty.false)) in
    first_ended c.args.text.now c.split.result.0.now c.split.result.1.now c.split_at.result.0.now c.split_at.result.1.now
    c.split.ensures.before c.split.ensures.from some c.split_at.ensures.front c.split_at.ensures.back
