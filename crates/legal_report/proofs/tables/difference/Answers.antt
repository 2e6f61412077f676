use Rattle.std.proofs.Common.{◌<◌, length, sym, ◌∙◌, arith}
use Rattle.std.proofs.lemmas.Bool.{eqb-true, eqb-false}
use Rattle.report_lines.specs.Lines.{ended_lines}
use Rattle.legal_report.proofs.Walk.{no_lines_in}
use Rattle.legal_report.proofs.Differing.{none_met, ends_missing, ends_with_more}
use Rattle.legal_report.proofs.tables.difference.Goals as goal

pub returns-then-is_empty : goal.returns-then-is_empty
returns-then-is_empty c =
    let some : 0 < length c.loop-left.left.now = omega (arith, eqb-false (length c.loop-left.left.now) 0 (sym c.is_empty.ensures ∙ c.loop-left-test.true)) in
    ends_missing c.loop-left.line c.loop-left.left.now c.loop-left.rest.now _ some (no_lines_in c.loop-left.rest.now (eqb-true _ 0 (sym c.is_empty-in-loop-left.ensures ∙ c.if-is_empty.true))) c.loop-left.invariant.read

pub returns-then-is_empty-2 : goal.returns-then-is_empty-2
returns-then-is_empty-2 c =
    none_met c.loop-left.line (ended_lines c.loop-left.left.now) (ended_lines c.loop-left.rest.now) _ (no_lines_in c.loop-left.left.now (eqb-true _ 0 (sym c.is_empty.ensures ∙ c.loop-left-test.false)))
    (no_lines_in c.loop-left.rest.now (eqb-true _ 0 (sym c.is_empty-2.ensures ∙ c.if-is_empty-2.true))) c.loop-left.invariant.read

pub returns-else-is_empty-2 : goal.returns-else-is_empty-2
returns-else-is_empty-2 c =
    let some : 0 < length c.loop-left.rest.now = omega (arith, eqb-false (length c.loop-left.rest.now) 0 (sym c.is_empty-2.ensures ∙ c.if-is_empty-2.false)) in
    ends_with_more c.loop-left.line c.loop-left.left.now c.loop-left.rest.now _ (no_lines_in c.loop-left.left.now (eqb-true _ 0 (sym c.is_empty.ensures ∙ c.loop-left-test.false))) some c.loop-left.invariant.read
