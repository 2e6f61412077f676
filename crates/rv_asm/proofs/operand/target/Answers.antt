use Rattle.std.proofs.Common.{◌≡◌, Some, ℤ, pos, ◌^◌, ◌<ℤ◌, Result, sym, ap, ◌∙◌, arith, rules}
use Rattle.std.specs.Prelude.{FitsSigned}
use Rattle.std.specs.Int.{w64, w128}
use Rattle.std.proofs.lemmas.Int.{ints, to_z-of_z}
use Rattle.std.proofs.lemmas.Result.{err_from_is_err_and}
use Rattle.rv_asm.specs.declared.fault.AsmKind.{AsmKind}
use Rattle.rv_asm.specs.Parts.{spots_in}
use Rattle.rv_asm.specs.Statements.{even, ◌>>=◌}
use Rattle.rv_asm.proofs.Cut.{target_number}
use Rattle.rv_asm.proofs.operand.target.Goals as goal

pub returns-in_err-below_half-clause-value : goal.returns-in_err-below_half-clause-value
returns-in_err-below_half-clause-value c =
    let some : c.word_number.result ≡ Some c.in_ok-n.n = grind arith in
    let below : c.args.half <ℤ pos (2 ^ 64) = omega (arith, ints) in
    let fits : FitsSigned w128 c.in_ok-n.n = search rules in
    let half = c.ranges.half in
    let p = err_from_is_err_and c.from_residual-in_err-below_half.result c.from_residual-in_err-below_half.ensures.1 in
    rw (p.1, p.2) (ap (λ (r : Result ℤ AsmKind). r >>= even) (sym c.in_err-below_half.was ∙ simp to_z-of_z at c.below_half.ensures.value)
    ∙ target_number (spots_in c.args.labels.now) c.args.half c.in_ok-n.n c.args.words c.args.word.now (sym c.is_label.ensures ∙ c.if-is_label.false) below (sym c.word_number.ensures.value ∙ some))

pub returns-clause-value : goal.returns-clause-value
returns-clause-value c =
    let some : c.word_number.result ≡ Some c.in_ok-n.n = grind arith in
    let below : c.args.half <ℤ pos (2 ^ 64) = omega (arith, ints) in
    let fits : FitsSigned w128 c.in_ok-n.n = search rules in
    let fits_offset : FitsSigned w64 c.in_ok-below_half.field-0 = search rules in
    let half = c.ranges.half in
    simp to_z-of_z at c.even.ensures.value
    ∙ ap (λ (r : Result ℤ AsmKind). r >>= even) (sym c.in_ok-below_half.was ∙ simp to_z-of_z at c.below_half.ensures.value)
    ∙ target_number (spots_in c.args.labels.now) c.args.half c.in_ok-n.n c.args.words c.args.word.now (sym c.is_label.ensures ∙ c.if-is_label.false) below (sym c.word_number.ensures.value ∙ some)
