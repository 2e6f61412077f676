use Rattle.std.proofs.Common.{ℤ, Ok, sym, ap, ◌∙◌, arith}
use Rattle.std.proofs.lemmas.Int.{ints}
use Rattle.std.proofs.lemmas.Result.{err_from_is_err_and}
use Rattle.rv_asm.proofs.Ranges.{half_range}
use Rattle.rv_asm.proofs.operand.below_half.Goals as goal

pub returns-in_err-n-clause-value : goal.returns-in_err-n-clause-value
returns-in_err-n-clause-value c =
    let p = err_from_is_err_and c.from_residual.result c.from_residual.ensures.1 in
    rw (p.1, p.2) (sym c.in_err-n.was ∙ c.in_range.ensures.value ∙ half_range c.args.half c.from.result c.from-2.result c.args.n c.from.ensures c.from-2.ensures c.ranges.half c.ranges.n)

pub returns-clause-value : goal.returns-clause-value
returns-clause-value c =
    ap (λ (n : ℤ). Ok n) (omega (arith, ints, c.in_ok-n.ensures)) ∙ sym c.in_ok-n.was ∙ c.in_range.ensures.value
    ∙ half_range c.args.half c.from.result c.from-2.result c.args.n c.from.ensures c.from-2.ensures c.ranges.half c.ranges.n
