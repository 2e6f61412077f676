-- Numbers in a range, of 64 bits and a sign and of 128.
use Rattle.std.proofs.Common.{◌≡◌, ℤ, pos, neg_ℤ, ◌-ℤ◌, refl, arith}
use Rattle.std.specs.Prelude.{FitsSigned}
use Rattle.std.specs.Int.{cast_signed, cast_unsigned, w64, w128}
use Rattle.std.proofs.lemmas.Int.{ints}
use Rattle.rv_asm.specs.Statements.{within}

pub half_range : (half low high n : ℤ) → low ≡ cast_signed w64 (cast_unsigned w64 half) → high ≡ cast_signed w64 (cast_unsigned w64 half) → FitsSigned w64 half → FitsSigned w128 n
    → within (cast_signed w128 (cast_unsigned w128 (pos 0 -ℤ cast_signed w128 (cast_unsigned w128 low)))) (cast_signed w128 (cast_unsigned w128 (cast_signed w128 (cast_unsigned w128 high) -ℤ pos 1))) (cast_signed w128 (cast_unsigned w128 n))
    ≡ within (neg_ℤ half) (half -ℤ pos 1) n
half_range half low high n l h f g =
    let least : cast_signed w128 (cast_unsigned w128 (pos 0 -ℤ cast_signed w128 (cast_unsigned w128 low))) ≡ neg_ℤ half = omega (arith, ints) in
    let most : cast_signed w128 (cast_unsigned w128 (cast_signed w128 (cast_unsigned w128 high) -ℤ pos 1)) ≡ half -ℤ pos 1 = omega (arith, ints) in
    let same : cast_signed w128 (cast_unsigned w128 n) ≡ n = omega (arith, ints) in
    rw (least, most, same) refl
