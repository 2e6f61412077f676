-- A set has room for a number that it has not.
use Rattle.std.proofs.Common.{◌≡◌, ℕ, suc, ◌+◌, ◌-◌, ◌*◌, ◌/◌, ◌%◌, ◌^◌, ◌<◌, ◌≤◌, false, nat_eq, sym, ap, ◌∙◌, subst, arith}
use Rattle.std.proofs.Math.Nat.{pow-succ', lt-mul-div-succ, mul-le-mul_left, div-lt_iff_lt-mul}
use Rattle.std.proofs.lemmas.Nat.{pow-add, pow_pos}
use Rattle.std.proofs.lemmas.Bool.{eqb-false}
use Rattle.mon_types.specs.Bits.{has_bit}

-- the set has an even number of whole p, and the top an even number too
room : (p m set : ℕ) → 0 < p → set < (2 * m) * p → nat_eq (set / p % 2) 1 ≡ false → set + p < (2 * m) * p
room p m set pos lt even =
    let below : set / p < 2 * m = (div-lt_iff_lt-mul {k = p} {x = set} {y = 2 * m} pos).1 lt in
    let none : set / p % 2 ≡ 0 = omega (arith, eqb-false (set / p % 2) 1 even) in
    let past : set < p * (set / p + 1) = lt-mul-div-succ set pos in
    let most : p * (set / p + 2) ≤ p * (2 * m) = mul-le-mul_left p (omega arith) in
    omega arith

pub room_for_bit : (set i : ℕ) → i < 64 → set < 2 ^ 64 → has_bit set i ≡ false → set + 2 ^ i < 2 ^ 64
room_for_bit set i small lt none =
    let whole : suc (63 - i) + i ≡ 64 = omega arith in
    let split : (2 * 2 ^ (63 - i)) * 2 ^ i ≡ 2 ^ 64 =
    sym (ap (λ (n : ℕ). n * 2 ^ i) (pow-succ' 2 (63 - i))) ∙ sym (pow-add 2 (suc (63 - i)) i) ∙ ap (λ (n : ℕ). 2 ^ n) whole in
    subst (λ (n : ℕ). set + 2 ^ i < n) split (room (2 ^ i) (2 ^ (63 - i)) set (pow_pos i) (subst (λ (n : ℕ). set < n) (sym split) lt) none)
