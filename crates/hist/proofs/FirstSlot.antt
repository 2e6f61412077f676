-- The first slot of a set of enclave slots, slot by slot.
use Rattle.std.proofs.Common.{◌≡◌, ℕ, suc, ◌+◌, ◌-◌, ◌<◌, true, false, find, if◌then◌else◌, Some, refl, ap, ◌∙◌, arith}
use Rattle.std.specs.List.{range_with_len}
use Rattle.mon_types.specs.Bits.{has_bit}

pub slot_here : (set s : ℕ) → s < 8 → has_bit set s ≡ true → find (has_bit set) (range_with_len s (8 - s)) ≡ Some s
slot_here set s lt is =
    let n : 8 - s ≡ suc (7 - s) = omega arith in
    ap (λ (m : ℕ). find (has_bit set) (range_with_len s m)) n ∙ ap (λ b. if b then Some s else find (has_bit set) (range_with_len (s + 1) (7 - s))) is

pub slot_later : (set s : ℕ) → s < 8 → has_bit set s ≡ false → find (has_bit set) (range_with_len s (8 - s)) ≡ find (has_bit set) (range_with_len (s + 1) (8 - (s + 1)))
slot_later set s lt is =
    let n : 8 - s ≡ suc (7 - s) = omega arith in
    let m : 7 - s ≡ 8 - (s + 1) = omega arith in
    ap (λ (m : ℕ). find (has_bit set) (range_with_len s m)) n ∙ ap (λ b. if b then Some s else find (has_bit set) (range_with_len (s + 1) (7 - s))) is
    ∙ ap (λ (m : ℕ). find (has_bit set) (range_with_len (s + 1) m)) m
