-- Sets of numbers with one number more or fewer.
use Rattle.std.proofs.Common.{◌≡◌, ℕ, zero, suc, ◌+◌, ◌-◌, ◌/◌, ◌%◌, ◌^◌, ◌≤◌, Bool, true, false, cond, nat_eq, refl, sym, ap, ◌∙◌, inl, inr, arith, pow-suc}
use Rattle.std.specs.Int.{bit_at}
use Rattle.std.proofs.lemmas.Nat.Bits.{bit_at_lowest, bit_at-suc, bit_at-zero}
use Rattle.std.proofs.lemmas.Bool.{eqb-true, eqb-false}
use Rattle.std.proofs.lemmas.Bool.Decides.{eqb_tells}
use Rattle.mon_types.specs.Bits.{has_bit, with_bit, without_bit}

-- ---- a power of two added where the bit is 0

half_added : (w i : ℕ) → (w + 2 ^ suc i) / 2 ≡ w / 2 + 2 ^ i
half_added w i = omega (arith, pow-suc 2 i)

added_same : (w i : ℕ) → bit_at w i ≡ 0 → bit_at (w + 2 ^ i) i ≡ 1
added_same w zero h = omega (arith, bit_at_lowest w, bit_at_lowest (w + 2 ^ 0))
added_same w (suc i) h = bit_at-suc _ i ∙ ap (λ (x : ℕ). bit_at x i) (half_added w i) ∙ added_same (w / 2) i (sym (bit_at-suc w i) ∙ h)

added_other : (w i j : ℕ) → (j ≡ i → ⊥) → bit_at w i ≡ 0 → bit_at (w + 2 ^ i) j ≡ bit_at w j
added_other w zero zero apart h = absurd (apart refl)
added_other w zero (suc j) apart h =
    let half : (w + 2 ^ 0) / 2 ≡ w / 2 = omega (arith, bit_at_lowest w) in
    bit_at-suc _ j ∙ ap (λ (x : ℕ). bit_at x j) half ∙ sym (bit_at-suc w j)
added_other w (suc i) zero apart h = omega (arith, bit_at_lowest w, bit_at_lowest (w + 2 ^ suc i), pow-suc 2 i)
added_other w (suc i) (suc j) apart h =
    bit_at-suc _ j ∙ ap (λ (x : ℕ). bit_at x j) (half_added w i) ∙ added_other (w / 2) i j (λ e. apart (ap suc e)) (sym (bit_at-suc w i) ∙ h) ∙ sym (bit_at-suc w j)

-- ---- a power of two taken away where the bit is 1

least : (w i : ℕ) → bit_at w i ≡ 1 → 2 ^ i ≤ w
least w zero h = omega (arith, bit_at_lowest w)
least w (suc i) h = omega (arith, least (w / 2) i (sym (bit_at-suc w i) ∙ h), pow-suc 2 i)

half_taken : (w i : ℕ) → (w - 2 ^ suc i) / 2 ≡ w / 2 - 2 ^ i
half_taken w i = omega (arith, pow-suc 2 i)

taken_same : (w i : ℕ) → bit_at w i ≡ 1 → bit_at (w - 2 ^ i) i ≡ 0
taken_same w zero h = omega (arith, bit_at_lowest w, bit_at_lowest (w - 2 ^ 0))
taken_same w (suc i) h = bit_at-suc _ i ∙ ap (λ (x : ℕ). bit_at x i) (half_taken w i) ∙ taken_same (w / 2) i (sym (bit_at-suc w i) ∙ h)

taken_other : (w i j : ℕ) → (j ≡ i → ⊥) → bit_at w i ≡ 1 → bit_at (w - 2 ^ i) j ≡ bit_at w j
taken_other w zero zero apart h = absurd (apart refl)
taken_other w zero (suc j) apart h =
    let half : (w - 2 ^ 0) / 2 ≡ w / 2 = omega (arith, bit_at_lowest w) in
    bit_at-suc _ j ∙ ap (λ (x : ℕ). bit_at x j) half ∙ sym (bit_at-suc w j)
taken_other w (suc i) zero apart h = omega (arith, bit_at_lowest w, bit_at_lowest (w - 2 ^ suc i), least w (suc i) h, pow-suc 2 i)
taken_other w (suc i) (suc j) apart h =
    bit_at-suc _ j ∙ ap (λ (x : ℕ). bit_at x j) (half_taken w i) ∙ taken_other (w / 2) i j (λ e. apart (ap suc e)) (sym (bit_at-suc w i) ∙ h) ∙ sym (bit_at-suc w j)

-- ---- the sets

bit_is : (w i : ℕ) → has_bit w i ≡ true → bit_at w i ≡ 1
bit_is w i h = eqb-true (bit_at w i) 1 h

no_bit_is : (w i : ℕ) → has_bit w i ≡ false → bit_at w i ≡ 0
no_bit_is w i h = omega (arith, eqb-false (w / 2 ^ i % 2) 1 h)

pub none-has : (i : ℕ) → has_bit 0 i ≡ false
none-has i = ap (λ (x : ℕ). nat_eq x 1) (bit_at-zero i)

pub with-same : (w i : ℕ) → has_bit (with_bit w i) i ≡ true
with-same w i = by (has_bit w i) refl
  where
    by : (b : Bool) → has_bit w i ≡ b → has_bit (cond b w (w + 2 ^ i)) i ≡ true
    by true is = is
    by false is = ap (λ (x : ℕ). nat_eq x 1) (added_same w i (no_bit_is w i is))

pub with-other : (w i j : ℕ) → (j ≡ i → ⊥) → has_bit (with_bit w i) j ≡ has_bit w j
with-other w i j apart = by (has_bit w i) refl
  where
    by : (b : Bool) → has_bit w i ≡ b → has_bit (cond b w (w + 2 ^ i)) j ≡ has_bit w j
    by true is = refl
    by false is = ap (λ (x : ℕ). nat_eq x 1) (added_other w i j apart (no_bit_is w i is))

pub without-same : (w i : ℕ) → has_bit (without_bit w i) i ≡ false
without-same w i = by (has_bit w i) refl
  where
    by : (b : Bool) → has_bit w i ≡ b → has_bit (cond b (w - 2 ^ i) w) i ≡ false
    by true is = ap (λ (x : ℕ). nat_eq x 1) (taken_same w i (bit_is w i is))
    by false is = is

pub without-other : (w i j : ℕ) → (j ≡ i → ⊥) → has_bit (without_bit w i) j ≡ has_bit w j
without-other w i j apart = by (has_bit w i) refl
  where
    by : (b : Bool) → has_bit w i ≡ b → has_bit (cond b (w - 2 ^ i) w) j ≡ has_bit w j
    by true is = ap (λ (x : ℕ). nat_eq x 1) (taken_other w i j apart (bit_is w i is))
    by false is = refl

-- what the set had, it still has with one more
pub with-keeps : (w i j : ℕ) → has_bit w j ≡ true → has_bit (with_bit w i) j ≡ true
with-keeps w i j h =
    elim (eqb_tells j i) [
      | inl (t, is) ↦ rw is (with-same w i)
      | inr (f, apart) ↦ with-other w i j apart ∙ h
    ]
