-- Numbers of any size, where of a large one only its sign and its remainder by 4 are kept.
use Rattle.std.proofs.Common.{◌≡◌, ℕ, zero, suc, ◌^◌, ◌<◌, ◌≤◌, false, List, drop, ℤ, pos, negsuc, neg_ℤ, ◌-ℤ◌, ◌<ℤ◌, Option, Some, None, Err, refl, sym, ap, ◌∙◌, arith, inl, inr}
use Rattle.std.specs.Prelude.{int_le}
use Rattle.std.specs.Option.{option_map}
use Rattle.std.proofs.lemmas.Bool.{cases_Bool, cases_lt, and_left, and_right}
use Rattle.std.proofs.lemmas.Bool.Decides.{nat_tests}
use Rattle.std.proofs.lemmas.Int.{ints}
use Rattle.rv_asm.specs.declared.fault.AsmKind.TheVariants as kinds
use Rattle.rv_asm.specs.Text.{is_label}
use Rattle.rv_asm.specs.Numbers.{begins_minus, number_by, number_of}
use Rattle.text_in.specs.Numbers.{capped}
use Rattle.text_in.specs.Numbers.{digits_number, unsigned_of}
use Rattle.rv_asm.specs.Statements.{◌>>=◌, Spots, or_bad, within, number_in, even, target_in}

-- the number with its size capped
abbrev cut_int : ℤ → ℤ
cut_int (pos n) = pos (capped n)
cut_int (negsuc n) = neg_ℤ (pos (capped (suc n)))

-- ---- one number

small : (n : ℕ) → n < 2 ^ 66 → capped n ≡ n
small n h = grind (arith, nat_tests)

large : (n : ℕ) → 2 ^ 66 ≤ n → 2 ^ 66 ≤ capped n
large n h = grind (arith, nat_tests)

above : (z most : ℤ) → most <ℤ z → int_le z most ≡ false
above z most h = grind (arith, ints)

too_small : (least most z : ℤ) → z <ℤ least → within least most z ≡ Err kinds.OutOfRange
too_small least most z h = rw (and_left (int_le least z) (int_le z most) (above least z h)) refl

too_large : (least most z : ℤ) → most <ℤ z → within least most z ≡ Err kinds.OutOfRange
too_large least most z h = rw (and_right (int_le least z) (int_le z most) (above z most h)) refl

-- a range of 64 bits and a sign does not tell a number from what is left of it
within_cut : (least most z : ℤ) → neg_ℤ (pos (2 ^ 64)) <ℤ least → most <ℤ pos (2 ^ 64) → within least most (cut_int z) ≡ within least most z
within_cut least most (pos n) lo hi =
    elim (cases_lt n (2 ^ 66)) [
      | inl lt ↦ ap (λ (m : ℕ). within least most (pos m)) (small n lt)
      | inr le ↦
          let kept : 2 ^ 66 ≤ capped n = large n le in
          let left : most <ℤ pos (capped n) = omega (arith, ints) in
          let whole : most <ℤ pos n = omega (arith, ints) in
          too_large least most (pos (capped n)) left ∙ sym (too_large least most (pos n) whole)
    ]
within_cut least most (negsuc n) lo hi =
    elim (cases_lt (suc n) (2 ^ 66)) [
      | inl lt ↦ ap (λ (m : ℕ). within least most (neg_ℤ (pos m))) (small (suc n) lt)
      | inr le ↦
          let kept : 2 ^ 66 ≤ capped (suc n) = large (suc n) le in
          let left : neg_ℤ (pos (capped (suc n))) <ℤ least = omega (arith, ints) in
          let whole : negsuc n <ℤ least = omega (arith, ints) in
          too_small least most (neg_ℤ (pos (capped (suc n)))) left ∙ sym (too_small least most (negsuc n) whole)
    ]

-- ---- the number of a word

negative_cut : (n : ℕ) → neg_ℤ (pos (capped n)) ≡ cut_int (neg_ℤ (pos n))
negative_cut zero = refl
negative_cut (suc n) = refl

negative : (read : Option ℕ) → option_map (λ n. neg_ℤ (pos (capped n))) read ≡ option_map cut_int (option_map (λ n. neg_ℤ (pos n)) read)
negative None = refl
negative (Some n) = ap (λ (z : ℤ). Some z) (negative_cut n)

positive : (read : Option ℕ) → option_map (λ n. pos (capped n)) read ≡ option_map cut_int (option_map (λ n. pos n) read)
positive None = refl
positive (Some n) = refl

number_cut : (word : List ℕ) → number_by capped word ≡ option_map cut_int (number_of word)
number_cut word =
    elim (cases_Bool (begins_minus word)) [
      | inl t ↦ rw t (negative (digits_number 10 (drop 1 word)))
      | inr f ↦ rw f (positive (unsigned_of word))
    ]

read_within : (least most n : ℤ) (read : Option ℤ) → neg_ℤ (pos (2 ^ 64)) <ℤ least → most <ℤ pos (2 ^ 64) → Some n ≡ option_map cut_int read → within least most n ≡ (or_bad read >>= within least most)
read_within least most n None lo hi h = absurd cc
read_within least most n (Some z) lo hi h = let same : n ≡ cut_int z = cc in ap (within least most) same ∙ within_cut least most z lo hi

pub number_within : (least most n : ℤ) (word : List ℕ) → neg_ℤ (pos (2 ^ 64)) <ℤ least → most <ℤ pos (2 ^ 64) → number_by capped word ≡ Some n → within least most n ≡ number_in least most word
number_within least most n word lo hi h = read_within least most n (number_of word) lo hi (sym h ∙ number_cut word)

-- an operand that is no label, where its number is below half on either side
pub target_number : (spots : Spots) (half n : ℤ) (words : ℕ) (word : List ℕ) → is_label word ≡ false → half <ℤ pos (2 ^ 64) → number_by capped word ≡ Some n → (within (neg_ℤ half) (half -ℤ pos 1) n >>= even) ≡ target_in spots half words word
target_number spots half n words word other below h =
    let lo : neg_ℤ (pos (2 ^ 64)) <ℤ neg_ℤ half = omega (arith, ints) in
    let hi : (half -ℤ pos 1) <ℤ pos (2 ^ 64) = omega (arith, ints) in
    rw (other, number_within (neg_ℤ half) (half -ℤ pos 1) n word lo hi h) refl
