-- Digits, read from the front, where of a large number only the remainder by 4 is kept.
use Rattle.std.proofs.Common.{◌≡◌, ℕ, ◌+◌, ◌*◌, ◌<◌, ◌≤◌, ◌⊎◌, eqb, ltb, false, List, [], ◌∷◌, length, drop, get_or, Option, Some, None, refl, sym, ap, ◌∙◌, arith, inl, inr}
use Rattle.std.specs.Option.{option_and_then, option_map}
use Rattle.std.proofs.lemmas.Bool.{cases_Bool}
use Rattle.std.proofs.lemmas.Bool.Decides.{nat_tests}
use Rattle.std.proofs.lemmas.List.{at_drop_more, at_drop_all}
use Rattle.text_in.specs.Numbers.{digit_of, with_digit, with_byte, with_bytes, digits_number, capped}

-- the base is ten or sixteen
abbrev pub IsBase : ℕ → Type 0
IsBase base = (base ≡ 10) ⊎ (base ≡ 16)

pub capped_again : (n : ℕ) → capped (capped n) ≡ capped n
capped_again n = grind (arith, nat_tests)

more_ten : (v w digit : ℕ) → capped v ≡ capped w → capped (v * 10 + digit) ≡ capped (w * 10 + digit)
more_ten v w digit h = grind (arith, nat_tests)

more_sixteen : (v w digit : ℕ) → capped v ≡ capped w → capped (v * 16 + digit) ≡ capped (w * 16 + digit)
more_sixteen v w digit h = grind (arith, nat_tests)

more : (base v w digit : ℕ) → IsBase base → capped v ≡ capped w → capped (v * base + digit) ≡ capped (w * base + digit)
more base v w digit (inl e) h = rw e (more_ten v w digit h)
more base v w digit (inr e) h = rw e (more_sixteen v w digit h)

by_digit : (base v w : ℕ) (bytes : List ℕ) (o : Option ℕ) → ((digit : ℕ) → option_map capped (with_bytes base (v * base + digit) bytes) ≡ option_map capped (with_bytes base (w * base + digit) bytes))
    → option_map capped (option_and_then (λ more. with_bytes base more bytes) (option_and_then (with_digit base v) o)) ≡ option_map capped (option_and_then (λ more. with_bytes base more bytes) (option_and_then (with_digit base w) o))
by_digit base v w bytes None h = refl
by_digit base v w bytes (Some digit) h =
    elim (cases_Bool (ltb digit base)) [
      | inl t ↦ rw t (h digit)
      | inr f ↦ rw f refl
    ]

-- numbers that are capped to the same make the same with the same digits behind them
pub same_digits : (base v w : ℕ) (bytes : List ℕ) → IsBase base → capped v ≡ capped w → option_map capped (with_bytes base v bytes) ≡ option_map capped (with_bytes base w bytes)
unfolding with_bytes
same_digits base v w [] is h = ap (λ (n : ℕ). Some n) h
same_digits base v w (byte ∷ bytes) is h = by_digit base v w bytes (digit_of byte) (λ digit. same_digits base (v * base + digit) (w * base + digit) bytes is (more base v w digit is h))

some_digits : (base : ℕ) (digits : List ℕ) → eqb (length digits) 0 ≡ false → digits_number base digits ≡ with_bytes base 0 digits
some_digits base [] h = absurd cc
some_digits base (b ∷ bs) h = refl

unfolded : (base value byte : ℕ) (bytes : List ℕ) → with_bytes base value (byte ∷ bytes) ≡ option_and_then (λ more. with_bytes base more bytes) (with_byte base value byte)
unfolding with_bytes
unfolded base value byte bytes = refl

-- the next byte of the digits
byte_at : (base value : ℕ) (digits : List ℕ) (i : ℕ) (next : Option ℕ) → i < length digits → with_byte base value (get_or digits i 0) ≡ next → with_bytes base value (drop i digits) ≡ option_and_then (λ more. with_bytes base more (drop (i + 1) digits)) next
byte_at base value digits i next lt h =
    at_drop_more (with_bytes base value) digits i 0 lt ∙ unfolded base value (get_or digits i 0) (drop (i + 1) digits)
    ∙ ap (option_and_then (λ more. with_bytes base more (drop (i + 1) digits))) h

pub byte_read : (base value more down : ℕ) (digits : List ℕ) (i : ℕ) (total : Option ℕ) → IsBase base → i < length digits → with_byte base value (get_or digits i 0) ≡ Some more → down ≡ capped more → option_map capped (with_bytes base value (drop i digits)) ≡ total → option_map capped (with_bytes base down (drop (i + 1) digits)) ≡ total
byte_read base value more down digits i total is lt h d so_far =
    same_digits base down more (drop (i + 1) digits) is (ap capped d ∙ capped_again more) ∙ sym (ap (option_map capped) (byte_at base value digits i (Some more) lt h)) ∙ so_far

pub byte_fails : (base value : ℕ) (digits : List ℕ) (i : ℕ) → eqb (length digits) 0 ≡ false → i < length digits → with_byte base value (get_or digits i 0) ≡ None → option_map capped (with_bytes base value (drop i digits)) ≡ option_map capped (with_bytes base 0 digits) → None ≡ option_map capped (digits_number base digits)
byte_fails base value digits i some lt h so_far =
    sym (ap (option_map capped) (byte_at base value digits i None lt h)) ∙ so_far ∙ sym (ap (option_map capped) (some_digits base digits some))

none_more : (base value : ℕ) → with_bytes base value [] ≡ Some value
unfolding with_bytes
none_more base value = refl

pub all_digits_read : (base value : ℕ) (digits : List ℕ) (i : ℕ) → eqb (length digits) 0 ≡ false → length digits ≤ i → value ≡ capped value → option_map capped (with_bytes base value (drop i digits)) ≡ option_map capped (with_bytes base 0 digits) → Some value ≡ option_map capped (digits_number base digits)
all_digits_read base value digits i some le down so_far =
    ap (λ (n : ℕ). Some n) down ∙ sym (ap (option_map capped) (none_more base value)) ∙ sym (ap (option_map capped) (at_drop_all (with_bytes base value) digits i le)) ∙ so_far
    ∙ sym (ap (option_map capped) (some_digits base digits some))
