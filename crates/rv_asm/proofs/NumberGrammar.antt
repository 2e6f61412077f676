-- The reading of numbers and registers against their grammar.
use Rattle.std.proofs.Common.{◌≡◌, ℕ, ◌≤◌, ◌<◌, true, false, eqb, List, [], ◌∷◌, drop, Option, Some, None, ℤ, pos, neg_ℤ, cond, refl, ap, arith, inl, inr}
use Rattle.std.specs.Option.{option_map}
use Rattle.std.specs.Fmt.{decimal}
use Rattle.std.proofs.lemmas.Bool.{cases_Bool, eqb-true, ne_eqb}
use Rattle.std.proofs.lemmas.Bool.Decides.{nat_tests}
use Rattle.text_in.specs.Numbers.{IsUnsigned, digits_number, unsigned_of, canonical_of, up_to}
use Rattle.text_in.proofs.Numbers.{whole_read, whole_is, unsigned_read, unsigned_is, canonical_read, canonical_is, up_to_is, up_to_read}
use Rattle.rv_asm.specs.Numbers.{IsNumber, IsRegisterName, begins_minus, number_of, register_of}

-- ---- numbers

no_minus : (word : List ℕ) (n : ℕ) → IsUnsigned word n → begins_minus word ≡ false
no_minus [] n h = refl
no_minus (a ∷ bytes) n (inl (some, (digit, behind, lt, is, are, e))) = ne_eqb a 45 (λ k. absurd (grind arith))
no_minus (a ∷ bytes) n (inr (digits, w, some, are)) = ne_eqb a 45 (λ k. let first : a ≡ 48 = cc in absurd (grind arith))

-- a number is read as it is
pub number_read : (word : List ℕ) (n : ℤ) → IsNumber word n → number_of word ≡ Some n
number_read word n (size, inl (e, h)) = rw (e, no_minus word size h, unsigned_read word size h) refl
number_read word n (size, inr (e, (digits, w, (some, are)))) = rw (e, w, whole_read 10 digits size some are) refl

mapped : (f : ℕ → ℤ) (o : Option ℕ) (n : ℤ) → option_map f o ≡ Some n → (size : ℕ) × (o ≡ Some size) × (n ≡ f size)
mapped f None n h = absurd cc
mapped f (Some size) n h = (size, refl, cc)

negative_is : (word : List ℕ) (n : ℤ) → begins_minus word ≡ true → option_map (λ n. neg_ℤ (pos n)) (digits_number 10 (drop 1 word)) ≡ Some n → IsNumber word n
negative_is [] n b h = absurd cc
negative_is (a ∷ digits) n b h =
    let s = mapped (λ n. neg_ℤ (pos n)) (digits_number 10 digits) n h in
    (s.0, inr (s.2, (digits, ap (λ (x : ℕ). x ∷ digits) (eqb-true a 45 b), whole_is 10 digits s.0 s.1)))

-- a word that is read as a number is that number
pub number_is : (word : List ℕ) (n : ℤ) → number_of word ≡ Some n → IsNumber word n
number_is word n h =
    elim (cases_Bool (begins_minus word)) [
      | inl t ↦ negative_is word n t (rw t at h)
      | inr f ↦ let s = mapped (λ n. pos n) (unsigned_of word) n (rw f at h) in (s.0, inl (s.2, unsigned_is word s.0 s.1))
    ]

-- ---- registers

-- a register's name is read as the register
pub register_read : (word : List ℕ) (r : ℕ) → IsRegisterName word r → register_of word ≡ Some r
unfolding register_of
register_read word r (fits, w) = rw w (up_to_read 31 (canonical_of (decimal r)) r (canonical_read r (omega arith)) (omega arith))

x_first : (x : ℕ) (o : Option ℕ) (r : ℕ) → cond (eqb x 120) o None ≡ Some r → (x ≡ 120) × (o ≡ Some r)
x_first x o r h = grind (arith, nat_tests)

-- a word that is read as a register names it
pub register_is : (word : List ℕ) (r : ℕ) → register_of word ≡ Some r → IsRegisterName word r
unfolding register_of
register_is [] r h = absurd cc
register_is (x ∷ number) r h =
    let p = x_first x (up_to 31 (canonical_of number)) r h in
    let u = up_to_is 31 (canonical_of number) r p.1 in
    (omega (arith, u.1), rw (p.0, canonical_is number r (omega (arith, u.1)) u.0) refl)
