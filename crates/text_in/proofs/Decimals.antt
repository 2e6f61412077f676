-- The decimal digits that a number is printed in: which number they are, and which bytes.
use Rattle.std.proofs.Common.{◌≡◌, ℕ, suc, ◌+◌, ◌*◌, ◌/◌, ◌%◌, ◌^◌, ◌<◌, ◌≤◌, Bool, true, ◌&&◌, List, [], ◌∷◌, ◌++◌, length, refl, sym, ap, subst, ◌∙◌, arith, inl}
use Rattle.std.specs.Fmt.{decimal}
use Rattle.std.specs.List.{list_all}
use Rattle.std.proofs.lemmas.Bool.{and_from}
use Rattle.std.proofs.lemmas.Fmt.{decimal_by_steps, decimal_nonempty}
use Rattle.std.proofs.lemmas.List.{length_push}
use Rattle.std.proofs.lemmas.List.Folds.{list_all-append}
use Rattle.std.proofs.Math.Nat.{pow-suc, mul_assoc}
use Rattle.text_in.specs.Numbers.{AreDigits, IsDecimal}

-- ---- which number the digits are

one_digit : (n : ℕ) → n < 10 → AreDigits 10 ((48 + n) ∷ []) n
one_digit n lt = (n, 0, lt, inl (lt, refl), refl, omega arith)

-- what the digits count with one more behind them
shifted : (digit power more behind m last : ℕ) → more ≡ power * 10 → m ≡ digit * power + behind → m * 10 + last ≡ digit * more + (behind * 10 + last)
shifted digit power more behind m last e h =
    let up : digit * more ≡ digit * power * 10 = ap (λ (x : ℕ). digit * x) e ∙ sym (mul_assoc digit power 10) in
    omega arith

-- one digit more at the end
digit_more : (digits : List ℕ) (m last : ℕ) → last < 10 → AreDigits 10 digits m → AreDigits 10 (digits ++ (48 + last) ∷ []) (m * 10 + last)
digit_more [] m last lt h = (last, 0, lt, inl (lt, refl), refl, omega (arith, h))
digit_more (byte ∷ bytes) m last lt h =
    let one_more : length (bytes ++ (48 + last) ∷ []) ≡ suc (length bytes) = omega (arith, length_push bytes (48 + last)) in
    let power : 10 ^ length (bytes ++ (48 + last) ∷ []) ≡ 10 ^ length bytes * 10 = ap (λ (k : ℕ). 10 ^ k) one_more ∙ pow-suc 10 (length bytes) in
    (h.0, h.1 * 10 + last, h.2, h.3, digit_more bytes h.1 last lt h.4, shifted h.0 (10 ^ length bytes) _ h.1 m last power h.5)

digits_step : (n : ℕ) (digits : List ℕ) → 10 ≤ n → AreDigits 10 digits (n / 10) → AreDigits 10 (digits ++ (48 + n % 10) ∷ []) n
digits_step n digits le h =
    let whole : n / 10 * 10 + n % 10 ≡ n = omega arith in
    subst (λ (m : ℕ). AreDigits 10 (digits ++ (48 + n % 10) ∷ []) m) whole (digit_more digits (n / 10) (n % 10) (omega arith) h)

-- what `decimal` writes is the number
pub is_decimal : (n : ℕ) → n < 2 ^ 64 → IsDecimal (decimal n) n
is_decimal n lt = (decimal_nonempty n lt, decimal_by_steps (λ m digits. AreDigits 10 digits m) one_digit digits_step n lt)

-- ---- which bytes the digits are

-- the test passes each decimal digit
abbrev pub PassesDigits : (ℕ → Bool) → Type 0
PassesDigits test = (digit : ℕ) → digit < 10 → test (48 + digit) ≡ true

-- the bytes of a number without a sign
pub decimal_passes : (test : ℕ → Bool) → PassesDigits test → (n : ℕ) → n < 2 ^ 64 → list_all test (decimal n) ≡ true
decimal_passes test digits n lt =
    decimal_by_steps (λ m bytes. list_all test bytes ≡ true)
    (λ m small. and_from (test (48 + m)) true (digits m small) refl)
    (λ m bytes le h. list_all-append test bytes ((48 + m % 10) ∷ []) ∙ and_from (list_all test bytes) (test (48 + m % 10) && true) h (and_from (test (48 + m % 10)) true (digits (m % 10) (omega arith)) refl))
    n lt
