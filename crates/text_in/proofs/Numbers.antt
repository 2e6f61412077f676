-- The reading of numbers against their grammar.
use Rattle.std.proofs.Common.{◌≡◌, ℕ, ◌+◌, ◌*◌, ◌/◌, ◌%◌, ◌^◌, ◌<◌, ◌≤◌, true, false, not, eqb, leb, lit≤, subst, append-nil, List, [], ◌∷◌, ◌++◌, length, drop, Option, Some, None, refl, sym, ap, ◌∙◌, arith, inl, inr, append_assoc}
use Rattle.std.proofs.Math.Nat.{pow-zero, pow-suc, one-le-pow, mul-le-mul_left, mul-one}
use Rattle.std.specs.Prelude.{IfSome}
use Rattle.std.specs.Option.{option_and_then, option_map}
use Rattle.std.specs.Fmt.{decimal}
use Rattle.std.proofs.lemmas.Fmt.{decimal_digit, decimal_step, decimal_by_steps}
use Rattle.std.proofs.lemmas.Bool.{cases_Bool, eqb-true, ne_eqb, not-true, and_right, and_parts, cond-true, lt-ltb, leb-true, le-leb}
use Rattle.std.proofs.lemmas.Bool.Decides.{nat_tests}
use Rattle.text_in.specs.Bytes.{begins}
use Rattle.text_in.specs.Numbers.{IsDigit, AreDigits, IsDecimal, IsHexadecimal, IsUnsigned, digit_of, with_digit, with_byte, with_bytes, digits_number, begins_0x, unsigned_of, has_leading_zero, canonical_of, up_to, capped}
use Rattle.text_in.proofs.Decimals.{is_decimal}

-- ---- digits

-- a digit's byte is read as the digit
pub digit_read : (byte digit : ℕ) → IsDigit byte digit → digit_of byte ≡ Some digit
digit_read byte digit h = grind (arith, nat_tests)

-- what a byte is read as is its digit
pub digit_is : (byte digit : ℕ) → digit_of byte ≡ Some digit → IsDigit byte digit
digit_is byte digit h = grind (arith, nat_tests)

digit_added : (base value digit m : ℕ) → with_digit base value digit ≡ Some m → (digit < base) × (m ≡ value * base + digit)
digit_added base value digit m h = grind (arith, nat_tests)

byte_read : (base value byte digit : ℕ) → digit < base → IsDigit byte digit → with_byte base value byte ≡ Some (value * base + digit)
byte_read base value byte digit lt h = ap (option_and_then (with_digit base value)) (digit_read byte digit h) ∙ cond-true _ _ _ (lt-ltb digit base lt)

byte_by : (base value byte m : ℕ) (o : Option ℕ) → digit_of byte ≡ o → option_and_then (with_digit base value) o ≡ Some m → (digit : ℕ) × (digit < base) × IsDigit byte digit × (m ≡ value * base + digit)
byte_by base value byte m None e h = absurd cc
byte_by base value byte m (Some digit) e h =
    let d = digit_added base value digit m h in
    (digit, d.0, digit_is byte digit e, d.1)

shifted : (value base digit p behind n : ℕ) → n ≡ digit * p + behind → (value * base + digit) * p + behind ≡ value * (p * base) + n
shifted value base digit p behind n h = omega arith

-- digits behind a value are read from the front, to the value shifted and their own number
pub digits_read : (base value : ℕ) (bytes : List ℕ) (n : ℕ) → AreDigits base bytes n → with_bytes base value bytes ≡ Some (value * base ^ length bytes + n)
unfolding with_bytes
digits_read base value [] n h = ap (λ (m : ℕ). Some m) (rw pow-zero (omega arith))
digits_read base value (byte ∷ bytes) n (digit, behind, lt, is, are, e) =
    ap (option_and_then (λ more. with_bytes base more bytes)) (byte_read base value byte digit lt is)
    ∙ digits_read base (value * base + digit) bytes behind are
    ∙ ap (λ (m : ℕ). Some m) (shifted value base digit (base ^ length bytes) behind n e ∙ ap (λ (p : ℕ). value * p + n) (sym (pow-suc base (length bytes))))

abbrev Behind : (base value : ℕ) (bytes : List ℕ) (m : ℕ) → Type 0
Behind base value bytes m = (n : ℕ) × AreDigits base bytes n × (m ≡ value * base ^ length bytes + n)

digits_by : (base value byte m : ℕ) (bytes : List ℕ) (o : Option ℕ) → with_byte base value byte ≡ o → option_and_then (λ more. with_bytes base more bytes) o ≡ Some m → ((next : ℕ) → with_bytes base next bytes ≡ Some m → Behind base next bytes m) → Behind base value (byte ∷ bytes) m
digits_by base value byte m bytes None e h go = absurd cc
digits_by base value byte m bytes (Some next) e h go =
    let d = byte_by base value byte next (digit_of byte) refl e in
    let r = go next h in
    let p = base ^ length bytes in (
      d.0 * p + r.0,
      (d.0, r.0, d.1, d.2, r.1, refl),
      r.2 ∙ ap (λ (v : ℕ). v * p + r.0) d.3 ∙ shifted value base d.0 p r.0 _ refl ∙ ap (λ (q : ℕ). value * q + (d.0 * p + r.0)) (sym (pow-suc base (length bytes))),
    )

-- bytes that are read behind a value are digits
pub digits_are : (base value : ℕ) (bytes : List ℕ) (m : ℕ) → with_bytes base value bytes ≡ Some m → Behind base value bytes m
unfolding with_bytes
digits_are base value [] m h =
    let e : value ≡ m = cc in
    (0, refl, rw pow-zero (omega arith))
digits_are base value (byte ∷ bytes) m h = digits_by base value byte m bytes (with_byte base value byte) refl h (λ next k. digits_are base next bytes m k)

-- ---- numbers

-- digits alone are read as their number
pub whole_read : (base : ℕ) (bytes : List ℕ) (n : ℕ) → 0 < length bytes → AreDigits base bytes n → digits_number base bytes ≡ Some n
whole_read base [] n some h = absurd (omega arith)
whole_read base (byte ∷ bytes) n some h = digits_read base 0 (byte ∷ bytes) n h ∙ ap (λ (m : ℕ). Some m) (omega arith)

-- what is read as a number alone is digits, at least one
pub whole_is : (base : ℕ) (bytes : List ℕ) (n : ℕ) → digits_number base bytes ≡ Some n → (0 < length bytes) × AreDigits base bytes n
whole_is base [] n h = absurd cc
whole_is base (byte ∷ bytes) n h =
    let d = digits_are base 0 (byte ∷ bytes) n h in
    let e : n ≡ d.0 = omega arith in
    (omega arith, rw e d.1)

-- ---- decimal and hexadecimal numbers

no_0x : (word : List ℕ) (n : ℕ) → IsDecimal word n → begins_0x word ≡ false
no_0x [] n h = refl
no_0x (a ∷ []) n h = refl
no_0x (a ∷ b ∷ bytes) n (some, (digit, behind, lt, is, (digit', behind', lt', is', are', e'), e)) = and_right (eqb a 48) (eqb b 120) (ne_eqb b 120 (λ k. absurd (grind arith)))

-- a number without a sign is read as it is
pub unsigned_read : (word : List ℕ) (n : ℕ) → IsUnsigned word n → unsigned_of word ≡ Some n
unsigned_read word n (inl h) = rw (no_0x word n h) (whole_read 10 word n h.0 h.1)
unsigned_read word n (inr (digits, w, some, are)) = rw w (whole_read 16 digits n some are)

hexadecimal_is : (word : List ℕ) (n : ℕ) → begins_0x word ≡ true → digits_number 16 (drop 2 word) ≡ Some n → IsHexadecimal word n
hexadecimal_is [] n b h = absurd cc
hexadecimal_is (a ∷ []) n b h = absurd cc
hexadecimal_is (a ∷ x ∷ digits) n b h =
    let p = and_parts (eqb a 48) (eqb x 120) b in
    let d = whole_is 16 digits n h in
    (digits, rw (eqb-true a 48 p.0, eqb-true x 120 p.1) refl, d.0, d.1)

-- a word that is read as a number without a sign is that number
pub unsigned_is : (word : List ℕ) (n : ℕ) → unsigned_of word ≡ Some n → IsUnsigned word n
unsigned_is word n h =
    elim (cases_Bool (begins_0x word)) [
      | inl t ↦ inr (hexadecimal_is word n t (rw t at h))
      | inr f ↦ inl (whole_is 10 word n (rw f at h))
    ]

-- ---- numbers as they are printed

below_power : (n power behind : ℕ) → 1 ≤ power → n ≤ n * power + behind
below_power n power behind h = omega (arith, mul-le-mul_left n h, mul-one n)

-- more digits make no less
least_read : (value : ℕ) (bytes : List ℕ) (n : ℕ) → with_bytes 10 value bytes ≡ Some n → value ≤ n
least_read value bytes n h =
    let d = digits_are 10 value bytes n h in
    omega (arith, d.2, below_power value (10 ^ length bytes) d.0 (one-le-pow (length bytes) 10 (lit≤ tt)))

-- a number of two digits or more is printed by its last digit behind the others
printed_more : (value byte digit next : ℕ) → 1 ≤ value → next < 2 ^ 64 → digit < 10 → IsDigit byte digit → next ≡ value * 10 + digit → decimal next ≡ decimal value ++ byte ∷ []
printed_more value byte digit next some lt small is e =
    let byte_is : byte ≡ 48 + digit = grind arith in
    let last : next % 10 ≡ digit = omega (arith, e, small) in
    let before : next / 10 ≡ value = omega (arith, e, small) in
    decimal_step next (omega (arith, e)) lt ∙ rw (before, last, byte_is) refl

printed_by : (value byte n : ℕ) (bytes : List ℕ) (o : Option ℕ) → 1 ≤ value → n < 2 ^ 64 → with_byte 10 value byte ≡ o → option_and_then (λ more. with_bytes 10 more bytes) o ≡ Some n
    → ((next : ℕ) → 1 ≤ next → with_bytes 10 next bytes ≡ Some n → decimal next ++ bytes ≡ decimal n) → decimal value ++ byte ∷ bytes ≡ decimal n
printed_by value byte n bytes None some lt e h go = absurd cc
printed_by value byte n bytes (Some next) some lt e h go =
    let d = byte_by 10 value byte next (digit_of byte) refl e in
    let least : next ≤ n = least_read next bytes n h in
    let step : decimal next ≡ decimal value ++ byte ∷ [] = printed_more value byte d.0 next some (omega arith) d.1 d.2 d.3 in
    sym (append_assoc (decimal value) (byte ∷ []) bytes) ∙ ap (λ (x : List ℕ). x ++ bytes) (sym step) ∙ go next (omega (arith, d.3)) h

-- digits that are read behind a number that is not 0 are printed behind it
printed_behind : (value : ℕ) (bytes : List ℕ) (n : ℕ) → 1 ≤ value → n < 2 ^ 64 → with_bytes 10 value bytes ≡ Some n → decimal value ++ bytes ≡ decimal n
unfolding with_bytes
printed_behind value [] n some lt h =
    let e : value ≡ n = cc in
    append-nil (decimal value) ∙ ap decimal e
printed_behind value (byte ∷ bytes) n some lt h = printed_by value byte n bytes (with_byte 10 value byte) some lt refl h (λ next s k. printed_behind next bytes n s lt k)

one_printed : (a n : ℕ) → digits_number 10 (a ∷ []) ≡ Some n → a ∷ [] ≡ decimal n
one_printed a n h =
    let d = whole_is 10 (a ∷ []) n h in
    one_digit d.1
  where
    one_digit : AreDigits 10 (a ∷ []) n → a ∷ [] ≡ decimal n
    one_digit (digit, behind, lt, is, none, e) =
        let same : n ≡ digit = e ∙ rw (pow-zero, none) (omega arith) in
        let byte : a ≡ 48 + n = grind arith in
        ap (λ (x : ℕ). x ∷ []) byte ∙ sym (decimal_digit n (omega arith))

-- the first digit of more than one, which is not 0
first_printed : (a b n : ℕ) (bytes : List ℕ) (o : Option ℕ) → eqb a 48 ≡ false → n < 2 ^ 64 → with_byte 10 0 a ≡ o → option_and_then (λ more. with_bytes 10 more (b ∷ bytes)) o ≡ Some n → a ∷ b ∷ bytes ≡ decimal n
first_printed a b n bytes None other lt e h = absurd cc
first_printed a b n bytes (Some first) other lt e h =
    let d = byte_by 10 0 a first (digit_of a) refl e in
    let no_zero : 1 ≤ first = grind (arith, nat_tests) in
    let byte : a ≡ 48 + first = grind arith in
    ap (λ (x : ℕ). x ∷ b ∷ bytes) byte ∙ ap (λ (x : List ℕ). x ++ b ∷ bytes) (sym (decimal_digit first (omega (arith, d.1, d.3)))) ∙ printed_behind first (b ∷ bytes) n no_zero lt h

more_printed : (a b n : ℕ) (bytes : List ℕ) → eqb a 48 ≡ false → n < 2 ^ 64 → digits_number 10 (a ∷ b ∷ bytes) ≡ Some n → a ∷ b ∷ bytes ≡ decimal n
unfolding with_bytes
more_printed a b n bytes other lt h = first_printed a b n bytes (with_byte 10 0 a) other lt refl h

-- a word that is read as a number without a leading zero is how the number is printed
pub canonical_is : (word : List ℕ) (n : ℕ) → n < 2 ^ 64 → canonical_of word ≡ Some n → word ≡ decimal n
canonical_is [] n lt h = absurd cc
canonical_is (a ∷ []) n lt h = one_printed a n h
canonical_is (a ∷ b ∷ bytes) n lt h =
    elim (cases_Bool (eqb a 48)) [
      | inl t ↦ let k : None ≡ Some n = rw t at h in absurd cc
      | inr f ↦ more_printed a b n bytes f lt (rw f at h)
    ]

-- the bytes are some, and the first one is no zero unless the number is 0, when there is no other
record IsPrinted (n : ℕ) (bytes : List ℕ) : Type 0 where
  some : 0 < length bytes
  first : 1 ≤ n → begins (λ b. not (eqb b 48)) bytes ≡ true
  no_zero : has_leading_zero bytes ≡ false

one_more : (n : ℕ) (bytes : List ℕ) → 10 ≤ n → IsPrinted (n / 10) bytes → IsPrinted n (bytes ++ (48 + n % 10) ∷ [])
one_more n [] le h = absurd (omega (arith, h.some))
one_more n (a ∷ []) le h =
    let first : not (eqb a 48) ≡ true = h.first (omega arith) in
    record { some = omega arith; first = λ some. first; no_zero = not-true (eqb a 48) first }
one_more n (a ∷ b ∷ bytes) le h =
    let first : not (eqb a 48) ≡ true = h.first (omega arith) in
    record { some = omega arith; first = λ some. first; no_zero = not-true (eqb a 48) first }

no_zero_printed : (n : ℕ) → n < 2 ^ 64 → IsPrinted n (decimal n)
no_zero_printed n lt = decimal_by_steps IsPrinted (λ m small. record { some = omega arith; first = λ some. digit_first m some; no_zero = refl }) one_more n lt
  where
    digit_first : (m : ℕ) → 1 ≤ m → not (eqb (48 + m) 48) ≡ true
    digit_first m some = grind (arith, nat_tests)

-- a number that is printed is read so
pub canonical_read : (n : ℕ) → n < 2 ^ 64 → canonical_of (decimal n) ≡ Some n
canonical_read n lt =
    let d = is_decimal n lt in
    rw (no_zero_printed n lt).no_zero (whole_read 10 (decimal n) n d.0 d.1)

-- of a word whose first digit is no zero, or that has one digit alone
pub no_leading_zero : (word : List ℕ) (most : ℕ) → has_leading_zero word ≡ false → up_to most (digits_number 10 word) ≡ up_to most (canonical_of word)
no_leading_zero word most h = rw h refl

-- ---- numbers of a size

pub up_to_is : (most : ℕ) (read : Option ℕ) (n : ℕ) → up_to most read ≡ Some n → (read ≡ Some n) × (n ≤ most)
up_to_is most None n h = absurd cc
up_to_is most (Some m) n h =
    elim (cases_Bool (leb m most)) [
      | inl t ↦ let k : Some m ≡ Some n = rw t at h in let same : m ≡ n = cc in (k, subst (λ (x : ℕ). x ≤ most) same (leb-true m most t))
      | inr f ↦ let k : None ≡ Some n = rw f at h in absurd cc
    ]

pub up_to_read : (most : ℕ) (read : Option ℕ) (n : ℕ) → read ≡ Some n → n ≤ most → up_to most read ≡ Some n
up_to_read most read n e le = rw (e, le-leb n most le) refl

one_capped : (most n : ℕ) → most < 2 ^ 64 → up_to most (Some (capped n)) ≡ up_to most (Some n)
one_capped most n lt = grind (arith, nat_tests)

pub up_to_capped : (most : ℕ) (read : Option ℕ) → most < 2 ^ 64 → up_to most (option_map capped read) ≡ up_to most read
up_to_capped most None lt = refl
up_to_capped most (Some n) lt = one_capped most n lt

-- ---- answers

-- what was read up to a greatest number is what the reading says of it
pub found_by : (P : ℕ → Type 0) (most : ℕ) (read result : Option ℕ) → ((n : ℕ) → n ≤ most → read ≡ Some n → P n) → result ≡ up_to most read → IfSome result P
found_by P most read None law e = tt
found_by P most read (Some n) law e = let p = up_to_is most read n (sym e) in law n p.1 p.0

pub decimal_found : (most : ℕ) (word : List ℕ) (result : Option ℕ) → result ≡ up_to most (digits_number 10 word) → IfSome result (IsDecimal word)
decimal_found most word result e = found_by (IsDecimal word) most (digits_number 10 word) result (λ n le h. whole_is 10 word n h) e

pub decimal_only : (most : ℕ) (word : List ℕ) (result : Option ℕ) → result ≡ up_to most (digits_number 10 word) → (n : ℕ) → n ≤ most → IsDecimal word n → result ≡ Some n
decimal_only most word result e n le h = e ∙ up_to_read most (digits_number 10 word) n (whole_read 10 word n h.0 h.1) le

pub unsigned_found : (most : ℕ) (word : List ℕ) (result : Option ℕ) → result ≡ up_to most (unsigned_of word) → IfSome result (IsUnsigned word)
unsigned_found most word result e = found_by (IsUnsigned word) most (unsigned_of word) result (λ n le h. unsigned_is word n h) e

pub unsigned_only : (most : ℕ) (word : List ℕ) (result : Option ℕ) → result ≡ up_to most (unsigned_of word) → (n : ℕ) → n ≤ most → IsUnsigned word n → result ≡ Some n
unsigned_only most word result e n le h = e ∙ up_to_read most (unsigned_of word) n (unsigned_read word n h) le

pub canonical_found : (most : ℕ) (word : List ℕ) (result : Option ℕ) → most < 2 ^ 64 → result ≡ up_to most (canonical_of word) → IfSome result (λ n. word ≡ decimal n)
canonical_found most word result small e = found_by (λ n. word ≡ decimal n) most (canonical_of word) result (λ n le h. canonical_is word n (omega arith) h) e

pub canonical_only : (most : ℕ) (word : List ℕ) (result : Option ℕ) → most < 2 ^ 64 → result ≡ up_to most (canonical_of word) → (n : ℕ) → n ≤ most → word ≡ decimal n → result ≡ Some n
canonical_only most word result small e n le w = e ∙ up_to_read most (canonical_of word) n (ap canonical_of w ∙ canonical_read n (omega arith)) le
