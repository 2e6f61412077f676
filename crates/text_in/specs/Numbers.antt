-- Numbers in texts: which word is which number, and how it is read. All of it is this project's own.
use Rattle.std.specs.Prelude.{◌≡◌, ℕ, ◌+◌, ◌-◌, ◌*◌, ◌^◌, ◌%◌, ◌<◌, ◌≤◌, ◌⊎◌, nat_le, nat_lt, Bool, false, ◌==◌, ◌&&◌, if◌then◌else◌, List, [], ◌∷◌, length, drop, Option, Some, None}
use Rattle.std.specs.Option.{option_and_then}

-- ---- which word is which number

-- the byte stands for the digit: 0 to 9, and for 10 to 15 the letters A to F of either case
abbrev pub IsDigit : ℕ → ℕ → Type 0
IsDigit byte digit =
    ((digit < 10) × (byte ≡ 48 + digit)) ⊎ ((10 ≤ digit) × (digit < 16) × ((byte ≡ 55 + digit) ⊎ (byte ≡ 87 + digit)))

-- the bytes are digits of the base, and the number that they make: each digit counts the base to the power of the
-- number of digits behind it
abbrev pub AreDigits : ℕ → List ℕ → ℕ → Type 0
AreDigits base [] n = n ≡ 0
AreDigits base (byte ∷ bytes) n =
    (digit behind : ℕ) × (digit < base) × IsDigit byte digit × AreDigits base bytes behind
    × (n ≡ digit * base ^ length bytes + behind)

-- at least one decimal digit
abbrev pub IsDecimal : List ℕ → ℕ → Type 0
IsDecimal word n = (0 < length word) × AreDigits 10 word n

-- 0x and at least one hexadecimal digit
abbrev pub IsHexadecimal : List ℕ → ℕ → Type 0
IsHexadecimal word n = (digits : List ℕ) × (word ≡ 48 ∷ 120 ∷ digits) × (0 < length digits) × AreDigits 16 digits n

-- the word is the number, of any size and without a sign
abbrev pub IsUnsigned : List ℕ → ℕ → Type 0
IsUnsigned word n = IsDecimal word n ⊎ IsHexadecimal word n

-- ---- the number of a word, read from its start

-- the digit that a byte stands for
abbrev pub digit_of : ℕ → Option ℕ
digit_of byte =
    if nat_le 48 byte && nat_le byte 57 then Some (byte - 48)
    else if nat_le 65 byte && nat_le byte 70 then Some (byte - 55)
    else if nat_le 97 byte && nat_le byte 102 then Some (byte - 87)
    else None

-- the number with one digit more at its end, where that is a digit of the base
abbrev pub with_digit : ℕ → ℕ → ℕ → Option ℕ
with_digit base value digit = if nat_lt digit base then Some (value * base + digit) else None

-- the same, with the digit that a byte stands for
abbrev pub with_byte : ℕ → ℕ → ℕ → Option ℕ
with_byte base value byte = option_and_then (with_digit base value) (digit_of byte)

-- the number with the digits that these bytes stand for at its end
unfoldable pub with_bytes : ℕ → ℕ → List ℕ → Option ℕ
with_bytes base value [] = Some value
with_bytes base value (byte ∷ bytes) = option_and_then (λ more. with_bytes base more bytes) (with_byte base value byte)

-- the number that the bytes stand for, at least one digit
abbrev pub digits_number : ℕ → List ℕ → Option ℕ
digits_number base [] = None
digits_number base (byte ∷ bytes) = with_bytes base 0 (byte ∷ bytes)

-- 0x comes next
abbrev pub begins_0x : List ℕ → Bool
begins_0x [] = false
begins_0x (a ∷ []) = false
begins_0x (a ∷ b ∷ bytes) = a == 48 && b == 120

-- the number of a word without a sign, decimal or hexadecimal
abbrev pub unsigned_of : List ℕ → Option ℕ
unsigned_of word = if begins_0x word then digits_number 16 (drop 2 word) else digits_number 10 word

-- a zero comes next, and something behind it
abbrev pub has_leading_zero : List ℕ → Bool
has_leading_zero [] = false
has_leading_zero (a ∷ []) = false
has_leading_zero (a ∷ b ∷ bytes) = a == 48

-- the number of a word that is written as numbers are printed: in decimal digits, without a leading zero
abbrev pub canonical_of : List ℕ → Option ℕ
canonical_of word = if has_leading_zero word then None else digits_number 10 word

-- ---- numbers of a size

-- the number, where it is at most this
abbrev pub up_to : ℕ → Option ℕ → Option ℕ
up_to most read = option_and_then (λ n. if nat_le n most then Some n else None) read

-- a number below 2 ^ 66 as it is, and a larger one as 2 ^ 66 with the same remainder by 4: no text asks more of so
-- large a number, since 2 ^ 66 bytes are more than 2 ^ 64 - 1 words of four bytes
abbrev pub capped : ℕ → ℕ
capped n = if nat_lt n (2 ^ 66) then n else 2 ^ 66 + n % 4
