-- Numbers and registers in assembler text. All of it is this project's own.
use Rattle.std.specs.Prelude.{◌≡◌, ℕ, ◌<◌, ◌⊎◌, Bool, false, ◌==◌, if◌then◌else◌, List, [], ◌∷◌, drop, Option, None, ℤ, pos, neg_ℤ}
use Rattle.std.specs.Option.{option_map}
use Rattle.std.specs.Fmt.{decimal}
use Rattle.text_in.specs.Numbers.{IsDecimal, IsUnsigned, digits_number, unsigned_of, canonical_of, up_to}

-- ---- which word is which number

-- a minus sign and at least one decimal digit, for the number below zero
abbrev pub IsNegative : List ℕ → ℕ → Type 0
IsNegative word n = (digits : List ℕ) × (word ≡ 45 ∷ digits) × IsDecimal digits n

-- the word is the number, of any size
abbrev pub IsNumber : List ℕ → ℤ → Type 0
IsNumber word n =
    (size : ℕ) × (((n ≡ pos size) × IsUnsigned word size) ⊎ ((n ≡ neg_ℤ (pos size)) × IsNegative word size))

-- the word is x and the register's number, from 0 to 31 and without leading zeros
abbrev pub IsRegisterName : List ℕ → ℕ → Type 0
IsRegisterName word r = (r < 32) × (word ≡ 120 ∷ decimal r)

-- ---- the number of a word, read from its start

-- a minus sign comes next
abbrev pub begins_minus : List ℕ → Bool
begins_minus [] = false
begins_minus (a ∷ bytes) = a == 45

-- the number of a word, where it is one, with this function of its size in place of the size
abbrev pub number_by : (ℕ → ℕ) → List ℕ → Option ℤ
number_by f word =
    if begins_minus word then option_map (λ n. neg_ℤ (pos (f n))) (digits_number 10 (drop 1 word))
    else option_map (λ n. pos (f n)) (unsigned_of word)

-- the number of a word, where it is one
abbrev pub number_of : List ℕ → Option ℤ
number_of word = number_by (λ n. n) word

-- the register that a word names, where it names one
unfoldable pub register_of : List ℕ → Option ℕ
register_of [] = None
register_of (x ∷ number) = if x == 120 then up_to 31 (canonical_of number) else None
