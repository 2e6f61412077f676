-- Numbers as they are printed, as numbers of the grammar and as bytes that pass a test.
use Rattle.std.proofs.Common.{◌≡◌, ℕ, suc, ◌+◌, ◌*◌, ◌/◌, ◌%◌, ◌^◌, ◌<◌, ◌≤◌, Bool, true, ◌&&◌, List, [], ◌∷◌, ◌++◌, length, ℤ, pos, negsuc, refl, sym, ap, subst, ◌∙◌, arith, inl, inr}
use Rattle.std.specs.Fmt.{decimal, signed_decimal}
use Rattle.std.specs.List.{list_all}
use Rattle.std.proofs.lemmas.Bool.{and_from}
use Rattle.std.proofs.lemmas.Fmt.{decimal_by_steps, decimal_nonempty}
use Rattle.std.proofs.lemmas.List.{length_push}
use Rattle.std.proofs.lemmas.List.Folds.{list_all-append}
use Rattle.std.proofs.Math.Nat.{pow-suc, mul_assoc}
use Rattle.text_in.proofs.Decimals.{PassesDigits, is_decimal, decimal_passes}
use Rattle.rv_asm.specs.Numbers.{IsNumber}

-- ---- which number it is

-- what `decimal` writes is the number
pub decimal_is_number : (n : ℕ) → n < 2 ^ 64 → IsNumber (decimal n) (pos n)
decimal_is_number n lt = (n, inl (refl, inl (is_decimal n lt)))

-- the number is of a size that std's laws of decimal digits speak of
abbrev pub IsSmall : ℤ → Type 0
IsSmall (pos n) = n < 2 ^ 64
IsSmall (negsuc n) = n + 1 < 2 ^ 64

-- what `signed_decimal` writes is the number
pub signed_is_number : (n : ℤ) → IsSmall n → IsNumber (signed_decimal n) n
signed_is_number (pos n) lt = decimal_is_number n lt
signed_is_number (negsuc n) lt = (suc n, inr (refl, (decimal (suc n), refl, is_decimal (suc n) (omega arith))))

pub signed_nonempty : (n : ℤ) → IsSmall n → 0 < length (signed_decimal n)
signed_nonempty (pos n) lt = decimal_nonempty n lt
signed_nonempty (negsuc n) lt = omega arith

-- ---- which bytes they are

-- the bytes of a number with a sign
pub signed_passes : (test : ℕ → Bool) → PassesDigits test → test 45 ≡ true → (n : ℤ) → IsSmall n → list_all test (signed_decimal n) ≡ true
signed_passes test digits minus (pos n) lt = decimal_passes test digits n lt
signed_passes test digits minus (negsuc n) lt = and_from (test 45) (list_all test (decimal (suc n))) minus (decimal_passes test digits (suc n) (omega arith))
