-- Texts whose words are told: what is printed behind spaces.
use Rattle.std.proofs.Common.{◌≡◌, ℕ, zero, suc, ◌-◌, ◌/◌, ◌%◌, ◌<◌, ◌^◌, Bool, true, List, [], ◌∷◌, ◌++◌, length, take, refl, sym, ap, subst, ◌∙◌, arith, append_assoc}
use Rattle.std.specs.Prelude.{map, slice_index}
use Rattle.std.specs.List.{list_all, AllByRecursion}
use Rattle.std.specs.Fmt.{decimal}
use Rattle.std.proofs.lemmas.Bool.{and_parts, and_from}
use Rattle.std.proofs.lemmas.Bool.Decides.{nat_tests}
use Rattle.std.proofs.lemmas.List.{length-append}
use Rattle.std.proofs.Math.Seq.{take-append_seam}
use Rattle.std.proofs.lemmas.Fmt.{decimal_nonempty}
use Rattle.hex.specs.Hex.{encode_with, lower_digits}
use Rattle.hex.proofs.HexLemmas.{length-encode_with}
use Rattle.text_in.specs.Bytes.{is_blank, is_solid, begins}
use Rattle.text_in.specs.Words.{words_of, AreWords}
use Rattle.text_in.proofs.Words.{words_are}
use Rattle.text_in.proofs.Decimals.{decimal_passes, PassesDigits}
use Rattle.text_out.specs.Texts.{all_spaced, hex_text}
use Rattle.report_lines.specs.Fits.{IsWord}
use Rattle.report_lines.specs.Lines.{without_end}
use Rattle.report_lines.specs.Reading.{words_in}

-- ---- words

-- bytes that are no blanks, at least one
pub record IsSolid (word : List ℕ) : Type 0 where
  pub some : 0 < length word
  pub solid : list_all is_solid word ≡ true

-- what stands behind a word: it begins with a blank where there is any, and has these words
pub record Behind (rest : List ℕ) (words : List (List ℕ)) : Type 0 where
  pub apart : begins is_blank rest ≡ true
  pub are : AreWords rest words

pub nothing : Behind [] []
nothing = record { apart = refl; are = refl }

-- a word after a space
pub spaced_word : (word rest : List ℕ) (words : List (List ℕ)) → IsSolid word → Behind rest words → Behind (32 ∷ (word ++ rest)) (word ∷ words)
spaced_word word rest words w b = record {
  apart = refl;
  are = (rest, record { blanks = 32 ∷ []; are_blank = refl; some = w.some; solid = w.solid; apart = b.apart; text_is = refl }, b.are);
}

-- a word at the start
pub word_first : (word rest : List ℕ) (words : List (List ℕ)) → IsSolid word → Behind rest words → AreWords (word ++ rest) (word ∷ words)
word_first word rest words w b = (rest, record { blanks = []; are_blank = refl; some = w.some; solid = w.solid; apart = b.apart; text_is = refl }, b.are)

-- ---- numbers

solid_digits : PassesDigits is_solid
solid_digits digit lt = grind (arith, nat_tests)

pub solid_number : (n : ℕ) → n < 2 ^ 64 → IsSolid (decimal n)
solid_number n lt = record { some = decimal_nonempty n lt; solid = decimal_passes is_solid solid_digits n lt }

-- a number behind a letter
pub solid_lettered : (letter n : ℕ) → is_solid letter ≡ true → n < 2 ^ 64 → IsSolid (letter ∷ decimal n)
solid_lettered letter n h lt = record { some = omega arith; solid = and_from (is_solid letter) (list_all is_solid (decimal n)) h (decimal_passes is_solid solid_digits n lt) }

pub spaced_numbers : (ns rest : List ℕ) (words : List (List ℕ)) → AllByRecursion IsWord ns → Behind rest words → Behind (all_spaced ns ++ rest) (map decimal ns ++ words)
spaced_numbers [] rest words h b = b
spaced_numbers (n ∷ ns) rest words h b =
    subst (λ (t : List ℕ). Behind (32 ∷ t) (decimal n ∷ (map decimal ns ++ words))) (sym (append_assoc (decimal n) (all_spaced ns) rest))
    (spaced_word (decimal n) (all_spaced ns ++ rest) (map decimal ns ++ words) (solid_number n h.0) (spaced_numbers ns rest words h.1 b))

-- ---- hexadecimal digits

pub digit_passes : (test : ℕ → Bool) (digits : List ℕ) → test 0 ≡ true → list_all test digits ≡ true → (i : ℕ) → test (slice_index digits i) ≡ true
digit_passes test [] zero_passes all i = zero_passes
digit_passes test (d ∷ ds) zero_passes all zero = (and_parts (test d) (list_all test ds) all).0
digit_passes test (d ∷ ds) zero_passes all (suc i) = digit_passes test ds zero_passes (and_parts (test d) (list_all test ds) all).1 i

solid_digit : (i : ℕ) → is_solid (slice_index lower_digits i) ≡ true
solid_digit i = digit_passes is_solid lower_digits refl refl i

solid_encoded : (bytes : List ℕ) → list_all is_solid (encode_with lower_digits bytes) ≡ true
unfolding encode_with
solid_encoded [] = refl
solid_encoded (b ∷ bs) = and_from _ _ (solid_digit (b / 16)) (and_from _ _ (solid_digit (b % 16)) (solid_encoded bs))

pub solid_hex : (bytes : List ℕ) → 0 < length bytes → IsSolid (hex_text bytes)
solid_hex bytes some = record { some = omega (arith, length-encode_with lower_digits bytes); solid = solid_encoded bytes }

-- ---- whole lines

pub end_dropped : (text : List ℕ) (b : ℕ) → without_end (text ++ b ∷ []) ≡ text
end_dropped text b =
    let one_more : length (text ++ b ∷ []) - 1 ≡ length text = omega (arith, length-append text (b ∷ [])) in
    ap (λ (n : ℕ). take n (text ++ b ∷ [])) one_more ∙ take-append_seam text (b ∷ [])

-- a line that is ended, by the words of what stands before its end
pub line_words : (line text : List ℕ) (words : List (List ℕ)) → line ≡ text ++ 10 ∷ [] → AreWords text words → words_in line ≡ words
line_words line text words e are = ap (λ (l : List ℕ). words_of (without_end l)) e ∙ ap words_of (end_dropped text 10) ∙ words_are text words are
