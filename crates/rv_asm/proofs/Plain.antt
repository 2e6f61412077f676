-- Bytes of printed words: none is a blank, a comma, a number sign or the end of a line.
use Rattle.std.proofs.Common.{◌≡◌, ℕ, ◌<◌, Bool, true, not, ◌&&◌, eqb, leb, List, [], ◌∷◌, ◌++◌, length, refl, sym, ap, ◌∙◌, arith, append-nil}
use Rattle.std.specs.Prelude.{⊤}
use Rattle.std.specs.Char.{is_ascii}
use Rattle.std.specs.List.{list_all}
use Rattle.std.proofs.lemmas.Bool.{and_from, and_parts}
use Rattle.std.proofs.lemmas.Bool.Decides.{nat_tests}
use Rattle.std.proofs.lemmas.List.{length-append}
use Rattle.std.proofs.lemmas.List.Folds.{list_all-append}
use Rattle.text_in.specs.Bytes.{is_in_line, is_no_sign, is_solid, is_no_space, is_no_comma, begins, ends}
use Rattle.rv_asm.specs.Printing.{joined, behind}

-- ---- what a test says of all bytes

-- what each byte that passes one test passes
all_by : (p q : ℕ → Bool) → ((b : ℕ) → p b ≡ true → q b ≡ true) → (bytes : List ℕ) → list_all p bytes ≡ true → list_all q bytes ≡ true
all_by p q imp [] h = refl
all_by p q imp (b ∷ bs) h =
    let parts = and_parts (p b) (list_all p bs) h in
    and_from (q b) (list_all q bs) (imp b parts.0) (all_by p q imp bs parts.1)

-- the bytes of two texts
pub all_joined : (p : ℕ → Bool) (a b : List ℕ) → list_all p a ≡ true → list_all p b ≡ true → list_all p (a ++ b) ≡ true
all_joined p a b h k = list_all-append p a b ∙ and_from (list_all p a) (list_all p b) h k

all_parts : (p : ℕ → Bool) (a b : List ℕ) → list_all p (a ++ b) ≡ true → (list_all p a ≡ true) × (list_all p b ≡ true)
all_parts p a b h = and_parts (list_all p a) (list_all p b) (sym (list_all-append p a b) ∙ h)

-- a byte that all others stand round
pub passes_inside : (p : ℕ → Bool) (front : List ℕ) (b : ℕ) (back : List ℕ) → list_all p (front ++ b ∷ back) ≡ true → p b ≡ true
passes_inside p front b back h = (and_parts (p b) (list_all p back) (all_parts p front (b ∷ back) h).1).0

-- where all bytes pass, the first passes, and the last
pub all_begins : (p : ℕ → Bool) (bytes : List ℕ) → list_all p bytes ≡ true → begins p bytes ≡ true
all_begins p [] h = refl
all_begins p (b ∷ bs) h = (and_parts (p b) (list_all p bs) h).0

pub all_ends : (p : ℕ → Bool) (bytes : List ℕ) → list_all p bytes ≡ true → ends p bytes ≡ true
all_ends p [] h = refl
all_ends p (b ∷ []) h = (and_parts (p b) true h).0
all_ends p (b ∷ c ∷ bs) h = all_ends p (c ∷ bs) (and_parts (p b) (list_all p (c ∷ bs)) h).1

-- a text begins as its front does, and ends as what stands behind
begins_joined : (p : ℕ → Bool) (front text : List ℕ) → 0 < length front → begins p (front ++ text) ≡ begins p front
begins_joined p [] text some = absurd (omega arith)
begins_joined p (b ∷ front) text some = refl

ends_joined : (p : ℕ → Bool) (front text : List ℕ) → 0 < length text → ends p (front ++ text) ≡ ends p text
ends_joined p front [] some = absurd (omega arith)
ends_joined p [] (b ∷ bs) some = refl
ends_joined p (f ∷ []) (b ∷ bs) some = refl
ends_joined p (f ∷ g ∷ front) (b ∷ bs) some = ends_joined p (g ∷ front) (b ∷ bs) some

-- ---- words

-- a byte of a printed word
abbrev pub is_plain : ℕ → Bool
is_plain b = leb 40 b && leb b 122 && not (eqb b 44)

-- a printed word
pub record IsPlain (word : List ℕ) : Type 0 where
  pub some : 0 < length word
  pub plain : list_all is_plain word ≡ true

-- a word with more bytes at its end
pub plain_more : (a b : List ℕ) → IsPlain a → list_all is_plain b ≡ true → IsPlain (a ++ b)
plain_more a b h k = record { some = omega (arith, length-append a b, h.some); plain = all_joined is_plain a b h.plain k }

-- printed words
abbrev pub ArePlain : List (List ℕ) → Type 0
ArePlain [] = ⊤
ArePlain (word ∷ words) = IsPlain word × ArePlain words

-- a byte of a printed text
abbrev pub is_printed : ℕ → Bool
is_printed b = leb 32 b && leb b 122 && not (eqb b 35)

-- ---- what the two tests say of a byte

plain_is_printed : (b : ℕ) → is_plain b ≡ true → is_printed b ≡ true
plain_is_printed b h = grind (arith, nat_tests)

no_comma : (b : ℕ) → is_plain b ≡ true → is_no_comma b ≡ true
no_comma b h = grind (arith, nat_tests)

no_space : (b : ℕ) → is_plain b ≡ true → is_no_space b ≡ true
no_space b h = grind (arith, nat_tests)

solid : (b : ℕ) → is_plain b ≡ true → is_solid b ≡ true
solid b h = grind (arith, nat_tests)

ascii : (b : ℕ) → is_printed b ≡ true → is_ascii b ≡ true
ascii b h = grind (arith, nat_tests)

in_line : (b : ℕ) → is_printed b ≡ true → is_in_line b ≡ true
in_line b h = grind (arith, nat_tests)

no_sign : (b : ℕ) → is_printed b ≡ true → is_no_sign b ≡ true
no_sign b h = grind (arith, nat_tests)

-- ---- the bytes of a text

word_printed : (word : List ℕ) → IsPlain word → list_all is_printed word ≡ true
word_printed word h = all_by is_plain is_printed plain_is_printed word h.plain

joined_printed : (words : List (List ℕ)) → ArePlain words → list_all is_printed (joined words) ≡ true
joined_printed [] h = refl
joined_printed (a ∷ []) h = word_printed a h.0
joined_printed (a ∷ b ∷ more) h = all_joined is_printed a (44 ∷ 32 ∷ joined (b ∷ more)) (word_printed a h.0) (joined_printed (b ∷ more) h.1)

-- a name, and words behind it
pub text_printed : (name : List ℕ) (words : List (List ℕ)) → IsPlain name → ArePlain words → list_all is_printed (name ++ behind words) ≡ true
text_printed name [] h all = all_joined is_printed name [] (word_printed name h) refl
text_printed name (a ∷ more) h all = all_joined is_printed name (32 ∷ joined (a ∷ more)) (word_printed name h) (joined_printed (a ∷ more) all)

-- ---- what words and texts have

-- no comma is in a word, and no space
pub word_has_no_comma : (word : List ℕ) → IsPlain word → list_all is_no_comma word ≡ true
word_has_no_comma word h = all_by is_plain _ no_comma word h.plain

pub word_has_no_space : (word : List ℕ) → IsPlain word → list_all is_no_space word ≡ true
word_has_no_space word h = all_by is_plain _ no_space word h.plain

-- a text is ASCII, ends no line and begins no comment
pub text_is_ascii : (text : List ℕ) → list_all is_printed text ≡ true → list_all is_ascii text ≡ true
text_is_ascii text h = all_by is_printed _ ascii text h

pub text_is_in_line : (text : List ℕ) → list_all is_printed text ≡ true → list_all is_in_line text ≡ true
text_is_in_line text h = all_by is_printed _ in_line text h

pub text_has_no_sign : (text : List ℕ) → list_all is_printed text ≡ true → list_all is_no_sign text ≡ true
text_has_no_sign text h = all_by is_printed _ no_sign text h

word_is_solid : (word : List ℕ) → IsPlain word → list_all is_solid word ≡ true
word_is_solid word h = all_by is_plain _ solid word h.plain

-- no blank stands before words
pub words_begin : (word : List ℕ) (more : List (List ℕ)) → IsPlain word → begins is_solid (joined (word ∷ more)) ≡ true
words_begin word [] h = all_begins is_solid word (word_is_solid word h)
words_begin word (next ∷ more) h = begins_joined is_solid word (44 ∷ 32 ∷ joined (next ∷ more)) h.some ∙ all_begins is_solid word (word_is_solid word h)

words_end : (word : List ℕ) (more : List (List ℕ)) → ArePlain (word ∷ more) → (0 < length (joined (word ∷ more))) × (ends is_solid (joined (word ∷ more)) ≡ true)
words_end word [] h = (h.0.some, all_ends is_solid word (word_is_solid word h.0))
words_end word (next ∷ more) h = (omega (arith, length-append word (44 ∷ 32 ∷ joined (next ∷ more)), h.0.some), ends_joined is_solid word (44 ∷ 32 ∷ joined (next ∷ more)) (omega arith) ∙ ends_joined is_solid (44 ∷ 32 ∷ []) (joined (next ∷ more)) (words_end next more h.1).0 ∙ (words_end next more h.1).1)

-- no blank stands behind a name and its words
pub text_ends : (name : List ℕ) (words : List (List ℕ)) → IsPlain name → ArePlain words → ends is_solid (name ++ behind words) ≡ true
text_ends name [] h all = ap (ends is_solid) (append-nil name) ∙ all_ends is_solid name (word_is_solid name h)
text_ends name (word ∷ more) h all = ends_joined is_solid name (32 ∷ joined (word ∷ more)) (omega arith) ∙ ends_joined is_solid (32 ∷ []) (joined (word ∷ more)) (words_end word more all).0 ∙ (words_end word more all).1
