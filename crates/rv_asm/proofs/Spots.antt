-- Where labels stand.
use Rattle.std.proofs.Common.{◌≡◌, ℕ, ◌+◌, ◌-◌, ◌*◌, ◌/◌, ◌%◌, ◌≤◌, ◌⊎◌, Bool, true, false, not, ◌&&◌, ◌==◌, cond, ltb, List, [], ◌∷◌, ◌++◌, length, Option, Some, None, Result, Ok, Err, ℤ, pos, refl, sym, ap, ◌∙◌, arith, inl, inr}
use Rattle.std.specs.Prelude.{nat_lt, int_le, unsigned_abs}
use Rattle.std.specs.Option.{option_or, is_some}
use Rattle.std.specs.Map.{lookup, update}
use Rattle.std.specs.Str.{bytes_eq}
use Rattle.std.proofs.lemmas.Bool.{cases_Bool, cases_lt, false_from_ne_true, false≢true}
use Rattle.std.proofs.lemmas.Bool.Decides.{nat_tests}
use Rattle.std.proofs.lemmas.Slice.Eq.{bytes_eq-Decides}
use Rattle.rv_asm.specs.declared.fault.AsmKind.{AsmKind}
use Rattle.rv_asm.specs.declared.label.Spot.{Spot}
use Rattle.rv_asm.specs.declared.name.Name.{Name}
use Rattle.rv_asm.specs.declared.name.Name.TheVariants as names
use Rattle.rv_asm.specs.Numbers.{number_of}
use Rattle.rv_asm.specs.Names.{named}
use Rattle.text_in.specs.Lines.{lines_of}
use Rattle.rv_asm.specs.Text.{body_of, label_of, statement_text, name_word, operands_text, operands_of}
use Rattle.rv_asm.specs.Statements.{Spots, ◌>>=◌, or_bad, one_of, fill_in, fill}
use Rattle.rv_asm.specs.Reading.{filled, size_by, words_in, spotted, labels_from, spot_in}
use Rattle.rv_asm.specs.Parts.{IsKept}

-- ---- one label

none_after : {X : Type 0} (o : Option X) → o ≡ option_or o None
none_after None = refl
none_after (Some x) = refl

at_once : {X : Type 0} (g : List ℕ → Option X) (a b : List ℕ) (x : X) → g a ≡ None → update bytes_eq g a (Some x) b ≡ option_or (g b) (cond (bytes_eq b a) (Some x) None)
at_once g a b x none =
    elim (cases_Bool (bytes_eq a b)) [
      | inl t ↦
          let same : a ≡ b = (bytes_eq-Decides a b).0 t in
          let back : bytes_eq b a ≡ true = (bytes_eq-Decides b a).1 (sym same) in
          let gone : g b ≡ None = sym (ap g same) ∙ none in
          rw (t, back, gone) refl
      | inr f ↦
          let back : bytes_eq b a ≡ false = false_from_ne_true (bytes_eq b a) (λ e. false≢true (sym f ∙ (bytes_eq-Decides a b).1 (sym ((bytes_eq-Decides b a).0 e)))) in
          rw (f, back) (none_after (g b))
    ]

absent : {X : Type 0} (o : Option X) → is_some o ≡ false → o ≡ None
absent None h = refl
absent (Some x) h = absurd (false≢true (sym h))

-- a label that stood nowhere
pub is_kept_new : (old new : Spots) (name : List ℕ) (spot : Spot) → is_some (old name) ≡ false → ((other : List ℕ) → new other ≡ update bytes_eq old name (Some spot) other) → IsKept old new name spot
is_kept_new old new name spot none updates other = updates other ∙ at_once old name other spot (absent (old name) none)

present : {X : Type 0} (o p : Option X) → is_some o ≡ true → o ≡ option_or o p
present None p h = absurd (false≢true h)
present (Some x) p h = refl

-- ---- how many words a statement takes by its name

-- two at most, or so many that there are at most limit
abbrev pub IsBounded : ℕ → ℕ → ℕ → Type 0
IsBounded limit words size = (size ≤ 2) ⊎ (words + size ≤ limit)

within_limit : (limit words place : ℕ) → ltb limit place ≡ false → IsBounded limit words (place - words)
within_limit limit words place h =
    elim (cases_lt words place) [
      | inl t ↦ inr (grind (arith, nat_tests))
      | inr f ↦ inl (omega arith)
    ]

by_place : (limit words : ℕ) (n : ℤ) → IsBounded limit words (filled (fill limit words n))
by_place limit words n =
    elim (cases_Bool (not (int_le (pos (4 * words)) n && unsigned_abs n % 4 == 0))) [
      | inl t ↦ rw t (inl (omega arith))
      | inr f ↦
          rw f (elim (cases_Bool (nat_lt limit (unsigned_abs n / 4))) [
            | inl t ↦ rw t (inl (omega arith))
            | inr g ↦ rw g (within_limit limit words (unsigned_abs n / 4) g)
          ])
    ]

by_number : (limit words : ℕ) (o : Option ℤ) → IsBounded limit words (filled (or_bad o >>= fill limit words))
by_number limit words None = inl (omega arith)
by_number limit words (Some n) = by_place limit words n

by_operand : (limit words : ℕ) (r : Result (List ℕ) AsmKind) → IsBounded limit words (filled (r >>= fill_in limit words))
by_operand limit words (Err kind) = inl (omega arith)
by_operand limit words (Ok word) = by_number limit words (number_of word)

by_name : (limit words : ℕ) (operands : List ℕ) (name : Option Name) → IsBounded limit words (size_by limit words operands name)
by_name limit words operands None = inl (omega arith)
by_name limit words operands (Some names.At) = by_operand limit words (one_of (operands_of operands))
by_name limit words operands (Some name) = inl (omega arith)

pub words_in_bounded : (limit words : ℕ) (statement : List ℕ) → IsBounded limit words (words_in limit words statement)
unfolding words_in
words_in_bounded limit words statement = by_name limit words (operands_text statement) (named (name_word statement))

-- ---- the labels of all lines

lookup_append : {K X : Type 0} (test : K → Bool) (xs ys : List (K × X)) → lookup test (xs ++ ys) ≡ option_or (lookup test xs) (lookup test ys)
lookup_append test [] ys = refl
lookup_append test (x ∷ xs) ys =
    elim (cases_Bool (test x.0)) [
      | inl t ↦ rw t refl
      | inr f ↦ rw f (lookup_append test xs ys)
    ]

or_assoc : {X : Type 0} (o p q : Option X) → option_or (option_or o p) q ≡ option_or o (option_or p q)
or_assoc None p q = refl
or_assoc (Some x) p q = refl

first_line : (limit n words : ℕ) (line : List ℕ) (lines : List (List ℕ)) (name : List ℕ)
    → spot_in (labels_from limit n words (line ∷ lines)) name
    ≡ option_or (spot_in (spotted n words (label_of (body_of line))) name) (spot_in (labels_from limit (n + 1) (words + words_in limit words (statement_text (body_of line))) lines) name)
unfolding labels_from
first_line limit n words line lines name =
    lookup_append (bytes_eq name) (spotted n words (label_of (body_of line))) (labels_from limit (n + 1) (words + words_in limit words (statement_text (body_of line))) lines)

-- the new spots are the old ones, and those of the line where there were none
abbrev pub HasLine : Spots → Spots → ℕ → ℕ → List ℕ → Type 0
HasLine old new n words line = (name : List ℕ) → new name ≡ option_or (old name) (spot_in (spotted n words (label_of (body_of line))) name)

pub line_added : (limit : ℕ) (old new : Spots) (n words size : ℕ) (text line rest : List ℕ) (name : List ℕ) (whole : Option Spot)
    → lines_of text ≡ line ∷ lines_of rest → size ≡ words_in limit words (statement_text (body_of line)) → HasLine old new n words line
    → option_or (old name) (spot_in (labels_from limit n words (lines_of text)) name) ≡ whole
    → option_or (new name) (spot_in (labels_from limit (n + 1) (words + size) (lines_of rest)) name) ≡ whole
line_added limit old new n words size text line rest name whole lines sized has so_far =
    let here : Option Spot = spot_in (spotted n words (label_of (body_of line))) name in
    let behind : Option Spot = spot_in (labels_from limit (n + 1) (words + words_in limit words (statement_text (body_of line))) (lines_of rest)) name in
    rw sized (ap (λ (o : Option Spot). option_or o behind) (has name) ∙ or_assoc (old name) here behind
    ∙ ap (option_or (old name)) (sym (first_line limit n words line (lines_of rest) name))
    ∙ ap (λ (ls : List (List ℕ)). option_or (old name) (spot_in (labels_from limit n words ls) name)) (sym lines) ∙ so_far)

pub has_no_label : (spots : Spots) (n words : ℕ) (line : List ℕ) → label_of (body_of line) ≡ None → HasLine spots spots n words line
has_no_label spots n words line h name = rw h (none_after (spots name))

pub has_label_kept : (old new : Spots) (n words : ℕ) (line label : List ℕ) → label_of (body_of line) ≡ Some label → IsKept old new label (record { line = n; words = words }) → HasLine old new n words line
has_label_kept old new n words line label h kept name = rw h (kept name)

none_behind : (limit n words : ℕ) (name : List ℕ) → spot_in (labels_from limit n words []) name ≡ None
unfolding labels_from
none_behind limit n words name = refl

pub no_lines : lines_of [] ≡ []
unfolding lines_of
no_lines = refl

pub all_added : (limit : ℕ) (spots : Spots) (n words : ℕ) (text : List ℕ) (name : List ℕ) (whole : Option Spot) → length text ≡ 0
    → option_or (spots name) (spot_in (labels_from limit n words (lines_of text)) name) ≡ whole → spots name ≡ whole
all_added limit spots n words [] name whole none so_far =
    none_after (spots name) ∙ ap (option_or (spots name)) (sym (ap (λ (ls : List (List ℕ)). spot_in (labels_from limit n words ls) name) no_lines ∙ none_behind limit n words name)) ∙ so_far
all_added limit spots n words (b ∷ bs) name whole none so_far = absurd (omega arith)
