-- Operands, which commas part.
use Rattle.std.proofs.Common.{◌≡◌, ℕ, suc, ◌+◌, ◌-◌, ◌<◌, ◌≤◌, Bool, true, false, eqb, get_or, List, [], ◌∷◌, length, map, take, drop, Option, Some, Err, refl, sym, ap, ◌∙◌, arith, inl, inr}
use Rattle.std.specs.List.{position_or_len, before_first, slice_split, onto_first}
use Rattle.std.proofs.lemmas.Bool.{cases_Bool, and_right, eq-eqb, ne_eqb}
use Rattle.std.proofs.lemmas.List.{length-drop, drop-drop, take_rest}
use Rattle.std.proofs.lemmas.List.Splits.{slice_split-cons_yes, slice_split-cons_no, slice_split_first}
use Rattle.std.specs.Borrow.{Bor}
use Rattle.rv_asm.specs.declared.fault.AsmKind.TheVariants as kinds
use Rattle.rv_asm.specs.Parts.{parts_behind}
use Rattle.rv_asm.specs.Statements.{register_in, ends_close, based_in, none_of, one_of, two_of, three_of}
use Rattle.text_in.specs.Bytes.{is_comma, is_no_space, is_open}
use Rattle.text_in.specs.Cuts.{from_first, trimmed}
use Rattle.rv_asm.specs.Text.{parts_of, operands_of}

unfolded : (text : List ℕ) → parts_of text ≡ map (trimmed is_no_space) (slice_split is_comma text)
unfolding parts_of
unfolded text = refl

-- ---- the first part

comma_comes : (text : List ℕ) → 1 ≤ length (from_first is_comma text) → parts_of text ≡ trimmed is_no_space (before_first is_comma text) ∷ parts_of (drop 1 (from_first is_comma text))
comma_comes text h =
    let within : position_or_len is_comma text < length text = omega (arith, length-drop (position_or_len is_comma text) text) in
    unfolded text ∙ ap (map (trimmed is_no_space)) (slice_split_first is_comma text 0 within)
    ∙ ap (λ (rest : List ℕ). trimmed is_no_space (before_first is_comma text) ∷ map (trimmed is_no_space) (slice_split is_comma rest)) (sym (drop-drop 1 (position_or_len is_comma text) text))
    ∙ ap (λ (parts : List (List ℕ)). trimmed is_no_space (before_first is_comma text) ∷ parts) (sym (unfolded (drop 1 (from_first is_comma text))))

one_part : (p : ℕ → Bool) (text : List ℕ) → length text ≤ position_or_len p text → slice_split p text ≡ before_first p text ∷ []
one_part p [] h = refl
one_part p (b ∷ bs) h =
    elim (cases_Bool (p b)) [
      | inl t ↦ absurd (omega (arith, rw t at h))
      | inr f ↦
          let g = rw f at h in
          let up : 1 + position_or_len p bs ≡ suc (position_or_len p bs) = omega arith in
          rw (f, up) (ap (onto_first b) (one_part p bs (omega arith)))
    ]

no_comma_comes : (text : List ℕ) → length (from_first is_comma text) < 1 → parts_of text ≡ trimmed is_no_space (before_first is_comma text) ∷ []
no_comma_comes text h =
    let past : length text ≤ position_or_len is_comma text = omega (arith, length-drop (position_or_len is_comma text) text) in
    unfolded text ∙ ap (map (trimmed is_no_space)) (one_part is_comma text past)

-- the part before a comma, and what stands behind it
pub first_part : (text before from part : List ℕ) → before ≡ before_first is_comma text → from ≡ from_first is_comma text → part ≡ trimmed is_no_space before → 1 ≤ length from
    → parts_of text ≡ part ∷ parts_of (take (length from - 1) (drop 1 from))
first_part text before from part b f p h = rw (p, b, take_rest, f) (comma_comes text (rw f at h))

pub first_part_alone : (text before from part : List ℕ) → before ≡ before_first is_comma text → from ≡ from_first is_comma text → part ≡ trimmed is_no_space before → length from < 1 → parts_of text ≡ part ∷ []
first_part_alone text before from part b f p h = rw (p, b) (no_comma_comes text (rw f at h))

-- ---- how many there are

split_some : (p : ℕ → Bool) (text : List ℕ) → (first : List ℕ) × (others : List (List ℕ)) × (slice_split p text ≡ first ∷ others)
split_some p [] = ([], [], refl)
split_some p (b ∷ bs) =
    let more = split_some p bs in
    elim (cases_Bool (p b)) [
      | inl t ↦ ([], slice_split p bs, slice_split-cons_yes p b bs t)
      | inr f ↦ (b ∷ more.0, more.1, slice_split-cons_no p b bs f ∙ ap (onto_first b) more.2)
    ]

-- a text has a first part
parts_some : (text : List ℕ) → (first : List ℕ) × (others : List (List ℕ)) × (parts_of text ≡ first ∷ others)
parts_some text =
    let parts = split_some is_comma text in
    (trimmed is_no_space parts.0, map (trimmed is_no_space) parts.1, unfolded text ∙ ap (map (trimmed is_no_space)) parts.2)

some_operands : (text : List ℕ) → eqb (length text) 0 ≡ false → operands_of text ≡ parts_of text
some_operands [] h = absurd cc
some_operands (b ∷ bs) h = refl

behind_some : (text part : List ℕ) (behind : Option (Bor (List ℕ))) (rest : Bor (List ℕ)) → parts_of text ≡ part ∷ parts_behind behind → behind ≡ Some rest → parts_of text ≡ part ∷ parts_of rest.now
behind_some text part behind rest h b = h ∙ ap (λ (o : Option (Bor (List ℕ))). part ∷ parts_behind o) b

pub over_none : (text : List ℕ) → eqb (length text) 0 ≡ false → Err kinds.BadOperand ≡ none_of (operands_of text)
over_none text h = rw (some_operands text h, (parts_some text).2) refl

pub over_one : (text a : List ℕ) (o : Option (Bor (List ℕ))) (r : Bor (List ℕ)) → eqb (length text) 0 ≡ false → parts_of text ≡ a ∷ parts_behind o → o ≡ Some r → Err kinds.BadOperand ≡ one_of (operands_of text)
over_one text a o r h p e = rw (some_operands text h, behind_some text a o r p e, (parts_some r.now).2) refl

pub over_two : (text a b : List ℕ) (o p : Option (Bor (List ℕ))) (r s : Bor (List ℕ)) → eqb (length text) 0 ≡ false → parts_of text ≡ a ∷ parts_behind o → o ≡ Some r → parts_of r.now ≡ b ∷ parts_behind p → p ≡ Some s → Err kinds.BadOperand ≡ two_of (operands_of text)
over_two text a b o p r s h i e j f = rw (some_operands text h, behind_some text a o r i e, behind_some r.now b p s j f, (parts_some s.now).2) refl

pub over_three : (text a b c : List ℕ) (o p q : Option (Bor (List ℕ))) (r s t : Bor (List ℕ)) → eqb (length text) 0 ≡ false → parts_of text ≡ a ∷ parts_behind o → o ≡ Some r → parts_of r.now ≡ b ∷ parts_behind p → p ≡ Some s → parts_of s.now ≡ c ∷ parts_behind q → q ≡ Some t
    → Err kinds.BadOperand ≡ three_of (operands_of text)
over_three text a b c o p q r s t h i e j f k g =
    rw (some_operands text h, behind_some text a o r i e, behind_some r.now b p s j f, behind_some s.now c q t k g, (parts_some t.now).2) refl

-- ---- a register between parentheses

ends_close_at : (bs : List ℕ) → 0 < length bs → ends_close bs ≡ eqb (get_or bs (length bs - 1) 0) 41
ends_close_at [] lt = absurd (omega arith)
ends_close_at (b ∷ []) lt = refl
ends_close_at (b ∷ c ∷ bs) lt =
    let there : length (b ∷ c ∷ bs) - 1 ≡ suc (length (c ∷ bs) - 1) = omega arith in
    ends_close_at (c ∷ bs) (omega arith) ∙ sym (ap (λ (n : ℕ). eqb (get_or (b ∷ c ∷ bs) n 0) 41) there)

-- the last byte of a text is that of what stands behind its first
last_behind : (b : ℕ) (bs : List ℕ) → 2 ≤ length (b ∷ bs) → ends_close bs ≡ eqb (get_or (b ∷ bs) (length (b ∷ bs) - 1) 0) 41
last_behind b bs le =
    let there : length (b ∷ bs) - 1 ≡ suc (length bs - 1) = omega arith in
    ends_close_at bs (omega arith) ∙ sym (ap (λ (n : ℕ). eqb (get_or (b ∷ bs) n 0) 41) there)

pub based_there : (word : List ℕ) → 2 ≤ length word → get_or word 0 0 ≡ 40 → get_or word (length word - 1) 0 ≡ 41 → register_in (take (length word - 1 - 1) (drop 1 word)) ≡ based_in word
based_there [] le first last = absurd (omega arith)
based_there (b ∷ bs) le first last =
    let closes : ends_close bs ≡ true = last_behind b bs le ∙ eq-eqb _ _ last in
    let opens : is_open b ≡ true = eq-eqb b 40 first in
    let count : length (b ∷ bs) - 1 - 1 ≡ length bs - 1 = omega arith in
    rw (opens, closes) (ap (λ (n : ℕ). register_in (take n bs)) count)

pub no_close : (word : List ℕ) → 2 ≤ length word → (get_or word (length word - 1) 0 ≡ 41 → ⊥) → Err kinds.BadOperand ≡ based_in word
no_close [] le last = absurd (omega arith)
no_close (b ∷ bs) le last =
    let closes : ends_close bs ≡ false = last_behind b bs le ∙ ne_eqb _ _ last in
    rw (and_right (is_open b) (ends_close bs) closes) refl
