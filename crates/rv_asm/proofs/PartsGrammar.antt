-- A statement has the name and the operands of the grammar, and no others.
use Rattle.std.proofs.Common.{◌≡◌, ℕ, ◌<◌, ◌⊎◌, true, false, not, List, [], ◌∷◌, ◌++◌, length, map, refl, sym, ap, subst, ◌∙◌, arith, inl, inr}
use Rattle.std.specs.List.{list_all, before_first, slice_split, onto_first}
use Rattle.std.proofs.lemmas.Bool.{cases_Bool, and_parts, and_from, eqb-true, not_from_true, not_from_false, false≢true}
use Rattle.std.proofs.lemmas.Bool.Decides.{nat_tests}
use Rattle.std.proofs.lemmas.List.{append-nil}
use Rattle.text_in.specs.Bytes.{is_blank, is_solid, is_space, is_no_space, is_comma, is_no_comma, begins, ends}
use Rattle.rv_asm.specs.Text.{is_colon, name_word, operands_text, parts_of, operands_of}
use Rattle.text_in.specs.Cuts.{from_first, trimmed}
use Rattle.rv_asm.specs.Grammar.{Label, IsPadded, ArePadded, AreBehind, IsStatement, IsStatementText}
use Rattle.text_in.proofs.Cuts.{all_from, all_both, all_append, none_other, all_other, cut_later, cut_is, cut_joins, cut_found, trimmed_is, is_trimmed, ends_behind, one_part, more_parts}
use Rattle.rv_asm.proofs.NameBytes.{is_plain, statement_is_plain, plain_all}
use Rattle.rv_asm.proofs.BodyGrammar.{behind_begins}

-- ---- one operand

space_no_comma : (b : ℕ) → is_space b ≡ true → is_no_comma b ≡ true
space_no_comma b h = grind (arith, nat_tests)

spaces_no_comma : (spaces : List ℕ) → list_all is_space spaces ≡ true → list_all is_no_comma spaces ≡ true
spaces_no_comma spaces h = all_from is_space is_no_comma spaces space_no_comma h

padded_no_comma : (text operand : List ℕ) → IsPadded text operand → list_all is_no_comma text ≡ true
padded_no_comma text operand h =
    ap (list_all is_no_comma) h.text_is
    ∙ all_append is_no_comma h.before (operand ++ h.after) (spaces_no_comma h.before h.are_before) (all_append is_no_comma operand h.after h.no_comma (spaces_no_comma h.after h.are_after))

padded_is : (text operand : List ℕ) → IsPadded text operand → trimmed is_no_space text ≡ operand
padded_is text operand h = trimmed_is is_no_space text operand (record {
  before = h.before;
  after = h.after;
  none_before = none_other is_space h.before h.are_before;
  none_after = none_other is_space h.after h.are_after;
  begins_it = h.no_first;
  ends_it = h.no_last;
  text_is = h.text_is;
})

padded_found : (text : List ℕ) → list_all is_no_comma text ≡ true → IsPadded text (trimmed is_no_space text)
padded_found text none =
    let t = is_trimmed is_no_space text in
    let middle = trimmed is_no_space text in
    let parts = all_both is_no_comma t.before (middle ++ t.after) (ap (list_all is_no_comma) (sym t.text_is) ∙ none) in
    record {
      before = t.before;
      after = t.after;
      are_before = all_other is_space t.before t.none_before;
      are_after = all_other is_space t.after t.none_after;
      no_comma = (all_both is_no_comma middle t.after parts.1).0;
      no_first = t.begins_it;
      no_last = t.ends_it;
      text_is = t.text_is;
    }

-- ---- operands with commas between them

-- a text with these operands is read so
pub parts_are : (text : List ℕ) (operands : List (List ℕ)) → ArePadded text operands → parts_of text ≡ operands
unfolding parts_of
parts_are text [] h = absurd h
parts_are text (operand ∷ []) h = ap (map (trimmed is_no_space)) (one_part is_comma text (padded_no_comma text operand h)) ∙ ap (λ (x : List ℕ). x ∷ []) (padded_is text operand h)
parts_are text (operand ∷ next ∷ operands) h =
    ap parts_of h.2 ∙ ap (map (trimmed is_no_space)) (more_parts is_comma h.0 44 h.1 (padded_no_comma h.0 operand h.3) refl)
    ∙ ap (λ (x : List ℕ). x ∷ parts_of h.1) (padded_is h.0 operand h.3) ∙ ap (λ (x : List (List ℕ)). operand ∷ x) (parts_are h.1 (next ∷ operands) h.4)

-- the text is these parts, at least one, with commas between them
abbrev AreJoined : List ℕ → List (List ℕ) → Type 0
AreJoined text [] = ⊥
AreJoined text (part ∷ []) = (text ≡ part) × (list_all is_no_comma part ≡ true)
AreJoined text (part ∷ next ∷ parts) = (rest : List ℕ) × (text ≡ part ++ 44 ∷ rest) × (list_all is_no_comma part ≡ true) × AreJoined rest (next ∷ parts)

comma_joins : (b : ℕ) (bs : List ℕ) (parts : List (List ℕ)) → is_comma b ≡ true → AreJoined bs parts → AreJoined (b ∷ bs) ([] ∷ parts)
comma_joins b bs [] t h = absurd h
comma_joins b bs (part ∷ parts) t h = (bs, ap (λ (x : ℕ). x ∷ bs) (eqb-true b 44 t), refl, h)

part_grows : (b : ℕ) (bs : List ℕ) (parts : List (List ℕ)) → is_comma b ≡ false → AreJoined bs parts → AreJoined (b ∷ bs) (onto_first b parts)
part_grows b bs [] f h = absurd h
part_grows b bs (part ∷ []) f h = (ap (λ (x : List ℕ). b ∷ x) h.0, and_from (is_no_comma b) (list_all is_no_comma part) (not_from_false (is_comma b) f) h.1)
part_grows b bs (part ∷ next ∷ parts) f h = (h.0, ap (λ (x : List ℕ). b ∷ x) h.1, and_from (is_no_comma b) (list_all is_no_comma part) (not_from_false (is_comma b) f) h.2, h.3)

joined_found : (text : List ℕ) → AreJoined text (slice_split is_comma text)
joined_found [] = (refl, refl)
joined_found (b ∷ bs) =
    elim (cases_Bool (is_comma b)) [
      | inl t ↦ rw t (comma_joins b bs (slice_split is_comma bs) t (joined_found bs))
      | inr f ↦ rw f (part_grows b bs (slice_split is_comma bs) f (joined_found bs))
    ]

joined_padded : (text : List ℕ) (parts : List (List ℕ)) → AreJoined text parts → ArePadded text (map (trimmed is_no_space) parts)
joined_padded text [] h = absurd h
joined_padded text (part ∷ []) h = subst (λ (x : List ℕ). IsPadded x (trimmed is_no_space part)) (sym h.0) (padded_found part h.1)
joined_padded text (part ∷ next ∷ parts) h = (part, h.0, h.1, padded_found part h.2, joined_padded h.0 (next ∷ parts) h.3)

-- a text has the operands that are read
pub parts_found : (text : List ℕ) → ArePadded text (parts_of text)
unfolding parts_of
parts_found text = joined_padded text (slice_split is_comma text) (joined_found text)

-- ---- operands behind blanks

some_parts : (text : List ℕ) → 0 < length text → operands_of text ≡ parts_of text
some_parts [] lt = absurd (omega arith)
some_parts (b ∷ bs) lt = refl

blanks_end : (b : ℕ) (bs : List ℕ) → list_all is_blank (b ∷ bs) ≡ true → ends is_solid (b ∷ bs) ≡ false
blanks_end b [] h = not_from_true (is_blank b) (and_parts (is_blank b) true h).0
blanks_end b (c ∷ cs) h = blanks_end c cs (and_parts (is_blank b) (list_all is_blank (c ∷ cs)) h).1

-- what ends with no blank has something behind blanks
some_behind : (blanks rest : List ℕ) → 0 < length blanks → list_all is_blank blanks ≡ true → ends is_solid (blanks ++ rest) ≡ true → 0 < length rest
some_behind [] rest lt h e = absurd (omega arith)
some_behind (b ∷ bs) [] lt h e = absurd (false≢true (sym (blanks_end b bs h) ∙ ap (ends is_solid) (sym (append-nil (b ∷ bs))) ∙ e))
some_behind (b ∷ bs) (c ∷ cs) lt h e = omega arith

behind_are : (text : List ℕ) (operands : List (List ℕ)) → ends is_solid text ≡ true → AreBehind text operands → operands ≡ operands_of (from_first is_solid text)
behind_are text operands e (inl h) = h.1 ∙ ap (λ (x : List ℕ). operands_of (from_first is_solid x)) (sym h.0)
behind_are text operands e (inr h) =
    let some = some_behind h.0 h.1 h.2 h.3 (ap (ends is_solid) (sym h.5) ∙ e) in
    let rest : from_first is_solid text ≡ h.1 = ap (from_first is_solid) h.5 ∙ (cut_is is_solid h.0 h.1 (none_other is_blank h.0 h.3) h.4).1 in
    sym (ap operands_of rest ∙ some_parts h.1 some ∙ parts_are h.1 operands h.6)

behind_found : (text : List ℕ) → begins is_blank text ≡ true → ends is_solid text ≡ true → AreBehind text (operands_of (from_first is_solid text))
behind_found [] b e = inl (refl, refl)
behind_found (c ∷ cs) b e =
    let text = c ∷ cs in
    let cut = cut_found is_solid text in
    let first : before_first is_solid text ≡ c ∷ before_first is_solid cs = (cut_later is_solid c cs (not_from_true (is_blank c) b)).0 in
    let some : 0 < length (before_first is_solid text) = omega (arith, ap length first) in
    let are = all_other is_blank (before_first is_solid text) cut.0 in
    let more = some_behind (before_first is_solid text) (from_first is_solid text) some are (ap (ends is_solid) (sym (cut_joins is_solid text)) ∙ e) in
    inr (
      before_first is_solid text,
      from_first is_solid text,
      some,
      are,
      cut.1,
      cut_joins is_solid text,
      subst (λ (x : List (List ℕ)). ArePadded (from_first is_solid text) x) (sym (some_parts (from_first is_solid text) more)) (parts_found (from_first is_solid text)),
    )

-- ---- name and operands

-- the name and the operands that are read
pub record AreRead (text name : List ℕ) (operands : List (List ℕ)) : Type 0 where
  pub name_is : name ≡ name_word text
  pub operands_are : operands ≡ operands_of (operands_text text)

-- a name and operands are those that are read
pub name_read : (text name rest : List ℕ) (operands : List (List ℕ)) → ends is_solid text ≡ true → list_all is_solid name ≡ true → text ≡ name ++ rest → AreBehind rest operands → AreRead text name operands
name_read text name rest operands e solid t h =
    let cut = cut_is is_blank name rest solid (behind_begins rest operands h) in
    let behind : from_first is_blank text ≡ rest = ap (from_first is_blank) t ∙ cut.1 in
    record {
      name_is = sym (ap name_word t ∙ cut.0);
      operands_are = behind_are rest operands (ends_behind is_solid name rest (ap (ends is_solid) (sym t) ∙ e)) h ∙ ap (λ (x : List ℕ). operands_of (from_first is_solid x)) (sym behind);
    }

-- the operands that are read stand behind the name that is read
pub operands_found : (text : List ℕ) → ends is_solid text ≡ true → AreBehind (from_first is_blank text) (operands_of (operands_text text))
operands_found text e = behind_found (from_first is_blank text) (cut_found is_blank text).1 (ends_behind is_solid (name_word text) (from_first is_blank text) (ap (ends is_solid) (sym (cut_joins is_blank text)) ∙ e))

-- ---- statements

-- a text with a statement is read so
pub statement_read : (labels : List Label) (words : ℕ) (text made : List ℕ) → ends is_solid text ≡ true → IsStatementText labels words text made
    → ((text ≡ []) × (made ≡ [])) ⊎ IsStatement labels words (name_word text) (operands_of (operands_text text)) made
statement_read labels words text made e (inl h) = inl h
statement_read labels words text made e (inr h) =
    let plain = plain_all h.0 (statement_is_plain labels words h.0 h.2 made h.5) in
    let solid = all_from is_plain is_solid h.0 (λ b t. (and_parts (is_solid b) (not (is_colon b)) t).0) plain in
    let read = name_read text h.0 h.1 h.2 e solid h.3 h.4 in
    inr (subst (λ (x : List (List ℕ)). IsStatement labels words (name_word text) x made) read.operands_are (subst (λ (x : List ℕ). IsStatement labels words x h.2 made) read.name_is h.5))

-- a text has the statement whose name and operands are read
pub statement_found : (labels : List Label) (words : ℕ) (text made : List ℕ) → ends is_solid text ≡ true → IsStatement labels words (name_word text) (operands_of (operands_text text)) made → IsStatementText labels words text made
statement_found labels words text made e h = inr (name_word text, from_first is_blank text, operands_of (operands_text text), cut_joins is_blank text, operands_found text e, h)
