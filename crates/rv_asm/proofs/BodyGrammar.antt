-- A line has the label and the text of a statement of the grammar, and no others.
use Rattle.std.proofs.Common.{◌≡◌, ℕ, ◌<◌, Bool, true, false, not, ◌&&◌, List, [], ◌∷◌, ◌++◌, length, drop, Option, Some, None, refl, sym, ap, subst, ◌∙◌, arith, inl, inr, append_assoc}
use Rattle.std.specs.List.{list_all, before_first}
use Rattle.std.specs.Option.{is_none}
use Rattle.std.specs.Char.{is_ascii}
use Rattle.std.proofs.lemmas.Bool.{cases_Bool, and_parts, and_from, and_right, not-true, eqb-true, eq-eqb, cond-true, cond-false, false≢true}
use Rattle.std.proofs.lemmas.Bool.Decides.{nat_tests}
use Rattle.rv_asm.specs.Names.{named}
use Rattle.text_in.specs.Bytes.{is_number_sign, is_no_sign, is_blank, is_solid, is_name_start, is_name_byte, ends_name, begins, ends}
use Rattle.rv_asm.specs.Text.{is_colon, body_of, begins_label, is_label, begins_colon, label_bytes, behind_label_bytes, has_label, label_of, statement_text}
use Rattle.text_in.specs.Cuts.{from_first, trimmed}
use Rattle.rv_asm.specs.Grammar.{Label, IsLabel, AreBehind, IsStatementText, IsBody, IsLine}
use Rattle.text_in.specs.Lines.{IsComment}
use Rattle.text_in.proofs.Cuts.{all_from, all_both, all_append, none_other, all_other, cut_here, cut_later, cut_is, cut_joins, cut_found, trimmed_is, is_trimmed, ends_behind}
use Rattle.rv_asm.proofs.NameBytes.{is_plain, is_plain_word, statement_is_plain, plain_all}

-- ---- bytes

blank_no_colon : (b : ℕ) → is_blank b ≡ true → is_colon b ≡ false
blank_no_colon b h = grind (arith, nat_tests)

blank_no_label : (b : ℕ) → is_blank b ≡ true → ends_name b ≡ true
blank_no_label b h = grind (arith, nat_tests)

blank_no_sign : (b : ℕ) → is_blank b ≡ true → is_no_sign b ≡ true
blank_no_sign b h = grind (arith, nat_tests)

first_solid : (b : ℕ) → is_name_start b ≡ true → is_solid b ≡ true
first_solid b h = grind (arith, nat_tests)

-- ---- a text without a label

blanks_begin : (blanks rest : List ℕ) → 0 < length blanks → list_all is_blank blanks ≡ true → begins is_blank (blanks ++ rest) ≡ true
blanks_begin [] rest lt h = absurd (omega arith)
blanks_begin (b ∷ bs) rest lt h = (and_parts (is_blank b) (list_all is_blank bs) h).0

-- a blank comes next, where operands stand behind a name
pub behind_begins : (text : List ℕ) (operands : List (List ℕ)) → AreBehind text operands → begins is_blank text ≡ true
behind_begins text operands (inl h) = ap (begins is_blank) h.0
behind_begins text operands (inr h) = ap (begins is_blank) h.5 ∙ blanks_begin h.0 h.1 h.2 h.3

no_colon_first : (rest : List ℕ) → begins is_blank rest ≡ true → begins_colon (behind_label_bytes rest) ≡ false
no_colon_first [] h = refl
no_colon_first (b ∷ bs) h = ap begins_colon (cut_here ends_name b bs (blank_no_label b h)).1 ∙ blank_no_colon b h

no_colon : (word rest : List ℕ) → list_all is_plain word ≡ true → begins is_blank rest ≡ true → begins_colon (behind_label_bytes (word ++ rest)) ≡ false
no_colon [] rest all h = no_colon_first rest h
no_colon (b ∷ bs) rest all h =
    let p = and_parts (is_plain b) (list_all is_plain bs) all in
    elim (cases_Bool (ends_name b)) [
      | inl t ↦ ap begins_colon (cut_here ends_name b (bs ++ rest) t).1 ∙ not-true (is_colon b) (and_parts (is_solid b) (not (is_colon b)) p.0).1
      | inr f ↦ ap begins_colon (cut_later ends_name b (bs ++ rest) f).1 ∙ no_colon bs rest p.1 h
    ]

no_label : (labels : List Label) (words : ℕ) (text made : List ℕ) → IsStatementText labels words text made → has_label text ≡ false
no_label labels words text made (inl h) = ap has_label h.0
no_label labels words text made (inr h) =
    let plain = plain_all h.0 (statement_is_plain labels words h.0 h.2 made h.5) in
    ap has_label h.3 ∙ and_right (is_label (label_bytes (h.0 ++ h.1))) (begins_colon (behind_label_bytes (h.0 ++ h.1))) (no_colon h.0 h.1 plain (behind_begins h.1 h.2 h.4))

word_begins : (word rest : List ℕ) → is_plain_word word ≡ true → begins is_solid (word ++ rest) ≡ true
word_begins [] rest h = absurd (false≢true h)
word_begins (b ∷ bs) rest h = (and_parts (is_solid b) (not (is_colon b)) (and_parts (is_plain b) (list_all is_plain bs) h).0).0

text_begins : (labels : List Label) (words : ℕ) (text made : List ℕ) → IsStatementText labels words text made → begins is_solid text ≡ true
text_begins labels words text made (inl h) = ap (begins is_solid) h.0
text_begins labels words text made (inr h) = ap (begins is_solid) h.3 ∙ word_begins h.0 h.1 (statement_is_plain labels words h.0 h.2 made h.5)

-- ---- a text with a label

label_parts : (label : List ℕ) → is_label label ≡ true → (begins_label label ≡ true) × (list_all is_name_byte label ≡ true)
label_parts label h = and_parts (begins_label label) (list_all is_name_byte label) (and_parts (begins_label label && list_all is_name_byte label) (is_none (named label)) h).0

label_begins : (label rest : List ℕ) → begins_label label ≡ true → begins is_solid (label ++ rest) ≡ true
label_begins [] rest h = absurd (false≢true h)
label_begins (b ∷ bs) rest h = first_solid b h

label_cut : (label rest : List ℕ) → is_label label ≡ true → (label_bytes (label ++ 58 ∷ rest) ≡ label) × (behind_label_bytes (label ++ 58 ∷ rest) ≡ 58 ∷ rest)
label_cut label rest h = cut_is ends_name label (58 ∷ rest) (none_other is_name_byte label (label_parts label h).1) refl

labelled : (label rest : List ℕ) → is_label label ≡ true → has_label (label ++ 58 ∷ rest) ≡ true
labelled label rest h =
    let cut = label_cut label rest h in
    and_from (is_label (label_bytes (label ++ 58 ∷ rest))) (begins_colon (behind_label_bytes (label ++ 58 ∷ rest))) (ap is_label cut.0 ∙ h) (ap begins_colon cut.1)

label_there : (body : List ℕ) → has_label body ≡ true → label_of body ≡ Some (label_bytes body)
label_there body h = cond-true (has_label body) (Some (label_bytes body)) None h

text_there : (body : List ℕ) → has_label body ≡ true → statement_text body ≡ from_first is_solid (drop 1 (behind_label_bytes body))
text_there body h = cond-true (has_label body) (from_first is_solid (drop 1 (behind_label_bytes body))) body h

label_missing : (body : List ℕ) → has_label body ≡ false → label_of body ≡ None
label_missing body h = cond-false (has_label body) (Some (label_bytes body)) None h

text_alone : (body : List ℕ) → has_label body ≡ false → statement_text body ≡ body
text_alone body h = cond-false (has_label body) (from_first is_solid (drop 1 (behind_label_bytes body))) body h

-- ---- what a line says

-- what is read of a body
record IsRead (labels : List Label) (words : ℕ) (body : List ℕ) (label : Option (List ℕ)) (made : List ℕ) : Type 0 where
  begins_it : begins is_solid body ≡ true
  label_is : label ≡ label_of body
  text_is : IsStatementText labels words (statement_text body) made

body_read : (labels : List Label) (words : ℕ) (body : List ℕ) (label : Option (List ℕ)) (made : List ℕ) → ((word : List ℕ) → IsLabel word → is_label word ≡ true) → IsBody labels words body label made → IsRead labels words body label made
body_read labels words body None made known h =
    let alone = no_label labels words body made h in
    record {
      begins_it = text_begins labels words body made h;
      label_is = sym (label_missing body alone);
      text_is = subst (λ (x : List ℕ). IsStatementText labels words x made) (sym (text_alone body alone)) h;
    }
body_read labels words body (Some label) made known h =
    let l = known label h.2 in
    let cut = label_cut label (h.0 ++ h.1) l in
    let there = ap has_label h.4 ∙ labelled label (h.0 ++ h.1) l in
    let first : label_bytes body ≡ label = ap label_bytes h.4 ∙ cut.0 in
    let behind : behind_label_bytes body ≡ 58 ∷ (h.0 ++ h.1) = ap behind_label_bytes h.4 ∙ cut.1 in
    let rest : statement_text body ≡ h.1 =
    text_there body there ∙ ap (λ (x : List ℕ). from_first is_solid (drop 1 x)) behind
    ∙ (cut_is is_solid h.0 h.1 (none_other is_blank h.0 h.3) (text_begins labels words h.1 made h.5)).1 in
    record {
      begins_it = ap (begins is_solid) h.4 ∙ label_begins label (58 ∷ (h.0 ++ h.1)) (label_parts label l).0;
      label_is = ap (λ (x : List ℕ). Some x) (sym first) ∙ sym (label_there body there);
      text_is = subst (λ (x : List ℕ). IsStatementText labels words x made) (sym rest) h.5;
    }

regrouped : (a b c d : List ℕ) → a ++ (b ++ (c ++ d)) ≡ (a ++ (b ++ c)) ++ d
regrouped a b c d = sym (append_assoc a (b ++ c) d ∙ ap (λ (x : List ℕ). a ++ x) (append_assoc b c d))

comment_begins : (comment : List ℕ) → IsComment comment → begins is_number_sign comment ≡ true
comment_begins [] h = refl
comment_begins (b ∷ bs) h = eq-eqb b 35 h

blanks_no_sign : (blanks : List ℕ) → list_all is_blank blanks ≡ true → list_all is_no_sign blanks ≡ true
blanks_no_sign blanks h = all_from is_blank is_no_sign blanks blank_no_sign h

body_is : (labels : List Label) (words : ℕ) (line : List ℕ) (label : Option (List ℕ)) (made : List ℕ) (h : IsLine labels words line label made) → begins is_solid h.body ≡ true → body_of line ≡ h.body
body_is labels words line label made h begins_it =
    let front = h.before ++ (h.body ++ h.after) in
    let none = all_append is_no_sign h.before (h.body ++ h.after) (blanks_no_sign h.before h.are_before) (all_append is_no_sign h.body h.after h.no_sign (blanks_no_sign h.after h.are_after)) in
    ap body_of (h.line_is ∙ regrouped h.before h.body h.after h.comment)
    ∙ ap (trimmed is_solid) (cut_is is_number_sign front h.comment none (comment_begins h.comment h.is_comment)).0
    ∙ trimmed_is is_solid front h.body (record {
      before = h.before;
      after = h.after;
      none_before = none_other is_blank h.before h.are_before;
      none_after = none_other is_blank h.after h.are_after;
      begins_it = begins_it;
      ends_it = h.no_end;
      text_is = refl;
    })

-- what is read of a line of the grammar
pub record IsReadLine (labels : List Label) (words : ℕ) (line : List ℕ) (label : Option (List ℕ)) (made : List ℕ) : Type 0 where
  pub label_is : label ≡ label_of (body_of line)
  pub ascii : list_all is_ascii line ≡ true
  pub text_is : IsStatementText labels words (statement_text (body_of line)) made

-- a line of the grammar is read as what it is there
pub line_read : (labels : List Label) (words : ℕ) (line : List ℕ) (label : Option (List ℕ)) (made : List ℕ) → ((word : List ℕ) → IsLabel word → is_label word ≡ true) → IsLine labels words line label made → IsReadLine labels words line label made
line_read labels words line label made known h =
    let read = body_read labels words h.body label made known h.is_body in
    let same = body_is labels words line label made h read.begins_it in
    record {
      label_is = read.label_is ∙ sym (ap label_of same);
      ascii = h.ascii;
      text_is = subst (λ (x : List ℕ). IsStatementText labels words (statement_text x) made) (sym same) read.text_is;
    }

-- ---- what is read is in the grammar

colon_next : (text : List ℕ) → begins_colon text ≡ true → text ≡ 58 ∷ drop 1 text
colon_next [] h = absurd (false≢true h)
colon_next (b ∷ bs) h = ap (λ (x : ℕ). x ∷ bs) (eqb-true b 58 h)

labelled_found : (labels : List Label) (words : ℕ) (body made : List ℕ) → ((word : List ℕ) → is_label word ≡ true → IsLabel word) → has_label body ≡ true → IsStatementText labels words (from_first is_solid (drop 1 (behind_label_bytes body))) made
    → IsBody labels words body (Some (label_bytes body)) made
labelled_found labels words body made known t h =
    let p = and_parts (is_label (label_bytes body)) (begins_colon (behind_label_bytes body)) t in
    let behind = drop 1 (behind_label_bytes body) in (
      before_first is_solid behind,
      from_first is_solid behind,
      known (label_bytes body) p.0,
      all_other is_blank (before_first is_solid behind) (cut_found is_solid behind).0,
      cut_joins ends_name body ∙ ap (λ (x : List ℕ). label_bytes body ++ x) (colon_next (behind_label_bytes body) p.1)
          ∙ ap (λ (x : List ℕ). label_bytes body ++ 58 ∷ x) (cut_joins is_solid behind),
      h,
    )

body_found : (labels : List Label) (words : ℕ) (body made : List ℕ) → ((word : List ℕ) → is_label word ≡ true → IsLabel word) → IsStatementText labels words (statement_text body) made → IsBody labels words body (label_of body) made
body_found labels words body made known h =
    elim (cases_Bool (has_label body)) [
      | inl t ↦ subst (λ (x : Option (List ℕ)). IsBody labels words body x made) (sym (label_there body t))
          (labelled_found labels words body made known t (subst (λ (x : List ℕ). IsStatementText labels words x made) (text_there body t) h))
      | inr f ↦ subst (λ (x : Option (List ℕ)). IsBody labels words body x made) (sym (label_missing body f))
          (subst (λ (x : List ℕ). IsStatementText labels words x made) (text_alone body f) h)
    ]

comment_found : (comment : List ℕ) → begins is_number_sign comment ≡ true → IsComment comment
comment_found [] h = tt
comment_found (b ∷ bs) h = eqb-true b 35 h

-- a line with the text of a statement is in the grammar, with the label that is read
pub line_found : (labels : List Label) (words : ℕ) (line made : List ℕ) → ((word : List ℕ) → is_label word ≡ true → IsLabel word) → list_all is_ascii line ≡ true → IsStatementText labels words (statement_text (body_of line)) made
    → IsLine labels words line (label_of (body_of line)) made
line_found labels words line made known ascii h =
    let cut = cut_found is_number_sign line in
    let t = is_trimmed is_solid (before_first is_number_sign line) in
    let none = all_both is_no_sign t.before (body_of line ++ t.after) (ap (list_all is_no_sign) (sym t.text_is) ∙ cut.0) in
    record {
      before = t.before;
      body = body_of line;
      after = t.after;
      comment = from_first is_number_sign line;
      are_before = all_other is_blank t.before t.none_before;
      are_after = all_other is_blank t.after t.none_after;
      is_comment = comment_found (from_first is_number_sign line) cut.1;
      ascii = ascii;
      no_sign = (all_both is_no_sign (body_of line) t.after none.1).0;
      no_end = t.ends_it;
      is_body = body_found labels words (body_of line) made known h;
      line_is = cut_joins is_number_sign line ∙ ap (λ (x : List ℕ). x ++ from_first is_number_sign line) t.text_is ∙ sym (regrouped t.before (body_of line) t.after (from_first is_number_sign line));
    }

-- ---- the text of a statement ends with no blank

ends_from : (p q : ℕ → Bool) (text : List ℕ) → ends p text ≡ true → ends p (from_first q text) ≡ true
ends_from p q text h = ends_behind p (before_first q text) (from_first q text) (ap (ends p) (sym (cut_joins q text)) ∙ h)

ends_later : (p : ℕ → Bool) (text : List ℕ) → ends p text ≡ true → ends p (drop 1 text) ≡ true
ends_later p [] h = refl
ends_later p (b ∷ bs) h = ends_behind p (b ∷ []) bs h

pub text_ends : (line : List ℕ) → ends is_solid (statement_text (body_of line)) ≡ true
text_ends line =
    let body = body_of line in
    let ends_it = (is_trimmed is_solid (before_first is_number_sign line)).ends_it in
    elim (cases_Bool (has_label body)) [
      | inl t ↦ ap (ends is_solid) (text_there body t) ∙ ends_from is_solid is_solid (drop 1 (behind_label_bytes body)) (ends_later is_solid (behind_label_bytes body) (ends_from is_solid ends_name body ends_it))
      | inr f ↦ ap (ends is_solid) (text_alone body f) ∙ ends_it
    ]
