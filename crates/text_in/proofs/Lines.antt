-- A text has the lines of the grammar, and no others; the first one, and what stands before a comment.
use Rattle.std.proofs.Common.{◌≡◌, ℕ, ◌+◌, ◌-◌, ◌<◌, ◌⊎◌, true, false, ◌&&◌, List, [], ◌∷◌, ◌++◌, length, take, drop, get_or, refl, sym, ap, ◌∙◌, arith, inl, inr, append_assoc}
use Rattle.std.specs.List.{list_all, before_first}
use Rattle.std.proofs.lemmas.Bool.{cases_Bool, and_parts, and_right, not-true, eq-eqb, ne_eqb, eqb-true}
use Rattle.std.proofs.lemmas.List.{take_more, take_all, append-nil, nil_from_length}
use Rattle.text_in.specs.Bytes.{is_line_feed, is_return, is_in_line, is_number_sign, is_no_sign, begins}
use Rattle.text_in.specs.Cuts.{from_first, before_comment}
use Rattle.text_in.specs.Lines.{onto, lines_of, without_return, ends_in_return, IsFirstLine, AreTextLines, IsComment}
use Rattle.text_in.proofs.Places.{NonePass}
use Rattle.text_in.proofs.Cuts.{all_append, all_both, cut_is, cut_joins, cut_found}

-- ---- one line

line_ended : (line rest : List ℕ) → list_all is_in_line line ≡ true → lines_of (line ++ 10 ∷ rest) ≡ without_return line ∷ lines_of rest
unfolding lines_of
line_ended [] rest h = refl
line_ended (b ∷ []) rest h =
    let p = and_parts (is_in_line b) true h in
    elim (cases_Bool (is_return b)) [
      | inl t ↦ rw (not-true (is_line_feed b) p.0, t) refl
      | inr f ↦ rw (not-true (is_line_feed b) p.0, f) refl
    ]
line_ended (b ∷ c ∷ bs) rest h =
    let p = and_parts (is_in_line b) (list_all is_in_line (c ∷ bs)) h in
    let q = and_parts (is_in_line c) (list_all is_in_line bs) p.1 in
    let go : (is_return b && is_line_feed c) ≡ false = and_right (is_return b) (is_line_feed c) (not-true (is_line_feed c) q.0) in
    rw (not-true (is_line_feed b) p.0, go) (ap (onto b) (line_ended (c ∷ bs) rest p.1))

pub no_lines : lines_of [] ≡ []
unfolding lines_of
no_lines = refl

line_last : (line : List ℕ) → list_all is_in_line line ≡ true → 0 < length line → lines_of line ≡ line ∷ lines_of []
unfolding lines_of
line_last [] h lt = absurd (omega arith)
line_last (b ∷ []) h lt =
    let p = and_parts (is_in_line b) true h in
    let go : (is_return b && false) ≡ false = and_right (is_return b) false refl in
    rw (not-true (is_line_feed b) p.0, go) refl
line_last (b ∷ c ∷ bs) h lt =
    let p = and_parts (is_in_line b) (list_all is_in_line (c ∷ bs)) h in
    let q = and_parts (is_in_line c) (list_all is_in_line bs) p.1 in
    let go : (is_return b && is_line_feed c) ≡ false = and_right (is_return b) (is_line_feed c) (not-true (is_line_feed c) q.0) in
    rw (not-true (is_line_feed b) p.0, go) (ap (onto b) (line_last (c ∷ bs) p.1 (omega arith)))

-- ---- the return before a line feed

return_dropped : (prefix : List ℕ) (b : ℕ) → is_return b ≡ true → without_return (prefix ++ b ∷ []) ≡ prefix
return_dropped [] b h = rw h refl
return_dropped (x ∷ []) b h = rw h refl
return_dropped (x ∷ y ∷ prefix) b h = ap (λ (bs : List ℕ). x ∷ bs) (return_dropped (y ∷ prefix) b h)

return_kept : (prefix : List ℕ) (b : ℕ) → is_return b ≡ false → without_return (prefix ++ b ∷ []) ≡ prefix ++ b ∷ []
return_kept [] b h = rw h refl
return_kept (x ∷ []) b h = rw h refl
return_kept (x ∷ y ∷ prefix) b h = ap (λ (bs : List ℕ). x ∷ bs) (return_kept (y ∷ prefix) b h)

-- the last byte behind the others
with_last : (line : List ℕ) → 0 < length line → take (length line - 1) line ++ get_or line (length line - 1) 0 ∷ [] ≡ line
with_last line lt =
    let last : length line - 1 + 1 ≡ length line = omega arith in
    sym (take_more line (length line - 1) 0 (omega arith)) ∙ ap (λ (n : ℕ). take n line) last ∙ take_all (length line) line (omega arith)

pub return_dropped_at : (line : List ℕ) → 0 < length line → get_or line (length line - 1) 0 ≡ 13 → take (length line - 1) line ≡ without_return line
return_dropped_at line lt h = sym (return_dropped (take (length line - 1) line) _ (eq-eqb _ _ h)) ∙ ap without_return (with_last line lt)

pub return_kept_at : (line : List ℕ) → 0 < length line → (get_or line (length line - 1) 0 ≡ 13 → ⊥) → line ≡ without_return line
return_kept_at line lt h = sym (with_last line lt) ∙ sym (return_kept (take (length line - 1) line) _ (ne_eqb _ _ h)) ∙ ap without_return (with_last line lt)

-- ---- the first line of a text

-- the text is cut at its first line feed
ended_by : (text prefix behind : List ℕ) → NonePass is_line_feed prefix → begins is_line_feed behind ≡ true → text ≡ prefix ++ behind → 0 < length behind → lines_of text ≡ without_return prefix ∷ lines_of (drop 1 behind)
ended_by text prefix [] none feed t some = absurd (omega arith)
ended_by text prefix (c ∷ rest) none feed t some =
    let is : c ≡ 10 = eqb-true c 10 feed in
    ap lines_of (t ∙ ap (λ (x : ℕ). prefix ++ x ∷ rest) is) ∙ line_ended prefix rest none

pub first_ended : (text prefix behind : List ℕ) → prefix ≡ before_first is_line_feed text → behind ≡ from_first is_line_feed text → 0 < length behind → lines_of text ≡ without_return prefix ∷ lines_of (drop 1 behind)
first_ended text prefix behind f b some =
    let found = cut_found is_line_feed text in
    ended_by text prefix behind (rw f found.0) (rw b found.1) (rw (f, b) (cut_joins is_line_feed text)) some

pub first_alone : (text prefix behind : List ℕ) → prefix ≡ before_first is_line_feed text → behind ≡ from_first is_line_feed text → length behind ≡ 0 → 0 < length text → lines_of text ≡ prefix ∷ lines_of []
first_alone text prefix behind f b none some =
    let found = cut_found is_line_feed text in
    let there : text ≡ prefix ++ behind = rw (f, b) (cut_joins is_line_feed text) in
    let whole : text ≡ prefix = there ∙ ap (λ (x : List ℕ). prefix ++ x) (nil_from_length behind none) ∙ append-nil prefix in
    let all : list_all is_in_line text ≡ true = ap (list_all is_in_line) whole ∙ rw f found.0 in
    line_last text all some ∙ ap (λ (x : List ℕ). x ∷ lines_of []) whole

-- ---- what is in the grammar

kept : (line : List ℕ) → ends_in_return line ≡ false → without_return line ≡ line
kept [] h = refl
kept (b ∷ []) h = rw h refl
kept (b ∷ c ∷ bs) h = ap (λ (x : List ℕ). b ∷ x) (kept (c ∷ bs) h)

first_line_is : (text line rest : List ℕ) → IsFirstLine text line rest → lines_of text ≡ line ∷ lines_of rest
first_line_is text line rest h = ap lines_of h.text_is ∙ by_end h.end h.is_end
  where
    by_end : (end : List ℕ) → ((end ≡ 10 ∷ []) × (ends_in_return line ≡ false)) ⊎ (end ≡ 13 ∷ 10 ∷ []) → lines_of (line ++ (end ++ rest)) ≡ line ∷ lines_of rest
    by_end end (inl e) = ap (λ (x : List ℕ). lines_of (line ++ (x ++ rest))) e.0 ∙ line_ended line rest h.in_line ∙ ap (λ (x : List ℕ). x ∷ lines_of rest) (kept line e.1)
    by_end end (inr e) =
        ap (λ (x : List ℕ). lines_of (line ++ (x ++ rest))) e ∙ ap lines_of (sym (append_assoc line (13 ∷ []) (10 ∷ rest)))
        ∙ line_ended (line ++ 13 ∷ []) rest (all_append is_in_line line (13 ∷ []) h.in_line refl) ∙ ap (λ (x : List ℕ). x ∷ lines_of rest) (return_dropped line 13 refl)

-- a text with these lines is read so
pub text_lines_are : (text : List ℕ) (lines : List (List ℕ)) → AreTextLines text lines → lines_of text ≡ lines
text_lines_are text [] h = ap lines_of h ∙ no_lines
text_lines_are text (line ∷ lines) h =
    elim h [
      | inl f ↦ first_line_is text line f.0 f.1 ∙ ap (λ (x : List (List ℕ)). line ∷ x) (text_lines_are f.0 lines f.2)
      | inr l ↦ ap lines_of l.text_is ∙ line_last line l.in_line l.some ∙ ap (λ (x : List (List ℕ)). line ∷ x) (no_lines ∙ sym l.last)
    ]

-- ---- what is read

return_there : (line : List ℕ) → ends_in_return line ≡ true → line ≡ without_return line ++ 13 ∷ []
return_there [] h = absurd cc
return_there (b ∷ []) h = let is : b ≡ 13 = eqb-true b 13 h in rw h (ap (λ (x : ℕ). x ∷ []) is)
return_there (b ∷ c ∷ bs) h = ap (λ (x : List ℕ). b ∷ x) (return_there (c ∷ bs) h)

-- a line that a line feed ends
ended_line : (text line prefix rest : List ℕ) → list_all is_in_line prefix ≡ true → text ≡ prefix ++ 10 ∷ rest → without_return prefix ≡ line → IsFirstLine text line rest
ended_line text line prefix rest all e w =
    elim (cases_Bool (ends_in_return prefix)) [
      | inl t ↦
          let there : prefix ≡ line ++ 13 ∷ [] = return_there prefix t ∙ ap (λ (x : List ℕ). x ++ 13 ∷ []) w in
          let parts = all_both is_in_line line (13 ∷ []) (ap (list_all is_in_line) (sym there) ∙ all) in
          record {
            end = 13 ∷ 10 ∷ [];
            in_line = parts.0;
            is_end = inr refl;
            text_is = e ∙ ap (λ (x : List ℕ). x ++ 10 ∷ rest) there ∙ append_assoc line (13 ∷ []) (10 ∷ rest);
          }
      | inr f ↦
          let same : prefix ≡ line = sym (kept prefix f) ∙ w in
          record {
            end = 10 ∷ [];
            in_line = ap (list_all is_in_line) (sym same) ∙ all;
            is_end = inl (refl, ap ends_in_return (sym same) ∙ f);
            text_is = e ∙ ap (λ (x : List ℕ). x ++ 10 ∷ rest) same;
          }
    ]

-- the first line, by where the text is cut at its first line feed
by_cut : (text line prefix behind : List ℕ) (lines : List (List ℕ)) → ((rest : List ℕ) → lines_of rest ≡ lines → AreTextLines rest lines) → NonePass is_line_feed prefix → begins is_line_feed behind ≡ true → text ≡ prefix ++ behind → lines_of text ≡ line ∷ lines → AreTextLines text (line ∷ lines)
by_cut text line [] [] lines go none feed t e = let no : [] ≡ line ∷ lines = sym no_lines ∙ ap lines_of (sym t) ∙ e in absurd cc
by_cut text line (b ∷ bs) [] lines go none feed t e =
    let whole : text ≡ b ∷ bs = t ∙ append-nil (b ∷ bs) in
    let both : (b ∷ bs) ∷ [] ≡ line ∷ lines = ap (λ (x : List (List ℕ)). (b ∷ bs) ∷ x) (sym no_lines) ∙ sym (line_last (b ∷ bs) none (omega arith)) ∙ ap lines_of (sym whole) ∙ e in
    let is : b ∷ bs ≡ line = cc in
    let end : [] ≡ lines = cc in
    inr (record { in_line = ap (list_all is_in_line) (sym is) ∙ none; some = omega (arith, ap length is); text_is = whole ∙ is; last = sym end })
by_cut text line prefix (c ∷ rest) lines go none feed t e =
    let there : text ≡ prefix ++ 10 ∷ rest = t ∙ ap (λ (x : ℕ). prefix ++ x ∷ rest) (eqb-true c 10 feed) in
    let both : without_return prefix ∷ lines_of rest ≡ line ∷ lines = sym (line_ended prefix rest none) ∙ ap lines_of (sym there) ∙ e in
    let w : without_return prefix ≡ line = cc in
    let r : lines_of rest ≡ lines = cc in
    inl (rest, ended_line text line prefix rest none there w, go rest r)

no_text : (text prefix behind : List ℕ) → NonePass is_line_feed prefix → begins is_line_feed behind ≡ true → text ≡ prefix ++ behind → lines_of text ≡ [] → text ≡ []
no_text text [] [] none feed t e = t
no_text text (b ∷ bs) [] none feed t e =
    let some : (b ∷ bs) ∷ lines_of [] ≡ [] = sym (line_last (b ∷ bs) none (omega arith)) ∙ ap lines_of (sym (t ∙ append-nil (b ∷ bs))) ∙ e in
    absurd cc
no_text text prefix (c ∷ rest) none feed t e =
    let there : text ≡ prefix ++ 10 ∷ rest = t ∙ ap (λ (x : ℕ). prefix ++ x ∷ rest) (eqb-true c 10 feed) in
    let some : without_return prefix ∷ lines_of rest ≡ [] = sym (line_ended prefix rest none) ∙ ap lines_of (sym there) ∙ e in
    absurd cc

-- a text has the lines that are read
pub text_lines_found : (text : List ℕ) (lines : List (List ℕ)) → lines_of text ≡ lines → AreTextLines text lines
text_lines_found text [] e =
    let found = cut_found is_line_feed text in
    no_text text (before_first is_line_feed text) (from_first is_line_feed text) found.0 found.1 (cut_joins is_line_feed text) e
text_lines_found text (line ∷ lines) e =
    let found = cut_found is_line_feed text in
    by_cut text line (before_first is_line_feed text) (from_first is_line_feed text) lines (λ rest r. text_lines_found rest lines r) found.0 found.1 (cut_joins is_line_feed text) e

-- ---- comments

begins_sign : (comment : List ℕ) → IsComment comment → begins is_number_sign comment ≡ true
begins_sign [] h = refl
begins_sign (b ∷ bs) h = rw h refl

pub front_is : (prefix comment : List ℕ) → list_all is_no_sign prefix ≡ true → IsComment comment → before_comment (prefix ++ comment) ≡ prefix
front_is prefix comment all h = (cut_is is_number_sign prefix comment all (begins_sign comment h)).0

-- a line is what stands before its comment, and the comment
pub record HasComment (text : List ℕ) : Type 0 where
  pub comment : List ℕ
  pub no_sign : list_all is_no_sign (before_comment text) ≡ true
  pub is_comment : IsComment comment
  pub text_is : text ≡ before_comment text ++ comment

is_comment : (behind : List ℕ) → begins is_number_sign behind ≡ true → IsComment behind
is_comment [] h = tt
is_comment (b ∷ bs) h = eqb-true b 35 h

pub has_comment : (text : List ℕ) → HasComment text
has_comment text =
    let found = cut_found is_number_sign text in
    record {
      comment = from_first is_number_sign text;
      no_sign = found.0;
      is_comment = is_comment (from_first is_number_sign text) found.1;
      text_is = cut_joins is_number_sign text;
    }
