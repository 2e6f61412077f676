-- The first line of a text, with the line feed that ends it.
use Rattle.std.proofs.Common.{◌≡◌, ℕ, suc, ◌+◌, ◌<◌, ◌≤◌, Bool, true, false, cond, List, [], ◌∷◌, length, take, drop, refl, sym, ap, ◌∙◌, arith, inl, inr}
use Rattle.std.specs.List.{before_first}
use Rattle.std.proofs.lemmas.Bool.{cases_Bool}
use Rattle.std.proofs.lemmas.List.{length-append, nil_from_length}
use Rattle.text_in.specs.Bytes.{is_line_feed}
use Rattle.text_in.specs.Lines.{onto}
use Rattle.text_in.specs.Cuts.{from_first}
use Rattle.text_in.proofs.Cuts.{cut_here, cut_later, cut_joins}
use Rattle.report_lines.specs.Lines.{ended_lines}

pub onto_line : (b : ℕ) (line : List ℕ) (lines : List (List ℕ)) (all : List (List ℕ)) → all ≡ line ∷ lines → onto b all ≡ (b ∷ line) ∷ lines
onto_line b line lines all e = ap (onto b) e

pub feed : (b : ℕ) (bs : List ℕ) → is_line_feed b ≡ true → ended_lines (b ∷ bs) ≡ (b ∷ []) ∷ ended_lines bs
unfolding ended_lines
feed b bs h = ap (λ (t : Bool). cond t ((b ∷ []) ∷ ended_lines bs) (onto b (ended_lines bs))) h

pub in_line : (b : ℕ) (bs : List ℕ) → is_line_feed b ≡ false → ended_lines (b ∷ bs) ≡ onto b (ended_lines bs)
unfolding ended_lines
in_line b bs h = ap (λ (t : Bool). cond t ((b ∷ []) ∷ ended_lines bs) (onto b (ended_lines bs))) h

pub no_lines : ended_lines [] ≡ []
unfolding ended_lines
no_lines = refl

-- a byte before a text that is one line, or empty
one_line : (b : ℕ) (bs : List ℕ) → (0 < length bs → ended_lines bs ≡ bs ∷ []) → onto b (ended_lines bs) ≡ (b ∷ bs) ∷ []
one_line b [] h = ap (onto b) no_lines
one_line b (c ∷ cs) h = onto_line b (c ∷ cs) [] (ended_lines (c ∷ cs)) (h (omega arith))

-- a byte before a cut
more : (b : ℕ) (bs : List ℕ) (m n : ℕ) → n ≡ m + 1 → ◌≡◌ {A = List (List ℕ)} ((b ∷ take m bs) ∷ ended_lines (drop m bs)) (take n (b ∷ bs) ∷ ended_lines (drop n (b ∷ bs)))
more b bs m n e =
    let up : n ≡ suc m = omega arith in
    ap (λ (k : ℕ). take k (b ∷ bs) ∷ ended_lines (drop k (b ∷ bs))) (sym up)

-- a text that ends with its first line
pub unended : (text : List ℕ) → 0 < length text → length (from_first is_line_feed text) ≡ 0 → ended_lines text ≡ text ∷ []
unended [] some none = absurd (omega arith)
unended (b ∷ bs) some none =
    elim (cases_Bool (is_line_feed b)) [
      | inl t ↦ absurd (omega (arith, none, ap length (cut_here is_line_feed b bs t).1))
      | inr f ↦ in_line b bs f ∙ one_line b bs (λ some. unended bs some (ap length (sym (cut_later is_line_feed b bs f).1) ∙ none))
    ]

-- a text in which a line feed ends the first line
pub ended : (text : List ℕ) → 0 < length (from_first is_line_feed text)
    → ended_lines text ≡ take (length (before_first is_line_feed text) + 1) text ∷ ended_lines (drop (length (before_first is_line_feed text) + 1) text)
ended [] some = absurd (omega arith)
ended (b ∷ bs) some =
    elim (cases_Bool (is_line_feed b)) [
      | inl t ↦
          let none : length (before_first is_line_feed (b ∷ bs)) ≡ 0 = ap length (cut_here is_line_feed b bs t).0 in
          feed b bs t ∙ ap (λ (n : ℕ). take (n + 1) (b ∷ bs) ∷ ended_lines (drop (n + 1) (b ∷ bs))) (sym none)
      | inr f ↦
          let cut = cut_later is_line_feed b bs f in
          let behind : 0 < length (from_first is_line_feed bs) = omega (arith, some, ap length cut.1) in
          let size : length (before_first is_line_feed (b ∷ bs)) ≡ length (before_first is_line_feed bs) + 1 = omega (arith, ap length cut.0) in
          in_line b bs f
          ∙ onto_line b _ _ (ended_lines bs) (ended bs behind)
          ∙ more b bs (length (before_first is_line_feed bs) + 1) (length (before_first is_line_feed (b ∷ bs)) + 1) (omega arith)
    ]

-- ---- what is found at the start of a text

pub first_unended : (text from : List ℕ) → 0 < length text → from ≡ from_first is_line_feed text → length from ≡ 0 → ended_lines text ≡ text ∷ ended_lines from
first_unended text from some is none =
    let nothing : from ≡ [] = nil_from_length from none in
    unended text some (ap length (sym is) ∙ none) ∙ ap (λ (rest : List (List ℕ)). text ∷ rest) (sym (ap ended_lines nothing ∙ no_lines))

pub first_ended : (text prefix from line rest : List ℕ) → prefix ≡ before_first is_line_feed text → from ≡ from_first is_line_feed text → 0 < length from
    → line ≡ take (length prefix + 1) text → rest ≡ drop (length prefix + 1) text → ended_lines text ≡ line ∷ ended_lines rest
first_ended text prefix from line rest p f some l r =
    ended text (omega (arith, ap length f))
    ∙ ap (λ (n : ℕ). take (n + 1) text ∷ ended_lines (drop (n + 1) text)) (sym (ap length p))
    ∙ sym (ap (λ (x : List ℕ). x ∷ ended_lines rest) l ∙ ap (λ (x : List ℕ). take (length prefix + 1) text ∷ ended_lines x) r)

-- the line and its end are within the text
pub room_for_line : (text prefix from : List ℕ) → prefix ≡ before_first is_line_feed text → from ≡ from_first is_line_feed text → 0 < length from → length prefix + 1 ≤ length text
room_for_line text prefix from p f some =
    omega (arith, ap length (cut_joins is_line_feed text), length-append (before_first is_line_feed text) (from_first is_line_feed text), ap length p, ap length f)
