-- Lines one after the other, and cores one after the other.
use Rattle.std.proofs.Common.{◌≡◌, ℕ, zero, suc, ◌+◌, List, [], ◌∷◌, ◌++◌, map, length, refl, sym, ap, ◌∙◌, append_assoc, append-nil, arith}
use Rattle.std.specs.List.{range_with_len}
use Rattle.std.proofs.lemmas.List.FromFn.{map-range_with_len_more}
use Rattle.mon_types.specs.declared.script.Line.{Line}
use Rattle.workload.specs.Workload.{next_state, line_at, lines_from}

-- so many are made
pub lines_from-length : (count x : ℕ) → length (lines_from count x) ≡ count
unfolding lines_from
lines_from-length zero x = refl
lines_from-length (suc count) x = ap (λ n. suc n) (lines_from-length count (next_state x))

-- those that are made so far and those that are left are all, also when one more is made
pub one_more : (made later all : List Line) (line : Line) (left less x after : ℕ) → made ++ lines_from left x ≡ all → left ≡ suc less → after ≡ next_state x → line ≡ line_at (next_state x) → later ≡ made ++ line ∷ [] → later ++ lines_from less after ≡ all
unfolding lines_from
one_more made later all line left less x after so_far more goes is pushed =
    ap (λ z. z ++ lines_from less after) pushed
    ∙ append_assoc made (line ∷ []) (lines_from less after)
    ∙ ap (λ z. made ++ z ∷ lines_from less after) is
    ∙ ap (λ z. made ++ line_at (next_state x) ∷ lines_from less z) goes
    ∙ ap (λ z. made ++ lines_from z x) (sym more)
    ∙ so_far

-- where none is left all are made
pub none_left : (made all : List Line) (left x : ℕ) → made ++ lines_from left x ≡ all → left ≡ 0 → made ≡ all
unfolding lines_from
none_left made all left x so_far none =
    sym (append-nil made) ∙ ap (λ z. made ++ lines_from z x) (sym none) ∙ so_far

-- the lists of the cores so far, and that of one more
pub one_core_more : {X : Type 0} (f : ℕ → X) (made later : List X) (x : X) (core : ℕ) → made ≡ map f (range_with_len 0 core) → x ≡ f core → later ≡ made ++ x ∷ [] → later ≡ map f (range_with_len 0 (core + 1))
one_core_more f made later x core so_far is pushed =
    pushed
    ∙ ap (λ z. z ++ x ∷ []) so_far
    ∙ ap (λ z. map f (range_with_len 0 core) ++ z ∷ []) is
    ∙ sym (map-range_with_len_more f 0 core core (omega arith))
