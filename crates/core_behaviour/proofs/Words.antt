-- Words that are the same at each place stay so by the same moves, and a stop leaves them.
use Rattle.std.proofs.Common.{◌≡◌, ℕ, List, ◌∷◌, Option, Some, None, refl, sym, ap, ◌∙◌}
use Rattle.std.specs.Prelude.{if◌then◌else◌}
use Rattle.std.proofs.lemmas.Bool.{eq-eqb, ne_eqb}
use Rattle.mon_types.specs.declared.image.Image.{Image}
use Rattle.hist.specs.declared.event.Why.{Why}
use Rattle.protocol.specs.declared.action.Move.{Move}
use Rattle.protocol.specs.declared.action.Move.TheVariants as moves
use Rattle.protocol.specs.declared.action.Outcome.TheVariants as outcomes
use Rattle.protocol.specs.Places.{Place, Memory, same_place, with_word}
use Rattle.protocol.specs.Moves.{place_of, word_found, outcome_of, leaves, left_at, memory_after_move}
use Rattle.protocol.specs.Views.{Moves, own_lock_word}
use Rattle.protocol.specs.Runs.{Made, moves_with, moves_of, memory_after, outcome_after}
use Rattle.core_behaviour.specs.Runs.{start_words}

-- the words after these moves
abbrev pub words_after : Image → List Made → Memory
words_after image run = memory_after image.config (start_words image) run

-- the same words at each place
abbrev pub AreSame : Memory → Memory → Type 0
AreSame m n = (p : Place) → m p ≡ n p

-- ---- a core's part of a list

pub moves_own : (core : ℕ) (made : Made) (run : List Made) → made.core ≡ core → moves_of core (made ∷ run) ≡ (made.move, made.outcome) ∷ moves_of core run
unfolding moves_of moves_with
moves_own core made run h = rw (eq-eqb made.core core h) refl

pub moves_other : (core : ℕ) (made : Made) (run : List Made) → (made.core ≡ core → ⊥) → moves_of core (made ∷ run) ≡ moves_of core run
unfolding moves_of moves_with
moves_other core made run h = rw (ne_eqb made.core core h) refl

-- ---- the words

found_same : (m n : Memory) (o : Option Place) → AreSame m n → word_found m o ≡ word_found n o
unfolding word_found
found_same m n None same = refl
found_same m n (Some p) same = same p

pub outcome_same : (m n : Memory) (move : Move) → AreSame m n → outcome_of move (word_found m (place_of move)) ≡ outcome_of move (word_found n (place_of move))
outcome_same m n move same = ap (outcome_of move) (found_same m n (place_of move) same)

put_same : (m n : Memory) (o : Option Place) (u v : ℕ) → u ≡ v → AreSame m n → AreSame (left_at m o u) (left_at n o v)
unfolding left_at with_word
put_same m n None u v e same = same
put_same m n (Some p) u v e same = λ q.
    ap (λ (w : ℕ). if same_place p q then w else m q) e ∙ ap (λ (w : ℕ). if same_place p q then v else w) (same q)

move_same : (mine : ℕ) (m n : Memory) (move : Move) → AreSame m n → AreSame (memory_after_move mine m move) (memory_after_move mine n move)
unfolding memory_after_move
move_same mine m n move same = put_same m n (place_of move) (leaves mine move (word_found m (place_of move))) (leaves mine move (word_found n (place_of move))) (ap (leaves mine move) (found_same m n (place_of move) same)) same

unfolded : (image : Image) (made : Made) (run : List Made) → words_after image (made ∷ run) ≡ memory_after_move (own_lock_word made.core (moves_of made.core run)) (words_after image run) made.move
unfolding memory_after
unfolded image made run = refl

-- the same move of a core that has made the same, on the same words
pub step_same : (image : Image) (made : Made) (run slow : List Made) → moves_of made.core run ≡ moves_of made.core slow → AreSame (words_after image run) (words_after image slow) → AreSame (words_after image (made ∷ run)) (words_after image (made ∷ slow))
step_same image made run slow own same = λ p.
    ap (λ (m : Memory). m p) (unfolded image made run)
    ∙ ap (λ (ms : Moves). memory_after_move (own_lock_word made.core ms) (words_after image run) made.move p) own
    ∙ move_same (own_lock_word made.core (moves_of made.core slow)) (words_after image run) (words_after image slow) made.move same p
    ∙ ap (λ (m : Memory). m p) (sym (unfolded image made slow))

left_alone : (mine : ℕ) (m : Memory) (line : ℕ) (why : Why) → memory_after_move mine m (moves.Stop line why) ≡ m
unfolding memory_after_move place_of left_at
left_alone mine m line why = refl

pub stop_leaves : (image : Image) (made : Made) (run : List Made) (line : ℕ) (why : Why) → made.move ≡ moves.Stop line why → AreSame (words_after image (made ∷ run)) (words_after image run)
stop_leaves image made run line why h = λ p.
    ap (λ (m : Memory). m p) (unfolded image made run)
    ∙ ap (λ (move : Move). memory_after_move (own_lock_word made.core (moves_of made.core run)) (words_after image run) move p) h
    ∙ ap (λ (m : Memory). m p) (left_alone (own_lock_word made.core (moves_of made.core run)) (words_after image run) line why)

stop_outcome : (m : Memory) (line : ℕ) (why : Why) → outcome_of (moves.Stop line why) (word_found m (place_of (moves.Stop line why))) ≡ outcomes.Done
unfolding outcome_of
stop_outcome m line why = refl

-- a stop that is given is done
pub stop_done : (image : Image) (made : Made) (run : List Made) (line : ℕ) (why : Why) → made.move ≡ moves.Stop line why → made.outcome ≡ outcome_after image.config (start_words image) run made.move → made.outcome ≡ outcomes.Done
stop_done image made run line why h given = given ∙ ap (λ (move : Move). outcome_of move (word_found (words_after image run) (place_of move))) h ∙ stop_outcome (words_after image run) line why
