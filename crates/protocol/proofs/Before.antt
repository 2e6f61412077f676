-- What stands before the call under way, after one more move.
use Rattle.std.proofs.Common.{◌≡◌, Bool, true, false, cond, List, [], ◌∷◌, ap, sym, refl}
use Rattle.protocol.specs.declared.action.Action.{Action}
use Rattle.protocol.specs.declared.action.Move.{Move}
use Rattle.protocol.specs.declared.action.Move.TheVariants as moves
use Rattle.protocol.specs.declared.action.Outcome.{Outcome}
use Rattle.protocol.specs.Views.{Moves, held_by, held_of, held_after, is_last, call_with, call_moves, are_any, is_calling, actions_before, moves_before, before_call}

clash : {X : Type 0} → false ≡ true → X
clash e = absurd (cc)

none : (call : List (Action × Outcome)) → are_any call ≡ false → call ≡ []
unfolding are_any
none [] e = refl
none (a ∷ call) e = clash (sym e)

-- where no call is under way, all do
pub before_none : (ms : Moves) → call_moves ms ≡ [] → before_call ms ≡ ms
unfolding before_call moves_before
before_none [] e = refl
before_none (m ∷ ms) e = ap (λ call. moves_before call (m ∷ ms)) e

-- the newest move of the call is left out, and so is a stop behind it
one_less : (call : List (Action × Outcome)) (m : Move × Outcome) (ms : Moves) → are_any call ≡ true → moves_before call (m ∷ ms) ≡ moves_before (actions_before m.0 call) ms
unfolding are_any moves_before
one_less [] m ms e = clash e
one_less (a ∷ call) m ms e = refl

goes_on : (last : Bool) (a : Action) (out : Outcome) (call : List (Action × Outcome)) (ms : Moves) → are_any (cond last [] ((a, out) ∷ call)) ≡ true → moves_before (cond last [] ((a, out) ∷ call)) ((moves.InCall a, out) ∷ ms) ≡ moves_before call ms
unfolding are_any actions_before moves_before
goes_on true a out call ms e = clash e
goes_on false a out call ms e = refl

before_more : (move : Move) (out : Outcome) (ms : Moves) → is_calling ((move, out) ∷ ms) ≡ true → before_call ((move, out) ∷ ms) ≡ before_call ms
unfolding call_with call_moves held_of held_after actions_before before_call
before_more (moves.InCall a) out ms e = goes_on (is_last a (held_by a out (held_of ms))) a out (call_moves ms) ms e
before_more (moves.Look r owner) out ms e = one_less (call_moves ms) (moves.Look r owner, out) ms e
before_more (moves.Load i) out ms e = one_less (call_moves ms) (moves.Load i, out) ms e
before_more (moves.Store i value) out ms e = one_less (call_moves ms) (moves.Store i value, out) ms e
before_more (moves.Swap i loaded value) out ms e = one_less (call_moves ms) (moves.Swap i loaded value, out) ms e
before_more (moves.Stop line why) out ms e = one_less (call_moves ms) (moves.Stop line why, out) ms e

-- after a move: what stood before it where a call is under way, and else all
pub before_if : (calling : Bool) (m : Move × Outcome) (ms : Moves) → is_calling (m ∷ ms) ≡ calling → before_call (m ∷ ms) ≡ cond calling (before_call ms) (m ∷ ms)
before_if true m ms e = before_more m.0 m.1 ms e
before_if false m ms e = before_none (m ∷ ms) (none (call_moves (m ∷ ms)) e)
