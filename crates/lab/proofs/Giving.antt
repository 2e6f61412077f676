-- What a core gives, as the first of what is left of its course.
use Rattle.std.proofs.Common.{◌≡◌, ◌∙◌, ℕ, Bool, true, false, Option, Some, None, ap, sym, refl, subst}
use Rattle.hist.specs.declared.event.Why.{Why}
use Rattle.protocol.specs.declared.action.Move.{Move}
use Rattle.protocol.specs.declared.action.Move.TheVariants as moves
use Rattle.protocol.specs.declared.action.Outcome.{Outcome}
use Rattle.protocol.specs.declared.action.Outcome.TheVariants as outcomes
use Rattle.core_behaviour.specs.Course.{Course, Ends, Acts, first_of, behind}
use Rattle.core_behaviour.proofs.Stopping.{is_stop, none_first, acts_first, acts_none}
use Rattle.core_machine.specs.declared.step.Step.{Step}
use Rattle.core_machine.specs.declared.step.Step.TheVariants as steps
use Rattle.core_machine.specs.Follows.{step_of}
use Rattle.lab.specs.Cores.{makes_move}

-- a move is given
pub move_given : (first : Option Move) (move : Move) → Some (steps.Move move) ≡ step_of first → (first ≡ Some move) × (is_stop move ≡ false)
move_given None move e = absurd (cc)
move_given (Some (moves.InCall a)) move e = let same : move ≡ moves.InCall a = cc in (ap (λ m. Some m) (sym same), ap is_stop same)
move_given (Some (moves.Look r owner)) move e = let same : move ≡ moves.Look r owner = cc in (ap (λ m. Some m) (sym same), ap is_stop same)
move_given (Some (moves.Load i)) move e = let same : move ≡ moves.Load i = cc in (ap (λ m. Some m) (sym same), ap is_stop same)
move_given (Some (moves.Store i word)) move e = let same : move ≡ moves.Store i word = cc in (ap (λ m. Some m) (sym same), ap is_stop same)
move_given (Some (moves.Swap i old word)) move e = let same : move ≡ moves.Swap i old word = cc in (ap (λ m. Some m) (sym same), ap is_stop same)
move_given (Some (moves.Stop line why)) move e = absurd (cc)

-- a stop
pub stop_given : (first : Option Move) (line : ℕ) (why : Why) → Some (steps.Stop line why) ≡ step_of first → first ≡ Some (moves.Stop line why)
stop_given None line why e = absurd (cc)
stop_given (Some (moves.InCall a)) line why e = absurd (cc)
stop_given (Some (moves.Look r owner)) line why e = absurd (cc)
stop_given (Some (moves.Load i)) line why e = absurd (cc)
stop_given (Some (moves.Store i word)) line why e = absurd (cc)
stop_given (Some (moves.Swap i old word)) line why e = absurd (cc)
stop_given (Some (moves.Stop other because)) line why e = cc

-- or nothing
pub none_given : (first : Option Move) → None ≡ step_of first → first ≡ None
none_given None e = refl
none_given (Some move) e = absurd (cc)

-- ---- whether a move is left

stops_then : (line : ℕ) (why : Why) (next : Outcome → Course) → makes_move (Acts (moves.Stop line why) next) ≡ makes_move (behind (Acts (moves.Stop line why) next) outcomes.Done)
unfolding makes_move behind
stops_then line why next = refl

pub stop_makes : (course : Course) (line : ℕ) (why : Why) → first_of course ≡ Some (moves.Stop line why) → makes_move course ≡ makes_move (behind course outcomes.Done)
stop_makes Ends line why e = none_first (moves.Stop line why) _ e
stop_makes (Acts x next) line why e =
    let is : x ≡ moves.Stop line why = acts_first x (moves.Stop line why) next e in
    subst (λ y. makes_move (Acts y next) ≡ makes_move (behind (Acts y next) outcomes.Done)) (sym is) (stops_then line why next)

move_then : (x : Move) (next : Outcome → Course) → is_stop x ≡ false → makes_move (Acts x next) ≡ true
unfolding makes_move
move_then (moves.InCall a) next real = refl
move_then (moves.Look r owner) next real = refl
move_then (moves.Load i) next real = refl
move_then (moves.Store i word) next real = refl
move_then (moves.Swap i old word) next real = refl
move_then (moves.Stop line why) next real = absurd (cc)

pub move_makes : (course : Course) (move : Move) → first_of course ≡ Some move → is_stop move ≡ false → makes_move course ≡ true
move_makes Ends move e real = none_first move _ e
move_makes (Acts x next) move e real = move_then x next (ap is_stop (acts_first x move next e) ∙ real)

ends_none : makes_move Ends ≡ false
unfolding makes_move
ends_none = refl

pub none_makes : (course : Course) → first_of course ≡ None → makes_move course ≡ false
none_makes Ends e = ends_none
none_makes (Acts x next) e = acts_none x next _ e
