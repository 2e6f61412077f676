-- The moves that a list of core numbers gives are given from the start, and each core's are those with which its lines
-- begin.
use Rattle.std.proofs.Common.{◌≡◌, inl, inr, ◌∙◌, ◌+◌, ◌<◌, ◌≤◌, eqb, ℕ, zero, suc, Some, List, [], ◌∷◌, ap, sym, refl, subst, arith}
use Rattle.std.specs.List.{AllByRecursion, range_with_len}
use Rattle.std.proofs.lemmas.Bool.{cases_Bool, eqb-true, eqb-false}
use Rattle.mon_types.specs.declared.image.Image.{Image}
use Rattle.mon_types.specs.declared.script.Line.{Line}
use Rattle.hist.specs.declared.event.Why.{Why}
use Rattle.protocol.specs.Views.{Moves}
use Rattle.protocol.specs.declared.action.Move.{Move}
use Rattle.protocol.specs.declared.action.Move.TheVariants as moves
use Rattle.protocol.specs.declared.action.Outcome.{Outcome}
use Rattle.protocol.specs.declared.action.Outcome.TheVariants as outcomes
use Rattle.protocol.specs.Places.{Memory}
use Rattle.protocol.specs.Moves.{place_of, word_found, outcome_of}
use Rattle.protocol.specs.Runs.{Made, moves_of, outcome_after}
use Rattle.core_behaviour.specs.Course.{Course, Ends, Acts, first_of, behind, left_of, IsBegun}
use Rattle.core_behaviour.specs.Runs.{course_of, start_words, stop_made, move_made, step_from, stepped, run_under, rounds, run_by}
use Rattle.core_behaviour.specs.RunLaw.{AreGiven}
use Rattle.core_behaviour.proofs.Words.{moves_own, moves_other}
use Rattle.core_laws.specs.Laws.{AreOfLines, SchedulesAreGiven, SchedulesAreOfLines}
use Rattle.core_laws.proofs.CallWords.{all_append}

-- both, so far
pub record IsSoFar (image : Image) (script : List (List Line)) (run : List Made) : Type 0 where
  pub given : AreGiven image run
  pub begun : AreOfLines image script run

-- one move more
more : (image : Image) (script : List (List Line)) (made : Made) (run : List Made) → made.core < image.config.cores → made.outcome ≡ outcome_after image.config (start_words image) run made.move
    → first_of (left_of (course_of image script made.core) (moves_of made.core run)) ≡ Some made.move → IsSoFar image script run → IsSoFar image script (made ∷ run)
more image script made run lt answers first s = record {
  given = (lt, answers, s.given);
  begun = λ core low. elim (cases_Bool (eqb made.core core)) [
    | inl t ↦
        let e : made.core ≡ core = eqb-true made.core core t in
        subst (IsBegun (course_of image script core)) (sym (moves_own core made run e))
        (s.begun core low, subst (λ q. first_of (left_of (course_of image script q) (moves_of q run)) ≡ Some made.move) e first)
    | inr f ↦ subst (IsBegun (course_of image script core)) (sym (moves_other core made run (eqb-false made.core core f))) (s.begun core low)
  ];
}

acts_first : (x : Move) (next : Outcome → Course) → first_of (Acts x next) ≡ Some x
unfolding first_of
acts_first x next = refl

stop_answers : (memory : Memory) (line : ℕ) (why : Why) → outcomes.Done ≡ outcome_of (moves.Stop line why) (word_found memory (place_of (moves.Stop line why)))
unfolding outcome_of
stop_answers memory line why = refl

left_behind : (course : Course) (x : Move) (next : Outcome → Course) (out : Outcome) (ms : Moves) → Acts x next ≡ left_of course ms → next out ≡ left_of course ((x, out) ∷ ms)
unfolding left_of behind
left_behind course x next out ms e = ap (λ c. behind c out) e

-- one step of a core, of whose course this is left
step_so_far : (image : Image) (script : List (List Line)) (core : ℕ) → core < image.config.cores → (course : Course) (run : List Made) → course ≡ left_of (course_of image script core) (moves_of core run) → IsSoFar image script run → IsSoFar image script (step_from image core course run)
unfolding step_from
step_so_far image script core lt Ends run e s = s
step_so_far image script core lt (Acts (moves.Stop line why) next) run e s =
    let made : Made = stop_made core line why in
    step_so_far image script core lt (next outcomes.Done) (made ∷ run)
    (left_behind (course_of image script core) (moves.Stop line why) next outcomes.Done (moves_of core run) e ∙ ap (left_of (course_of image script core)) (sym (moves_own core made run refl)))
    (more image script made run lt (stop_answers _ line why) (ap first_of (sym e) ∙ acts_first (moves.Stop line why) next) s)
step_so_far image script core lt (Acts (moves.InCall a) next) run e s = more image script (move_made image core (moves.InCall a) run) run lt refl (ap first_of (sym e) ∙ acts_first (moves.InCall a) next) s
step_so_far image script core lt (Acts (moves.Look r owner) next) run e s = more image script (move_made image core (moves.Look r owner) run) run lt refl (ap first_of (sym e) ∙ acts_first (moves.Look r owner) next) s
step_so_far image script core lt (Acts (moves.Load i) next) run e s = more image script (move_made image core (moves.Load i) run) run lt refl (ap first_of (sym e) ∙ acts_first (moves.Load i) next) s
step_so_far image script core lt (Acts (moves.Store i word) next) run e s = more image script (move_made image core (moves.Store i word) run) run lt refl (ap first_of (sym e) ∙ acts_first (moves.Store i word) next) s
step_so_far image script core lt (Acts (moves.Swap i old word) next) run e s = more image script (move_made image core (moves.Swap i old word) run) run lt refl (ap first_of (sym e) ∙ acts_first (moves.Swap i old word) next) s

under_so_far : (image : Image) (script : List (List Line)) (q : List ℕ) (run : List Made) → AllByRecursion (λ core. core < image.config.cores) q → IsSoFar image script run → IsSoFar image script (run_under image script q run)
unfolding run_under stepped
under_so_far image script [] run h s = s
under_so_far image script (core ∷ q) run h s = under_so_far image script q (stepped image script run core) h.1 (step_so_far image script core h.0 _ run refl s)

range_low : (cores k n : ℕ) → k + n ≤ cores → AllByRecursion (λ core. core < cores) (range_with_len k n)
range_low cores k zero le = tt
range_low cores k (suc n) le = (omega arith, range_low cores (k + 1) n (omega arith))

rounds_low : (cores count : ℕ) → AllByRecursion (λ core. core < cores) (rounds cores count)
unfolding rounds
rounds_low cores zero = tt
rounds_low cores (suc count) = all_append (λ core. core < cores) (range_with_len 0 cores) (rounds cores count) (range_low cores 0 cores (omega arith)) (rounds_low cores count)

none_so_far : (image : Image) (script : List (List Line)) → IsSoFar image script []
unfolding moves_of
none_so_far image script = record { given = tt; begun = λ core lt. tt }

pub by_so_far : (image : Image) (script : List (List Line)) (q : List ℕ) (count : ℕ) → AllByRecursion (λ core. core < image.config.cores) q → IsSoFar image script (run_by image script q count)
by_so_far image script q count h = under_so_far image script _ [] (all_append (λ core. core < image.config.cores) q (rounds image.config.cores count) h (rounds_low image.config.cores count)) (none_so_far image script)

pub schedules_are_given : SchedulesAreGiven
schedules_are_given = λ image script q count h. (by_so_far image script q count h).given

pub schedules_are_of_lines : SchedulesAreOfLines
schedules_are_of_lines = λ image script q count h. (by_so_far image script q count h).begun
