-- A core that has made some moves of its course: what the machine keeps of it stands for the rest. This project's own.
use Rattle.std.specs.Prelude.{◌≡◌, ℕ, ⊤, List, [], ◌∷◌, ◌++◌, Option, Some, None}
use Rattle.hist.specs.declared.event.Event.{Event}
use Rattle.hist.specs.declared.event.Event.TheVariants as events
use Rattle.hist.specs.declared.event.Why.{Why}
use Rattle.protocol.specs.declared.action.Move.{Move}
use Rattle.protocol.specs.declared.action.Move.TheVariants as moves
use Rattle.protocol.specs.declared.action.Outcome.{Outcome}
use Rattle.protocol.specs.declared.action.Outcome.TheVariants as outcomes
use Rattle.protocol.specs.Moves.{outcome_of}
use Rattle.protocol.specs.Views.{Moves, core_log, answers_of}
use Rattle.core_behaviour.specs.Course.{Course, first_of, behind, left_of, IsBegun}
use Rattle.core_behaviour.specs.Core.{Core}
use Rattle.core_machine.specs.declared.own.Own.{Own}
use Rattle.core_machine.specs.declared.step.Step.{Step}
use Rattle.core_machine.specs.declared.step.Step.TheVariants as steps
use Rattle.core_machine.specs.declared.progress.Progress.{Progress}
use Rattle.core_machine.specs.Own.{core_of, IsCounted}
use Rattle.core_machine.specs.Meaning.{Stands, due}

-- the core, after these moves of it
abbrev pub core_after : Own → Moves → Core
core_after own ms = core_of own (core_log own.number ms) (answers_of ms)

-- The core has made these moves and stops of the course, the newest first. What is kept of it has their counts, and it
-- stands for what is left of the course.
pub record Follows (k : Progress) (course : Course) (ms : Moves) : Type 0 where
  pub begun : IsBegun course ms
  pub counts : IsCounted k.own (core_log k.own.number ms) (answers_of ms)
  pub left : Stands k k.work (core_after k.own ms) (left_of course ms)

-- a move or a stop of a course as a step of the core
abbrev pub as_step : Move → Step
as_step (moves.Stop line why) = steps.Stop line why
as_step move = steps.Move move

-- the step, where there is one
abbrev pub step_of : Option Move → Option Step
step_of None = None
step_of (Some move) = Some (as_step move)

-- the moves after a step: a stop is made with it, and a move when its outcome is told
abbrev pub moves_after : Option Step → Moves → Moves
moves_after None ms = ms
moves_after (Some (steps.Stop line why)) ms = (moves.Stop line why, outcomes.Done) ∷ ms
moves_after (Some (steps.Move move)) ms = ms

-- the step is the first of what was left of the course, and the core follows the course behind it
pub record Gives (k : Progress) (course : Course) (ms : Moves) (step : Option Step) : Type 0 where
  pub first : step ≡ step_of (first_of (left_of course ms))
  pub follows : Follows k course (moves_after step ms)

-- the moves, with one that has this outcome
abbrev pub told : Option Move → Outcome → Moves → Moves
told None outcome ms = ms
told (Some move) outcome ms = (move, outcome) ∷ ms

-- the outcome is one of the move that is due
abbrev pub IsDueOutcome : Progress → Outcome → Type 0
IsDueOutcome k outcome = (move : Move) × (word : ℕ) × (due k ≡ Some move) × (outcome ≡ outcome_of move word)

-- a move that is given is due
abbrev pub IsDueStep : Progress → Option Step → Type 0
IsDueStep k None = ⊤
IsDueStep k (Some (steps.Stop line why)) = ⊤
IsDueStep k (Some (steps.Move move)) = due k ≡ Some move

-- ---- private work

-- what is kept of a core goes on to other work: the core has made nothing, and has still to do what it had
pub record GoesOn (old new : Progress) : Type 0 where
  pub number : new.own.number ≡ old.own.number
  pub counts : new.own.counts ≡ old.own.counts
  pub goes : (log : List Event) (answers : List ℕ) (course : Course) → IsCounted old.own log answers
      → Stands old old.work (core_of old.own log answers) course
      → IsCounted new.own log answers × Stands new new.work (core_of new.own log answers) course

-- the same, where the core had still to do this
pub record Leads (old new : Progress) (course : Core → Course) : Type 0 where
  pub number : new.own.number ≡ old.own.number
  pub counts : new.own.counts ≡ old.own.counts
  pub goes : (log : List Event) (answers : List ℕ) → IsCounted old.own log answers
      → IsCounted new.own log answers
      × Stands new new.work (core_of new.own log answers) (course (core_of old.own log answers))

-- the core has stopped, as it had to
pub record Stops (old new : Progress) (line : ℕ) (why : Why) : Type 0 where
  pub number : new.own.number ≡ old.own.number
  pub goes : (log : List Event) (answers : List ℕ) (course : Course) → IsCounted old.own log answers
      → Stands old old.work (core_of old.own log answers) course
      → (first_of course ≡ Some (moves.Stop line why))
      × IsCounted new.own (log ++ events.Stop line why ∷ []) (answers ++ [])
      × Stands new new.work (core_of new.own (log ++ events.Stop line why ∷ []) (answers ++ []))
      (behind course outcomes.Done)

-- the one or the other
abbrev pub GoesBy : Progress → Option Step → Progress → Type 0
GoesBy old None new = GoesOn old new
GoesBy old (Some (steps.Move move)) new = ⊥
GoesBy old (Some (steps.Stop line why)) new = Stops old new line why
