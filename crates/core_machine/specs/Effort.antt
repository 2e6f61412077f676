-- How much a core has still to do at most, and what is known of it at every moment. This project's own.
use Rattle.std.specs.Prelude.{◌≡◌, ℕ, ◌+◌, ◌-◌, ◌*◌, ◌<◌, ◌≤◌, Option, Some, None}
use Rattle.mon_types.specs.Budgets.{event_budget, answer_budget}
use Rattle.mon_types.specs.declared.object.ObjectId.{ObjectId}
use Rattle.protocol.specs.declared.action.Action.TheVariants as actions
use Rattle.protocol.specs.declared.action.Move.TheVariants as moves
use Rattle.core_machine.specs.declared.own.Counts.{Counts}
use Rattle.core_machine.specs.declared.step.Step.{Step}
use Rattle.core_machine.specs.declared.step.Step.TheVariants as steps
use Rattle.core_machine.specs.declared.progress.Progress.{Progress}
use Rattle.core_machine.specs.Meaning.{due, calling_of}
use Rattle.core_machine.specs.Kept.{weight}

-- no call makes more moves: a free of a region of 16 pages may make so many
abbrev pub most_made : ℕ
most_made = 8392

-- the private work that is left, each part with the moves of a whole call behind it, and those that the present call
-- may still make
abbrev pub effort : Progress → ℕ
effort k = weight k * (most_made + 1) + (most_made - k.call.made)

-- after a step no more is left than before, and less after a stop
abbrev pub IsLeft : ℕ → Option Step → ℕ → Type 0
IsLeft old None new = new ≤ old
IsLeft old (Some (steps.Stop line why)) new = new < old
IsLeft old (Some (steps.Move move)) new = new ≤ old

-- no more is logged and given than the budgets allow
pub record AreInBudget (counts : Counts) : Type 0 where
  pub events : counts.events ≤ event_budget
  pub answers : counts.answers ≤ answer_budget

-- where the move that is due tries a lock, its call has drawn no ticket: its serial is how many calls were made
abbrev pub IsFresh : Progress → Type 0
IsFresh k =
    (o : ObjectId) → due k ≡ Some (moves.InCall (actions.TryLock o)) → calling_of k ≡ Some k.own.serial
