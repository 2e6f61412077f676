-- Items 2 and 10 of the invariant: what holds of all that the cores have logged. This project's own.
use Rattle.std.specs.Prelude.{◌≡◌, ℕ, ◌<◌, ◌≤◌, true, if◌then◌else◌, List, [], ◌∷◌, length}
use Rattle.mon_types.specs.Shape.{Shape}
use Rattle.mon_types.specs.declared.call.Call.{Call}
use Rattle.mon_types.specs.declared.object.ObjectId.{ObjectId}
use Rattle.hist.specs.Legal.{Legal}
use Rattle.hist.specs.SafeLog.{SafeLog}
use Rattle.hist.specs.Busy.{UnderWay, Nothing, Taking, Refused, Busy}
use Rattle.protocol.specs.declared.action.Action.{Action}
use Rattle.protocol.specs.declared.action.Action.TheVariants as actions
use Rattle.protocol.specs.declared.action.Outcome.{Outcome}
use Rattle.protocol.specs.declared.action.Outcome.TheVariants as outcomes
use Rattle.protocol.specs.Places.{Counter}
use Rattle.protocol.specs.CallTree.{Tree, onto}
use Rattle.protocol.specs.Views.{Moves, entries_in, held_of, call_moves, is_calling, has_drawn}
use Rattle.protocol.specs.Permitted.{most_entries}
use Rattle.protocol.specs.Worlds.{World, logs, entries, IsDoing}

-- ---- 2. The entries of all views meet `Legal` with the tickets drawn so far, and no view has more than 16,384
-- ---- entries.

-- what was logged so far is a legal history, the counter has its number of tickets, and each core is within its budget
pub record EntriesAreLegal (shape : Shape) (w : World) : Type 0 where
  pub legal : Legal shape (logs shape w)
  pub tickets : w.memory Counter ≡ length (entries shape w)
  pub few : (core : ℕ) → core < shape.cores → length (entries_in core (w.moves core)) ≤ most_entries

-- ---- 10. `Busy` and `SafeLog` hold of all that the views have so far. An unfinished call i of h counts as call i with
-- ---- the objects that it has taken. A call that has found a held lock and has not drawn its ticket yet counts in
-- ---- `Busy` as an entry with the next ticket.

-- what a call that holds these objects, in the order in which it took them, has under way after its newest action
unfoldable pub under_way_after : Call → List ObjectId → Action → Outcome → UnderWay
under_way_after call held (actions.TryLock o) (outcomes.HeldBy holder serial) = Refused call held o holder serial
under_way_after call held _ _ = Taking held

-- what it has under way by its actions, the newest first, before its Draw
unfoldable pub under_way_by : Call → List ObjectId → List (Action × Outcome) → UnderWay
under_way_by call held [] = Nothing
under_way_by call held (m ∷ ms) = under_way_after call held m.0 m.1

-- what a core has under way, if its call under way is this one; nothing once that has its ticket
unfoldable pub under_way : Call → Moves → UnderWay
under_way call ms =
    if has_drawn (call_moves ms) then Nothing else under_way_by call (onto (held_of ms) []) (call_moves ms)

-- the calls that the cores have under way may be these
abbrev pub AreDoing : Shape → World → (ℕ → Call) → Type 0
AreDoing shape w doing =
    (core : ℕ) → core < shape.cores → is_calling (w.moves core) ≡ true
    → (rest : Tree) × IsDoing shape w core (doing core) rest

-- the sentence; before its Draw a call may still be one of several
pub record LogsAreSafe (shape : Shape) (w : World) : Type 0 where
  pub safe : SafeLog shape (logs shape w)
  pub busy : (doing : ℕ → Call) → AreDoing shape w doing
      → Busy shape (logs shape w) (λ core. under_way (doing core) (w.moves core))
