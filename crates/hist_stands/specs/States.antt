-- The history as one list of entries, and the states that it goes through. This project's own.
use Rattle.std.specs.Prelude.{ℕ, List, take}
use Rattle.mon_types.specs.Shape.{Shape}
use Rattle.mon_model.specs.State.{State, start}
use Rattle.hist.specs.declared.event.Entry.{Entry}
use Rattle.hist.specs.History.{after_entries}
use Rattle.hist.specs.Legal.{AreTickets, AreLegalEntries}

-- S(n): the state after all of these entries
abbrev pub state_now : Shape → List Entry → State
state_now shape h = after_entries (start shape) h

-- S(k): the state after the first k of them
abbrev pub state_at : Shape → List Entry → ℕ → State
state_at shape h k = state_now shape (take k h)

-- the entries are a legal history: tickets from 1 without gap, and each entry is what the sequential monitor does
-- at its ticket
pub record IsHistory (shape : Shape) (h : List Entry) : Type 0 where
  pub tickets : AreTickets 1 h
  pub entries : AreLegalEntries (start shape) h
