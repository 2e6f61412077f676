-- What a proof about moves keeps of the logs while the cores run: the history as one list, and a log for each core.
-- This project's own.
use Rattle.std.specs.Prelude.{◌≡◌, ℕ, ◌<◌, ◌==◌, if◌then◌else◌, List, [], ◌∷◌, ◌++◌, map}
use Rattle.std.specs.List.{AllByRecursion, range_with_len}
use Rattle.mon_types.specs.Shape.{Shape}
use Rattle.hist.specs.declared.event.Entry.{Entry}
use Rattle.hist.specs.declared.event.Event.{Event}
use Rattle.hist.specs.History.{entries_of}
use Rattle.hist.specs.Legal.{AreOwn}
use Rattle.hist.specs.Busy.{own}
use Rattle.hist_stands.specs.States.{IsHistory}
use Rattle.hist_stands.specs.Stamp.{AreStamped}

-- The entries are a legal history of cores of the machine. Each core's log has its own entries, with serials from 0
-- on and ascending tickets; these are the history's entries of that core; and each touch in it has a stamp.
pub record Stands (shape : Shape) (h : List Entry) (log : ℕ → List Event) : Type 0 where
  pub legal : IsHistory shape h
  pub cores : AllByRecursion (λ e. e.core < shape.cores) h
  pub serials : (core : ℕ) → core < shape.cores → AreOwn core 0 0 (entries_of (log core))
  pub mine : (core : ℕ) → core < shape.cores → entries_of (log core) ≡ own core h
  pub stamped : (core : ℕ) → core < shape.cores → AreStamped shape h core [] (log core)

-- the logs with one event more at the end of this core's
abbrev pub with_event : (ℕ → List Event) → ℕ → Event → ℕ → List Event
with_event log core event c = if core == c then log c ++ event ∷ [] else log c

-- the logs of all cores, one after the other
abbrev pub all_logs : Shape → (ℕ → List Event) → List (List Event)
all_logs shape log = map log (range_with_len 0 shape.cores)
