-- Logs, as contracts see them. This project's own.
use Rattle.std.specs.Prelude.{ℕ, List, map}
use Rattle.hist.specs.declared.event.Event.{Event}

-- a log: its events, the oldest first, and for how many more there is room
pub record Logged : Type 0 where
  pub events : List Event
  pub spare : ℕ

-- the events of each log, core by core
abbrev pub events_of : List Logged → List (List Event)
events_of logs = map (λ log. log.events) logs
