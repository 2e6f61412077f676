-- The lines of a core's log in a report, this project's own format.
use Rattle.std.specs.Prelude.{ℕ, List, ◌++◌, codes}
use Rattle.std.specs.List.{flat_map}
use Rattle.std.specs.Fmt.{decimal}
use Rattle.hist.specs.declared.event.Event.{Event}
use Rattle.hist.specs.declared.event.Event.TheVariants as events
use Rattle.hist.specs.declared.event.Why.TheVariants as whys
use Rattle.hist.specs.Logged.{Logged}
use Rattle.text_out.specs.Texts.{spaced}

-- a stop at a line of the core's script, by a trap with its cause and value
unfoldable pub trap_line : ℕ → ℕ → ℕ → List ℕ
trap_line line cause value = codes "trap " ++ decimal line ++ spaced cause ++ spaced value ++ codes "\n"

-- a stop at a line of the core's script, because the core's budget had run out
unfoldable pub limit_line : ℕ → List ℕ
limit_line line = codes "limit " ++ decimal line ++ codes "\n"

-- the ticket of a call
unfoldable pub entry_line : ℕ → List ℕ
entry_line ticket = codes "entry " ++ decimal ticket ++ codes "\n"

-- the line of an event: the ticket of a call, a touched region with the ticket since when it is owned,
-- or a stop
unfoldable pub event_line : Event → List ℕ
event_line (events.Entry e) = entry_line e.ticket
event_line (events.Touch region since) = codes "touch " ++ decimal region ++ spaced since ++ codes "\n"
event_line (events.Stop line (whys.Trap cause value)) = trap_line line cause value
event_line (events.Stop line whys.Limit) = limit_line line

-- the line that begins a core's log
unfoldable pub log_line : ℕ → List ℕ
log_line core = codes "log " ++ decimal core ++ codes "\n"

-- the lines of a core's log
abbrev pub log_text : ℕ → Logged → List ℕ
log_text core log = log_line core ++ flat_map event_line log.events
