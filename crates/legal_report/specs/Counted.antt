-- The calls and the logs of a report as a history: tickets and serials are counted, whatever the lines print. This
-- project's own.
use Rattle.std.specs.Prelude.{ℕ, ◌+◌, ◌==◌, ◌&&◌, List, [], ◌∷◌, ◌++◌, length, map, find, slice_get, Option, None}
use Rattle.std.specs.Option.{unwrap_or}
use Rattle.std.specs.List.{flat_map}
use Rattle.mon_types.specs.Shape.{Shape}
use Rattle.mon_types.specs.declared.call.Call.TheVariants as calls
use Rattle.mon_types.specs.declared.reply.Reply.TheVariants as replies
use Rattle.mon_model.specs.State.{State, start}
use Rattle.mon_model.specs.Tries.{tried_set}
use Rattle.hist.specs.declared.event.Entry.{Entry}
use Rattle.hist.specs.declared.event.Event.{Event}
use Rattle.hist.specs.declared.event.Event.TheVariants as events
use Rattle.hist.specs.History.{after_entries}
use Rattle.hist.specs.Busy.{own}
use Rattle.report_lines.specs.declared.event.EventLine.{EventLine}
use Rattle.report_lines.specs.declared.event.EventLine.TheVariants as lines

-- ---- calls

-- a call behind these: its ticket is its place among all calls, counted from 1, and its serial is the number of earlier
-- ones of its core
abbrev pub counted_behind : List Entry → Entry → Entry
counted_behind before e = record e { ticket = length before + 1; serial = length (own e.core before) }

-- the calls behind these
abbrev pub counted_from : List Entry → List Entry → List Entry
counted_from before [] = []
counted_from before (e ∷ es) = counted_behind before e ∷ counted_from (before ++ e ∷ []) es

-- the history that the call lines of a report are
abbrev pub counted : List Entry → List Entry
counted calls = counted_from [] calls

-- the state of the monitor after these calls
abbrev pub state_behind : Shape → List Entry → State
state_behind shape calls = after_entries (start shape) (counted calls)

-- ---- logs

-- the tickets of a core's calls
abbrev pub tickets_of : List Entry → ℕ → List ℕ
tickets_of calls core = map (λ e. e.ticket) (own core (counted calls))

-- the ticket of an event line, if it has one
abbrev pub ticket_in : EventLine → List ℕ
ticket_in (lines.Entry ticket) = ticket ∷ []
ticket_in (lines.Touch region since) = []
ticket_in (lines.Stop line why) = []

-- a core's next ticket behind these event lines of its log, if it has one
abbrev pub next_ticket : List Entry → ℕ → List EventLine → Option ℕ
next_ticket calls core before = slice_get (tickets_of calls core) (length (flat_map ticket_in before))

-- an entry of a core with this ticket that does nothing
abbrev pub nothing_done : ℕ → ℕ → Entry
nothing_done core ticket =
    record {
      ticket = ticket;
      core = core;
      serial = 0;
      call = calls.Flush;
      page = None;
      reply = replies.Unsupported;
      tried = tried_set [];
    }

-- the entry that a line names: the call of the core with that ticket, and one that does nothing where the ticket is
-- no call's, or another core's
abbrev pub entry_named : List Entry → ℕ → ℕ → Entry
entry_named calls core ticket =
    unwrap_or (find (λ e. e.core == core && e.ticket == ticket) (counted calls)) (nothing_done core ticket)

-- the event that a line of a core's log tells
abbrev pub event_named : List Entry → ℕ → EventLine → Event
event_named calls core (lines.Entry ticket) = events.Entry (entry_named calls core ticket)
event_named calls core (lines.Touch region since) = events.Touch region since
event_named calls core (lines.Stop line why) = events.Stop line why

-- the events that lines of a core's log tell
abbrev pub events_named : List Entry → ℕ → List EventLine → List Event
events_named calls core log = map (event_named calls core) log
