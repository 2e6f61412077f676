-- What the event lines of a core's log tell of its calls. This project's own.
use Rattle.std.specs.Prelude.{◌≡◌, ℕ, ◌+◌, ◌-◌, ◌&&◌, ◌==◌, ◌++◌, Bool, List, length, take, filter, find, Option, Some, None}
use Rattle.std.specs.List.{flat_map}
use Rattle.mon_types.specs.Replies.{is_done}
use Rattle.mon_model.specs.OnCore.{is_flush}
use Rattle.hist.specs.declared.event.Entry.{Entry}
use Rattle.report_lines.specs.declared.event.EventLine.{EventLine}
use Rattle.legal_report.specs.Counted.{counted, counted_behind, ticket_in, entry_named}
use Rattle.legal_report.specs.declared.drawn.Drawn.{Drawn}

-- the call of a core with a ticket, if there is one
abbrev pub call_with_ticket : List Entry → ℕ → ℕ → Option Entry
call_with_ticket calls core ticket = find (λ e. e.core == core && e.ticket == ticket) (counted calls)

-- its line
abbrev pub IsCallWithTicket : List Entry → ℕ → ℕ → Option Entry → Type 0
IsCallWithTicket calls core ticket None = call_with_ticket calls core ticket ≡ None
IsCallWithTicket calls core ticket (Some e) =
    call_with_ticket calls core ticket ≡ Some (counted_behind (take (ticket - 1) calls) e)

-- the tickets of the entry lines among these
abbrev pub tickets_in : List EventLine → List ℕ
tickets_in log = flat_map ticket_in log

-- whether the entry that a line of a core's log names is an Ok flush
abbrev pub is_flush_named : List Entry → ℕ → ℕ → Bool
is_flush_named calls core ticket =
    is_done (entry_named calls core ticket).reply && is_flush (entry_named calls core ticket).call

-- how many event lines there are, the tickets of the entry lines, and those of which the entry is an Ok flush
pub record DrawnTell (calls : List Entry) (core : ℕ) (log : List EventLine) (drawn : Drawn) : Type 0 where
  pub events : drawn.events ≡ length log
  pub tickets : drawn.tickets ≡ tickets_in log
  pub flushes : drawn.flushes ≡ filter (is_flush_named calls core) (tickets_in log)

-- one more event line is told
pub record IsTold (calls : List Entry) (core : ℕ) (event : EventLine) (before after : Drawn) : Type 0 where
  pub events : after.events ≡ before.events + 1
  pub tickets : after.tickets ≡ before.tickets ++ ticket_in event
  pub flushes : after.flushes ≡ before.flushes ++ filter (is_flush_named calls core) (ticket_in event)
