-- The one history of all logs, and the states that it goes through. This project's own.
use Rattle.std.specs.Prelude.{ℕ, nat_lt, if◌then◌else◌, List, [], ◌∷◌, take, replicate, Option, Some, None}
use Rattle.std.specs.List.{flat_map, slice_index_or}
use Rattle.mon_types.specs.Shape.{Shape}
use Rattle.hist.specs.declared.event.PageInput.{PageInput}
use Rattle.hist.specs.declared.event.Entry.{Entry}
use Rattle.hist.specs.declared.event.Event.{Event}
use Rattle.hist.specs.declared.event.Event.TheVariants as events
use Rattle.mon_model.specs.State.{State, start}
use Rattle.mon_types.specs.Replies.{is_concurrent}
use Rattle.mon_model.specs.Step.{monitor_step}

-- the monitor calls among a core's events, the oldest first as they are
abbrev pub entry_in : Event → List Entry
entry_in (events.Entry e) = e ∷ []
entry_in (events.Touch region since) = []
entry_in (events.Stop line why) = []

-- the monitor calls of a log, in its order
abbrev pub entries_of : List Event → List Entry
entries_of log = flat_map entry_in log

-- an entry among others in ticket order: before the first that has a greater ticket
abbrev pub placed : Entry → List Entry → List Entry
placed e [] = e ∷ []
placed e (x ∷ xs) = if nat_lt e.ticket x.ticket then e ∷ x ∷ xs else x ∷ placed e xs

-- all entries of a list in ticket order
abbrev pub in_ticket_order : List Entry → List Entry
in_ticket_order [] = []
in_ticket_order (e ∷ es) = placed e (in_ticket_order es)

-- the log of a core, by its number
abbrev pub log_of : List (List Event) → ℕ → List Event
log_of logs core = slice_index_or logs core []

-- the history: the entries of all logs, in ticket order
abbrev pub history : List (List Event) → List Entry
history logs = in_ticket_order (flat_map entries_of logs)

-- the digest of the page that an entry read, which no other call uses
abbrev pub digest_of : Option PageInput → List ℕ
digest_of None = replicate 32 0
digest_of (Some page) = page.digest

-- the state after an entry: a call that met a held lock changes nothing
abbrev pub after_entry : State → Entry → State
after_entry s e =
    if is_concurrent e.reply then s
    else (monitor_step s e.core e.call (digest_of e.page) e.ticket).0

-- the state after these entries, one after the other
abbrev pub after_entries : State → List Entry → State
after_entries s [] = s
after_entries s (e ∷ es) = after_entries (after_entry s e) es

-- S(k): the state after the first k entries of the history
abbrev pub state_after : Shape → List (List Event) → ℕ → State
state_after shape logs k = after_entries (start shape) (take k (history logs))

-- S(n): the state after all of them
abbrev pub last_state : Shape → List (List Event) → State
last_state shape logs = after_entries (start shape) (history logs)
