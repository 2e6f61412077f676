-- When logs are a legal history of the sequential monitor. This project's own.
use Rattle.std.specs.Prelude.{◌≡◌, ℕ, ◌+◌, ◌<◌, Bool, false, if◌then◌else◌, List, [], ◌∷◌, length, is_some}
use Rattle.mon_types.specs.Shape.{Shape}
use Rattle.hist.specs.declared.event.Entry.{Entry}
use Rattle.hist.specs.declared.event.Event.{Event}
use Rattle.hist.specs.declared.finished.Finished.{Finished}
use Rattle.hist.specs.Logged.{events_of}
use Rattle.hist.specs.History.{entries_of, log_of, history, digest_of, after_entry, last_state}
use Rattle.mon_model.specs.State.{State, start}
use Rattle.mon_types.specs.Replies.{is_done, is_concurrent}
use Rattle.mon_model.specs.OnCore.{is_load_page}
use Rattle.mon_model.specs.Step.{monitor_step}
use Rattle.mon_model.specs.Tries.{tries, tried_set}

-- the tickets are k, k + 1, k + 2 and so on, each once
abbrev pub AreTickets : ℕ → List Entry → Type 0
AreTickets k [] = Unit {0}
AreTickets k (e ∷ es) = (e.ticket ≡ k) × AreTickets (k + 1) es

-- One entry of a core's log: it is this core's, has this serial, and its ticket is above that of the
-- entry before it.
pub record IsNextOwn (owner next before : ℕ) (e : Entry) : Type 0 where
  pub core : e.core ≡ owner
  pub serial : e.serial ≡ next
  pub ascends : before < e.ticket

-- the entries of one core from this serial on, above this ticket
abbrev pub AreOwn : ℕ → ℕ → ℕ → List Entry → Type 0
AreOwn core serial before [] = Unit {0}
AreOwn core serial before (e ∷ es) = IsNextOwn core serial before e × AreOwn core (serial + 1) e.ticket es

-- each core's log has its own entries, with serials from 0 on and ascending tickets
abbrev pub AreOwnLogs : List (List Event) → Type 0
AreOwnLogs logs = (core : ℕ) → core < length logs → AreOwn core 0 0 (entries_of (log_of logs core))

-- an entry has a page exactly where it is a load_page that answered Ok
abbrev pub has_its_page : Entry → Bool
has_its_page e = if is_load_page e.call then is_done e.reply else false

-- One entry of the history, where the state before it is s: a call that met no held lock has the reply
-- of the sequential monitor and tried exactly the objects that the monitor's tables name.
pub record IsLegalEntry (s : State) (e : Entry) : Type 0 where
  pub reply : is_concurrent e.reply ≡ false → e.reply ≡ (monitor_step s e.core e.call (digest_of e.page) e.ticket).1
  pub tried : is_concurrent e.reply ≡ false → e.tried ≡ tried_set (tries s e.core e.call)
  pub page : is_some e.page ≡ has_its_page e

-- these entries from state s on, each in the state that those before it leave
abbrev pub AreLegalEntries : State → List Entry → Type 0
AreLegalEntries s [] = Unit {0}
AreLegalEntries s (e ∷ es) = IsLegalEntry s e × AreLegalEntries (after_entry s e) es

-- The logs are one legal history: one log for each core, tickets from 1 without gap, each log its own
-- core's entries in order, and each entry what the sequential monitor does at its ticket.
pub record Legal (shape : Shape) (logs : List (List Event)) : Type 0 where
  pub count : length logs ≡ shape.cores
  pub tickets : AreTickets 1 (history logs)
  pub own : AreOwnLogs logs
  pub entries : AreLegalEntries (start shape) (history logs)

-- the tables of a finished run are S(n)
pub record HasLastTables (f : Finished) : Type 0 where
  pub regions : f.regions ≡ (last_state f.config (events_of f.logs)).regions
  pub enclaves : f.enclaves ≡ (last_state f.config (events_of f.logs)).enclaves
  pub threads : f.threads ≡ (last_state f.config (events_of f.logs)).threads
  pub flushed : f.flushed ≡ (last_state f.config (events_of f.logs)).flushed
  pub modes : f.modes ≡ (last_state f.config (events_of f.logs)).modes
