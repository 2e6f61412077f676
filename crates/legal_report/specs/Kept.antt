-- What is kept of the calls of a report while its lines are checked. This project's own.
use Rattle.std.specs.Prelude.{◌≡◌, ℕ, zero, suc, ◌+◌, ◌<◌, ◌≤◌, Bool, List, [], length, take, slice_get, slice_index_or, Option, Some, None, IfSome}
use Rattle.std.specs.Bool.{Decides}
use Rattle.legal_report.specs.Checks.{IsRightCall}
use Rattle.hist.specs.declared.event.Entry.{Entry}
use Rattle.legal_report.specs.Counted.{tickets_of}
use Rattle.legal_report.specs.Laid.{limit, AreCalls, calls_at}
use Rattle.legal_report.specs.declared.tickets.Calls.{Calls}

-- the calls whose lines begin at these places
abbrev pub calls_told : Calls → List Entry
calls_told calls = calls_at calls.config.now calls.bytes.now calls.places.now

-- the line of a call begins at each of these places of bytes within the limit
pub record CallsLaid (calls : Calls) : Type 0 where
  pub told : AreCalls calls.config.now calls.bytes.now calls.places.now
  pub size : length calls.bytes.now ≤ limit
  pub count : length calls.places.now ≤ length calls.bytes.now

-- for each core the list of its calls' tickets
pub record KeepsTickets (cores : ℕ) (calls : List Entry) (lists : List (List ℕ)) : Type 0 where
  pub count : length lists ≡ cores
  pub each : (core : ℕ) → core < cores → slice_index_or lists core [] ≡ tickets_of calls core

-- the ticket of the call before that with this serial, if there is one
abbrev pub ticket_before : List ℕ → ℕ → Option ℕ
ticket_before tickets zero = None
ticket_before tickets (suc serial) = slice_get tickets serial

-- the call before that with this serial, if there is one, has a ticket below this one
abbrev pub BegunBy : List ℕ → ℕ → ℕ → Type 0
BegunBy tickets serial ticket = IfSome (ticket_before tickets serial) (λ t. t < ticket)

-- the call behind that with this serial, if there is one, has a ticket above that of the other core's call before the
-- one with that serial, if there is one
abbrev pub NotOverBy : List ℕ → ℕ → List ℕ → ℕ → Type 0
NotOverBy theirs serial own own_serial =
    IfSome (slice_get theirs (serial + 1)) (λ t. IfSome (ticket_before own own_serial) (λ o. o < t))

-- whether the line of call k is right
pub record IsDecidedAt (calls : Calls) (k : ℕ) (right : Bool) : Type 0 where
  pub entry : Entry
  pub there : slice_get (calls_told calls) k ≡ Some entry
  pub decided : Decides right (IsRightCall calls.config.now (calls_told calls) (take k (calls_told calls)) entry)
