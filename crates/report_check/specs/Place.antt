-- What is kept of the event lines of a core's log that were passed. This project's own.
use Rattle.std.specs.Prelude.{◌≡◌, ℕ, ◌+◌, ◌<◌, ◌≤◌, ⊤, if◌then◌else◌, List, [], ◌∷◌, ◌++◌, length, map, max, Option, Some, None}
use Rattle.std.specs.List.{AllByRecursion}
use Rattle.mon_types.specs.declared.call.Call.{Call}
use Rattle.mon_types.specs.declared.call.Call.TheVariants as calls
use Rattle.mon_types.specs.declared.region.Owner.{Owner}
use Rattle.mon_types.specs.declared.region.Owner.TheVariants as owners
use Rattle.mon_types.specs.declared.thread.Mode.{Mode}
use Rattle.mon_types.specs.declared.thread.Mode.TheVariants as modes
use Rattle.mon_types.specs.Replies.{is_done}
use Rattle.mon_model.specs.OnCore.{clears}
use Rattle.hist.specs.declared.event.Entry.{Entry}
use Rattle.hist.specs.SafeLog.{mode_after}
use Rattle.hist.specs.Touched.{is_touched}
use Rattle.report_lines.specs.declared.event.EventLine.{EventLine}
use Rattle.legal_report.specs.Counted.{entry_named, events_named}
use Rattle.legal_report.specs.Checks.{StopsBy}
use Rattle.legal_report.specs.Drawn.{tickets_in}
use Rattle.report_check.specs.Holds.{is_held}
use Rattle.report_check.specs.declared.place.Place.{Place}

-- ---- what is kept

-- the enclave that a core is inside
abbrev pub enclave_of : Mode → Option ℕ
enclave_of modes.Os = None
enclave_of (modes.Inside e t) = Some e

-- n is the least number with which this holds
abbrev pub IsLeast : ℕ → (ℕ → Type 0) → Type 0
IsLeast n P = (m : ℕ) → (n ≤ m → P m) × (P m → n ≤ m)

-- behind these event lines of a core's log: how many entry lines there are, one more than their highest ticket, the
-- highest line of a stop, the enclave that the core is inside, and the touches since its last clearing entry
pub record StandsBehind (calls : List Entry) (core : ℕ) (before : List EventLine) (place : Place) : Type 0 where
  pub entries : place.entries ≡ length (tickets_in before)
  pub above : IsLeast place.above (λ n. AllByRecursion (λ t. t < n) (tickets_in before))
  pub stop : IsLeast place.stop (λ line. AllByRecursion (StopsBy line) before)
  pub inside : place.inside ≡ enclave_of (mode_after (map (entry_named calls core) (tickets_in before)))
  pub held : (r a : ℕ) → is_held place.held r a ≡ is_touched r a (events_named calls core before)

-- an event line is passed
abbrev pub IsPassed : List Entry → ℕ → EventLine → Place → Place → Type 0
IsPassed calls core event old new =
    (before : List EventLine) → StandsBehind calls core before old → StandsBehind calls core (before ++ event ∷ []) new

-- ---- how it changes

-- in front of the first line
abbrev pub at_start : Place
at_start = record { entries = 0; above = 0; stop = 0; inside = None; held = [] }

-- the enclave that a core is inside after an Ok call
abbrev pub inside_by : Call → Option ℕ → Option ℕ
inside_by (calls.Enter e t) before = Some e
inside_by calls.Exit before = None
inside_by (calls.Aex saved) before = None
inside_by _ before = before

-- behind an Ok call
abbrev pub followed : Place → Call → Place
followed place call =
    record place { inside = inside_by call place.inside; held = if clears call then [] else place.held }

-- behind an entry line with this ticket, whatever its call is
abbrev pub entered : Place → ℕ → Place
entered place ticket = record place { entries = place.entries + 1; above = max place.above (ticket + 1) }

-- and with its call, if it names one
abbrev pub with_call : Option Entry → Place → Place
with_call None place = place
with_call (Some e) place = if is_done e.reply then followed place e.call else place

-- behind a stop at this line
abbrev pub halted : Place → ℕ → Place
halted place line = record place { stop = max place.stop line }

-- ---- what is asked of it

-- the OS, or the enclave that the core is inside
abbrev pub IsOpenHere : Option ℕ → Owner → Type 0
IsOpenHere inside owners.Os = ⊤
IsOpenHere None (owners.Enclave e) = ⊥
IsOpenHere (Some f) (owners.Enclave e) = f ≡ e
