-- What is asked of an event line by what is kept of its log. This project's own.
use Rattle.std.specs.Prelude.{◌≡◌, ◌≢◌, ℕ, ◌<◌, ◌≤◌, ⊤, Bool, true, false, List, ◌∷◌, ◌++◌, length, drop, IfSome, IsSomeAnd}
use Rattle.std.specs.Bool.{Decides}
use Rattle.std.specs.List.{AllByRecursion}
use Rattle.hist.specs.declared.event.Entry.{Entry}
use Rattle.hist.specs.declared.event.Why.{Why}
use Rattle.hist.specs.declared.event.Why.TheVariants as whys
use Rattle.hist.specs.declared.period.Period.{Period}
use Rattle.hist.specs.Period.{period_in}
use Rattle.report_lines.specs.declared.event.EventLine.{EventLine}
use Rattle.legal_report.specs.Counted.{counted}
use Rattle.legal_report.specs.Checks.{IsRightEvent}
use Rattle.legal_report.specs.Kept.{calls_told}
use Rattle.legal_report.specs.declared.tickets.Calls.{Calls}
use Rattle.report_check.specs.Holds.{is_held}
use Rattle.report_check.specs.Place.{StandsBehind, IsOpenHere}
use Rattle.report_check.specs.Whole.{IsWhole, FlushedBetween}
use Rattle.report_check.specs.Known.{calls_alone}
use Rattle.report_check.specs.declared.place.Place.{Place}
use Rattle.report_check.specs.declared.whole.Whole.{Whole}

-- the tickets before a touch of this period are below its block, those behind it above its beginning
pub record IsInTime (tickets : List ℕ) (place : Place) (q : Period) : Type 0 where
  pub before_block : IfSome q.blocked (λ b. place.above ≤ b)
  pub after_beginning : AllByRecursion (λ t. q.since < t) (drop place.entries tickets)

-- it is open to the core, and where it was freed, the core flushed for it
pub record IsAllowed (place : Place) (whole : Whole) (q : Period) : Type 0 where
  pub owner : IsOpenHere place.inside q.owner
  pub counted_flush : FlushedBetween whole.flushes q.blocked q.freed

-- a touch of this period in a log of these tickets
pub record IsSafeHere (tickets : List ℕ) (place : Place) (whole : Whole) (q : Period) : Type 0 where
  pub timely : IsInTime tickets place q
  pub allowed : IsAllowed place whole q

-- and the first since the last clearing entry
pub record IsNewHere (tickets : List ℕ) (place : Place) (whole : Whole) (r a : ℕ) (q : Period) : Type 0 where
  pub safe : IsSafeHere tickets place whole q
  pub untouched : is_held place.held r a ≡ false

-- of the period of the region that began at that ticket, which exists
abbrev pub IsTouchHere : List Entry → List ℕ → Place → Whole → ℕ → ℕ → Type 0
IsTouchHere calls tickets place whole r a =
    IsSomeAnd (period_in (counted calls) r a) (IsNewHere tickets place whole r a)

-- nothing follows the end of a core's budgets
abbrev pub EndsHere : Why → Bool → Type 0
EndsHere (whys.Trap cause value) last = ⊤
EndsHere whys.Limit last = last ≡ true

-- a stop at a line of the script, none before that of an earlier stop
pub record IsStopHere (place : Place) (line : ℕ) (why : Why) (last : Bool) : Type 0 where
  pub counted : line ≢ 0
  pub ascends : place.stop ≤ line
  pub ends : EndsHere why last

-- whether an event line is right, behind so many others and before those that are left
abbrev pub DecidesEvent : Calls → ℕ → Place → Whole → ℕ → EventLine → Bool → Type 0
DecidesEvent calls core place whole passed event right =
    (before behind : List EventLine) → length before ≡ passed → StandsBehind (calls_told calls) core before place
    → IsWhole (calls_told calls) core (before ++ event ∷ behind) whole
    → Decides right (IsRightEvent (calls_alone calls) core before event behind)
