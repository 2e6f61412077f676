-- When a touch is safe, read off the tickets of the entry lines of its log. This project's own.
use Rattle.std.specs.Prelude.{◌≡◌, ℕ, ◌<◌, false, List, ◌∷◌, ◌++◌, map, filter, Any, Some, IfSome, IsSomeAnd}
use Rattle.std.specs.List.{AllByRecursion}
use Rattle.hist.specs.declared.event.Entry.{Entry}
use Rattle.hist.specs.declared.period.Period.{Period}
use Rattle.hist.specs.Period.{period_in}
use Rattle.hist.specs.SafeLog.{mode_after, IsOpenTo, IsTouch}
use Rattle.hist.specs.Touched.{is_touched}
use Rattle.mon_types.specs.Shape.{Shape}
use Rattle.report_lines.specs.declared.event.EventLine.{EventLine}
use Rattle.legal_report.specs.Counted.{counted, entry_named, events_named}
use Rattle.legal_report.specs.Drawn.{tickets_in, is_flush_named}

-- A touch of period q between these event lines of a core's log: the tickets before it are below its block, those
-- behind it above its beginning; the owner is one for whom the core runs then; where it was freed, some flush of the
-- log, at whichever place, has a ticket between its block and its freeing; and it is not touched already.
pub record IsSafeByTickets (calls : List Entry) (core : ℕ) (before : List EventLine) (r a : ℕ)
    (behind : List EventLine) (q : Period) : Type 0 where
  pub before_block : IfSome q.blocked (λ b. AllByRecursion (λ t. t < b) (tickets_in before))
  pub after_beginning : AllByRecursion (λ t. q.since < t) (tickets_in behind)
  pub owner : IsOpenTo (mode_after (map (entry_named calls core) (tickets_in before))) q.owner
  pub counted_flush : (b z : ℕ) → q.blocked ≡ Some b → q.freed ≡ Some z
      → Any (λ t. (b < t) × (t < z)) (filter (is_flush_named calls core) (tickets_in before ++ tickets_in behind))
  pub untouched : is_touched r a (events_named calls core before) ≡ false

-- the touch line of a region of the machine, of a period that is touched so
pub record IsTouchByTickets (shape : Shape) (calls : List Entry) (core : ℕ) (before : List EventLine) (r a : ℕ)
    (behind : List EventLine) : Type 0 where
  pub region : r < shape.regions
  pub period : IsSomeAnd (period_in (counted calls) r a) (IsSafeByTickets calls core before r a behind)

-- a touch is safe exactly where its tickets tell that it is
abbrev pub TicketsTellTouches : Type 0
TicketsTellTouches =
    (shape : Shape) (calls : List Entry) (core : ℕ) (before : List EventLine) (r a : ℕ) (behind : List EventLine)
    → (IsTouch shape (counted calls) (events_named calls core before) r a (events_named calls core behind)
    → IsTouchByTickets shape calls core before r a behind)
    × (IsTouchByTickets shape calls core before r a behind
    → IsTouch shape (counted calls) (events_named calls core before) r a (events_named calls core behind))
