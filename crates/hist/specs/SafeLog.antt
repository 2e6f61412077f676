-- What holds of each touch in a core's log. This project's own.
use Rattle.std.specs.Prelude.{◌≡◌, ℕ, ◌<◌, ⊤, ◌&&◌, if◌then◌else◌, IsTrue, List, [], ◌∷◌, ◌++◌, length, fold, Any, Some, IfSome, IsSomeAnd}
use Rattle.std.specs.List.{AllByRecursion}
use Rattle.mon_types.specs.Shape.{Shape}
use Rattle.mon_types.specs.declared.region.Owner.{Owner}
use Rattle.mon_types.specs.declared.region.Owner.TheVariants as owners
use Rattle.mon_types.specs.declared.thread.Mode.{Mode}
use Rattle.mon_types.specs.declared.thread.Mode.TheVariants as modes
use Rattle.mon_types.specs.Replies.{is_done}
use Rattle.mon_model.specs.OnCore.{is_flush, clears, mode_by}
use Rattle.hist.specs.declared.event.Entry.{Entry}
use Rattle.hist.specs.declared.event.Event.{Event}
use Rattle.hist.specs.declared.event.Event.TheVariants as events
use Rattle.hist.specs.declared.period.Period.{Period}
use Rattle.hist.specs.History.{entries_of, log_of, history}
use Rattle.hist.specs.Period.{period_in}

-- an Ok of flush, enter, exit, aex or set_satp
abbrev pub IsClearing : Entry → Type 0
IsClearing e = IsTrue (is_done e.reply && clears e.call)

-- an Ok flush
abbrev pub IsFlush : Entry → Type 0
IsFlush e = IsTrue (is_done e.reply && is_flush e.call)

-- for whom a core runs after these entries of its log: an Ok enter, exit or aex changes it
abbrev pub mode_after : List Entry → Mode
mode_after es = fold (λ before e. if is_done e.reply then mode_by e.call before else before) modes.Os es

-- the OS, or the enclave that the core is inside
abbrev pub IsOpenTo : Mode → Owner → Type 0
IsOpenTo mode owners.Os = ⊤
IsOpenTo modes.Os (owners.Enclave e) = ⊥
IsOpenTo (modes.Inside f t) (owners.Enclave e) = f ≡ e

-- each equal touch among these events has a clearing entry behind it
abbrev pub ClearedSince : Event → List Event → Type 0
ClearedSince touch [] = ⊤
ClearedSince touch (event ∷ behind) = (event ≡ touch → Any IsClearing (entries_of behind)) × ClearedSince touch behind

-- A touch of the period p, where its core's log has these events before it and behind it: the entries
-- before it have tickets below the block of p and those behind it above the beginning of p; the owner is
-- the OS or the enclave that the core is inside; where p was freed, the core flushed behind the touch,
-- between the block and the free; and it cleared between this touch and each earlier one of p.
pub record IsSafeTouch (before : List Event) (touch : Event) (behind : List Event) (p : Period) : Type 0 where
  pub before_block : IfSome p.blocked (λ b. AllByRecursion (λ e. e.ticket < b) (entries_of before))
  pub after_beginning : AllByRecursion (λ e. p.since < e.ticket) (entries_of behind)
  pub owner : IsOpenTo (mode_after (entries_of before)) p.owner
  pub counted_flush : (b z : ℕ) → p.blocked ≡ Some b → p.freed ≡ Some z
      → Any (λ e. IsFlush e × (b < e.ticket) × (e.ticket < z)) (entries_of behind)
  pub cleared : ClearedSince touch before

-- A touch of (r, a) in a log: r is a region of the machine, and its period (r, a) exists and is touched safely.
pub record IsTouch (shape : Shape) (h : List Entry) (before : List Event) (r a : ℕ) (behind : List Event) : Type 0 where
  pub region : r < shape.regions
  pub period : IsSomeAnd (period_in h r a) (IsSafeTouch before (events.Touch r a) behind)

-- an event of a log: where it is a touch, it is one of a period of the history, and safe
abbrev pub IsSafe : Shape → List Entry → List Event → Event → List Event → Type 0
IsSafe shape h before (events.Entry e) behind = ⊤
IsSafe shape h before (events.Touch r a) behind = IsTouch shape h before r a behind
IsSafe shape h before (events.Stop line why) behind = ⊤

-- the events of a log behind these
abbrev pub AreSafe : Shape → List Entry → List Event → List Event → Type 0
AreSafe shape h before [] = ⊤
AreSafe shape h before (event ∷ behind) =
    IsSafe shape h before event behind × AreSafe shape h (before ++ event ∷ []) behind

-- the touches of each core's log
abbrev pub SafeLog : Shape → List (List Event) → Type 0
SafeLog shape logs = (core : ℕ) → core < length logs → AreSafe shape (history logs) [] (log_of logs core)
