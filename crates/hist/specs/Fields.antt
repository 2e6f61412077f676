-- The definitions of histories field by field, where one field is to fail and all others hold: what a run shows that
-- this field alone refuses. Each record has the fields of its definition in their order, and where no field is to fail
-- it is the definition, both ways (`ButNoneIs`, `IsButNone`). This project's own.
use Rattle.std.specs.Prelude.{◌≡◌, ◌≢◌, ℕ, ◌<◌, Bool, true, false, ◌==◌, IsTrue, List, length, Any, Some, IfSome, IsSomeAnd, is_some}
use Rattle.std.specs.List.{AllByRecursion}
use Rattle.mon_types.specs.Shape.{Shape}
use Rattle.mon_types.specs.declared.object.ObjectId.{ObjectId}
use Rattle.mon_types.specs.declared.reply.Reply.TheVariants as replies
use Rattle.mon_model.specs.State.{State, start}
use Rattle.mon_types.specs.Replies.{is_concurrent}
use Rattle.mon_model.specs.Step.{monitor_step}
use Rattle.mon_model.specs.Tries.{tries, tried_set}
use Rattle.hist.specs.declared.event.Entry.{Entry}
use Rattle.hist.specs.declared.event.Event.{Event}
use Rattle.hist.specs.declared.event.Event.TheVariants as events
use Rattle.hist.specs.declared.period.Period.{Period}
use Rattle.hist.specs.History.{entries_of, history, digest_of}
use Rattle.hist.specs.Legal.{AreTickets, IsNextOwn, AreOwnLogs, has_its_page, IsLegalEntry, AreLegalEntries, Legal}
use Rattle.hist.specs.Period.{period_in}
use Rattle.hist.specs.SafeLog.{IsFlush, mode_after, IsOpenTo, ClearedSince, IsSafeTouch, IsTouch}
use Rattle.hist.specs.Busy.{UnderWay, as_entry, has_tried, HasTaken, CallHasTaken, TriesUpTo, HasBegun, WasNotOver, MetHeldLock, AreRightlyBusy, Busy}

-- a fact, or where it is to fail, that it fails
abbrev pub HoldsUnless : Bool → Type 0 → Type 0
HoldsUnless true P = ¬ P
HoldsUnless false P = P

-- the fact of the field with this number, counted from 0, where the field with number `failing` is to fail
abbrev pub Field : ℕ → ℕ → Type 0 → Type 0
Field failing number P = HoldsUnless (failing == number) P

-- ---- Legal

-- `Legal`, but for this field
pub record LegalBut (failing : ℕ) (shape : Shape) (logs : List (List Event)) : Type 0 where
  pub count : Field failing 0 (length logs ≡ shape.cores)
  pub tickets : Field failing 1 (AreTickets 1 (history logs))
  pub own : Field failing 2 (AreOwnLogs logs)
  pub entries : Field failing 3 (AreLegalEntries (start shape) (history logs))

-- `IsNextOwn`, but for this field
pub record NextBut (failing owner next before : ℕ) (e : Entry) : Type 0 where
  pub core : Field failing 0 (e.core ≡ owner)
  pub serial : Field failing 1 (e.serial ≡ next)
  pub ascends : Field failing 2 (before < e.ticket)

-- `IsLegalEntry`, but for this field
pub record EntryBut (failing : ℕ) (s : State) (e : Entry) : Type 0 where
  pub reply : Field failing 0 (is_concurrent e.reply ≡ false
      → e.reply ≡ (monitor_step s e.core e.call (digest_of e.page) e.ticket).1)
  pub tried : Field failing 1 (is_concurrent e.reply ≡ false → e.tried ≡ tried_set (tries s e.core e.call))
  pub page : Field failing 2 (is_some e.page ≡ has_its_page e)

-- ---- Busy

-- `Busy`, but for this field
pub record BusyBut (failing : ℕ) (shape : Shape) (logs : List (List Event)) (now : ℕ → UnderWay) : Type 0 where
  pub entries : Field failing 0 (AreRightlyBusy shape (history logs) now (history logs))
  pub refused : Field failing 1 ((core : ℕ) → core < shape.cores
      → AreRightlyBusy shape (history logs) now (as_entry (history logs) core (now core)))

-- `MetHeldLock`, but for this field
pub record LockBut (failing : ℕ) (shape : Shape) (h : List Entry) (now : ℕ → UnderWay) (e : Entry) (lock : ObjectId)
    (holder serial : ℕ) : Type 0 where
  pub core : Field failing 0 (holder < shape.cores)
  pub other : Field failing 1 (holder ≢ e.core)
  pub tried : Field failing 2 (TriesUpTo shape h e lock)
  pub held : Field failing 3 (CallHasTaken h now holder serial lock)
  pub begun : Field failing 4 (HasBegun h e holder serial)
  pub under_way : Field failing 5 (WasNotOver h e holder serial)

-- `HasTaken`, but for this field
pub record TakenBut (failing : ℕ) (lock : ObjectId) (e : Entry) : Type 0 where
  pub tried : Field failing 0 (IsTrue (has_tried e.tried lock))
  pub another : Field failing 1 ((holder serial : ℕ) → e.reply ≢ replies.ConcurrentCall lock holder serial)

-- ---- SafeLog

-- `IsTouch`, but for this field
pub record TouchBut (failing : ℕ) (shape : Shape) (h : List Entry) (before : List Event) (r a : ℕ)
    (behind : List Event) : Type 0 where
  pub region : Field failing 0 (r < shape.regions)
  pub period : Field failing 1 (IsSomeAnd (period_in h r a) (IsSafeTouch before (events.Touch r a) behind))

-- `IsSafeTouch`, but for this field
pub record SafeTouchBut (failing : ℕ) (before : List Event) (touch : Event) (behind : List Event)
    (p : Period) : Type 0 where
  pub before_block : Field failing 0 (IfSome p.blocked (λ b. AllByRecursion (λ e. e.ticket < b) (entries_of before)))
  pub after_beginning : Field failing 1 (AllByRecursion (λ e. p.since < e.ticket) (entries_of behind))
  pub owner : Field failing 2 (IsOpenTo (mode_after (entries_of before)) p.owner)
  pub counted_flush : Field failing 3 ((b z : ℕ) → p.blocked ≡ Some b → p.freed ≡ Some z
      → Any (λ e. IsFlush e × (b < e.ticket) × (e.ticket < z)) (entries_of behind))
  pub cleared : Field failing 4 (ClearedSince touch before)

-- ---- where no field is to fail

-- past the last field of each definition
abbrev pub none : ℕ
none = 9

-- A definition field by field with none that fails gives the definition,
pub record ButNoneIs : Type 0 where
  pub legal : (shape : Shape) (logs : List (List Event)) → LegalBut none shape logs → Legal shape logs
  pub next : (owner next before : ℕ) (e : Entry) → NextBut none owner next before e → IsNextOwn owner next before e
  pub entry : (s : State) (e : Entry) → EntryBut none s e → IsLegalEntry s e
  pub busy : (shape : Shape) (logs : List (List Event)) (now : ℕ → UnderWay) → BusyBut none shape logs now
      → Busy shape logs now
  pub lock : (shape : Shape) (h : List Entry) (now : ℕ → UnderWay) (e : Entry) (lock : ObjectId) (holder serial : ℕ)
      → LockBut none shape h now e lock holder serial → MetHeldLock shape h now e lock holder serial
  pub taken : (lock : ObjectId) (e : Entry) → TakenBut none lock e → HasTaken lock e
  pub touch : (shape : Shape) (h : List Entry) (before : List Event) (r a : ℕ) (behind : List Event)
      → TouchBut none shape h before r a behind → IsTouch shape h before r a behind
  pub safe : (before : List Event) (touch : Event) (behind : List Event) (p : Period)
      → SafeTouchBut none before touch behind p → IsSafeTouch before touch behind p

-- and the definition gives it back: so where a run fails this field alone, it fails the definition's field.
pub record IsButNone : Type 0 where
  pub legal : (shape : Shape) (logs : List (List Event)) → Legal shape logs
      → LegalBut none shape logs
  pub next : (owner next before : ℕ) (e : Entry) → IsNextOwn owner next before e
      → NextBut none owner next before e
  pub entry : (s : State) (e : Entry) → IsLegalEntry s e
      → EntryBut none s e
  pub busy : (shape : Shape) (logs : List (List Event)) (now : ℕ → UnderWay) → Busy shape logs now
      → BusyBut none shape logs now
  pub lock : (shape : Shape) (h : List Entry) (now : ℕ → UnderWay) (e : Entry) (lock : ObjectId) (holder serial : ℕ)
      → MetHeldLock shape h now e lock holder serial → LockBut none shape h now e lock holder serial
  pub taken : (lock : ObjectId) (e : Entry) → HasTaken lock e
      → TakenBut none lock e
  pub touch : (shape : Shape) (h : List Entry) (before : List Event) (r a : ℕ) (behind : List Event)
      → IsTouch shape h before r a behind → TouchBut none shape h before r a behind
  pub safe : (before : List Event) (touch : Event) (behind : List Event) (p : Period)
      → IsSafeTouch before touch behind p → SafeTouchBut none before touch behind p
