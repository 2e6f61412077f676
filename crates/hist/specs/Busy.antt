-- What holds of each call that met a held lock, once it has its entry and before. This project's own.
use Rattle.std.specs.Prelude.{◌≡◌, ◌≢◌, ℕ, zero, suc, ◌+◌, ◌-◌, ◌<◌, ◌⊎◌, ⊤, Bool, ◌==◌, ◌&&◌, IsTrue, List, [], ◌∷◌, ◌++◌, length, take, filter, find, Contains, Option, None, IfSome, IsSomeAnd}
use Rattle.std.specs.List.{AllByRecursion}
use Rattle.mon_types.specs.Shape.{Shape}
use Rattle.mon_types.specs.declared.call.Call.{Call}
use Rattle.mon_types.specs.declared.object.ObjectId.{ObjectId}
use Rattle.mon_types.specs.declared.object.ObjectId.TheVariants as objects
use Rattle.mon_types.specs.declared.object.Tried.{Tried}
use Rattle.mon_types.specs.declared.reply.Reply.{Reply}
use Rattle.mon_types.specs.declared.reply.Reply.TheVariants as replies
use Rattle.mon_types.specs.Bits.{has_bit}
use Rattle.mon_model.specs.State.{start}
use Rattle.mon_model.specs.Tries.{tries, tried_set}
use Rattle.hist.specs.declared.event.Entry.{Entry}
use Rattle.hist.specs.declared.event.Event.{Event}
use Rattle.hist.specs.History.{history, after_entries}

-- ---- calls

-- a core's entries among these
abbrev pub own : ℕ → List Entry → List Entry
own core h = filter (λ e. e.core == core) h

-- the call of a core with this serial, if there is one
abbrev pub call_with_serial : List Entry → ℕ → ℕ → Option Entry
call_with_serial h core serial = find (λ e. e.core == core && e.serial == serial) h

-- the one before it, if there is one
abbrev pub call_before : List Entry → ℕ → ℕ → Option Entry
call_before h core zero = None
call_before h core (suc serial) = call_with_serial h core serial

-- What a core has under way: no call that still has to draw its ticket; one that has taken these objects, in this
-- order, and nothing else; or one that then found a lock held by the holder's call with this serial.
pub data UnderWay : Type 0 where
  Nothing : UnderWay
  Taking : (taken : List ObjectId) → UnderWay
  Refused : (call : Call) (taken : List ObjectId) (lock : ObjectId) (holder serial : ℕ) → UnderWay

-- no core has anything under way
abbrev pub idle : ℕ → UnderWay
idle core = Nothing

-- the objects that it has taken
abbrev pub taken_by : UnderWay → List ObjectId
taken_by Nothing = []
taken_by (Taking taken) = taken
taken_by (Refused call taken lock holder serial) = taken

-- a call that found a held lock counts as an entry with the next ticket, and its core's next serial
abbrev pub as_entry : List Entry → ℕ → UnderWay → List Entry
as_entry h core Nothing = []
as_entry h core (Taking taken) = []
as_entry h core (Refused call taken lock holder serial) =
    record {
      ticket = length h + 1;
      core = core;
      serial = length (own core h);
      call = call;
      page = None;
      reply = replies.ConcurrentCall lock holder serial;
      tried = tried_set (taken ++ lock ∷ []);
    }
    ∷ []

-- ---- the lock

-- whether an object is among those that a call tried
abbrev pub has_tried : Tried → ObjectId → Bool
has_tried tried (objects.Enclave e) = has_bit tried.enclaves e
has_tried tried (objects.Thread t) = has_bit tried.threads t
has_tried tried (objects.Region r) = has_bit tried.regions r
has_tried tried (objects.Cell c) = has_bit tried.cells c

-- the tried objects are the first of these up to this lock
pub record TriedUpTo (lock : ObjectId) (planned : List ObjectId) (tried : Tried) : Type 0 where
  pub before : List ObjectId
  pub behind : List ObjectId
  pub planned_are : planned ≡ before ++ lock ∷ behind
  pub tried_are : tried ≡ tried_set (before ++ lock ∷ [])

-- the call tried this lock, and if it found one held, that was another
pub record HasTaken (lock : ObjectId) (e : Entry) : Type 0 where
  pub tried : IsTrue (has_tried e.tried lock)
  pub another : (holder serial : ℕ) → e.reply ≢ replies.ConcurrentCall lock holder serial

-- The core's call with this serial has taken this lock: so its entry tells, or the core has it under way still, as
-- the call behind all its entries.
abbrev pub CallHasTaken : List Entry → (ℕ → UnderWay) → ℕ → ℕ → ObjectId → Type 0
CallHasTaken h now core serial lock =
    IsSomeAnd (call_with_serial h core serial) (HasTaken lock)
    ⊎ ((serial ≡ length (own core h)) × Contains (taken_by (now core)) lock)

-- ---- the entry

-- its core's tried objects are the first of those that the sequential monitor tries then, up to the lock
abbrev pub TriesUpTo : Shape → List Entry → Entry → ObjectId → Type 0
TriesUpTo shape h e lock =
    TriedUpTo lock (tries (after_entries (start shape) (take (e.ticket - 1) h)) e.core e.call) e.tried

-- the holder's call with this serial had begun: the call before it has a lower ticket than e
abbrev pub HasBegun : List Entry → Entry → ℕ → ℕ → Type 0
HasBegun h e holder serial = IfSome (call_before h holder serial) (λ x. x.ticket < e.ticket)

-- it was not over when the call of e's core before e was: the call behind it has a higher ticket than that
abbrev pub WasNotOver : List Entry → Entry → ℕ → ℕ → Type 0
WasNotOver h e holder serial =
    IfSome (call_with_serial h holder (serial + 1)) (λ x.
    IfSome (call_before h e.core e.serial) (λ own. own.ticket < x.ticket))

-- entry e names a lock that another core's call with this serial had taken then
pub record MetHeldLock (shape : Shape) (h : List Entry) (now : ℕ → UnderWay) (e : Entry) (lock : ObjectId)
    (holder serial : ℕ) : Type 0 where
  pub core : holder < shape.cores
  pub other : holder ≢ e.core
  pub tried : TriesUpTo shape h e lock
  pub held : CallHasTaken h now holder serial lock
  pub begun : HasBegun h e holder serial
  pub under_way : WasNotOver h e holder serial

-- an entry: where it answers ConcurrentCall, it met a held lock
abbrev pub IsRightlyBusy : Shape → List Entry → (ℕ → UnderWay) → Entry → Reply → Type 0
IsRightlyBusy shape h now e (replies.ConcurrentCall lock holder serial) = MetHeldLock shape h now e lock holder serial
IsRightlyBusy shape h now e _ = ⊤

-- all of these entries
abbrev pub AreRightlyBusy : Shape → List Entry → (ℕ → UnderWay) → List Entry → Type 0
AreRightlyBusy shape h now es = AllByRecursion (λ e. IsRightlyBusy shape h now e e.reply) es

-- each entry of the history, and what each core has under way now
pub record Busy (shape : Shape) (logs : List (List Event)) (now : ℕ → UnderWay) : Type 0 where
  pub entries : AreRightlyBusy shape (history logs) now (history logs)
  pub refused : (core : ℕ) → core < shape.cores
      → AreRightlyBusy shape (history logs) now (as_entry (history logs) core (now core))
