-- The note that is made when a call finds a held lock, and what is kept of these notes. This project's own.
use Rattle.std.specs.Prelude.{◌≡◌, ◌≢◌, ℕ, ◌+◌, ◌<◌, ◌≤◌, ⊤, ◌==◌, if◌then◌else◌, List, [], ◌∷◌, ◌++◌, length, take, Contains}
use Rattle.std.specs.List.{AllByRecursion}
use Rattle.mon_types.specs.Shape.{Shape}
use Rattle.mon_types.specs.declared.call.Call.{Call}
use Rattle.mon_types.specs.declared.object.ObjectId.{ObjectId}
use Rattle.mon_types.specs.declared.object.Tried.{Tried}
use Rattle.mon_types.specs.declared.reply.Reply.{Reply}
use Rattle.mon_types.specs.declared.reply.Reply.TheVariants as replies
use Rattle.mon_model.specs.Tries.{tries, tried_set}
use Rattle.hist.specs.declared.event.Entry.{Entry}
use Rattle.hist.specs.Busy.{own, UnderWay, Nothing, Taking, Refused, TriedUpTo, taken_by, HasTaken, CallHasTaken, TriesUpTo}
use Rattle.hist_stands.specs.States.{state_now}

-- ---- one note

-- A call of the core, the one with serial `mine`, has found the lock held when k tickets were drawn: by a call of
-- another core of the machine, which has taken that lock. The core's calls before had drawn their tickets then; the
-- holder had drawn the tickets of its calls before that one, and of none behind it.
pub record Found (shape : Shape) (h : List Entry) (now : ℕ → UnderWay) (core mine : ℕ) (lock : ObjectId)
    (holder serial k : ℕ) : Type 0 where
  pub is_core : holder < shape.cores
  pub other : holder ≢ core
  pub drawn : k ≤ length h
  pub before : AllByRecursion (λ e. e.serial < mine → e.ticket ≤ k) (own core h)
  pub begun : serial ≤ length (own holder (take k h))
  pub under_way : length (own holder (take k h)) ≤ serial + 1
  pub held : CallHasTaken h now holder serial lock

-- ---- all notes

-- an entry: where it answers ConcurrentCall it has a note that was made before it drew its ticket, and has tried
-- what the sequential monitor tries, up to the lock
abbrev pub IsNoted : Shape → List Entry → (ℕ → UnderWay) → Entry → Reply → Type 0
IsNoted shape h now e (replies.ConcurrentCall lock holder serial) =
    (k : ℕ) × (k < e.ticket) × Found shape h now e.core e.serial lock holder serial k × TriesUpTo shape h e lock
IsNoted shape h now e _ = ⊤

-- a call that has no entry yet: where it has found a held lock, it has a note
abbrev pub IsCallNoted : Shape → List Entry → (ℕ → UnderWay) → ℕ → UnderWay → Type 0
IsCallNoted shape h now core Nothing = ⊤
IsCallNoted shape h now core (Taking taken) = ⊤
IsCallNoted shape h now core (Refused call taken lock holder serial) =
    (k : ℕ) × Found shape h now core (length (own core h)) lock holder serial k

-- each entry of the history, and what each core has under way
pub record Notes (shape : Shape) (h : List Entry) (now : ℕ → UnderWay) : Type 0 where
  pub entries : AllByRecursion (λ e. IsNoted shape h now e e.reply) h
  pub calls : (core : ℕ) → core < shape.cores → IsCallNoted shape h now core (now core)

-- ---- what a core does

-- this core has that under way, and the others what they had
abbrev pub with_call : (ℕ → UnderWay) → ℕ → UnderWay → ℕ → UnderWay
with_call now core call c = if core == c then call else now c

-- A core finds the lock held: by a call of another core of the machine that has taken it. That call is under way, so
-- the holder has drawn no ticket for it, or that one and none behind.
pub record Finds (shape : Shape) (h : List Entry) (now : ℕ → UnderWay) (core : ℕ) (lock : ObjectId)
    (holder serial : ℕ) : Type 0 where
  pub is_core : holder < shape.cores
  pub other : holder ≢ core
  pub begun : serial ≤ length (own holder h)
  pub under_way : length (own holder h) ≤ serial + 1
  pub held : CallHasTaken h now holder serial lock

-- the tried objects are the first of those that the sequential monitor tries now, up to the lock
abbrev pub PlansUpTo : Shape → List Entry → ℕ → Call → ObjectId → Tried → Type 0
PlansUpTo shape h core call lock tried = TriedUpTo lock (tries (state_now shape h) core call) tried

-- an entry that answers ConcurrentCall is that of the call which has found this lock held
abbrev pub IsOfRefused : Shape → List Entry → UnderWay → Entry → Reply → Type 0
IsOfRefused shape h call e (replies.ConcurrentCall lock holder serial) =
    (taken : List ObjectId) × (call ≡ Refused e.call taken lock holder serial)
    × PlansUpTo shape h e.core e.call lock e.tried
IsOfRefused shape h call e _ = ⊤

-- A core draws the next ticket for the call that it has under way, which gets this entry: with the core's next
-- serial, and with each object that it has taken among the tried ones.
pub record Draws (shape : Shape) (h : List Entry) (now : ℕ → UnderWay) (e : Entry) : Type 0 where
  pub of_core : e.core < shape.cores
  pub ticket : e.ticket ≡ length h + 1
  pub serial : e.serial ≡ length (own e.core h)
  pub took : (lock : ObjectId) → Contains (taken_by (now e.core)) lock → HasTaken lock e
  pub refused : IsOfRefused shape h (now e.core) e e.reply

-- a call that has found a held lock has tried the first of those objects that the monitor tries now, up to the lock
abbrev pub IsPlanned : Shape → List Entry → ℕ → UnderWay → Type 0
IsPlanned shape h core Nothing = ⊤
IsPlanned shape h core (Taking taken) = ⊤
IsPlanned shape h core (Refused call taken lock holder serial) =
    PlansUpTo shape h core call lock (tried_set (taken ++ lock ∷ []))
