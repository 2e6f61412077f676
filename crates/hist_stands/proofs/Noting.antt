-- The notes of refusals stay as objects are taken, and a call that finds a held lock makes its note.
use Rattle.std.proofs.Common.{◌≡◌, ℕ, zero, suc, ◌+◌, ◌<◌, ◌≤◌, if◌then◌else◌, List, [], ◌∷◌, ◌++◌, length, take, sym, subst, inl, inr, arith}
use Rattle.std.specs.Prelude.{Contains}
use Rattle.std.proofs.lemmas.List.{take_all}
use Rattle.std.proofs.lemmas.Bool.{cases_eq, eq-eqb, ne_eqb}
use Rattle.mon_types.specs.Shape.{Shape}
use Rattle.mon_types.specs.declared.call.Call.{Call}
use Rattle.mon_types.specs.declared.object.ObjectId.{ObjectId}
use Rattle.mon_types.specs.declared.reply.Reply.{Reply}
use Rattle.mon_types.specs.declared.reply.Reply.TheVariants as replies
use Rattle.hist.specs.declared.event.Entry.{Entry}
use Rattle.hist.specs.declared.event.Event.{Event}
use Rattle.hist.specs.Busy.{own, UnderWay, Nothing, Taking, Refused, taken_by, CallHasTaken}
use Rattle.hist.proofs.Ordered.{all_weaker}
use Rattle.hist.proofs.Owns.{own_all}
use Rattle.hist_stands.specs.Stands.{Stands}
use Rattle.hist_stands.specs.Found.{Found, IsNoted, IsCallNoted, Notes, with_call, Finds}
use Rattle.hist_stands.proofs.Grows.{drawn_all}

-- ---- where another core has something else under way

each_call : (P : ℕ → UnderWay → Type 0) (now : ℕ → UnderWay) (core : ℕ) (call : UnderWay) (c : ℕ) → P core call
    → P c (now c) → P c (with_call now core call c)
each_call P now core call c new old = elim (cases_eq core c) [
  | inl is ↦ subst (λ b. P c (if b then call else now c)) (sym (eq-eqb core c is)) (subst (λ (i : ℕ). P i call) is new)
  | inr ne ↦ subst (λ b. P c (if b then call else now c)) (sym (ne_eqb core c ne)) old
]

-- each core has taken what it had taken
abbrev TakeOn : (ℕ → UnderWay) → (ℕ → UnderWay) → Type 0
TakeOn now after = (core : ℕ) (lock : ObjectId) → Contains (taken_by (now core)) lock
    → Contains (taken_by (after core)) lock

held_on : (h : List Entry) (now after : ℕ → UnderWay) → TakeOn now after → (core serial : ℕ) (lock : ObjectId)
    → CallHasTaken h now core serial lock → CallHasTaken h after core serial lock
held_on h now after more core serial lock (inl past) = inl past
held_on h now after more core serial lock (inr alive) = inr (alive.0, more core lock alive.1)

found_on : (shape : Shape) (h : List Entry) (now after : ℕ → UnderWay) → TakeOn now after
    → (core mine : ℕ) (lock : ObjectId) (holder serial k : ℕ)
    → Found shape h now core mine lock holder serial k → Found shape h after core mine lock holder serial k
found_on shape h now after more core mine lock holder serial k found = record {
  is_core = found.is_core;
  other = found.other;
  drawn = found.drawn;
  before = found.before;
  begun = found.begun;
  under_way = found.under_way;
  held = held_on h now after more holder serial lock found.held;
}

noted_on : (shape : Shape) (h : List Entry) (now after : ℕ → UnderWay) → TakeOn now after → (e : Entry) (reply : Reply)
    → IsNoted shape h now e reply → IsNoted shape h after e reply
noted_on shape h now after more e (replies.ConcurrentCall lock holder serial) noted =
    (noted.0, noted.1, found_on shape h now after more e.core e.serial lock holder serial noted.0 noted.2, noted.3)
noted_on shape h now after more e _ noted = tt

call_noted_on : (shape : Shape) (h : List Entry) (now after : ℕ → UnderWay) → TakeOn now after
    → (core : ℕ) (call : UnderWay) → IsCallNoted shape h now core call → IsCallNoted shape h after core call
call_noted_on shape h now after more core Nothing noted = tt
call_noted_on shape h now after more core (Taking taken) noted = tt
call_noted_on shape h now after more core (Refused call taken lock holder serial) noted =
    (noted.0, found_on shape h now after more core (length (own core h)) lock holder serial noted.0 noted.1)

-- one core has something else under way, which is noted
notes_with : (shape : Shape) (h : List Entry) (now : ℕ → UnderWay) (core : ℕ) (call : UnderWay)
    → TakeOn now (with_call now core call) → IsCallNoted shape h (with_call now core call) core call
    → Notes shape h now → Notes shape h (with_call now core call)
notes_with shape h now core call more new notes = record {
  entries =
      all_weaker (λ e. IsNoted shape h now e e.reply) (λ e. IsNoted shape h (with_call now core call) e e.reply)
      (λ e noted. noted_on shape h now (with_call now core call) more e e.reply noted) h notes.entries;
  calls = λ c lt.
      each_call (λ i u. IsCallNoted shape h (with_call now core call) i u) now core call c new
      (call_noted_on shape h now (with_call now core call) more c (now c) (notes.calls c lt));
}

-- ---- an object is taken

contains_before : (xs ys : List ObjectId) (x : ObjectId) → Contains xs x → Contains (xs ++ ys) x
contains_before [] ys x has = absurd (omega (arith, has.1))
contains_before (y ∷ xs) ys x (zero, lt, is) = (zero, omega arith, is)
contains_before (y ∷ xs) ys x (suc i, lt, is) = let rest = contains_before xs ys x (i, omega (arith, lt), is) in
    (suc rest.0, omega (arith, rest.1), rest.2)

pub notes_taken : (shape : Shape) (h : List Entry) (now : ℕ → UnderWay) → Notes shape h now
    → (core : ℕ) (lock : ObjectId)
    → Notes shape h (with_call now core (Taking (taken_by (now core) ++ lock ∷ [])))
notes_taken shape h now notes core lock =
    notes_with shape h now core (Taking (taken_by (now core) ++ lock ∷ []))
    (λ c o has. each_call (λ i u. Contains (taken_by (now i)) o → Contains (taken_by u) o) now core
    (Taking (taken_by (now core) ++ lock ∷ [])) c
    (λ old. contains_before (taken_by (now core)) (lock ∷ []) o old) (λ old. old) has)
    tt notes

-- ---- a lock is found held

pub notes_refused : (shape : Shape) (h : List Entry) (log : ℕ → List Event) → Stands shape h log → (now : ℕ → UnderWay)
    → Notes shape h now → (core : ℕ) → core < shape.cores
    → (call : Call) (lock : ObjectId) (holder serial : ℕ) → Finds shape h now core lock holder serial
    → Notes shape h (with_call now core (Refused call (taken_by (now core)) lock holder serial))
notes_refused shape h log stands now notes core lt call lock holder serial finds =
    notes_with shape h now core (Refused call (taken_by (now core)) lock holder serial) same (length h, found) notes
  where
    same : TakeOn now (with_call now core (Refused call (taken_by (now core)) lock holder serial))
    same c o has =
        each_call (λ i u. Contains (taken_by (now i)) o → Contains (taken_by u) o) now core
        (Refused call (taken_by (now core)) lock holder serial) c
        (λ old. old) (λ old. old) has

    all : h ≡ take (length h) h
    all = sym (take_all (length h) h (omega arith))

    found : Found shape h (with_call now core (Refused call (taken_by (now core)) lock holder serial)) core
        (length (own core h)) lock holder serial (length h)
    found = record {
      is_core = finds.is_core;
      other = finds.other;
      drawn = omega arith;
      before =
          all_weaker (λ e. e.ticket ≤ length h) (λ e. e.serial < length (own core h) → e.ticket ≤ length h)
          (λ e le less. le) (own core h)
          (own_all (λ e. e.ticket ≤ length h) core h (drawn_all shape h log stands));
      begun = subst (λ (es : List Entry). serial ≤ length (own holder es)) all finds.begun;
      under_way = subst (λ (es : List Entry). length (own holder es) ≤ serial + 1) all finds.under_way;
      held = held_on h now
          (with_call now core (Refused call
          (taken_by (now core)) lock holder serial)) same holder serial lock finds.held;
    }
