-- Whether a call met a lock that another core's call had taken.
use Rattle.std.proofs.Common.{◌≡◌, ◌≢◌, ℕ, zero, suc, ◌+◌, ◌-◌, ◌<◌, ◌≤◌, ◌⊎◌, ◌&&◌, not, Bool, true, false, List, [], ◌∷◌, ◌++◌, length, take, get_or, slice_get, Option, Some, None, refl, sym, ap, subst, ◌∙◌, arith, inl, inr}
use Rattle.std.specs.Prelude.{IsTrue, IsSomeAnd, IfSome}
use Rattle.std.specs.Bool.{Decides}
use Rattle.std.specs.Option.{option_map}
use Rattle.std.proofs.lemmas.Bool.{true≢false}
use Rattle.mon_types.specs.Shape.{Shape}
use Rattle.mon_types.specs.declared.object.ObjectId.{ObjectId}
use Rattle.mon_types.specs.declared.reply.Reply.{Reply}
use Rattle.mon_types.specs.declared.reply.Reply.TheVariants as replies
use Rattle.mon_model.specs.State.{State, start}
use Rattle.mon_model.specs.Tries.{tries}
use Rattle.mon_seq.specs.UpTo.{IsFrontTo}
use Rattle.hist.specs.declared.event.Entry.{Entry}
use Rattle.hist.specs.History.{after_entries}
use Rattle.hist.specs.Busy.{own, call_with_serial, call_before, idle, has_tried, TriedUpTo, HasTaken, CallHasTaken, TriesUpTo, HasBegun, WasNotOver, MetHeldLock}
use Rattle.legal_report.specs.Counted.{counted, counted_behind, counted_from, tickets_of, state_behind}
use Rattle.legal_report.specs.Kept.{ticket_before, BegunBy, NotOverBy}
use Rattle.legal_report.proofs.Counting.{CalledAt, called_at, not_called, tickets_tell, before_tells}

-- ---- what a call has taken

pub took_by : (lock : ObjectId) (e : Entry) (tried met : Bool) → tried ≡ has_tried e.tried lock → Decides met ((holder : ℕ) × (serial : ℕ) × (e.reply ≡ replies.ConcurrentCall lock holder serial)) → Decides (tried && not met) (HasTaken lock e)
took_by lock e true true t d = (λ is. absurd (true≢false (sym is)), λ took. absurd (let w = d.0 refl in took.another w.0 w.1 w.2))
took_by lock e true false t d = (λ is. record { tried = sym t; another = λ holder serial is. true≢false (sym (d.1 (holder, serial, is))) }, λ took. refl)
took_by lock e false met t d = (λ is. absurd (true≢false (sym is)), λ took. absurd (true≢false (sym took.tried ∙ sym t)))

same_some : {A : Type 0} (x y : A) → Some x ≡ Some y → x ≡ y
same_some x y e = cc

pub not_taken : (calls : List Entry) (core serial : ℕ) (lock : ObjectId) → slice_get (tickets_of calls core) serial ≡ None → CallHasTaken (counted calls) idle core serial lock → ⊥
not_taken calls core serial lock none (inl some) = subst (λ (o : Option Entry). IsSomeAnd o (HasTaken lock)) (not_called calls core serial none) some
not_taken calls core serial lock none (inr (s, (k, lt, is))) = omega (arith, lt)

-- a call has a place
pub record HasPlace (calls : List Entry) (ticket : ℕ) : Type 0 where
  pub some : 0 < ticket
  pub inside : ticket - 1 < length calls

pub has_place : (calls : List Entry) (core serial ticket : ℕ) → slice_get (tickets_of calls core) serial ≡ Some ticket → HasPlace calls ticket
has_place calls core serial ticket is =
    let at = called_at calls core serial ticket is in
    record { some = omega (arith, at.is_place); inside = omega (arith, at.is_place, at.inside) }

pub taken_at : (calls : List Entry) (core serial ticket : ℕ) (lock : ObjectId) (e : Entry) (b : Bool) → slice_get (tickets_of calls core) serial ≡ Some ticket → slice_get calls (ticket - 1) ≡ Some e → Decides b (HasTaken lock e)
    → Decides b (CallHasTaken (counted calls) idle core serial lock)
taken_at calls core serial ticket lock e b is there d = (λ yes. inl (taken (d.0 yes)), λ has. d.1 (took has))
  where
    at : CalledAt calls core serial ticket
    at = called_at calls core serial ticket is

    same : at.entry ≡ e
    same = same_some at.entry e (sym at.there ∙ ap (λ (n : ℕ). slice_get calls n) {x = at.place} {y = ticket - 1} (omega (arith, at.is_place)) ∙ there)

    taken : HasTaken lock e → IsSomeAnd (call_with_serial (counted calls) core serial) (HasTaken lock)
    taken t =
        let was = subst (HasTaken lock) (sym same) t in
        subst (λ (o : Option Entry). IsSomeAnd o (HasTaken lock)) (sym at.call) (record { tried = was.tried; another = was.another })

    took : CallHasTaken (counted calls) idle core serial lock → HasTaken lock e
    took (inl some) =
        let was = subst (λ (o : Option Entry). IsSomeAnd o (HasTaken lock)) at.call some in
        subst (HasTaken lock) same (record { tried = was.tried; another = was.another })
    took (inr (s, (k, lt, e))) = absurd (omega (arith, lt))

-- ---- when it was under way

if_told : {A : Type 0} (f : A → ℕ) (o : Option A) (P : ℕ → Type 0) → IfSome (option_map f o) P → IfSome o (λ x. P (f x))
if_told f None P h = tt
if_told f (Some x) P h = h

if_tells : {A : Type 0} (f : A → ℕ) (o : Option A) (P : ℕ → Type 0) → IfSome o (λ x. P (f x)) → IfSome (option_map f o) P
if_tells f None P h = tt
if_tells f (Some x) P h = h

pub begun_told : (calls : List Entry) (holder serial : ℕ) (e : Entry) (theirs : List ℕ) → theirs ≡ tickets_of calls holder → BegunBy theirs serial e.ticket → HasBegun (counted calls) e holder serial
begun_told calls holder serial e theirs t begun =
    if_told (λ (x : Entry). x.ticket) (call_before (counted calls) holder serial) (λ n. n < e.ticket)
    (subst (λ (o : Option ℕ). IfSome o (λ n. n < e.ticket)) (ap (λ (ts : List ℕ). ticket_before ts serial) t ∙ before_tells calls holder serial) begun)

pub begun_tells : (calls : List Entry) (holder serial : ℕ) (e : Entry) (theirs : List ℕ) → theirs ≡ tickets_of calls holder → HasBegun (counted calls) e holder serial → BegunBy theirs serial e.ticket
begun_tells calls holder serial e theirs t begun =
    subst (λ (o : Option ℕ). IfSome o (λ n. n < e.ticket)) (sym (ap (λ (ts : List ℕ). ticket_before ts serial) t ∙ before_tells calls holder serial))
    (if_tells (λ (x : Entry). x.ticket) (call_before (counted calls) holder serial) (λ n. n < e.ticket) begun)

if_weaker : {A : Type 0} (o : Option A) (P Q : A → Type 0) → ((x : A) → P x → Q x) → IfSome o P → IfSome o Q
if_weaker None P Q step h = tt
if_weaker (Some x) P Q step h = step x h

pub over_told : (calls : List Entry) (holder serial : ℕ) (e : Entry) (theirs mine : List ℕ) → theirs ≡ tickets_of calls holder → mine ≡ tickets_of calls e.core → NotOverBy theirs serial mine e.serial → WasNotOver (counted calls) e holder serial
over_told calls holder serial e theirs mine t m over =
    let inner : (n : ℕ) → IfSome (ticket_before mine e.serial) (λ o. o < n) → IfSome (call_before (counted calls) e.core e.serial) (λ x. x.ticket < n) = λ n h.
    if_told (λ (x : Entry). x.ticket) (call_before (counted calls) e.core e.serial) (λ o. o < n)
    (subst (λ (o : Option ℕ). IfSome o (λ o. o < n)) (ap (λ (ts : List ℕ). ticket_before ts e.serial) m ∙ before_tells calls e.core e.serial) h) in
    if_weaker (call_with_serial (counted calls) holder (serial + 1)) (λ x. IfSome (ticket_before mine e.serial) (λ o. o < x.ticket)) (λ x. IfSome (call_before (counted calls) e.core e.serial) (λ own. own.ticket < x.ticket)) (λ x h. inner x.ticket h)
    (if_told (λ (x : Entry). x.ticket) (call_with_serial (counted calls) holder (serial + 1)) (λ n. IfSome (ticket_before mine e.serial) (λ o. o < n))
    (subst (λ (o : Option ℕ). IfSome o (λ n. IfSome (ticket_before mine e.serial) (λ o. o < n))) (ap (λ (ts : List ℕ). slice_get ts (serial + 1)) t ∙ tickets_tell calls holder (serial + 1)) over))

pub over_tells : (calls : List Entry) (holder serial : ℕ) (e : Entry) (theirs mine : List ℕ) → theirs ≡ tickets_of calls holder → mine ≡ tickets_of calls e.core → WasNotOver (counted calls) e holder serial → NotOverBy theirs serial mine e.serial
over_tells calls holder serial e theirs mine t m over =
    let inner : (n : ℕ) → IfSome (call_before (counted calls) e.core e.serial) (λ x. x.ticket < n) → IfSome (ticket_before mine e.serial) (λ o. o < n) = λ n h.
    subst (λ (o : Option ℕ). IfSome o (λ o. o < n)) (sym (ap (λ (ts : List ℕ). ticket_before ts e.serial) m ∙ before_tells calls e.core e.serial))
    (if_tells (λ (x : Entry). x.ticket) (call_before (counted calls) e.core e.serial) (λ o. o < n) h) in
    subst (λ (o : Option ℕ). IfSome o (λ n. IfSome (ticket_before mine e.serial) (λ o. o < n))) (sym (ap (λ (ts : List ℕ). slice_get ts (serial + 1)) t ∙ tickets_tell calls holder (serial + 1)))
    (if_tells (λ (x : Entry). x.ticket) (call_with_serial (counted calls) holder (serial + 1)) (λ n. IfSome (ticket_before mine e.serial) (λ o. o < n))
    (if_weaker (call_with_serial (counted calls) holder (serial + 1)) (λ x. IfSome (call_before (counted calls) e.core e.serial) (λ own. own.ticket < x.ticket)) (λ x. IfSome (ticket_before mine e.serial) (λ o. o < x.ticket)) (λ x h. inner x.ticket h) over))

-- ---- what it tried up to the lock

counted_take : (before es : List Entry) (k : ℕ) → take k (counted_from before es) ≡ counted_from before (take k es)
counted_take before [] zero = refl
counted_take before [] (suc k) = refl
counted_take before (e ∷ es) zero = refl
counted_take before (e ∷ es) (suc k) = ap (λ (xs : List Entry). counted_behind before e ∷ xs) (counted_take (before ++ e ∷ []) es k)

state_then : (shape : Shape) (calls : List Entry) (k : ℕ) (e : Entry) → e.ticket ≡ k + 1 → after_entries (start shape) (take (e.ticket - 1) (counted calls)) ≡ state_behind shape (take k calls)
state_then shape calls k e ticket =
    ap (λ (n : ℕ). after_entries (start shape) (take n (counted calls))) {x = e.ticket - 1} {y = k} (omega (arith, ticket)) ∙ ap (after_entries (start shape)) (counted_take [] calls k)

pub front_told : (shape : Shape) (calls : List Entry) (k : ℕ) (e : Entry) (lock : ObjectId) (s : State) → e.ticket ≡ k + 1 → s ≡ state_behind shape (take k calls) → IsFrontTo lock (tries s e.core e.call) e.tried → TriesUpTo shape (counted calls) e lock
front_told shape calls k e lock s ticket state front =
    subst (λ (x : State). TriedUpTo lock (tries x e.core e.call) e.tried) (state ∙ sym (state_then shape calls k e ticket))
    (record { before = front.before; behind = front.behind; planned_are = front.planned_are; tried_are = front.tried_are })

pub front_tells : (shape : Shape) (calls : List Entry) (k : ℕ) (e : Entry) (lock : ObjectId) (s : State) → e.ticket ≡ k + 1 → s ≡ state_behind shape (take k calls) → TriesUpTo shape (counted calls) e lock → IsFrontTo lock (tries s e.core e.call) e.tried
front_tells shape calls k e lock s ticket state up =
    let there = subst (λ (x : State). TriedUpTo lock (tries x e.core e.call) e.tried) (sym (state ∙ sym (state_then shape calls k e ticket))) up in
    record { before = there.before; behind = there.behind; planned_are = there.planned_are; tried_are = there.tried_are }

-- ---- all of it

pub met_by : (shape : Shape) (calls : List Entry) (e : Entry) (lock : ObjectId) (holder serial : ℕ) (theirs mine : List ℕ) (begun over : Bool) → theirs ≡ tickets_of calls holder → mine ≡ tickets_of calls e.core
    → holder < shape.cores → (holder ≢ e.core) → TriesUpTo shape (counted calls) e lock → CallHasTaken (counted calls) idle holder serial lock
    → Decides begun (BegunBy theirs serial e.ticket) → Decides over (NotOverBy theirs serial mine e.serial) → Decides (begun && over) (MetHeldLock shape (counted calls) idle e lock holder serial)
met_by shape calls e lock holder serial theirs mine true true t m core other tried held b o = (
  λ is. record {
    core = core;
    other = other;
    tried = tried;
    held = held;
    begun = begun_told calls holder serial e theirs t (b.0 refl);
    under_way = over_told calls holder serial e theirs mine t m (o.0 refl);
  },
  λ met. refl,
)
met_by shape calls e lock holder serial theirs mine true false t m core other tried held b o =
    (λ is. absurd (true≢false (sym is)), λ met. absurd (true≢false (sym (o.1 (over_tells calls holder serial e theirs mine t m met.under_way)))))
met_by shape calls e lock holder serial theirs mine false over t m core other tried held b o =
    (λ is. absurd (true≢false (sym is)), λ met. absurd (true≢false (sym (b.1 (begun_tells calls holder serial e theirs t met.begun)))))
