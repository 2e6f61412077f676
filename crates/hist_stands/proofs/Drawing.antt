-- The notes of refusals stay as entries are drawn: the note of a call becomes that of its entry.
use Rattle.std.proofs.Common.{◌≡◌, ℕ, ◌+◌, ◌-◌, ◌<◌, ◌≤◌, ◌⊎◌, ◌==◌, ◌&&◌, if◌then◌else◌, List, [], ◌∷◌, ◌++◌, length, take, Option, Some, None, refl, sym, ap, subst, ◌∙◌, inl, inr, arith}
use Rattle.std.specs.Prelude.{Any, IsSomeAnd, Contains}
use Rattle.std.specs.Option.{option_or}
use Rattle.std.specs.List.{AllByRecursion}
use Rattle.std.proofs.lemmas.List.{take-append-le, take_all}
use Rattle.std.proofs.lemmas.List.Folds.{find-append}
use Rattle.std.proofs.lemmas.Bool.{cases_eq, eq-eqb, ne_eqb}
use Rattle.mon_types.specs.Shape.{Shape}
use Rattle.mon_types.specs.declared.object.ObjectId.{ObjectId}
use Rattle.mon_types.specs.declared.reply.Reply.{Reply}
use Rattle.mon_types.specs.declared.reply.Reply.TheVariants as replies
use Rattle.mon_model.specs.Tries.{tries}
use Rattle.hist.specs.declared.event.Entry.{Entry}
use Rattle.hist.specs.declared.event.Event.{Event}
use Rattle.hist.specs.Legal.{AreOwn}
use Rattle.hist.specs.Busy.{own, call_with_serial, UnderWay, Nothing, Taking, Refused, taken_by, TriedUpTo, HasTaken, CallHasTaken}
use Rattle.hist.proofs.Ordered.{all_weaker, all_joined}
use Rattle.hist.proofs.Anys.{any_here, any_later, any_is, any_own}
use Rattle.hist.proofs.Owns.{own_more, own_there}
use Rattle.hist_stands.specs.States.{state_now}
use Rattle.hist_stands.specs.Stands.{Stands}
use Rattle.hist_stands.specs.Found.{Found, IsNoted, IsCallNoted, Notes, with_call, IsOfRefused, Draws}
use Rattle.hist_stands.proofs.Tickets.{length_more}
use Rattle.hist_stands.proofs.Grows.{drawn_all}
use Rattle.hist_stands.proofs.Serials.{call_of, serials_below}

pub some_or : (o p : Option Entry) (P : Entry → Type 0) → IsSomeAnd o P → IsSomeAnd (option_or o p) P
some_or (Some x) p P is = is
some_or None p P is = absurd is

all_each : (P : Entry → Type 0) (es : List Entry) → ((y : Entry) → Any (λ z. z ≡ y) es → P y) → AllByRecursion P es
all_each P [] each = tt
all_each P (e ∷ es) each =
    (each e (any_here (λ z. z ≡ e) e es refl), all_each P es (λ y any. each y (any_later (λ z. z ≡ y) e es any)))

all_both : (P Q : Entry → Type 0) (es : List Entry) → AllByRecursion P es → AllByRecursion Q es
    → AllByRecursion (λ e. P e × Q e) es
all_both P Q [] p q = tt
all_both P Q (e ∷ es) p q = ((p.0, q.0), all_both P Q es p.1 q.1)

module _ (shape : Shape) (h : List Entry) (log : ℕ → List Event) (stands : Stands shape h log) (now : ℕ → UnderWay)
    (x : Entry) (draws : Draws shape h now x) where
  pub mine_of : (core : ℕ) → core < shape.cores → AreOwn core 0 0 (own core h)
  mine_of core lt = subst (AreOwn core 0 0) (stands.mine core lt) (stands.serials core lt)

  pub find_more : (core serial : ℕ)
      → call_with_serial (h ++ x ∷ []) core serial
      ≡ option_or (call_with_serial h core serial) (if x.core == core && x.serial == serial then Some x else None)
  find_more core serial = find-append (λ y. y.core == core && y.serial == serial) h (x ∷ [])

  -- a core has no call yet with the serial that is its next
  no_call : (core : ℕ) (y : Entry) → core < shape.cores → call_with_serial h core (length (own core h)) ≡ Some y → ⊥
  no_call core y lt is =
      let call = call_of h core (length (own core h)) y is in
      let among = any_own (λ z. z ≡ y) core h (λ z same. ap (λ (w : Entry). w.core) same ∙ call.of_core) call.among in
      let low = any_is y (λ e. e.serial < length (own core h)) (own core h)
      (serials_below core (own core h) (mine_of core lt)) among in
      omega (arith, low, call.is_serial)

  -- the holder's entry tells what its call had taken
  pub drawn_held : (holder : ℕ) (lock : ObjectId) → holder < shape.cores → x.core ≡ holder
      → Contains (taken_by (now holder)) lock
      → IsSomeAnd (call_with_serial (h ++ x ∷ []) holder (length (own holder h))) (HasTaken lock)
  drawn_held holder lock lt whose has =
      subst (λ (o : Option Entry). IsSomeAnd o (HasTaken lock)) (sym (find_more holder (length (own holder h))))
      (by (call_with_serial h holder (length (own holder h))) refl)
    where
      at : x.serial ≡ length (own holder h)
      at = draws.serial ∙ ap (λ (c : ℕ). length (own c h)) whose

      took : HasTaken lock x
      took = draws.took lock (subst (λ (c : ℕ). Contains (taken_by (now c)) lock) (sym whose) has)

      by : (o : Option Entry) → call_with_serial h holder (length (own holder h)) ≡ o
          → IsSomeAnd (option_or o (if x.core == holder && x.serial == length (own holder h) then Some x else None))
          (HasTaken lock)
      by None none =
          subst (λ b. IsSomeAnd (if b && x.serial == length (own holder h) then Some x else None) (HasTaken lock))
          (sym (eq-eqb x.core holder whose))
          (subst (λ b. IsSomeAnd (if b then Some x else None) (HasTaken lock))
          (sym (eq-eqb x.serial (length (own holder h)) at)) took)
      by (Some y) some = absurd (no_call holder y lt some)

  held_more : (holder serial : ℕ) (lock : ObjectId) → holder < shape.cores → CallHasTaken h now holder serial lock
      → CallHasTaken (h ++ x ∷ []) (with_call now x.core Nothing) holder serial lock
  held_more holder serial lock lt (inl past) =
      inl (subst (λ (o : Option Entry). IsSomeAnd o (HasTaken lock)) (sym (find_more holder serial))
      (some_or (call_with_serial h holder serial) (if x.core == holder && x.serial == serial then Some x else None)
      (HasTaken lock) past))
  held_more holder serial lock lt (inr alive) = elim (cases_eq x.core holder) [
    | inl whose ↦
        inl (subst (λ (i : ℕ). IsSomeAnd (call_with_serial (h ++ x ∷ []) holder i) (HasTaken lock)) (sym alive.0)
        (drawn_held holder lock lt whose alive.1))
    | inr ne ↦
        inr (
          alive.0 ∙ ap length (sym (own_there holder h x ne)),
          subst (λ b. Contains (taken_by (if b then Nothing else now holder)) lock)
              (sym (ne_eqb x.core holder ne)) alive.1,
        )
  ]

  before_more : (core mine k : ℕ) → (x.core ≡ core → mine ≤ x.serial)
      → AllByRecursion (λ y. y.serial < mine → y.ticket ≤ k) (own core h)
      → AllByRecursion (λ y. y.serial < mine → y.ticket ≤ k) (own core (h ++ x ∷ []))
  before_more core mine k late before =
      subst (AllByRecursion (λ y. y.serial < mine → y.ticket ≤ k)) (sym (own_more core h x))
      (all_joined (λ y. y.serial < mine → y.ticket ≤ k) (own core h) (if x.core == core then x ∷ [] else []) before
      (last (cases_eq x.core core)))
    where
      last : (x.core ≡ core) ⊎ (x.core ≡ core → ⊥)
          → AllByRecursion (λ y. y.serial < mine → y.ticket ≤ k) (if x.core == core then x ∷ [] else [])
      last (inl is) =
          subst (λ b. AllByRecursion (λ y. y.serial < mine → y.ticket ≤ k) (if b then x ∷ [] else []))
          (sym (eq-eqb x.core core is))
          ((λ lt. absurd (omega (arith, lt, late is))), tt)
      last (inr ne) = subst (λ b. AllByRecursion (λ y. y.serial < mine → y.ticket ≤ k) (if b then x ∷ [] else []))
          (sym (ne_eqb x.core core ne)) tt

  found_more : (core mine : ℕ) (lock : ObjectId) (holder serial k : ℕ) → (x.core ≡ core → mine ≤ x.serial)
      → Found shape h now core mine lock holder serial k
      → Found shape (h ++ x ∷ []) (with_call now x.core Nothing) core mine lock holder serial k
  found_more core mine lock holder serial k late found =
      let same : take k h ≡ take k (h ++ x ∷ []) = sym (take-append-le k h (x ∷ []) found.drawn) in
      record {
        is_core = found.is_core;
        other = found.other;
        drawn = omega (arith, found.drawn, length_more h x);
        before = before_more core mine k late found.before;
        begun = subst (λ (es : List Entry). serial ≤ length (own holder es)) same found.begun;
        under_way = subst (λ (es : List Entry). length (own holder es) ≤ serial + 1) same found.under_way;
        held = held_more holder serial lock found.is_core found.held;
      }

  -- the entries so far
  noted_more : (y : Entry) (reply : Reply) → y.ticket ≤ length h → y.serial < length (own y.core h)
      → IsNoted shape h now y reply → IsNoted shape (h ++ x ∷ []) (with_call now x.core Nothing) y reply
  noted_more y (replies.ConcurrentCall lock holder serial) le less noted = (
    noted.0,
    noted.1,
    found_more y.core y.serial lock holder serial noted.0
        (λ whose. omega (arith, less, draws.serial, ap (λ (c : ℕ). length (own c h)) whose)) noted.2,
    subst (λ (es : List Entry). TriedUpTo lock (tries (state_now shape es) y.core y.call) y.tried)
        (sym (take-append-le (y.ticket - 1) h (x ∷ []) (omega (arith, le)))) noted.3,
  )
  noted_more y _ le less noted = tt

  serials_all : AllByRecursion (λ y. y.serial < length (own y.core h)) h
  serials_all =
      all_each (λ y. y.serial < length (own y.core h)) h (λ y any.
      any_is y (λ e. e.serial < length (own y.core h)) (own y.core h)
      (serials_below y.core (own y.core h)
      (mine_of y.core (any_is y (λ e. e.core < shape.cores) h stands.cores any)))
      (any_own (λ z. z ≡ y) y.core h (λ z is. ap (λ (w : Entry). w.core) is) any))

  -- the entry itself
  noted_now : (reply : Reply) → IsOfRefused shape h (now x.core) x reply → IsCallNoted shape h now x.core (now x.core)
      → IsNoted shape (h ++ x ∷ []) (with_call now x.core Nothing) x reply
  noted_now (replies.ConcurrentCall lock holder serial) refused noted =
      let note = subst (IsCallNoted shape h now x.core) refused.1 noted in
      let more = found_more x.core (length (own x.core h)) lock holder serial note.0
      (λ same. omega (arith, draws.serial)) note.1 in (
        note.0,
        omega (arith, note.1.drawn, draws.ticket),
        subst (λ (i : ℕ). Found shape (h ++ x ∷ []) (with_call now x.core Nothing) x.core i lock holder serial note.0)
            (sym draws.serial) more,
        subst (λ (es : List Entry). TriedUpTo lock (tries (state_now shape es) x.core x.call) x.tried)
            (sym drawn_then) refused.2,
      )
    where
      drawn_then : take (x.ticket - 1) (h ++ x ∷ []) ≡ h
      drawn_then = take-append-le (x.ticket - 1) h (x ∷ []) (omega (arith, draws.ticket))
          ∙ take_all (x.ticket - 1) h (omega (arith, draws.ticket))
  noted_now _ refused noted = tt

  call_noted_more : (core : ℕ) (call : UnderWay) → (x.core ≡ core → ⊥) → IsCallNoted shape h now core call
      → IsCallNoted shape (h ++ x ∷ []) (with_call now x.core Nothing) core call
  call_noted_more core Nothing ne noted = tt
  call_noted_more core (Taking taken) ne noted = tt
  call_noted_more core (Refused call taken lock holder serial) ne noted = (
    noted.0,
    subst (λ (es : List Entry). Found shape (h ++ x ∷ []) (with_call now x.core Nothing) core
        (length es) lock holder serial noted.0) (sym (own_there core h x ne))
        (found_more core (length (own core h)) lock holder serial noted.0 (λ is. absurd (ne is)) noted.1),
  )

  pub notes_drawn : Notes shape h now → Notes shape (h ++ x ∷ []) (with_call now x.core Nothing)
  notes_drawn notes = record {
    entries =
        all_joined (λ y. IsNoted shape (h ++ x ∷ []) (with_call now x.core Nothing) y y.reply) h (x ∷ [])
        (all_weaker (λ y. (IsNoted shape h now y y.reply × (y.ticket ≤ length h)) × (y.serial < length (own y.core h)))
        (λ y. IsNoted shape (h ++ x ∷ []) (with_call now x.core Nothing) y y.reply)
        (λ y is. noted_more y y.reply is.0.1 is.1 is.0.0) h
        (all_both (λ y. IsNoted shape h now y y.reply × (y.ticket ≤ length h)) (λ y. y.serial < length (own y.core h)) h
        (all_both (λ y. IsNoted shape h now y y.reply) (λ y. y.ticket ≤ length h) h notes.entries
        (drawn_all shape h log stands)) serials_all))
        (noted_now x.reply draws.refused (notes.calls x.core draws.of_core), tt);
    calls = λ core lt. elim (cases_eq x.core core) [
      | inl is ↦ subst (λ b. IsCallNoted shape (h ++ x ∷ []) (with_call now x.core Nothing) core
          (if b then Nothing else now core)) (sym (eq-eqb x.core core is)) tt
      | inr ne ↦
          subst (λ b. IsCallNoted shape (h ++ x ∷ []) (with_call now x.core Nothing) core
          (if b then Nothing else now core)) (sym (ne_eqb x.core core ne))
          (call_noted_more core (now core) ne (notes.calls core lt))
    ];
  }
