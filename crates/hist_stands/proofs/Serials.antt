-- A core's call with a serial, and when its ticket was drawn.
use Rattle.std.proofs.Common.{◌≡◌, ℕ, zero, suc, ◌+◌, ◌<◌, ◌≤◌, ◌⊎◌, Bool, true, false, ◌==◌, ◌&&◌, if◌then◌else◌, List, [], ◌∷◌, ◌++◌, length, take, drop, find, Option, Some, None, refl, sym, ap, subst, ◌∙◌, inl, inr, arith, append-nil}
use Rattle.std.specs.Prelude.{Any, IfSome}
use Rattle.std.specs.List.{AllByRecursion}
use Rattle.std.proofs.lemmas.List.{take-append-drop}
use Rattle.std.proofs.lemmas.List.Elements.{filter-append}
use Rattle.std.proofs.lemmas.Bool.{and_parts, eqb-true}
use Rattle.mon_types.specs.Shape.{Shape}
use Rattle.hist.specs.declared.event.Entry.{Entry}
use Rattle.hist.specs.Legal.{AreOwn}
use Rattle.hist.specs.Busy.{own, call_with_serial, call_before}
use Rattle.hist.proofs.Ordered.{all_weaker}
use Rattle.hist.proofs.Anys.{any_here, any_later, any_is, any_own, any_either}
use Rattle.hist.proofs.Owns.{own_all}
use Rattle.hist_stands.specs.States.{IsHistory}
use Rattle.hist_stands.proofs.Tickets.{tickets_from}
use Rattle.hist_stands.proofs.Cuts.{take_long, goes_at}

-- what is found stands in the list, and passes
found_in : (test : Entry → Bool) (es : List Entry) (x : Entry) → find test es ≡ Some x
    → Any (λ y. (y ≡ x) × (test y ≡ true)) es
found_in test [] x is = cc
found_in test (e ∷ es) x is = by (test e) refl is (found_in test es x)
  where
    by : (b : Bool) → test e ≡ b → (if b then Some e else find test es) ≡ Some x
        → (find test es ≡ Some x → Any (λ y. (y ≡ x) × (test y ≡ true)) es)
        → Any (λ y. (y ≡ x) × (test y ≡ true)) (e ∷ es)
    by true passes found later = let same : e ≡ x = cc in any_here (λ y. (y ≡ x) × (test y ≡ true)) e es (same, passes)
    by false fails found later = any_later (λ y. (y ≡ x) × (test y ≡ true)) e es (later found)

-- a call of this core with this serial
pub record CallOf (h : List Entry) (core serial : ℕ) (x : Entry) : Type 0 where
  pub of_core : x.core ≡ core
  pub is_serial : x.serial ≡ serial
  pub among : Any (λ y. y ≡ x) h

pub call_of : (h : List Entry) (core serial : ℕ) (x : Entry) → call_with_serial h core serial ≡ Some x
    → CallOf h core serial x
call_of h core serial x is =
    let found = found_in (λ y. y.core == core && y.serial == serial) h x is in
    let passes : (x.core == core && x.serial == serial)
    ≡ true = subst (λ (y : Entry). (y.core == core && y.serial == serial) ≡ true) found.4.0 found.4.1 in
    let both = and_parts (x.core == core) (x.serial == serial) passes in
    record {
      of_core = eqb-true x.core core both.0;
      is_serial = eqb-true x.serial serial both.1;
      among =
          (found.0, found.1, found.2, found.3, found.4.0);
    }

-- the serials of a core's first calls are below their number, those of the others are not
serials_split : (core first before : ℕ) (xs ys : List Entry) → AreOwn core first before (xs ++ ys)
    → AllByRecursion (λ x. x.serial < first + length xs) xs × AllByRecursion (λ y. first + length xs ≤ y.serial) ys
serials_split core first before [] [] mine = (tt, tt)
serials_split core first before [] (y ∷ ys) mine =
    let rest = serials_split core (first + 1) y.ticket [] ys mine.1 in (
      tt,
      (
        omega (arith, mine.0.serial),
        all_weaker (λ x. first + 1 + 0 ≤ x.serial) (λ x. first + 0 ≤ x.serial)
            (λ x le. omega arith) ys rest.1,
      ),
    )
serials_split core first before (x ∷ xs) ys mine =
    let rest = serials_split core (first + 1) x.ticket xs ys mine.1 in (
      (
        omega (arith, mine.0.serial),
        all_weaker (λ y. y.serial < first + 1 + length xs)
            (λ y. y.serial < first + length (x ∷ xs)) (λ y lt. omega arith) xs rest.0,
      ),
      all_weaker (λ y. first + 1 + length xs ≤ y.serial) (λ y. first + length (x ∷ xs) ≤ y.serial)
          (λ y le. omega arith) ys rest.1,
    )

-- all are below the number of its calls
pub serials_below : (core : ℕ) (es : List Entry) → AreOwn core 0 0 es → AllByRecursion (λ x. x.serial < length es) es
serials_below core es mine =
    all_weaker (λ x. x.serial < 0 + length es) (λ x. x.serial < length es) (λ x lt. omega arith) es
    (serials_split core 0 0 es [] (subst (AreOwn core 0 0) (sym (append-nil es)) mine)).0

-- ---- when k tickets were drawn

module _ (shape : Shape) (h : List Entry) (history : IsHistory shape h) (core : ℕ)
    (mine : AreOwn core 0 0 (own core h)) (k : ℕ) (upto : k ≤ length h) (serial : ℕ) (x : Entry)
    (call : CallOf h core serial x) where
  halves : own core h ≡ own core (take k h) ++ own core (drop k h)
  halves = ap (own core) (sym (take-append-drop k h))
      ∙ filter-append (λ (e : Entry). e.core == core) (take k h) (drop k h)

  split : AllByRecursion (λ e. e.serial < 0 + length (own core (take k h))) (own core (take k h)) × AllByRecursion
      (λ e. 0 + length (own core (take k h)) ≤ e.serial) (own core (drop k h))
  split = serials_split core 0 0 (own core (take k h)) (own core (drop k h)) (subst (AreOwn core 0 0) halves mine)

  in_half : Any (λ y. y ≡ x) (own core (take k h)) ⊎ Any (λ y. y ≡ x) (own core (drop k h))
  in_half =
      any_either (λ y. y ≡ x) (own core (take k h)) (own core (drop k h))
      (subst (Any (λ y. y ≡ x)) halves
      (any_own (λ y. y ≡ x) core h (λ y is. ap (λ (z : Entry). z.core) is ∙ call.of_core) call.among))

  -- a call with a serial below the number of the core's entries then had its ticket
  pub was_drawn : serial < length (own core (take k h)) → x.ticket ≤ k
  was_drawn lt = elim in_half [
    | inl early ↦
        let low = any_is x (λ e. e.ticket ≤ length (take k h)) (own core (take k h))
        (own_all (λ e. e.ticket ≤ length (take k h)) core (take k h)
        (goes_at shape h k history upto).known.drawn) early in
        omega (arith, low, take_long h k upto)
    | inr late ↦
        let past = any_is x (λ e. 0 + length (own core (take k h)) ≤ e.serial) (own core (drop k h)) split.1 late in
        absurd (omega (arith, past, call.is_serial, lt))
  ]

  -- one with another has drawn it since
  pub drawn_since : length (own core (take k h)) ≤ serial → k < x.ticket
  drawn_since le = elim in_half [
    | inl early ↦
        let low = any_is x (λ e. e.serial < 0 + length (own core (take k h))) (own core (take k h)) split.0 early in
        absurd (omega (arith, low, call.is_serial, le))
    | inr late ↦
        let above = tickets_from k (length (take k h) + 1) (drop k h) (omega (arith, take_long h k upto))
        (goes_at shape h k history upto).tickets in
        any_is x (λ e. k < e.ticket) (own core (drop k h)) (own_all (λ e. k < e.ticket) core (drop k h) above) late
  ]

-- ---- what holds of a call, if there is one

pub if_call : (o : Option Entry) (P : Entry → Type 0) → ((x : Entry) → o ≡ Some x → P x) → IfSome o P
if_call None P each = tt
if_call (Some x) P each = each x refl

pub if_before : (h : List Entry) (core serial : ℕ) (P : Entry → Type 0)
    → ((x : Entry) (i : ℕ) → serial ≡ suc i → call_with_serial h core i ≡ Some x → P x)
    → IfSome (call_before h core serial) P
if_before h core zero P each = tt
if_before h core (suc i) P each = if_call (call_with_serial h core i) P (λ x is. each x i refl is)
