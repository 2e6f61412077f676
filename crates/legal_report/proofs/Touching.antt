-- A touch is safe exactly where the tickets of the entry lines of its log tell that it is.
use Rattle.std.proofs.Common.{◌≡◌, ℕ, zero, suc, ◌+◌, ◌<◌, ◌≤◌, ◌⊎◌, ◌==◌, ◌&&◌, Bool, true, false, if◌then◌else◌, List, [], ◌∷◌, ◌++◌, length, map, filter, find, get_or, Option, Some, None, refl, sym, ap, subst, ◌∙◌, arith, inl, inr}
use Rattle.std.specs.Prelude.{Any, IfSome, IsSomeAnd}
use Rattle.std.specs.List.{AllByRecursion, flat_map}
use Rattle.std.specs.Option.{unwrap_or}
use Rattle.std.proofs.lemmas.Bool.{eqb-true, and_parts, cases_Bool}
use Rattle.std.proofs.lemmas.List.Elements.{filter-append}
use Rattle.mon_types.specs.Shape.{Shape}
use Rattle.mon_types.specs.Replies.{is_done}
use Rattle.mon_model.specs.OnCore.{is_flush}
use Rattle.hist.specs.declared.event.Entry.{Entry}
use Rattle.hist.specs.declared.event.Event.{Event}
use Rattle.hist.specs.declared.event.Event.TheVariants as events
use Rattle.hist.specs.declared.period.Period.{Period}
use Rattle.hist.specs.History.{entries_of, entry_in}
use Rattle.hist.specs.Period.{period_in}
use Rattle.hist.specs.SafeLog.{IsFlush, mode_after, IsOpenTo, IsSafeTouch, IsTouch}
use Rattle.hist.proofs.Touching.{untouched_cleared, cleared_untouched}
use Rattle.report_lines.specs.declared.event.EventLine.{EventLine}
use Rattle.report_lines.specs.declared.event.EventLine.TheVariants as lines
use Rattle.legal_report.specs.Counted.{counted, nothing_done, ticket_in, entry_named, event_named, events_named}
use Rattle.legal_report.specs.Drawn.{tickets_in, is_flush_named, call_with_ticket}
use Rattle.legal_report.specs.ByTickets.{IsSafeByTickets, IsTouchByTickets, TicketsTellTouches}

-- ---- the entries that lines name

entries_named : (calls : List Entry) (core : ℕ) (log : List EventLine) → entries_of (events_named calls core log) ≡ map (entry_named calls core) (tickets_in log)
entries_named calls core [] = refl
entries_named calls core (lines.Entry ticket ∷ log) = ap (λ (es : List Entry). entry_named calls core ticket ∷ es) (entries_named calls core log)
entries_named calls core (lines.Touch region since ∷ log) = entries_named calls core log
entries_named calls core (lines.Stop line why ∷ log) = entries_named calls core log

found_passes : (test : Entry → Bool) (es : List Entry) (x : Entry) → find test es ≡ Some x → test x ≡ true
found_passes test [] x is = absurd cc
found_passes test (e ∷ es) x is = by (test e) refl is (found_passes test es x)
  where
    by : (b : Bool) → test e ≡ b → (if b then Some e else find test es) ≡ Some x → (find test es ≡ Some x → test x ≡ true) → test x ≡ true
    by true passes found later = let same : e ≡ x = cc in ap test (sym same) ∙ passes
    by false fails found later = later found

named_ticket : (calls : List Entry) (core t : ℕ) → (entry_named calls core t).ticket ≡ t
named_ticket calls core t = by (call_with_ticket calls core t) refl
  where
    by : (o : Option Entry) → call_with_ticket calls core t ≡ o → (unwrap_or o (nothing_done core t)).ticket ≡ t
    by None is = refl
    by (Some e) is =
        let passes : (e.core == core && e.ticket == t) ≡ true = found_passes (λ x. x.core == core && x.ticket == t) (counted calls) e is in
        eqb-true e.ticket t (and_parts (e.core == core) (e.ticket == t) passes).1

-- ---- all of them

all_told : (calls : List Entry) (core : ℕ) (P : ℕ → Type 0) (ts : List ℕ) → AllByRecursion (λ e. P e.ticket) (map (entry_named calls core) ts) → AllByRecursion P ts
all_told calls core P [] all = tt
all_told calls core P (t ∷ ts) all = (subst P (named_ticket calls core t) all.0, all_told calls core P ts all.1)

all_tell : (calls : List Entry) (core : ℕ) (P : ℕ → Type 0) (ts : List ℕ) → AllByRecursion P ts → AllByRecursion (λ e. P e.ticket) (map (entry_named calls core) ts)
all_tell calls core P [] all = tt
all_tell calls core P (t ∷ ts) all = (subst P (sym (named_ticket calls core t)) all.0, all_tell calls core P ts all.1)

-- ---- one of them

module _ {X : Type 0} (P : X → Type 0) where
  any_first : (x : X) (xs : List X) → P x → Any P (x ∷ xs)
  any_first x xs here = (0, x, omega arith, refl, here)

  any_next : (x : X) (xs : List X) → Any P xs → Any P (x ∷ xs)
  any_next x xs later = (suc later.0, later.1, omega (arith, later.2), later.3, later.4)

  any_split : (x : X) (xs : List X) → Any P (x ∷ xs) → P x ⊎ Any P xs
  any_split x xs (zero, y, lt, is, holds) = inl (subst P (sym is) holds)
  any_split x xs (suc i, y, lt, is, holds) = inr (i, y, omega (arith, lt), is, holds)

  any_nowhere : Any P [] → ⊥
  any_nowhere any = omega (arith, any.2)

-- a flush between two tickets
abbrev Between : ℕ → ℕ → ℕ → Type 0
Between b z t = (b < t) × (t < z)

abbrev FlushBetween : ℕ → ℕ → Entry → Type 0
FlushBetween b z e = IsFlush e × (b < e.ticket) × (e.ticket < z)

module _ (calls : List Entry) (core b z : ℕ) where
  kept_by : (t : ℕ) (ts : List ℕ) (c : Bool) → is_flush_named calls core t ≡ c → Any (Between b z) (if c then t ∷ filter (is_flush_named calls core) ts else filter (is_flush_named calls core) ts)
      → (IsFlush (entry_named calls core t) × Between b z t) ⊎ Any (Between b z) (filter (is_flush_named calls core) ts)
  kept_by t ts false is any = inr any
  kept_by t ts true is any = elim (any_split (Between b z) t (filter (is_flush_named calls core) ts) any) [
    | inl here ↦ inl (is, here)
    | inr later ↦ inr later
  ]

  any_tells : (ts : List ℕ) → Any (Between b z) (filter (is_flush_named calls core) ts) → Any (FlushBetween b z) (map (entry_named calls core) ts)
  any_tells [] any = absurd (any_nowhere (Between b z) any)
  any_tells (t ∷ ts) any = elim (kept_by t ts (is_flush_named calls core t) refl any) [
    | inl here ↦
        any_first (FlushBetween b z) (entry_named calls core t) (map (entry_named calls core) ts)
        (here.0, subst (λ (n : ℕ). b < n) (sym (named_ticket calls core t)) here.1.0, subst (λ (n : ℕ). n < z) (sym (named_ticket calls core t)) here.1.1)
    | inr later ↦ any_next (FlushBetween b z) (entry_named calls core t) (map (entry_named calls core) ts) (any_tells ts later)
  ]

  any_told : (ts : List ℕ) → Any (FlushBetween b z) (map (entry_named calls core) ts) → Any (Between b z) (filter (is_flush_named calls core) ts)
  any_told [] any = absurd (any_nowhere (FlushBetween b z) any)
  any_told (t ∷ ts) any = elim (any_split (FlushBetween b z) (entry_named calls core t) (map (entry_named calls core) ts) any) [
    | inl here ↦
        subst (λ (c : Bool). Any (Between b z) (if c then t ∷ filter (is_flush_named calls core) ts else filter (is_flush_named calls core) ts)) (sym here.0)
        (any_first (Between b z) t (filter (is_flush_named calls core) ts)
        (subst (λ (n : ℕ). b < n) (named_ticket calls core t) here.1, subst (λ (n : ℕ). n < z) (named_ticket calls core t) here.2))
    | inr later ↦ elim (is_flush_named calls core t) as (λ c. Any (Between b z) (if c then t ∷ filter (is_flush_named calls core) ts else filter (is_flush_named calls core) ts)) [
      | true ↦ any_next (Between b z) t (filter (is_flush_named calls core) ts) (any_told ts later)
      | false ↦ any_told ts later
    ]
  ]

  any_of_back : (xs ys : List ℕ) → Any (Between b z) ys → Any (Between b z) (xs ++ ys)
  any_of_back [] ys any = any
  any_of_back (x ∷ xs) ys any = any_next (Between b z) x (xs ++ ys) (any_of_back xs ys any)

  abbrev Flushes : List ℕ → List ℕ
  Flushes ts = filter (is_flush_named calls core) ts

  -- one that is not above b, before others
  one_low : (t : ℕ) (ts ys : List ℕ) (c : Bool) → t < b → (Any (Between b z) (Flushes ts ++ ys) → Any (Between b z) ys) → Any (Between b z) ((if c then t ∷ Flushes ts else Flushes ts) ++ ys) → Any (Between b z) ys
  one_low t ts ys false low later any = later any
  one_low t ts ys true low later any = elim (any_split (Between b z) t (Flushes ts ++ ys) any) [
    | inl here ↦ absurd (omega (arith, here.0, low))
    | inr rest ↦ later rest
  ]

  -- none of these is above b
  none_low : (ts ys : List ℕ) → AllByRecursion (λ t. t < b) ts → Any (Between b z) (Flushes ts ++ ys) → Any (Between b z) ys
  none_low [] ys low any = any
  none_low (t ∷ ts) ys low any = one_low t ts ys (is_flush_named calls core t) low.0 (none_low ts ys low.1) any

-- ---- a touch

module _ (calls : List Entry) (core : ℕ) (before : List EventLine) (r a : ℕ) (behind : List EventLine) where
  if_block : (o : Option ℕ) → IfSome o (λ b. AllByRecursion (λ e. e.ticket < b) (map (entry_named calls core) (tickets_in before))) → IfSome o (λ b. AllByRecursion (λ t. t < b) (tickets_in before))
  if_block None all = tt
  if_block (Some b) all = all_told calls core (λ t. t < b) (tickets_in before) all

  if_blocked : (o : Option ℕ) → IfSome o (λ b. AllByRecursion (λ t. t < b) (tickets_in before)) → IfSome o (λ b. AllByRecursion (λ e. e.ticket < b) (map (entry_named calls core) (tickets_in before)))
  if_blocked None all = tt
  if_blocked (Some b) all = all_tell calls core (λ t. t < b) (tickets_in before) all

  front : entries_of (events_named calls core before) ≡ map (entry_named calls core) (tickets_in before)
  front = entries_named calls core before

  back : entries_of (events_named calls core behind) ≡ map (entry_named calls core) (tickets_in behind)
  back = entries_named calls core behind

  safe_told : (q : Period) → IsSafeTouch (events_named calls core before) (events.Touch r a) (events_named calls core behind) q → IsSafeByTickets calls core before r a behind q
  safe_told q safe = record {
    before_block = if_block q.blocked (subst (λ (es : List Entry). IfSome q.blocked (λ b. AllByRecursion (λ e. e.ticket < b) es)) front safe.before_block);
    after_beginning = all_told calls core (λ t. q.since < t) (tickets_in behind) (subst (AllByRecursion (λ e. q.since < e.ticket)) back safe.after_beginning);
    owner = subst (λ (es : List Entry). IsOpenTo (mode_after es) q.owner) front safe.owner;
    counted_flush = λ b z blocked freed.
        subst (Any (Between b z)) (sym (filter-append (is_flush_named calls core) (tickets_in before) (tickets_in behind)))
        (any_of_back calls core b z (filter (is_flush_named calls core) (tickets_in before)) (filter (is_flush_named calls core) (tickets_in behind))
        (any_told calls core b z (tickets_in behind) (subst (Any (FlushBetween b z)) back (safe.counted_flush b z blocked freed))));
    untouched = cleared_untouched r a (events_named calls core before) safe.cleared;
  }

  safe_tell : (q : Period) → IsSafeByTickets calls core before r a behind q → IsSafeTouch (events_named calls core before) (events.Touch r a) (events_named calls core behind) q
  safe_tell q safe = record {
    before_block = subst (λ (es : List Entry). IfSome q.blocked (λ b. AllByRecursion (λ e. e.ticket < b) es)) (sym front) (if_blocked q.blocked safe.before_block);
    after_beginning = subst (AllByRecursion (λ e. q.since < e.ticket)) (sym back) (all_tell calls core (λ t. q.since < t) (tickets_in behind) safe.after_beginning);
    owner = subst (λ (es : List Entry). IsOpenTo (mode_after es) q.owner) (sym front) safe.owner;
    counted_flush = λ b z blocked freed.
        let low : AllByRecursion (λ t. t < b) (tickets_in before) = subst (λ (o : Option ℕ). IfSome o (λ n. AllByRecursion (λ t. t < n) (tickets_in before))) blocked safe.before_block in
        subst (Any (FlushBetween b z)) (sym back)
        (any_tells calls core b z (tickets_in behind)
        (none_low calls core b z (tickets_in before) (filter (is_flush_named calls core) (tickets_in behind)) low
        (subst (Any (Between b z)) (filter-append (is_flush_named calls core) (tickets_in before) (tickets_in behind)) (safe.counted_flush b z blocked freed))));
    cleared = untouched_cleared r a (events_named calls core before) safe.untouched;
  }

  period_told : (o : Option Period) → IsSomeAnd o (IsSafeTouch (events_named calls core before) (events.Touch r a) (events_named calls core behind)) → IsSomeAnd o (IsSafeByTickets calls core before r a behind)
  period_told None safe = safe
  period_told (Some q) safe = safe_told q safe

  period_tells : (o : Option Period) → IsSomeAnd o (IsSafeByTickets calls core before r a behind) → IsSomeAnd o (IsSafeTouch (events_named calls core before) (events.Touch r a) (events_named calls core behind))
  period_tells None safe = safe
  period_tells (Some q) safe = safe_tell q safe

pub tickets_tell_touches : TicketsTellTouches
tickets_tell_touches shape calls core before r a behind = (
  λ touch. record { region = touch.region; period = period_told calls core before r a behind (period_in (counted calls) r a) touch.period },
  λ touch. record { region = touch.region; period = period_tells calls core before r a behind (period_in (counted calls) r a) touch.period },
)
