-- A stamped touch is safe, and so is each touch of a log in which all are stamped.
use Rattle.std.proofs.Common.{◌≡◌, ℕ, ◌+◌, ◌<◌, ◌≤◌, false, ◌==◌, List, [], ◌∷◌, ◌++◌, length, take, drop, Option, Some, None, refl, sym, ap, subst, ◌∙◌, inl, inr, arith, append_assoc}
use Rattle.std.specs.Prelude.{option_and_then, IfSome, IsSomeAnd, Any}
use Rattle.std.specs.List.{AllByRecursion}
use Rattle.std.specs.Option.{option_map}
use Rattle.std.proofs.lemmas.List.{get_or_past}
use Rattle.std.proofs.lemmas.List.Elements.{filter-append}
use Rattle.std.proofs.lemmas.Grind.{flat_map-append}
use Rattle.std.proofs.lemmas.Bool.{cases_lt}
use Rattle.mon_types.specs.Shape.{Shape}
use Rattle.mon_types.specs.declared.region.Owner.{Owner}
use Rattle.mon_types.specs.declared.region.Region.TheVariants as regions
use Rattle.mon_types.specs.declared.thread.Mode.{Mode}
use Rattle.mon_model.specs.State.{State, region_at, mode_of}
use Rattle.hist.specs.declared.event.Entry.{Entry}
use Rattle.hist.specs.declared.event.Event.{Event}
use Rattle.hist.specs.declared.event.Event.TheVariants as events
use Rattle.hist.specs.History.{entry_in, entries_of, after_entries}
use Rattle.hist.specs.Period.{is_end, is_freeing, ticket_after, owner_of_period, period_with}
use Rattle.hist.specs.Touched.{is_touched}
use Rattle.hist.specs.SafeLog.{IsFlush, mode_after, IsOpenTo, IsSafeTouch, IsTouch, IsSafe, AreSafe}
use Rattle.hist.specs.Busy.{own}
use Rattle.hist.proofs.Ordered.{all_weaker}
use Rattle.hist.proofs.Touching.{untouched_cleared}
use Rattle.hist.proofs.Anys.{any_either, any_not, any_own, any_weaker}
use Rattle.hist.proofs.Owns.{own_all}
use Rattle.hist_stands.specs.States.{state_at, IsHistory}
use Rattle.hist_stands.specs.Stamp.{Stamp, IsStamped, AreStamped}
use Rattle.hist_stands.specs.Known.{OwnedSince}
use Rattle.hist_stands.specs.Life.{FlushedAfter, Life, Lasts, Ended, Freed}
use Rattle.hist_stands.proofs.Tickets.{tickets_from, made_still}
use Rattle.hist_stands.proofs.Knowing.{GoesOn, below_next, walk}
use Rattle.hist_stands.proofs.Living.{life_all}
use Rattle.hist_stands.proofs.Cuts.{AtStamp, at_stamp, whole_again}

-- two lists cut at one ticket are cut alike
cut_alike : (k : ℕ) (xs ys us vs : List Entry) → AllByRecursion (λ e. e.ticket ≤ k) xs
    → AllByRecursion (λ e. k < e.ticket) ys → AllByRecursion (λ e. e.ticket ≤ k) us
    → AllByRecursion (λ e. k < e.ticket) vs
    → xs ++ ys ≡ us ++ vs → xs ≡ us
cut_alike k [] ys [] vs low high low' high' is = refl
cut_alike k [] ys (u ∷ us) vs low high low' high' is =
    let above : AllByRecursion (λ e. k < e.ticket) (u ∷ us ++ vs) = subst
    (AllByRecursion (λ e. k < e.ticket)) is high in
    absurd (omega (arith, above.0, low'.0))
cut_alike k (x ∷ xs) ys [] vs low high low' high' is =
    let above : AllByRecursion (λ e. k < e.ticket) (x ∷ xs ++ ys) = subst (AllByRecursion (λ e. k < e.ticket))
    (sym is) high' in
    absurd (omega (arith, above.0, low.0))
cut_alike k (x ∷ xs) ys (u ∷ us) vs low high low' high' is =
    let first : x ≡ u = cc in
    let others : xs ++ ys ≡ us ++ vs = cc in
    let rest = cut_alike k xs ys us vs low.1 high low'.1 high' others in
    λ i. first i ∷ rest i

-- the beginning of a period stays
pub made_all : (shape : Shape) (gone : List Entry) (s : State) (es : List Entry) → GoesOn shape gone s es
    → (r a : ℕ) (owner : Owner)
    → owner_of_period gone r a ≡ Some owner → owner_of_period (gone ++ es) r a ≡ Some owner
made_all shape gone s es goes r a owner is =
    walk shape (λ before t. owner_of_period before r a ≡ Some owner)
    (λ before t e next made. made_still before e r a owner (below_next shape before t e next) made) gone s es goes is

module _ (shape : Shape) (gone more : List Entry) (s : State) (core : ℕ) (before behind : List Event) (r a : ℕ)
    (owner : Owner)
    (at : AtStamp shape gone more s core before behind r a owner) where
  pub there : r < shape.regions
  there = elim (cases_lt r (length s.regions)) [
    | inl lt ↦ omega (arith, lt, at.goes.known.whole.regions, ap (λ (m : Shape). m.regions) at.goes.known.shaped)
    | inr past ↦
        let free : region_at s r ≡ regions.Free = get_or_past s.regions r regions.Free past in
        let owned : region_at s r ≡ regions.Owned owner a = at.owned in
        cc
  ]

  pub since : OwnedSince gone r owner a
  since = at.goes.known.owned r there owner a at.owned

  pub life : Life shape (gone ++ more) (after_entries s more) (length gone) r owner a
  life = life_all shape gone s more at.goes (length gone) r owner a since.since (omega arith) there
      (Lasts at.owned since.lasts)

  -- the entries before the touch are those of the core up to the stamp
  pub before_stamp : entries_of before ≡ own core gone
  before_stamp =
      cut_alike (length gone) (entries_of before) (entries_of behind) (own core gone)
      (own core more) at.earlier at.later
      (own_all (λ e. e.ticket ≤ length gone) core gone at.goes.known.drawn)
      (own_all (λ e. length gone < e.ticket) core more
      (tickets_from (length gone) (length gone + 1) more (omega arith) at.goes.tickets))
      (at.parts ∙ filter-append (λ (e : Entry). e.core == core) gone more)

  -- an entry of this core above the stamp stands behind the touch
  pub behind_touch : (P : Entry → Type 0) → ((e : Entry) → P e → e.core ≡ core)
      → ((e : Entry) → P e → length gone < e.ticket)
      → Any P (gone ++ more) → Any P (entries_of behind)
  behind_touch P mine late any =
      elim (any_either P (entries_of before) (entries_of behind)
      (subst (Any P) (sym at.parts) (any_own P core (gone ++ more) mine any))) [
        | inl early ↦
            absurd (any_not P (entries_of before)
            (all_weaker (λ e. e.ticket ≤ length gone) (λ e. P e → ⊥) (λ e le is. let lt = late e is in omega arith)
            (entries_of before) at.earlier) early)
        | inr behind ↦ behind
      ]

  -- ---- the ends of its period

  ended_late : Life shape (gone ++ more) (after_entries s more) (length gone) r owner a → (x : ℕ)
      → ticket_after (gone ++ more) a (is_end r) ≡ Some x → length gone < x
  ended_late (Lasts is none) x some = cc
  ended_late (Ended b late past is some none cells) x found = let same : b ≡ x = cc in omega (arith, same, late)
  ended_late (Freed b z late some freed cells) x found = let same : b ≡ x = cc in omega (arith, same, late)

  below_end : (b : Option ℕ) → ((x : ℕ) → b ≡ Some x → length gone < x)
      → IfSome b (λ x. AllByRecursion (λ e. e.ticket < x) (entries_of before))
  below_end None late = tt
  below_end (Some x) late =
      let above : length gone < x = late x refl in
      all_weaker (λ e. e.ticket ≤ length gone) (λ e. e.ticket < x) (λ e le. omega arith) (entries_of before) at.earlier

  -- the free, where the end is at b
  free_at : (b y : ℕ) → ticket_after (gone ++ more) a (is_end r) ≡ Some b
      → option_and_then (λ end. ticket_after (gone ++ more) end (is_freeing r))
      (ticket_after (gone ++ more) a (is_end r)) ≡ Some y
      → ticket_after (gone ++ more) b (is_freeing r) ≡ Some y
  free_at b y some is = sym (ap (option_and_then (λ end. ticket_after (gone ++ more) end (is_freeing r))) some) ∙ is

  flush_behind : (b z : ℕ) → length gone < b → Any (λ e. FlushedAfter core b e × (e.ticket < z)) (gone ++ more)
      → Any (λ e. IsFlush e × (b < e.ticket) × (e.ticket < z)) (entries_of behind)
  flush_behind b z late any =
      any_weaker (λ e. FlushedAfter core b e × (e.ticket < z)) (λ e. IsFlush e × (b < e.ticket) × (e.ticket < z))
      (λ e is. (is.0.flush, is.0.above, is.1)) (entries_of behind)
      (behind_touch (λ e. FlushedAfter core b e × (e.ticket < z)) (λ e is. is.0.of_core)
      (λ e is. omega (arith, is.0.above, late)) any)

  counted : Life shape (gone ++ more) (after_entries s more) (length gone) r owner a → (x y : ℕ)
      → ticket_after (gone ++ more) a (is_end r) ≡ Some x
      → option_and_then (λ end. ticket_after (gone ++ more) end (is_freeing r))
      (ticket_after (gone ++ more) a (is_end r)) ≡ Some y
      → Any (λ e. IsFlush e × (x < e.ticket) × (e.ticket < y)) (entries_of behind)
  counted (Lasts is none) x y found free = cc
  counted (Ended b late past is some none cells) x y found free =
      let clash : ticket_after (gone ++ more) b (is_freeing r) ≡ Some y = free_at b y some free in cc
  counted (Freed b z late some freed cells) x y found free =
      let same : b ≡ x = cc in
      let then_free : ticket_after (gone ++ more) b (is_freeing r) ≡ Some y = free_at b y some free in
      let end : z ≡ y = cc in
      subst (λ (i : ℕ). Any (λ e. IsFlush e × (i < e.ticket) × (e.ticket < y)) (entries_of behind)) same
      (subst (λ (i : ℕ). Any (λ e. IsFlush e × (b < e.ticket) × (e.ticket < i)) (entries_of behind)) end
      (flush_behind b z late (cells core at.in_shape)))

  safe_period : IsOpenTo (mode_of s core) owner → is_touched r a before ≡ false
      → IsSafeTouch before (events.Touch r a) behind (period_with (gone ++ more) r a owner)
  safe_period opens fresh = record {
    before_block = below_end (ticket_after (gone ++ more) a (is_end r)) (ended_late life);
    after_beginning = all_weaker (λ e. length gone < e.ticket) (λ e. a < e.ticket) (λ e lt. omega (arith, since.since))
        (entries_of behind) at.later;
    owner = subst (λ (m : Mode). IsOpenTo m owner)
        (at.goes.known.modes core at.in_shape ∙ ap mode_after (sym before_stamp)) opens;
    counted_flush = counted life;
    cleared = untouched_cleared r a before fresh;
  }

  pub touch_at_stamp : IsOpenTo (mode_of s core) owner → is_touched r a before ≡ false
      → IsTouch shape (gone ++ more) before r a behind
  touch_at_stamp opens fresh = record {
    region = there;
    period =
        subst (λ (o : Option Owner). IsSomeAnd (option_map (period_with (gone ++ more) r a) o)
        (IsSafeTouch before (events.Touch r a) behind))
        (sym (made_all shape gone s more at.goes r a owner since.made)) (safe_period opens fresh);
  }

-- ---- one touch, and a log

module _ (shape : Shape) (h : List Entry) (history : IsHistory shape h) (core : ℕ) (in_shape : core < shape.cores) where
  touch_safe : (before behind : List Event) → entries_of before ++ entries_of behind ≡ own core h
      → (r a : ℕ) (owner : Owner) (k : ℕ) → Stamp shape h core before behind r a owner k
      → IsTouch shape h before r a behind
  touch_safe before behind parts r a owner k stamp =
      whole_again shape h k (λ es t. IsTouch shape es before r a behind)
      (touch_at_stamp shape (take k h) (drop k h) (state_at shape h k) core before behind r a owner
      (at_stamp shape h history core in_shape before behind parts r a owner k stamp) stamp.opens stamp.fresh)

  event_safe : (before : List Event) (event : Event) (behind : List Event)
      → entries_of (before ++ event ∷ behind) ≡ own core h → IsStamped shape h core before event behind
      → IsSafe shape h before event behind
  event_safe before (events.Entry e) behind parts stamped = tt
  event_safe before (events.Touch r a) behind parts stamped =
      touch_safe before behind
      (sym (flat_map-append entry_in before (events.Touch r a ∷ behind)) ∙ parts) r a stamped.0 stamped.1 stamped.2
  event_safe before (events.Stop line why) behind parts stamped = tt

  pub events_safe : (before behind : List Event) → entries_of (before ++ behind) ≡ own core h
      → AreStamped shape h core before behind → AreSafe shape h before behind
  events_safe before [] parts stamped = tt
  events_safe before (event ∷ behind) parts stamped = (
    event_safe before event behind parts stamped.0,
    events_safe (before ++ event ∷ []) behind
        (ap entries_of (append_assoc before (event ∷ []) behind) ∙ parts) stamped.1,
  )
