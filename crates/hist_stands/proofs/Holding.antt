-- A touch that no clearing entry followed is held now: its region is Owned, or Blocked above the core's cell, and its
-- period is not freed.
use Rattle.std.proofs.Common.{◌≡◌, ℕ, ◌<◌, ◌⊎◌, Bool, true, false, ◌==◌, ◌&&◌, ◌||◌, if◌then◌else◌, List, [], ◌∷◌, ◌++◌, length, take, drop, Option, None, refl, sym, ap, subst, ◌∙◌, inl, inr, arith, append_assoc}
use Rattle.std.specs.Prelude.{option_and_then, IsSomeAnd, Any}
use Rattle.std.specs.List.{fold}
use Rattle.std.specs.Option.{option_map}
use Rattle.std.proofs.lemmas.List.Sums.{fold-append}
use Rattle.std.proofs.lemmas.Grind.{flat_map-append}
use Rattle.std.proofs.lemmas.Bool.{eqb-true, and_parts}
use Rattle.mon_types.specs.Shape.{Shape}
use Rattle.mon_types.specs.Replies.{is_done}
use Rattle.mon_types.specs.declared.region.Owner.{Owner}
use Rattle.mon_types.specs.declared.region.Region.TheVariants as regions
use Rattle.mon_types.specs.declared.thread.Mode.{Mode}
use Rattle.mon_types.specs.declared.thread.Mode.TheVariants as modes
use Rattle.mon_types.specs.declared.call.Call.{Call}
use Rattle.mon_types.specs.declared.call.Call.TheVariants as calls
use Rattle.mon_model.specs.State.{State, region_at, mode_of, flushed_at}
use Rattle.mon_model.specs.OnCore.{is_flush, clears, mode_by}
use Rattle.mon_model.proofs.RegionSteps.{refused}
use Rattle.hist.specs.declared.event.Entry.{Entry}
use Rattle.hist.specs.declared.event.Event.{Event}
use Rattle.hist.specs.declared.event.Event.TheVariants as events
use Rattle.hist.specs.History.{entry_in, entries_of, after_entries}
use Rattle.hist.specs.Period.{is_end, is_freeing, ticket_after, period_with}
use Rattle.hist.specs.Touched.{touched_by, is_touched}
use Rattle.hist.specs.SafeLog.{IsClearing, IsFlush, mode_after, IsOpenTo}
use Rattle.hist.specs.Busy.{own}
use Rattle.hist.proofs.Anys.{any_here, any_later, any_none, first_or_later, any_weaker}
use Rattle.hist_stands.specs.States.{state_now, state_at, IsHistory}
use Rattle.hist_stands.specs.Stamp.{Stamp, AreStamped}
use Rattle.hist_stands.specs.Life.{FlushedAfter, Life, Lasts, Ended, Freed}
use Rattle.hist_stands.specs.Held.{IsHeld}
use Rattle.hist_stands.proofs.Entries.{mode_next}
use Rattle.hist_stands.proofs.Knowing.{known_all}
use Rattle.hist_stands.proofs.Cuts.{AtStamp, at_stamp, whole_again}
use Rattle.hist_stands.proofs.Touches.{since, life, before_stamp, behind_touch, made_all}

-- ---- the last touch of a period

-- a touch of (r, a) in a log, with no clearing entry behind it
pub record LastTouch (shape : Shape) (h : List Entry) (core : ℕ) (log : List Event) (r a : ℕ) : Type 0 where
  pub before : List Event
  pub behind : List Event
  pub parts : entries_of before ++ entries_of behind ≡ entries_of log
  pub owner : Owner
  pub k : ℕ
  pub stamp : Stamp shape h core before behind r a owner k
  pub uncleared : Any IsClearing (entries_of behind) → ⊥

same_touch : (q b r a : ℕ) → (q == r && b == a) ≡ true → (q ≡ r) × (b ≡ a)
same_touch q b r a is = let both = and_parts (q == r) (b == a) is in (eqb-true q r both.0, eqb-true b a both.1)

module _ (shape : Shape) (h : List Entry) (core r a : ℕ) where
  -- touched before these events already, and not cleared in them; or touched in them
  abbrev Since : List Event → List Event → Bool → Type 0
  Since before log touched =
      ((touched ≡ true) × (Any IsClearing (entries_of log) → ⊥)) ⊎ LastTouch shape h core (before ++ log) r a

  shift : (before : List Event) (event : Event) (log : List Event)
      → LastTouch shape h core ((before ++ event ∷ []) ++ log) r a → LastTouch shape h core (before ++ event ∷ log) r a
  shift before event log found = subst (λ (es : List Event). LastTouch shape h core es r a)
      (append_assoc before (event ∷ []) log) found

  last_touch : (before log : List Event) (touched : Bool) → AreStamped shape h core before log
      → fold (touched_by r a) touched log ≡ true → Since before log touched
  last_touch before [] touched stamped is = inl (is, any_none IsClearing)
  last_touch before (events.Entry e ∷ log) touched stamped is =
      by (is_done e.reply && clears e.call) refl
      (last_touch (before ++ events.Entry e ∷ []) log
      (if is_done e.reply && clears e.call then false else touched) stamped.1 is)
    where
      by : (b : Bool) → is_done e.reply && clears e.call ≡ b
          → Since (before ++ events.Entry e ∷ []) log (if b then false else touched)
          → Since before (events.Entry e ∷ log) touched
      by b clearing (inr found) = inr (shift before (events.Entry e) log found)
      by true clearing (inl found) = refused found.0
      by false clearing (inl found) = inl (found.0, λ any. neither (first_or_later IsClearing e (entries_of log) any))
        where
          neither : IsClearing e ⊎ Any IsClearing (entries_of log) → ⊥
          neither (inl here) = refused (sym clearing ∙ here)
          neither (inr later) = found.1 later
  last_touch before (events.Touch q b ∷ log) touched stamped is =
      by (q == r && b == a) refl
      (last_touch (before ++ events.Touch q b ∷ []) log ((q == r && b == a) || touched) stamped.1 is)
    where
      by : (c : Bool) → (q == r && b == a) ≡ c → Since (before ++ events.Touch q b ∷ []) log (c || touched)
          → Since before (events.Touch q b ∷ log) touched
      by c same (inr found) = inr (shift before (events.Touch q b) log found)
      by false same (inl found) = inl found
      by true same (inl found) =
          let one = same_touch q b r a same in
          inr (record {
            before = before;
            behind = log;
            parts = sym (flat_map-append entry_in before (events.Touch q b ∷ log));
            owner = stamped.0.0;
            k = stamped.0.1;
            stamp =
                subst (λ (i : ℕ). Stamp shape h core before log r i stamped.0.0 stamped.0.1) one.1
                (subst (λ (i : ℕ). Stamp shape h core before log i b stamped.0.0 stamped.0.1) one.0 stamped.0.2);
            uncleared = found.1;
          })
  last_touch before (events.Stop line why ∷ log) touched stamped is = elim
      (last_touch (before ++ events.Stop line why ∷ []) log touched stamped.1 is) [
        | inl found ↦ inl found
        | inr found ↦ inr (shift before (events.Stop line why) log found)
      ]

-- ---- no clearing entry: no flush, and the mode stays

flush_clears : (e : Entry) → IsFlush e → IsClearing e
flush_clears e flush = by (is_done e.reply) e.call flush
  where
    by : (ok : Bool) (call : Call) → (ok && is_flush call) ≡ true → (ok && clears call) ≡ true
    by false call is = is
    by true calls.Flush is = refl
    by true _ is = refused is

mode_stays : (ok : Bool) (call : Call) (m : Mode) → ((ok && clears call) ≡ true → ⊥)
    → (if ok then mode_by call m else m) ≡ m
mode_stays false call m uncleared = refl
mode_stays true (calls.Enter e t) m uncleared = absurd (uncleared refl)
mode_stays true calls.Exit m uncleared = absurd (uncleared refl)
mode_stays true (calls.Aex saved) m uncleared = absurd (uncleared refl)
mode_stays true _ m uncleared = refl

modes_stay : (es : List Entry) (m : Mode) → (Any IsClearing es → ⊥) → fold mode_next m es ≡ m
modes_stay [] m uncleared = refl
modes_stay (e ∷ es) m uncleared =
    ap (λ (x : Mode). fold mode_next x es)
    (mode_stays (is_done e.reply) e.call m (λ is. uncleared (any_here IsClearing e es is)))
    ∙ modes_stay es m (λ later. uncleared (any_later IsClearing e es later))

-- ---- what it says of the state now

module _ (shape : Shape) (gone more : List Entry) (s : State) (core : ℕ) (before behind : List Event) (r a : ℕ)
    (owner : Owner)
    (at : AtStamp shape gone more s core before behind r a owner)
    (uncleared : Any IsClearing (entries_of behind) → ⊥) where
  unflushed : (b : ℕ) → length gone < b → Any (FlushedAfter core b) (gone ++ more) → ⊥
  unflushed b late any =
      uncleared (any_weaker (FlushedAfter core b) IsClearing (λ e is. flush_clears e is.flush) (entries_of behind)
      (behind_touch shape gone more s core before behind r a owner at (FlushedAfter core b) (λ e is. is.of_core)
      (λ e is. omega (arith, is.above, late)) any))

  unfreed : (b z : ℕ) → length gone < b → Any (λ e. FlushedAfter core b e × (e.ticket < z)) (gone ++ more) → ⊥
  unfreed b z late any = unflushed b late
      (any_weaker (λ e. FlushedAfter core b e × (e.ticket < z)) (FlushedAfter core b) (λ e is. is.0) (gone ++ more) any)

  region_now : Life shape (gone ++ more) (after_entries s more) (length gone) r owner a
      → (region_at (after_entries s more) r ≡ regions.Owned owner a)
      ⊎ ((b : ℕ) × (region_at (after_entries s more) r ≡ regions.Blocked owner a b) ×
      (flushed_at (after_entries s more) core < b))
  region_now (Lasts is none) = inl is
  region_now (Ended b late past is some none cells) = elim (cells core at.in_shape) [
    | inl low ↦ inr (b, is, low)
    | inr flushed ↦ absurd (unflushed b late flushed)
  ]
  region_now (Freed b z late some freed cells) = absurd (unfreed b z late (cells core at.in_shape))

  not_freed : Life shape (gone ++ more) (after_entries s more) (length gone) r owner a
      → option_and_then (λ end. ticket_after (gone ++ more) end (is_freeing r))
      (ticket_after (gone ++ more) a (is_end r)) ≡ None
  not_freed (Lasts is none) = ap (option_and_then (λ end. ticket_after (gone ++ more) end (is_freeing r))) none
  not_freed (Ended b late past is some none cells) = ap
      (option_and_then (λ end. ticket_after (gone ++ more) end (is_freeing r))) some ∙ none
  not_freed (Freed b z late some freed cells) = absurd (unfreed b z late (cells core at.in_shape))

  mode_now : mode_of (after_entries s more) core ≡ mode_of s core
  mode_now =
      (known_all shape gone s more at.goes).modes core at.in_shape ∙ ap mode_after (sym at.parts)
      ∙ fold-append mode_next modes.Os (entries_of before) (entries_of behind)
      ∙ modes_stay (entries_of behind) (mode_after (entries_of before)) uncleared
      ∙ ap mode_after (before_stamp shape gone more s core before behind r a owner at)
      ∙ sym (at.goes.known.modes core at.in_shape)

  pub held_after : IsOpenTo (mode_of s core) owner → IsHeld (gone ++ more) (after_entries s more) core r a
  held_after opens =
      let lives = life shape gone more s core before behind r a owner at in
      record {
        owner = owner;
        region = region_now lives;
        opens = subst (λ (m : Mode). IsOpenTo m owner) (sym mode_now) opens;
        alive =
            subst (λ (o : Option Owner). IsSomeAnd (option_map (period_with (gone ++ more) r a) o)
            (λ p. (p.owner ≡ owner) × (p.freed ≡ None)))
            (sym (made_all shape gone s more at.goes r a owner
            (since shape gone more s core before behind r a owner at).made)) (refl, not_freed lives);
      }

pub held_now : (shape : Shape) (h : List Entry) → IsHistory shape h → (core : ℕ) → core < shape.cores
    → (log : List Event) → entries_of log ≡ own core h → AreStamped shape h core [] log
    → (r a : ℕ) → is_touched r a log ≡ true → IsHeld h (state_now shape h) core r a
held_now shape h history core in_shape log mine stamped r a touched = elim
    (last_touch shape h core r a [] log false stamped touched) [
      | inl none ↦ refused none.0
      | inr found ↦ by found
    ]
  where
    by : LastTouch shape h core log r a → IsHeld h (state_now shape h) core r a
    by found =
        whole_again shape h found.k (λ es t. IsHeld es t core r a)
        (held_after shape (take found.k h) (drop found.k h)
        (state_at shape h found.k) core found.before found.behind r a found.owner
        (at_stamp shape h history core in_shape found.before found.behind
        (found.parts ∙ mine) r a found.owner found.k found.stamp) found.uncleared found.stamp.opens)
