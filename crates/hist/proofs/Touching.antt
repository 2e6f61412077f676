-- The walk over a log that tells which periods are touched, against looking back from a touch.
use Rattle.std.proofs.Common.{◌≡◌, ℕ, ◌⊎◌, Bool, true, false, ◌==◌, ◌&&◌, ◌||◌, if◌then◌else◌, List, [], ◌∷◌, refl, ap, ◌∙◌, inl, inr}
use Rattle.std.specs.Prelude.{Any, fold}
use Rattle.std.proofs.lemmas.Bool.{eq-eqb, eqb-true, and_parts}
use Rattle.mon_types.specs.Replies.{is_done}
use Rattle.mon_model.specs.OnCore.{clears}
use Rattle.hist.specs.declared.event.Event.{Event}
use Rattle.hist.specs.declared.event.Event.TheVariants as events
use Rattle.hist.specs.History.{entries_of}
use Rattle.hist.specs.Touched.{touched_by, is_touched}
use Rattle.hist.specs.SafeLog.{IsClearing, ClearedSince}
use Rattle.hist.proofs.Anys.{any_here, any_later, any_none, first_or_later}

-- ---- equal touches

same_touch : (q b r a : ℕ) → events.Touch q b ≡ events.Touch r a → (q == r && b == a) ≡ true
same_touch q b r a is =
    let one : q ≡ r = cc in
    let two : b ≡ a = cc in
    ap (λ c. c && b == a) (eq-eqb q r one) ∙ eq-eqb b a two

or_left : (x y : Bool) → x ≡ true → (x || y) ≡ true
or_left x y is = ap (λ b. b || y) is

or_right : (x y : Bool) → y ≡ true → (x || y) ≡ true
or_right true y is = refl
or_right false y is = is

-- with `touched`, whether it was touched before these events
cleared_from : (r a : ℕ) (log : List Event) (touched : Bool) → fold (touched_by r a) touched log ≡ false
    → ClearedSince (events.Touch r a) log × (touched ≡ true → Any IsClearing (entries_of log))
cleared_from r a [] touched none = (tt, λ is. cc)
cleared_from r a (events.Entry e ∷ log) touched none =
    let rest = cleared_from r a log (if is_done e.reply && clears e.call then false else touched) none in
    ((λ is. cc, rest.0), by (is_done e.reply && clears e.call) refl rest.1)
  where
    by : (b : Bool) → is_done e.reply && clears e.call ≡ b → ((if b then false else touched) ≡ true → Any IsClearing (entries_of log)) → touched ≡ true → Any IsClearing (e ∷ entries_of log)
    by true clearing later is = any_here IsClearing e (entries_of log) clearing
    by false clearing later is = any_later IsClearing e (entries_of log) (later is)
cleared_from r a (events.Touch q b ∷ log) touched none =
    let rest = cleared_from r a log ((q == r && b == a) || touched) none in
    ((λ is. rest.1 (or_left (q == r && b == a) touched (same_touch q b r a is)), rest.0), λ is. rest.1 (or_right (q == r && b == a) touched is))
cleared_from r a (events.Stop line why ∷ log) touched none =
    let rest = cleared_from r a log touched none in
    ((λ is. cc, rest.0), rest.1)

pub untouched_cleared : (r a : ℕ) (log : List Event) → is_touched r a log ≡ false → ClearedSince (events.Touch r a) log
untouched_cleared r a log none = (cleared_from r a log false none).0

-- ---- the other way round

touch_is : (q b r a : ℕ) → (q == r && b == a) ≡ true → events.Touch q b ≡ events.Touch r a
touch_is q b r a is =
    let parts = and_parts (q == r) (b == a) is in
    let one : q ≡ r = eqb-true q r parts.0 in
    let two : b ≡ a = eqb-true b a parts.1 in
    λ i. events.Touch (one i) (two i)

untouched_from : (r a : ℕ) (log : List Event) (touched : Bool) → ClearedSince (events.Touch r a) log → (touched ≡ true → Any IsClearing (entries_of log))
    → fold (touched_by r a) touched log ≡ false
untouched_from r a [] true cleared later = absurd (any_none IsClearing (later refl))
untouched_from r a [] false cleared later = refl
untouched_from r a (events.Entry e ∷ log) touched cleared later =
    untouched_from r a log (if is_done e.reply && clears e.call then false else touched) cleared.1 (by (is_done e.reply && clears e.call) refl)
  where
    behind : is_done e.reply && clears e.call ≡ false → IsClearing e ⊎ Any IsClearing (entries_of log) → Any IsClearing (entries_of log)
    behind none (inl here) = absurd (cc)
    behind none (inr later) = later

    by : (b : Bool) → is_done e.reply && clears e.call ≡ b → (if b then false else touched) ≡ true → Any IsClearing (entries_of log)
    by true clearing is = absurd (cc)
    by false none is = behind none (first_or_later IsClearing e (entries_of log) (later is))
untouched_from r a (events.Touch q b ∷ log) touched cleared later =
    untouched_from r a log ((q == r && b == a) || touched) cleared.1 (by (q == r && b == a) refl)
  where
    by : (c : Bool) → (q == r && b == a) ≡ c → (c || touched) ≡ true → Any IsClearing (entries_of log)
    by true same is = cleared.0 (touch_is q b r a same)
    by false other is = later is
untouched_from r a (events.Stop line why ∷ log) touched cleared later = untouched_from r a log touched cleared.1 later

pub cleared_untouched : (r a : ℕ) (log : List Event) → ClearedSince (events.Touch r a) log → is_touched r a log ≡ false
cleared_untouched r a log cleared = untouched_from r a log false cleared (λ is. absurd (cc))
