-- Stamps stay as the history and the log grow.
use Rattle.std.proofs.Common.{◌≡◌, ℕ, ◌<◌, ◌≤◌, false, List, [], ◌∷◌, ◌++◌, length, take, sym, ap, subst, ◌∙◌, arith, append-nil, append_assoc}
use Rattle.std.specs.List.{AllByRecursion}
use Rattle.std.proofs.lemmas.List.{take-append-le, take_all}
use Rattle.std.proofs.lemmas.Grind.{flat_map-append}
use Rattle.mon_types.specs.Shape.{Shape}
use Rattle.mon_types.specs.declared.region.Owner.{Owner}
use Rattle.mon_types.specs.declared.region.Region.TheVariants as regions
use Rattle.mon_model.specs.State.{region_at, mode_of}
use Rattle.hist.specs.declared.event.Entry.{Entry}
use Rattle.hist.specs.declared.event.Event.{Event}
use Rattle.hist.specs.declared.event.Event.TheVariants as events
use Rattle.hist.specs.History.{entry_in, entries_of}
use Rattle.hist.specs.Touched.{is_touched}
use Rattle.hist.specs.SafeLog.{IsOpenTo}
use Rattle.hist.proofs.Ordered.{all_weaker, all_joined}
use Rattle.hist_stands.specs.States.{state_now}
use Rattle.hist_stands.specs.Stamp.{Stamp, IsStamped, AreStamped}
use Rattle.hist_stands.proofs.Tickets.{length_more}

-- ---- one entry more in the history, of any core

stamp_more : (shape : Shape) (h : List Entry) (e : Entry) (core : ℕ) (before behind : List Event) (r a : ℕ)
    (owner : Owner) (k : ℕ)
    → Stamp shape h core before behind r a owner k → Stamp shape (h ++ e ∷ []) core before behind r a owner k
stamp_more shape h e core before behind r a owner k stamp =
    let same : take k h ≡ take k (h ++ e ∷ []) = sym (take-append-le k h (e ∷ []) stamp.drawn) in
    record {
      drawn = omega (arith, stamp.drawn, length_more h e);
      earlier = stamp.earlier;
      later = stamp.later;
      owned = subst (λ (es : List Entry). region_at (state_now shape es) r ≡ regions.Owned owner a) same stamp.owned;
      opens = subst (λ (es : List Entry). IsOpenTo (mode_of (state_now shape es) core) owner) same stamp.opens;
      fresh = stamp.fresh;
    }

event_more : (shape : Shape) (h : List Entry) (e : Entry) (core : ℕ) (before : List Event) (event : Event)
    (behind : List Event)
    → IsStamped shape h core before event behind → IsStamped shape (h ++ e ∷ []) core before event behind
event_more shape h e core before (events.Entry x) behind stamped = tt
event_more shape h e core before (events.Touch r a) behind stamped =
    (stamped.0, stamped.1, stamp_more shape h e core before behind r a stamped.0 stamped.1 stamped.2)
event_more shape h e core before (events.Stop line why) behind stamped = tt

pub stamps_more : (shape : Shape) (h : List Entry) (e : Entry) (core : ℕ) (before log : List Event)
    → AreStamped shape h core before log → AreStamped shape (h ++ e ∷ []) core before log
stamps_more shape h e core before [] stamped = tt
stamps_more shape h e core before (event ∷ log) stamped = (
  event_more shape h e core before event log stamped.0,
  stamps_more shape h e core
      (before ++ event ∷ []) log stamped.1,
)

-- ---- one event more in the log, where the entry in it, if it is one, has a new ticket

stamp_behind : (shape : Shape) (h : List Entry) (core : ℕ) (before behind : List Event) (event : Event) (r a : ℕ)
    (owner : Owner) (k : ℕ)
    → AllByRecursion (λ e. length h < e.ticket) (entry_in event)
    → Stamp shape h core before behind r a owner k → Stamp shape h core before (behind ++ event ∷ []) r a owner k
stamp_behind shape h core before behind event r a owner k late stamp = record {
  drawn = stamp.drawn;
  earlier = stamp.earlier;
  later =
      subst (AllByRecursion (λ e. k < e.ticket))
      (sym (flat_map-append entry_in behind (event ∷ [])
      ∙ ap (λ (es : List Entry). entries_of behind ++ es) (append-nil (entry_in event))))
      (all_joined (λ e. k < e.ticket) (entries_of behind) (entry_in event) stamp.later
      (all_weaker (λ e. length h < e.ticket) (λ e. k < e.ticket) (λ e lt. omega (arith, stamp.drawn))
      (entry_in event) late));
  owned = stamp.owned;
  opens = stamp.opens;
  fresh = stamp.fresh;
}

event_behind : (shape : Shape) (h : List Entry) (core : ℕ) (before : List Event) (event : Event) (behind : List Event)
    (last : Event)
    → AllByRecursion (λ e. length h < e.ticket) (entry_in last) → IsStamped shape h core before event behind
    → IsStamped shape h core before event (behind ++ last ∷ [])
event_behind shape h core before (events.Entry x) behind last late stamped = tt
event_behind shape h core before (events.Touch r a) behind last late stamped =
    (stamped.0, stamped.1, stamp_behind shape h core before behind last r a stamped.0 stamped.1 late stamped.2)
event_behind shape h core before (events.Stop line why) behind last late stamped = tt

pub stamps_behind : (shape : Shape) (h : List Entry) (core : ℕ) (before log : List Event) (last : Event)
    → AllByRecursion (λ e. length h < e.ticket) (entry_in last) → IsStamped shape h core (before ++ log) last []
    → AreStamped shape h core before log → AreStamped shape h core before (log ++ last ∷ [])
stamps_behind shape h core before [] last late new stamped =
    (subst (λ (es : List Event). IsStamped shape h core es last []) (append-nil before) new, tt)
stamps_behind shape h core before (event ∷ log) last late new stamped = (
  event_behind shape h core before event log last late stamped.0,
  stamps_behind shape h core (before ++ event ∷ []) log last late
      (subst (λ (es : List Event). IsStamped shape h core es last [])
      (sym (append_assoc before (event ∷ []) log)) new) stamped.1,
)

-- ---- a touch now

pub stamp_now : (shape : Shape) (h : List Entry) (core : ℕ) (log : List Event) (r a : ℕ) (owner : Owner)
    → AllByRecursion (λ e. e.ticket ≤ length h) (entries_of log)
    → region_at (state_now shape h) r ≡ regions.Owned owner a → IsOpenTo (mode_of (state_now shape h) core) owner
    → is_touched r a log ≡ false
    → Stamp shape h core log [] r a owner (length h)
stamp_now shape h core log r a owner earlier owned opens fresh =
    let all : h ≡ take (length h) h = sym (take_all (length h) h (omega arith)) in
    record {
      drawn = omega arith;
      earlier = earlier;
      later = tt;
      owned = subst (λ (es : List Entry). region_at (state_now shape es) r ≡ regions.Owned owner a) all owned;
      opens = subst (λ (es : List Entry). IsOpenTo (mode_of (state_now shape es) core) owner) all opens;
      fresh = fresh;
    }
