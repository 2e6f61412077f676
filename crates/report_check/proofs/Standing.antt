-- What is kept of the event lines of a core's log, line by line.
use Rattle.std.proofs.Common.{◌≡◌, ℕ, ◌+◌, ◌<◌, ◌≤◌, ◌==◌, ◌&&◌, ◌||◌, Bool, true, false, if◌then◌else◌, max, List, [], ◌∷◌, ◌++◌, length, map, Option, Some, None, refl, sym, ap, subst, ◌∙◌, arith, append-nil}
use Rattle.std.specs.List.{AllByRecursion}
use Rattle.std.specs.Option.{unwrap_or}
use Rattle.std.proofs.lemmas.Grind.{flat_map-append}
use Rattle.std.proofs.lemmas.List.{map-append, length-append}
use Rattle.std.proofs.lemmas.List.Sums.{fold-append}
use Rattle.mon_types.specs.declared.call.Call.{Call}
use Rattle.mon_types.specs.declared.call.Call.TheVariants as calls
use Rattle.mon_types.specs.declared.thread.Mode.{Mode}
use Rattle.mon_types.specs.declared.thread.Mode.TheVariants as modes
use Rattle.mon_types.specs.Replies.{is_done}
use Rattle.mon_model.specs.OnCore.{clears, mode_by}
use Rattle.hist.specs.declared.event.Entry.{Entry}
use Rattle.hist.specs.declared.event.Why.{Why}
use Rattle.hist.specs.SafeLog.{mode_after}
use Rattle.hist.specs.Touched.{touched_by, is_touched}
use Rattle.report_lines.specs.declared.event.EventLine.{EventLine}
use Rattle.report_lines.specs.declared.event.EventLine.TheVariants as lines
use Rattle.legal_report.specs.Counted.{ticket_in, nothing_done, entry_named, event_named, events_named}
use Rattle.legal_report.specs.Checks.{StopsBy}
use Rattle.legal_report.specs.Drawn.{tickets_in, IsCallWithTicket}
use Rattle.report_check.specs.Holds.{is_held, touch_of}
use Rattle.report_check.specs.Place.{enclave_of, IsLeast, StandsBehind, at_start, inside_by, followed, entered, with_call, halted}
use Rattle.report_check.specs.declared.place.Place.{Place}
use Rattle.report_check.proofs.Holding.{one_more_held}

-- ---- one more line

all_and_one : {A : Type 0} (P : A → Type 0) (xs : List A) (y : A) → AllByRecursion P xs → P y → AllByRecursion P (xs ++ y ∷ [])
all_and_one P [] y all one = (one, tt)
all_and_one P (x ∷ xs) y all one = (all.0, all_and_one P xs y all.1 one)

all_of_front : {A : Type 0} (P : A → Type 0) (xs : List A) (y : A) → AllByRecursion P (xs ++ y ∷ []) → AllByRecursion P xs
all_of_front P [] y all = tt
all_of_front P (x ∷ xs) y all = (all.0, all_of_front P xs y all.1)

all_of_last : {A : Type 0} (P : A → Type 0) (xs : List A) (y : A) → AllByRecursion P (xs ++ y ∷ []) → P y
all_of_last P [] y all = all.0
all_of_last P (x ∷ xs) y all = all_of_last P xs y all.1

pub tickets_more : (before : List EventLine) (event : EventLine) → tickets_in (before ++ event ∷ []) ≡ tickets_in before ++ ticket_in event
tickets_more before event = flat_map-append ticket_in before (event ∷ []) ∙ ap (λ (ts : List ℕ). tickets_in before ++ ts) (append-nil (ticket_in event))

events_more : (calls : List Entry) (core : ℕ) (before : List EventLine) (event : EventLine) → events_named calls core (before ++ event ∷ []) ≡ events_named calls core before ++ event_named calls core event ∷ []
events_more calls core before event = map-append (event_named calls core) before (event ∷ [])

touched_more : (r a : ℕ) (calls : List Entry) (core : ℕ) (before : List EventLine) (event : EventLine) → is_touched r a (events_named calls core (before ++ event ∷ [])) ≡ touched_by r a (is_touched r a (events_named calls core before)) (event_named calls core event)
touched_more r a calls core before event =
    ap (is_touched r a) (events_more calls core before event)
    ∙ fold-append (touched_by r a) false (events_named calls core before) (event_named calls core event ∷ [])

-- ---- the first

pub stands_at_start : (calls : List Entry) (core : ℕ) → StandsBehind calls core [] at_start
stands_at_start calls core = record {
  entries = refl;
  above = λ m. (λ le. tt, λ all. omega arith);
  stop = λ m. (λ le. tt, λ all. omega arith);
  inside = refl;
  held = λ r a. refl;
}

-- ---- a line with no ticket

module _ (calls : List Entry) (core : ℕ) (before : List EventLine) (event : EventLine) (none : ticket_in event ≡ []) where
  same_tickets : tickets_in (before ++ event ∷ []) ≡ tickets_in before
  same_tickets = tickets_more before event ∙ ap (λ (ts : List ℕ). tickets_in before ++ ts) none ∙ append-nil (tickets_in before)

  stands_aside : (old new : Place) → StandsBehind calls core before old → new.entries ≡ old.entries → new.above ≡ old.above → new.inside ≡ old.inside
      → IsLeast new.stop (λ line. AllByRecursion (StopsBy line) (before ++ event ∷ []))
      → ((r a : ℕ) → is_held new.held r a ≡ touched_by r a (is_touched r a (events_named calls core before)) (event_named calls core event))
      → StandsBehind calls core (before ++ event ∷ []) new
  stands_aside old new stands e b i stop held = record {
    entries = e ∙ stands.entries ∙ ap length (sym same_tickets);
    above =
        subst (λ (n : ℕ). IsLeast n (λ m. AllByRecursion (λ t. t < m) (tickets_in (before ++ event ∷ [])))) (sym b)
        (subst (λ (ts : List ℕ). IsLeast old.above (λ m. AllByRecursion (λ t. t < m) ts)) (sym same_tickets) stands.above);
    stop = stop;
    inside = i ∙ stands.inside ∙ ap (λ (ts : List ℕ). enclave_of (mode_after (map (entry_named calls core) ts))) (sym same_tickets);
    held = λ r a. held r a ∙ sym (touched_more r a calls core before event);
  }

-- a touch
pub stands_touched : (calls : List Entry) (core : ℕ) (before : List EventLine) (region since : ℕ) (old new : Place) → StandsBehind calls core before old → new ≡ record old { held = old.held ++ touch_of region since ∷ [] }
    → StandsBehind calls core (before ++ lines.Touch region since ∷ []) new
stands_touched calls core before region since old new stands is =
    stands_aside calls core before (lines.Touch region since) refl old new stands (ap (λ (p : Place). p.entries) is) (ap (λ (p : Place). p.above) is) (ap (λ (p : Place). p.inside) is)
    (subst (λ (n : ℕ). IsLeast n (λ line. AllByRecursion (StopsBy line) (before ++ lines.Touch region since ∷ []))) (sym (ap (λ (p : Place). p.stop) is))
    (λ m. (
      λ le. all_and_one (StopsBy m) before (lines.Touch region since) ((stands.stop m).0 le) tt,
      λ all. (stands.stop m).1 (all_of_front (StopsBy m) before (lines.Touch region since) all),
    )))
    (λ r a.
    ap (λ (p : Place). is_held p.held r a) is ∙ one_more_held old.held region since r a
    ∙ ap (λ (b : Bool). (region == r && since == a) || b) (stands.held r a))

-- a stop
pub stands_stopped : (calls : List Entry) (core : ℕ) (before : List EventLine) (line : ℕ) (why : Why) (old new : Place) → StandsBehind calls core before old → new ≡ halted old line
    → StandsBehind calls core (before ++ lines.Stop line why ∷ []) new
stands_stopped calls core before line why old new stands is =
    stands_aside calls core before (lines.Stop line why) refl old new stands (ap (λ (p : Place). p.entries) is) (ap (λ (p : Place). p.above) is) (ap (λ (p : Place). p.inside) is)
    (subst (λ (n : ℕ). IsLeast n (λ at. AllByRecursion (StopsBy at) (before ++ lines.Stop line why ∷ []))) (sym (ap (λ (p : Place). p.stop) is))
    (λ m. (
      λ le. all_and_one (StopsBy m) before (lines.Stop line why) ((stands.stop m).0 (omega arith)) (omega arith),
      λ all.
          let before_it : old.stop ≤ m = (stands.stop m).1 (all_of_front (StopsBy m) before (lines.Stop line why) all) in
          let last : line ≤ m = all_of_last (StopsBy m) before (lines.Stop line why) all in
          omega arith,
    )))
    (λ r a. ap (λ (p : Place). is_held p.held r a) is ∙ stands.held r a)

-- ---- a line with a ticket

-- what the call that a line names does, if it is one of the core's
pub with_named : (calls : List Entry) (core t : ℕ) (found : Option Entry) (place : Place) → IsCallWithTicket calls core t found → with_call found place ≡ with_call (Some (entry_named calls core t)) place
with_named calls core t None place is = sym (ap (λ (o : Option Entry). with_call (Some (unwrap_or o (nothing_done core t))) place) is)
with_named calls core t (Some e) place is = sym (ap (λ (o : Option Entry). with_call (Some (unwrap_or o (nothing_done core t))) place) is)

enclave_by : (call : Call) (mode : Mode) → enclave_of (mode_by call mode) ≡ inside_by call (enclave_of mode)
enclave_by (calls.Enter e t) mode = refl
enclave_by calls.Exit mode = refl
enclave_by (calls.Aex saved) mode = refl
enclave_by _ mode = refl

mode_more : (calls : List Entry) (core t : ℕ) (before : List EventLine) → mode_after (map (entry_named calls core) (tickets_in (before ++ lines.Entry t ∷ [])))
    ≡ (if is_done (entry_named calls core t).reply then mode_by (entry_named calls core t).call (mode_after (map (entry_named calls core) (tickets_in before))) else mode_after (map (entry_named calls core) (tickets_in before)))
mode_more calls core t before =
    ap (λ (ts : List ℕ). mode_after (map (entry_named calls core) ts)) (tickets_more before (lines.Entry t))
    ∙ ap mode_after (map-append (entry_named calls core) (tickets_in before) (t ∷ []))
    ∙ fold-append (λ (m : Mode) (e : Entry). if is_done e.reply then mode_by e.call m else m) modes.Os (map (entry_named calls core) (tickets_in before)) (entry_named calls core t ∷ [])

module _ (calls : List Entry) (core t : ℕ) (before : List EventLine) (old : Place) (stands : StandsBehind calls core before old) where
  abbrev Now : List EventLine
  Now = before ++ lines.Entry t ∷ []

  counted : old.entries + 1 ≡ length (tickets_in Now)
  counted = omega (arith, stands.entries, ap length (tickets_more before (lines.Entry t)), length-append (tickets_in before) (t ∷ []))

  highest : IsLeast (max old.above (t + 1)) (λ m. AllByRecursion (λ x. x < m) (tickets_in Now))
  highest m = (
    λ le. subst (AllByRecursion (λ (x : ℕ). x < m)) (sym (tickets_more before (lines.Entry t))) (all_and_one (λ (x : ℕ). x < m) (tickets_in before) t ((stands.above m).0 (omega arith)) (omega arith)),
    λ all.
        let both : AllByRecursion (λ (x : ℕ). x < m) (tickets_in before ++ t ∷ []) = subst (AllByRecursion (λ (x : ℕ). x < m)) (tickets_more before (lines.Entry t)) all in
        let front : old.above ≤ m = (stands.above m).1 (all_of_front (λ (x : ℕ). x < m) (tickets_in before) t both) in
        let last : t < m = all_of_last (λ (x : ℕ). x < m) (tickets_in before) t both in
        omega arith,
  )

  stopped : IsLeast old.stop (λ line. AllByRecursion (StopsBy line) Now)
  stopped m = (
    λ le. all_and_one (StopsBy m) before (lines.Entry t) ((stands.stop m).0 le) tt,
    λ all. (stands.stop m).1 (all_of_front (StopsBy m) before (lines.Entry t) all),
  )

  abbrev Named : Entry
  Named = entry_named calls core t

  -- an Ok call clears the touches, or leaves them
  cleared : (r a : ℕ) (b : Bool) → is_held (if b then [] else old.held) r a ≡ (if true && b then false else is_touched r a (events_named calls core before))
  cleared r a true = refl
  cleared r a false = stands.held r a

  by_done : (done : Bool) → is_done Named.reply ≡ done → StandsBehind calls core Now (if done then followed (entered old t) Named.call else entered old t)
  by_done true is = record {
    entries = counted;
    above = highest;
    stop = stopped;
    inside =
        ap (inside_by Named.call) stands.inside ∙ sym (enclave_by Named.call (mode_after (map (entry_named calls core) (tickets_in before))))
        ∙ sym (ap enclave_of (mode_more calls core t before ∙ ap (λ (b : Bool). if b then mode_by Named.call (mode_after (map (entry_named calls core) (tickets_in before))) else mode_after (map (entry_named calls core) (tickets_in before))) is));
    held = λ r a.
        cleared r a (clears Named.call) ∙ sym (ap (λ (b : Bool). if b && clears Named.call then false else is_touched r a (events_named calls core before)) is)
        ∙ sym (touched_more r a calls core before (lines.Entry t));
  }
  by_done false is = record {
    entries = counted;
    above = highest;
    stop = stopped;
    inside =
        stands.inside
        ∙ sym (ap enclave_of (mode_more calls core t before ∙ ap (λ (b : Bool). if b then mode_by Named.call (mode_after (map (entry_named calls core) (tickets_in before))) else mode_after (map (entry_named calls core) (tickets_in before))) is));
    held = λ r a.
        stands.held r a ∙ sym (ap (λ (b : Bool). if b && clears Named.call then false else is_touched r a (events_named calls core before)) is)
        ∙ sym (touched_more r a calls core before (lines.Entry t));
  }

-- an entry
pub stands_entered : (calls : List Entry) (core t : ℕ) (before : List EventLine) (found : Option Entry) (old new : Place) → IsCallWithTicket calls core t found → StandsBehind calls core before old → new ≡ with_call found (entered old t)
    → StandsBehind calls core (before ++ lines.Entry t ∷ []) new
stands_entered calls core t before found old new named stands is =
    subst (StandsBehind calls core (before ++ lines.Entry t ∷ [])) (sym (is ∙ with_named calls core t found (entered old t) named))
    (by_done calls core t before old stands (is_done (entry_named calls core t).reply) refl)
