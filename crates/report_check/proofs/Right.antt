-- An event line is right exactly where what is kept of its log says so.
use Rattle.std.proofs.Common.{◌≡◌, ℕ, ◌+◌, ◌<◌, ◌≤◌, ◌==◌, Bool, true, false, List, [], ◌∷◌, ◌++◌, length, drop, map, filter, slice_get, Option, Some, None, refl, sym, ap, subst, ◌∙◌, arith}
use Rattle.std.specs.Prelude.{Any, IfSome, IsSomeAnd, not}
use Rattle.std.specs.Bool.{Decides}
use Rattle.std.specs.List.{AllByRecursion}
use Rattle.std.proofs.lemmas.Bool.{true≢false, eqb-true, eq-eqb}
use Rattle.std.proofs.lemmas.Grind.{flat_map-append}
use Rattle.std.proofs.lemmas.List.{length-append}
use Rattle.mon_types.specs.Shape.{Shape}
use Rattle.mon_types.specs.declared.region.Owner.{Owner}
use Rattle.mon_types.specs.declared.region.Owner.TheVariants as owners
use Rattle.mon_types.specs.declared.thread.Mode.{Mode}
use Rattle.mon_types.specs.declared.thread.Mode.TheVariants as modes
use Rattle.hist.specs.declared.event.Entry.{Entry}
use Rattle.hist.specs.declared.event.Why.{Why}
use Rattle.hist.specs.declared.event.Why.TheVariants as whys
use Rattle.hist.specs.declared.period.Period.{Period}
use Rattle.hist.specs.Period.{period_in}
use Rattle.hist.specs.SafeLog.{mode_after, IsOpenTo, IsTouch}
use Rattle.report_lines.specs.declared.event.EventLine.{EventLine}
use Rattle.report_lines.specs.declared.event.EventLine.TheVariants as lines
use Rattle.legal_report.specs.Counted.{counted, ticket_in, tickets_of, entry_named, events_named}
use Rattle.legal_report.specs.Checks.{EndsAt}
use Rattle.legal_report.specs.Drawn.{tickets_in, is_flush_named}
use Rattle.legal_report.specs.Least.{least_behind}
use Rattle.legal_report.specs.ByTickets.{IsSafeByTickets}
use Rattle.legal_report.specs.Kept.{calls_told}
use Rattle.legal_report.specs.declared.tickets.Calls.{Calls}
use Rattle.legal_report.proofs.Touching.{tickets_tell_touches}
use Rattle.report_check.specs.Holds.{is_held}
use Rattle.report_check.specs.Place.{enclave_of, StandsBehind, IsOpenHere}
use Rattle.report_check.specs.Whole.{IsWhole, FlushedBetween}
use Rattle.report_check.specs.Event.{IsInTime, IsAllowed, IsSafeHere, IsNewHere, IsTouchHere, EndsHere, IsStopHere, DecidesEvent}
use Rattle.report_check.specs.declared.place.Place.{Place}
use Rattle.report_check.specs.declared.whole.Whole.{Whole}
use Rattle.report_check.proofs.Flushing.{flushes_told, flushes_tell}

-- ---- facts that are decided together

-- two facts, the first of which holds
both_then : (a b : Bool) (P Q : Type 0) → a ≡ true → Decides a P → Decides b Q → Decides b (P × Q)
both_then a b P Q holds p q = (λ sure. (p.0 holds, q.0 sure), λ both. q.1 both.1)

-- or does not
both_else : (a : Bool) (P Q : Type 0) → a ≡ false → Decides a P → Decides a (P × Q)
both_else a P Q fails p = (λ sure. absurd (true≢false (sym sure ∙ fails)), λ both. p.1 both.0)

decides_as : (a : Bool) (P Q : Type 0) → (P → Q) → (Q → P) → Decides a P → Decides a Q
decides_as a P Q to from d = (λ sure. to (d.0 sure), λ q. d.1 (from q))

decides_not : (a : Bool) → Decides (not a) (a ≡ false)
decides_not true = (λ sure. absurd (true≢false (sym sure)), λ is. absurd (true≢false is))
decides_not false = (λ sure. refl, λ is. refl)

-- ---- a touch, by what is kept

module _ (tickets : List ℕ) (place : Place) (whole : Whole) (q : Period) where
  abbrev Before : Type 0
  Before = IfSome q.blocked (λ b. place.above ≤ b)

  abbrev Behind : Type 0
  Behind = AllByRecursion (λ t. q.since < t) (drop place.entries tickets)

  abbrev Owned : Type 0
  Owned = IsOpenHere place.inside q.owner

  abbrev Flushed : Type 0
  Flushed = FlushedBetween whole.flushes q.blocked q.freed

  as_time : (a : Bool) → Decides a (Before × Behind) → Decides a (IsInTime tickets place q)
  as_time a d = decides_as a (Before × Behind) (IsInTime tickets place q) (λ both. record { before_block = both.0; after_beginning = both.1 }) (λ time. (time.before_block, time.after_beginning)) d

  pub time_then : (a b : Bool) → a ≡ true → Decides a Before → Decides b Behind → Decides b (IsInTime tickets place q)
  time_then a b holds p r = as_time b (both_then a b Before Behind holds p r)

  pub time_else : (a : Bool) → a ≡ false → Decides a Before → Decides a (IsInTime tickets place q)
  time_else a fails p = as_time a (both_else a Before Behind fails p)

  as_allowed : (a : Bool) → Decides a (Owned × Flushed) → Decides a (IsAllowed place whole q)
  as_allowed a d = decides_as a (Owned × Flushed) (IsAllowed place whole q) (λ both. record { owner = both.0; counted_flush = both.1 }) (λ all. (all.owner, all.counted_flush)) d

  pub allowed_then : (a b : Bool) → a ≡ true → Decides a Owned → Decides b Flushed → Decides b (IsAllowed place whole q)
  allowed_then a b holds p r = as_allowed b (both_then a b Owned Flushed holds p r)

  pub allowed_else : (a : Bool) → a ≡ false → Decides a Owned → Decides a (IsAllowed place whole q)
  allowed_else a fails p = as_allowed a (both_else a Owned Flushed fails p)

  as_safe : (a : Bool) → Decides a (IsInTime tickets place q × IsAllowed place whole q) → Decides a (IsSafeHere tickets place whole q)
  as_safe a d =
      decides_as a (IsInTime tickets place q × IsAllowed place whole q) (IsSafeHere tickets place whole q) (λ both. record { timely = both.0; allowed = both.1 }) (λ safe. (safe.timely, safe.allowed)) d

  pub safe_then : (a b : Bool) → a ≡ true → Decides a (IsInTime tickets place q) → Decides b (IsAllowed place whole q) → Decides b (IsSafeHere tickets place whole q)
  safe_then a b holds p r = as_safe b (both_then a b (IsInTime tickets place q) (IsAllowed place whole q) holds p r)

  pub safe_else : (a : Bool) → a ≡ false → Decides a (IsInTime tickets place q) → Decides a (IsSafeHere tickets place whole q)
  safe_else a fails p = as_safe a (both_else a (IsInTime tickets place q) (IsAllowed place whole q) fails p)

  as_new : (r s : ℕ) (a : Bool) → Decides a (IsSafeHere tickets place whole q × (is_held place.held r s ≡ false)) → Decides a (IsNewHere tickets place whole r s q)
  as_new r s a d =
      decides_as a (IsSafeHere tickets place whole q × (is_held place.held r s ≡ false)) (IsNewHere tickets place whole r s q) (λ both. record { safe = both.0; untouched = both.1 }) (λ new. (new.safe, new.untouched)) d

  pub new_then : (r s : ℕ) (a held : Bool) → a ≡ true → Decides a (IsSafeHere tickets place whole q) → held ≡ is_held place.held r s → Decides (not held) (IsNewHere tickets place whole r s q)
  new_then r s a held holds p h =
      as_new r s (not held)
      (both_then a (not held) (IsSafeHere tickets place whole q) (is_held place.held r s ≡ false) holds p (subst (λ (b : Bool). Decides (not held) (b ≡ false)) h (decides_not held)))

  pub new_else : (r s : ℕ) (a : Bool) → a ≡ false → Decides a (IsSafeHere tickets place whole q) → Decides a (IsNewHere tickets place whole r s q)
  new_else r s a fails p = as_new r s a (both_else a (IsSafeHere tickets place whole q) (is_held place.held r s ≡ false) fails p)

pub touch_there : (calls : List Entry) (tickets : List ℕ) (place : Place) (whole : Whole) (r a : ℕ) (found : Option Period) (q : Period) (right : Bool) → found ≡ period_in (counted calls) r a → found ≡ Some q → Decides right (IsNewHere tickets place whole r a q) → Decides right (IsTouchHere calls tickets place whole r a)
touch_there calls tickets place whole r a found q right is some d =
    subst (λ (o : Option Period). Decides right (IsSomeAnd o (IsNewHere tickets place whole r a))) (sym some ∙ is) d

pub touch_nowhere : (calls : List Entry) (tickets : List ℕ) (place : Place) (whole : Whole) (r a : ℕ) (found : Option Period) → found ≡ period_in (counted calls) r a → found ≡ None → Decides false (IsTouchHere calls tickets place whole r a)
touch_nowhere calls tickets place whole r a found is none =
    subst (λ (o : Option Period). Decides false (IsSomeAnd o (IsNewHere tickets place whole r a))) (sym none ∙ is) (λ yes. absurd (true≢false (sym yes)), λ any. absurd any)

-- ---- a touch, by the definition

-- the tickets behind so many
drop_front : (xs ys : List ℕ) → drop (length xs) (xs ++ ys) ≡ ys
drop_front [] ys = refl
drop_front (x ∷ xs) ys = drop_front xs ys

open_told : (mode : Mode) (owner : Owner) → IsOpenHere (enclave_of mode) owner → IsOpenTo mode owner
open_told mode owners.Os mine = tt
open_told modes.Os (owners.Enclave e) mine = mine
open_told (modes.Inside f t) (owners.Enclave e) mine = mine

open_tells : (mode : Mode) (owner : Owner) → IsOpenTo mode owner → IsOpenHere (enclave_of mode) owner
open_tells mode owners.Os mine = tt
open_tells modes.Os (owners.Enclave e) mine = mine
open_tells (modes.Inside f t) (owners.Enclave e) mine = mine

block_told : (o : Option ℕ) (above : ℕ) (tickets : List ℕ) → ((m : ℕ) → (above ≤ m → AllByRecursion (λ t. t < m) tickets) × (AllByRecursion (λ t. t < m) tickets → above ≤ m)) → IfSome o (λ b. above ≤ b) → IfSome o (λ b. AllByRecursion (λ t. t < b) tickets)
block_told None above tickets least some = tt
block_told (Some b) above tickets least some = (least b).0 some

block_tells : (o : Option ℕ) (above : ℕ) (tickets : List ℕ) → ((m : ℕ) → (above ≤ m → AllByRecursion (λ t. t < m) tickets) × (AllByRecursion (λ t. t < m) tickets → above ≤ m)) → IfSome o (λ b. AllByRecursion (λ t. t < b) tickets) → IfSome o (λ b. above ≤ b)
block_tells None above tickets least some = tt
block_tells (Some b) above tickets least some = (least b).1 some

module _ (calls : List Entry) (core : ℕ) (before : List EventLine) (r a : ℕ) (behind : List EventLine) (place : Place) (whole : Whole) (stands : StandsBehind calls core before place) (is_whole : IsWhole calls core (before ++ lines.Touch r a ∷ behind) whole) where
  abbrev Log : List EventLine
  Log = before ++ lines.Touch r a ∷ behind

  all_tickets : tickets_in Log ≡ tickets_in before ++ tickets_in behind
  all_tickets = flat_map-append ticket_in before (lines.Touch r a ∷ behind)

  back : drop place.entries (tickets_in Log) ≡ tickets_in behind
  back = ap (λ (n : ℕ). drop n (tickets_in Log)) stands.entries ∙ ap (drop (length (tickets_in before))) all_tickets ∙ drop_front (tickets_in before) (tickets_in behind)

  abbrev Flushes : List ℕ
  Flushes = filter (is_flush_named calls core) (tickets_in Log)

  safe_told : (q : Period) → IsNewHere (tickets_in Log) place whole r a q → IsSafeByTickets calls core before r a behind q
  safe_told q new = record {
    before_block = block_told q.blocked place.above (tickets_in before) stands.above new.safe.timely.before_block;
    after_beginning = subst (AllByRecursion (λ (t : ℕ). q.since < t)) back new.safe.timely.after_beginning;
    owner = open_told (mode_after (map (entry_named calls core) (tickets_in before))) q.owner (subst (λ (o : Option ℕ). IsOpenHere o q.owner) stands.inside new.safe.allowed.owner);
    counted_flush = λ b z blocked freed.
        subst (λ (ts : List ℕ). Any (λ (t : ℕ). (b < t) × (t < z)) (filter (is_flush_named calls core) ts)) all_tickets
        (flushes_told Flushes whole.flushes q.blocked q.freed b z is_whole.flushes new.safe.allowed.counted_flush blocked freed);
    untouched = sym (stands.held r a) ∙ new.untouched;
  }

  safe_tells : (q : Period) → IsSafeByTickets calls core before r a behind q → IsNewHere (tickets_in Log) place whole r a q
  safe_tells q safe = record {
    safe = record {
      timely = record {
        before_block = block_tells q.blocked place.above (tickets_in before) stands.above safe.before_block;
        after_beginning = subst (AllByRecursion (λ (t : ℕ). q.since < t)) (sym back) safe.after_beginning;
      };
      allowed = record {
        owner = subst (λ (o : Option ℕ). IsOpenHere o q.owner) (sym stands.inside) (open_tells (mode_after (map (entry_named calls core) (tickets_in before))) q.owner safe.owner);
        counted_flush =
            flushes_tell Flushes whole.flushes q.blocked q.freed is_whole.flushes
            (λ b z blocked freed. subst (λ (ts : List ℕ). Any (λ (t : ℕ). (b < t) × (t < z)) (filter (is_flush_named calls core) ts)) (sym all_tickets) (safe.counted_flush b z blocked freed));
      };
    };
    untouched = stands.held r a ∙ safe.untouched;
  }

  some_told : (o : Option Period) → IsSomeAnd o (IsNewHere (tickets_in Log) place whole r a) → IsSomeAnd o (IsSafeByTickets calls core before r a behind)
  some_told None any = any
  some_told (Some q) any = safe_told q any

  some_tells : (o : Option Period) → IsSomeAnd o (IsSafeByTickets calls core before r a behind) → IsSomeAnd o (IsNewHere (tickets_in Log) place whole r a)
  some_tells None any = any
  some_tells (Some q) any = safe_tells q any

  touch_decided : (shape : Shape) (right : Bool) → r < shape.regions → Decides right (IsTouchHere calls (tickets_in Log) place whole r a) → Decides right (IsTouch shape (counted calls) (events_named calls core before) r a (events_named calls core behind))
  touch_decided shape right region d =
      let laws = tickets_tell_touches shape calls core before r a behind in (
        λ yes. laws.1 (record { region = region; period = some_told (period_in (counted calls) r a) (d.0 yes) }),
        λ touch. d.1 (some_tells (period_in (counted calls) r a) (laws.0 touch).period),
      )

-- ---- each event line

pub right_touch : (calls : Calls) (core : ℕ) (place : Place) (whole : Whole) (passed r a : ℕ) (right : Bool) → r < calls.config.now.regions
    → ((tickets : List ℕ) → whole.least ≡ least_behind tickets → Decides right (IsTouchHere (calls_told calls) tickets place whole r a))
    → DecidesEvent calls core place whole passed (lines.Touch r a) right
right_touch calls core place whole passed r a right region d before behind count stands is =
    touch_decided (calls_told calls) core before r a behind place whole stands is calls.config.now right region (d (tickets_in (before ++ lines.Touch r a ∷ behind)) is.least)

pub right_entry : (calls : Calls) (core : ℕ) (place : Place) (whole : Whole) (passed t : ℕ) (right : Bool) → Decides right (slice_get (tickets_of (calls_told calls) core) place.entries ≡ Some t)
    → DecidesEvent calls core place whole passed (lines.Entry t) right
right_entry calls core place whole passed t right d before behind count stands is =
    subst (λ (n : ℕ). Decides right (slice_get (tickets_of (calls_told calls) core) n ≡ Some t)) stands.entries d

ends_told : (why : Why) (last : Bool) (behind : List EventLine) → (last ≡ true → behind ≡ []) → EndsHere why last → EndsAt why behind
ends_told (whys.Trap cause value) last behind is ends = tt
ends_told whys.Limit last behind is ends = is ends

ends_tell : (why : Why) (last : Bool) (behind : List EventLine) → (behind ≡ [] → last ≡ true) → EndsAt why behind → EndsHere why last
ends_tell (whys.Trap cause value) last behind is ends = tt
ends_tell whys.Limit last behind is ends = is ends

is_empty : (xs : List EventLine) → length xs ≡ 0 → xs ≡ []
is_empty [] none = refl
is_empty (x ∷ xs) none = absurd (omega (arith, none))

pub right_stop : (calls : Calls) (core : ℕ) (place : Place) (whole : Whole) (passed line : ℕ) (why : Why) (last right : Bool) → last ≡ (whole.events == passed + 1) → Decides right (IsStopHere place line why last)
    → DecidesEvent calls core place whole passed (lines.Stop line why) right
right_stop calls core place whole passed line why last right l d before behind count stands is =
    let size : whole.events ≡ passed + (1 + length behind) = omega (arith, is.events, length-append before (lines.Stop line why ∷ behind), count) in
    let no_more : last ≡ true → behind ≡ [] = λ yes. let n : whole.events ≡ passed + 1 = eqb-true whole.events (passed + 1) (sym l ∙ yes) in is_empty behind (omega (arith, size, n)) in
    let is_last : behind ≡ [] → last ≡ true = λ none. l ∙ eq-eqb whole.events (passed + 1) (omega (arith, size, ap length none)) in (
      λ yes. let stop = d.0 yes in record { counted = stop.counted; ascends = (stands.stop line).0 stop.ascends; ends = ends_told why last behind no_more stop.ends },
      λ stop. d.1 (record { counted = stop.counted; ascends = (stands.stop line).1 stop.ascends; ends = ends_tell why last behind is_last stop.ends }),
    )
