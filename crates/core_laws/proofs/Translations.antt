-- Cached translations, looks and accesses: wherever a core goes on with a page, the page's region is in a touched period.
use Rattle.std.proofs.Common.{◌≡◌, ◌∙◌, ◌+◌, ◌*◌, ◌-◌, ◌/◌, ◌%◌, ◌^◌, ◌<◌, ℕ, zero, suc, Bool, true, false, cond, ◌==◌, ◌&&◌, ◌||◌, nat_lt, nat_le, is_some, Option, Some, None, Result, Ok, Err, List, [], ◌∷◌, ◌++◌, length, append-nil, filter, ap, sym, refl, subst, arith}
use Rattle.std.specs.Prelude.{find}
use Rattle.std.specs.Option.{option_map}
use Rattle.std.specs.List.{AllByRecursion, flat_map}
use Rattle.std.proofs.lemmas.Bool.{eq-eqb}
use Rattle.std.proofs.lemmas.Bool.Decides.{nat_tests}
use Rattle.std.proofs.lemmas.List.Sums.{fold-append}
use Rattle.mon_types.specs.Shape.{Shape, is_shape, page_total, region_of_page}
use Rattle.mon_types.specs.declared.region.Owner.{Owner}
use Rattle.mon_types.specs.declared.thread.Mode.{Mode}
use Rattle.mon_types.specs.declared.thread.Mode.TheVariants as modes
use Rattle.dram_map.specs.Addresses.{page_of, page_of_frame, is_in_dram, is_dram_frame}
use Rattle.hist.specs.declared.event.Entry.{Entry as Called}
use Rattle.hist.specs.History.{entries_of}
use Rattle.hist.specs.declared.event.Event.{Event}
use Rattle.hist.specs.declared.event.Event.TheVariants as events
use Rattle.hist.specs.SafeLog.{mode_after, IsOpenTo}
use Rattle.hist.specs.Touched.{touched_by, is_touched}
use Rattle.sv39_pte.specs.declared.pte.Access.{Access}
use Rattle.sv39_pte.specs.declared.pte.Access.TheVariants as accesses
use Rattle.sv39_walk.specs.declared.walk.WalkState.{WalkState}
use Rattle.sv39_walk.specs.declared.walk.WalkState.TheVariants as states
use Rattle.sv39_walk.specs.Relation.{vpn_of}
use Rattle.sv39_walk.specs.Walking.{Walking, begun, bare}
use Rattle.tlb.specs.declared.entry.Entry.{Entry}
use Rattle.tlb.specs.Cache.{set_room, set_of, entry_of, serves, page_for, of_others, in_set, without_oldest, with_room, filled}
use Rattle.tlb.specs.Sets.{sets_of, by_set}
use Rattle.core_access.specs.declared.route.Paging.{Paging}
use Rattle.core_access.specs.declared.route.Paging.TheVariants as pagings
use Rattle.core_access.specs.declared.route.Space.{Space}
use Rattle.core_access.specs.Causes.{access_fault, page_fault}
use Rattle.core_access.specs.Routes.{is_inside, os_route, own_route, route_of}
use Rattle.core_access.specs.Looks.{since_in_word}
use Rattle.core_access.specs.Words.{place_in}
use Rattle.loaded_pages.proofs.Cases.{some_same}
use Rattle.loaded_pages.proofs.Changes.{page_home}
use Rattle.loaded_pages.proofs.Loads.{and_left, and_right}
use Rattle.protocol.specs.declared.action.Move.{Move}
use Rattle.protocol.specs.declared.action.Move.TheVariants as moves
use Rattle.protocol.specs.declared.action.Outcome.{Outcome}
use Rattle.protocol.specs.CallTree.{number_in}
use Rattle.protocol.specs.Views.{Moves, touch_in, logged, core_log, has_touched, mode_in}
use Rattle.protocol.specs.Permitted.{MayReach}
use Rattle.protocol_steps.proofs.Views.{entries_same}
use Rattle.core_behaviour.specs.Course.{Course}
use Rattle.core_behaviour.specs.Core.{Core, mode_now, made}
use Rattle.core_behaviour.specs.Accesses.{Reached, Further, looks, loads, filling, at_page, arrived, pte_loaded, at_pte, level, walked, translated_by, route_now, or_translated, accessed}
use Rattle.core_laws.specs.Outcomes.{IsWord}
use Rattle.core_laws.proofs.Tidy.{word_less}
use Rattle.core_laws.proofs.Permits.{IsPermitted, IsCached, Agrees}
use Rattle.core_laws.proofs.CallWords.{all_append}
use Rattle.core_laws.proofs.Moving.{IsOutside, outside, touched_on, log_keeps, none_drawn}

-- ---- the cache as a list

all_filter : {X : Type 0} (P : X → Type 0) (p : X → Bool) (xs : List X) → AllByRecursion P xs → AllByRecursion P (filter p xs)
all_filter P p [] h = tt
all_filter {X} P p (x ∷ xs) h = by (p x) (all_filter P p xs h.1)
  where
    by : (b : Bool) → AllByRecursion P (filter p xs) → AllByRecursion P (cond b (x ∷ filter p xs) (filter p xs))
    by true k = (h.0, k)
    by false k = k

all_flat : {X : Type 0} (P : X → Type 0) (xss : List (List X)) → AllByRecursion (AllByRecursion P) xss → AllByRecursion P (flat_map (λ xs. xs) xss)
all_flat P [] h = tt
all_flat P (xs ∷ xss) h = all_append P xs (flat_map (λ ys. ys) xss) h.0 (all_flat P xss h.1)

all_found : {X : Type 0} (P : X → Type 0) (p : X → Bool) (xs : List X) (x : X) → AllByRecursion P xs → find p xs ≡ Some x → P x
all_found P p [] x h e = absurd (cc)
all_found {X} P p (y ∷ ys) x h e = by (p y) e (λ f. all_found P p ys x h.1 f)
  where
    by : (b : Bool) → cond b (Some y) (find p ys) ≡ Some x → (find p ys ≡ Some x → P x) → P x
    by true f k = subst P (some_same f) h.0
    by false f k = k f

all_without : (P : Entry → Type 0) (set : ℕ) (es : List Entry) → AllByRecursion P es → AllByRecursion P (without_oldest set es)
all_without P set [] h = tt
all_without P set (e ∷ es) h = by (set_of e.vpn == set) (all_without P set es h.1)
  where
    by : (b : Bool) → AllByRecursion P (without_oldest set es) → AllByRecursion P (cond b es (e ∷ without_oldest set es))
    by true k = h.1
    by false k = (h.0, k)

all_room : (P : Entry → Type 0) (set : ℕ) (es : List Entry) → AllByRecursion P es → AllByRecursion P (with_room set es)
all_room P set es h = by (nat_lt (length (in_set set es)) set_room)
  where
    by : (b : Bool) → AllByRecursion P (cond b es (without_oldest set es))
    by true = h
    by false = all_without P set es h

-- what a fill leaves
all_filled : (P : Entry → Type 0) (es : List Entry) (e : Entry) → AllByRecursion P es → P e → AllByRecursion P (by_set (filled es e))
all_filled P es e h p =
    let some : AllByRecursion P (filled es e) = all_append P (with_room (set_of e.vpn) (of_others e.vpn es)) (e ∷ []) (all_room P (set_of e.vpn) (of_others e.vpn es) (all_filter P _ es h)) (p, tt) in
    all_flat P (sets_of (filled es e)) (all_filter P _ (filled es e) some, (all_filter P _ (filled es e) some, (all_filter P _ (filled es e) some, (all_filter P _ (filled es e) some, tt))))

-- ---- addresses

address_page : (shape : Shape) (address page : ℕ) → page_of shape address ≡ Some page → page < page_total shape
address_page shape address page e = by (is_in_dram shape address) refl e
  where
    inside : (total a : ℕ) → nat_le 0x8000_0000 a ≡ true → nat_lt a (0x8000_0000 + 4096 * total) ≡ true → (a - 0x8000_0000) / 4096 < total
    inside total a h k = grind (arith, nat_tests)

    by : (b : Bool) → is_in_dram shape address ≡ b → cond b (Some ((address - 0x8000_0000) / 4096)) None ≡ Some page → page < page_total shape
    by true f g = subst (λ p. p < page_total shape) (some_same g) (inside (page_total shape) address (and_left _ _ f) (and_right _ _ f))
    by false f g = absurd (cc)

frame_page : (shape : Shape) (frame page : ℕ) → page_of_frame shape frame ≡ Some page → page < page_total shape
frame_page shape frame page e = by (is_dram_frame shape frame) refl e
  where
    inside : (total f : ℕ) → nat_le 0x80000 f ≡ true → nat_lt f (0x80000 + total) ≡ true → f - 0x80000 < total
    inside total f h k = grind (arith, nat_tests)

    by : (b : Bool) → is_dram_frame shape frame ≡ b → cond b (Some (frame - 0x80000)) None ≡ Some page → page < page_total shape
    by true f g = subst (λ p. p < page_total shape) (some_same g) (inside (page_total shape) frame (and_left _ _ f) (and_right _ _ f))
    by false f g = absurd (cc)

region_low : (shape : Shape) (page : ℕ) → is_shape shape ≡ true → region_of_page shape page < shape.regions
region_low shape page is = low (page / 2 ^ shape.shift) shape.regions some
  where
    some : 0 < shape.regions
    some = grind (arith, nat_tests)

    low : (a n : ℕ) → 0 < n → a % n < n
    low a n h = omega arith

-- a word on a page whose region is in a touched period
pub may_reach : (shape : Shape) (core calls : ℕ) (ms : Moves) (c : Core) (page va : ℕ) → Agrees shape core calls ms c → IsCached shape core ms page → MayReach shape core ms (place_in page va)
may_reach shape core calls ms c page va a h = record {
  outside = a.idle;
  word = low page (page_total shape) (va % 4096 / 8) h.there (omega arith);
  since = h.since;
  touched = subst (λ r. has_touched core ms r h.since ≡ true) (sym (page_home shape page (va % 4096 / 8) (omega arith))) h.touched;
}
  where
    low : (page total i : ℕ) → page < total → i < 512 → 512 * page + i < 512 * total
    low page total i p q = omega arith

-- ---- a look

-- a good look leaves its period touched
look_touches : (r : ℕ) (since : Option ℕ) (log : List Event) → is_some since ≡ true → (a : ℕ) × (is_touched r a (log ++ touch_in r since log) ≡ true)
unfolding touch_in
look_touches r None log h = absurd (cc)
look_touches r (Some a) log h = (a, by (is_touched r a log) refl)
  where
    same : (((r == r) && (a == a)) || is_touched r a log) ≡ true
    same = ap (λ b. (b && (a == a)) || is_touched r a log) (eq-eqb r r refl) ∙ ap (λ b. b || is_touched r a log) (eq-eqb a a refl)

    by : (b : Bool) → is_touched r a log ≡ b → is_touched r a (log ++ cond b [] (events.Touch r a ∷ [])) ≡ true
    by true e = ap (is_touched r a) (append-nil log) ∙ e
    by false e = fold-append (touched_by r a) false log (events.Touch r a ∷ []) ∙ same

-- a core that may look for this owner
pub record MayAccess (shape : Shape) (core calls : ℕ) (whom : Owner) (ms : Moves) (c : Core) : Type 0 where
  pub agrees : Agrees shape core calls ms c
  pub open_to : IsOpenTo (mode_in core ms) whom

-- where a translation has led: to a page whose region is in a touched period, or to a fault
abbrev pub IsReached : Shape → ℕ → Moves → Result ℕ ℕ → Type 0
IsReached shape core ms (Ok page) = IsCached shape core ms page
IsReached shape core ms (Err cause) = IsWord cause

abbrev pub FollowReached : Shape → ℕ → ℕ → Reached → Type 0
FollowReached shape core calls next = (ms : Moves) (c : Core) (result : Result ℕ ℕ) → Agrees shape core calls ms c → IsReached shape core ms result → IsPermitted shape core ms (next c result)

access_less : (access : Access) → IsWord (access_fault access)
access_less accesses.Fetch = omega arith
access_less accesses.Load = omega arith
access_less accesses.Store = omega arith

page_less : (access : Access) → IsWord (page_fault access)
page_less accesses.Fetch = omega arith
page_less accesses.Load = omega arith
page_less accesses.Store = omega arith

still_cached : (shape : Shape) (core : ℕ) (ms : Moves) (page : ℕ) (move : Move) (out : Outcome) → IsOutside move → IsCached shape core ms page → IsCached shape core ((move, out) ∷ ms) page
unfolding core_log
still_cached shape core ms page move out o h = record {
  there = h.there;
  since = h.since;
  touched = touched_on _ h.since (core_log core ms) (logged core (core_log core ms) move out) (log_keeps _ h.since core (core_log core ms) move out o) h.touched;
}

module _ (shape : Shape) (is : is_shape shape ≡ true) (core calls : ℕ) where
  still_open : (whom : Owner) (ms : Moves) (c : Core) (move : Move) (out : Outcome) → IsOutside move → MayAccess shape core calls whom ms c → MayAccess shape core calls whom ((move, out) ∷ ms) (made c move out)
  still_open whom ms c move out o m = record {
    agrees = outside shape core calls ms c move out o m.agrees;
    open_to = subst (λ (es : List Called). IsOpenTo (mode_after es) whom) (sym (entries_same core move out ms (none_drawn move o))) m.open_to;
  }

  all_looks : (whom : Owner) (page : ℕ) (ms : Moves) (c : Core) (next : Core → Bool → Course) → page < page_total shape → MayAccess shape core calls whom ms c
      → ((more : Moves) (d : Core) (good : Bool) → MayAccess shape core calls whom more d → (good ≡ true → IsCached shape core more page) → IsPermitted shape core more (next d good)) → IsPermitted shape core ms (looks shape whom page c next)
  unfolding core_log logged
  all_looks whom page ms c next there m follow = (
    record { outside = m.agrees.idle; region = region_low shape page is; for_whom = m.open_to },
    tt,
    λ out f.
        follow ((moves.Look (region_of_page shape page) whom, out) ∷ ms) _ _ (still_open whom ms c (moves.Look (region_of_page shape page) whom) out tt m)
        (λ good. (let t = look_touches (region_of_page shape page) (since_in_word whom (number_in out)) (core_log core ms) good in record { there = there; since = t.0; touched = t.1 })),
  )

  pub all_loads : (page va : ℕ) (ms : Moves) (c : Core) (next : Core → ℕ → Course) → Agrees shape core calls ms c → IsCached shape core ms page
      → ((more : Moves) (d : Core) (word : ℕ) → Agrees shape core calls more d → IsCached shape core more page → IsWord word → IsPermitted shape core more (next d word)) → IsPermitted shape core ms (loads (place_in page va) c next)
  all_loads page va ms c next a h follow =
      (may_reach shape core calls ms c page va a h, tt, λ out f. follow ((moves.Load (place_in page va), out) ∷ ms) _ (number_in out) (outside shape core calls ms c (moves.Load (place_in page va)) out tt a) (still_cached shape core ms page (moves.Load (place_in page va)) out tt h) (word_less out f))

  module _ (va : ℕ) (access : Access) (next : Reached) (follow : FollowReached shape core calls next) where
    all_filling : (vpn page : ℕ) (load store fetch : Bool) (ms : Moves) (c : Core) (good : Bool) → Agrees shape core calls ms c → (good ≡ true → IsCached shape core ms page) → IsPermitted shape core ms (filling access (entry_of vpn page load store fetch) next c good)
    all_filling vpn page load store fetch ms c true a h = follow ms (record c { cache = by_set (filled c.cache (entry_of vpn page load store fetch)) }) (Ok page)
        (record {
          number = a.number;
          log = a.log;
          answers = a.answers;
          idle = a.idle;
          room = a.room;
          caller = a.caller;
          contexts = a.contexts;
          pending = a.pending;
          cached = all_filled (λ e. IsCached shape core ms e.page) c.cache (entry_of vpn page load store fetch) a.cached (h refl);
        }) (h refl)
    all_filling vpn page load store fetch ms c false a h = follow ms c (Err (access_fault access)) a (access_less access)

    all_at_page : (whom : Owner) (load store fetch : Bool) (place : Option ℕ) (ms : Moves) (c : Core) → ((page : ℕ) → place ≡ Some page → page < page_total shape) → MayAccess shape core calls whom ms c → IsPermitted shape core ms (at_page shape whom va access load store fetch place c next)
    all_at_page whom load store fetch None ms c low m = follow ms c (Err (access_fault access)) m.agrees (access_less access)
    all_at_page whom load store fetch (Some page) ms c low m =
        all_looks whom page ms c _ (low page refl) m (λ more d good n h. all_filling (vpn_of va) page load store fetch more d good n.agrees h)

    all_arrived : (whom : Owner) (state : WalkState) (ms : Moves) (c : Core) → MayAccess shape core calls whom ms c → IsPermitted shape core ms (arrived shape whom va access state c next)
    all_arrived whom (states.Found frame load store fetch) ms c m = all_at_page whom load store fetch (page_of_frame shape frame) ms c (λ page e. frame_page shape frame page e) m
    all_arrived whom (states.Wish address) ms c m = follow ms c (Err (page_fault access)) m.agrees (page_less access)
    all_arrived whom states.PageFault ms c m = follow ms c (Err (page_fault access)) m.agrees (page_less access)

    all_at_pte : (whom : Owner) (w : Walking) (address : ℕ) (place : Option ℕ) (ms : Moves) (c : Core) (down : Further) → ((page : ℕ) → place ≡ Some page → page < page_total shape) → MayAccess shape core calls whom ms c
        → ((x : Walking) (more : Moves) (d : Core) → MayAccess shape core calls whom more d → IsPermitted shape core more (down x d)) → IsPermitted shape core ms (at_pte shape whom access w address place c down next)
    all_at_pte whom w address None ms c down low m go = follow ms c (Err (access_fault access)) m.agrees (access_less access)
    all_at_pte whom w address (Some page) ms c down low m go = all_looks whom page ms c _ (low page refl) m (λ more d good n h. loaded more d good n h)
      where
        loaded : (more : Moves) (d : Core) (good : Bool) → MayAccess shape core calls whom more d → (good ≡ true → IsCached shape core more page) → IsPermitted shape core more (pte_loaded access w (place_in page address) down next d good)
        loaded more d true n h =
            (may_reach shape core calls more d page address n.agrees (h refl), tt, λ out f. go _ _ _ (still_open whom more d (moves.Load (place_in page address)) out tt n))
        loaded more d false n h = follow more d (Err (access_fault access)) n.agrees (access_less access)

    all_level : (whom : Owner) (w : Walking) (state : WalkState) (ms : Moves) (c : Core) (down : Further) → MayAccess shape core calls whom ms c
        → ((x : Walking) (more : Moves) (d : Core) → MayAccess shape core calls whom more d → IsPermitted shape core more (down x d)) → IsPermitted shape core ms (level shape whom va access w state c down next)
    all_level whom w (states.Wish address) ms c down m go = all_at_pte whom w address (page_of shape address) ms c down (λ page e. address_page shape address page e) m go
    all_level whom w (states.Found frame load store fetch) ms c down m go = all_arrived whom (states.Found frame load store fetch) ms c m
    all_level whom w states.PageFault ms c down m go = all_arrived whom states.PageFault ms c m

    all_walked : (whom : Owner) (levels : ℕ) (w : Walking) (ms : Moves) (c : Core) → MayAccess shape core calls whom ms c → IsPermitted shape core ms (walked shape whom va access levels w c next)
    unfolding walked
    all_walked whom zero w ms c m = all_arrived whom w.state ms c m
    all_walked whom (suc levels) w ms c m = all_level whom w w.state ms c (λ x d. walked shape whom va access levels x d next) m (λ x more d n. all_walked whom levels x more d n)

    all_translated : (whom : Owner) (paging : Paging) (ms : Moves) (c : Core) → MayAccess shape core calls whom ms c → IsPermitted shape core ms (translated_by shape whom va access paging c next)
    all_translated whom pagings.Bare ms c m = all_arrived whom (bare va) ms c m
    all_translated whom (pagings.Sv39 root) ms c m = all_walked whom 3 (begun root va access (mode_now c)) ms c m

    open_route : (mode : Mode) (space : Space) (satp : ℕ) → IsOpenTo mode (route_of mode space satp va).owner
    open_route modes.Os space satp = tt
    open_route (modes.Inside e t) space satp = by (is_inside space va)
      where
        by : (b : Bool) → IsOpenTo (modes.Inside e t) (cond b (own_route e space) (os_route satp)).owner
        by true = refl
        by false = tt

    all_or_translated : (place : Option ℕ) (ms : Moves) (c : Core) → ((page : ℕ) → place ≡ Some page → IsCached shape core ms page) → Agrees shape core calls ms c → IsPermitted shape core ms (or_translated shape va access place c next)
    all_or_translated (Some page) ms c h a = follow ms c (Ok page) a (h page refl)
    all_or_translated None ms c h a =
        all_translated (route_now c va).owner (route_now c va).paging ms c
        (record { agrees = a; open_to = subst (λ (log : List Event). IsOpenTo (mode_after (entries_of log)) (route_now c va).owner) a.log (open_route (mode_now c) c.space c.satp) })

    pub all_accessed : (ms : Moves) (c : Core) → Agrees shape core calls ms c → IsPermitted shape core ms (accessed shape va access c next)
    all_accessed ms c a = all_or_translated (page_for c.cache (vpn_of va) access) ms c (λ page e. in_cache (find (serves (vpn_of va) access) c.cache) refl page e) a
      where
        in_cache : (o : Option Entry) → find (serves (vpn_of va) access) c.cache ≡ o → (page : ℕ) → option_map (λ (e : Entry). e.page) o ≡ Some page → IsCached shape core ms page
        in_cache None f page e = absurd (cc)
        in_cache (Some x) f page e = subst (IsCached shape core ms) (some_same e) (all_found (λ y. IsCached shape core ms y.page) (serves (vpn_of va) access) c.cache x a.cached f)
