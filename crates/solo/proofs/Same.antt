-- An access neither calls the monitor nor changes its state: it leaves the history as it was.
use Rattle.std.proofs.Common.{◌≡◌, ℕ, Bool, true, false, cond, List, [], ◌∷◌, ◌++◌, Option, Some, None, Result, Ok, Err, refl, ap, ◌∙◌}
use Rattle.std.proofs.lemmas.Grind.{flat_map-append}
use Rattle.std.proofs.lemmas.List.{append-nil}
use Rattle.mon_types.specs.Shape.{region_of_page}
use Rattle.mon_types.specs.Owns.{own_word}
use Rattle.mon_types.specs.declared.region.Owner.{Owner}
use Rattle.hist.specs.declared.event.Entry.{Entry}
use Rattle.hist.specs.declared.event.Event.{Event}
use Rattle.hist.specs.declared.event.Event.TheVariants as events
use Rattle.hist.specs.History.{entry_in, entries_of}
use Rattle.dram_map.specs.Addresses.{page_of, page_of_frame}
use Rattle.sv39_pte.specs.declared.pte.Access.{Access}
use Rattle.sv39_walk.specs.declared.walk.WalkState.{WalkState}
use Rattle.sv39_walk.specs.declared.walk.WalkState.TheVariants as states
use Rattle.sv39_walk.specs.Relation.{vpn_of}
use Rattle.sv39_walk.specs.Walking.{Walking, begun}
use Rattle.tlb.specs.declared.entry.Entry.{Entry as Translation}
use Rattle.tlb.specs.Cache.{entry_of, page_for}
use Rattle.core_access.specs.declared.route.Paging.{Paging}
use Rattle.core_access.specs.declared.route.Paging.TheVariants as pagings
use Rattle.core_access.specs.Looks.{owned_since}
use Rattle.core_access.specs.Touched.{is_touched}
use Rattle.core_access.specs.Words.{place_in}
use Rattle.solo.specs.Core.{Core, mode_now, given}
use Rattle.sv39_walk.specs.Walking.{bare}
use Rattle.solo.specs.Translation.{region_under, with_touch_if_good, looked, is_good_look, filling, at_page, arrived, pte_loaded, at_pte, descended_from, descended, Descended, descended_on, next_level, arrived_by, walked, translated_by, route_now, or_translated, accessed}

-- the entries of a log with one more event
pub grown : (log : List Event) (event : Event) → entries_of (log ++ event ∷ []) ≡ entries_of log ++ entry_in event
grown log event = flat_map-append entry_in log (event ∷ []) ∙ ap (λ (es : List Entry). entries_of log ++ es) (append-nil (entry_in event))

-- the second core has the state, the calls and the entries of the first
pub record Same (c d : Core) : Type 0 where
  pub state : d.state ≡ c.state
  pub made : d.made ≡ c.made
  pub entries : entries_of d.log ≡ entries_of c.log

itself : (c : Core) → Same c c
itself c = record { state = refl; made = refl; entries = refl }

pub then_same : {c d e : Core} → Same c d → Same d e → Same c e
then_same s t = record { state = t.state ∙ s.state; made = t.made ∙ s.made; entries = t.entries ∙ s.entries }

-- ---- looks

no_entry : (log : List Event) (r since : ℕ) → entries_of (log ++ events.Touch r since ∷ []) ≡ entries_of log
no_entry log r since = grown log (events.Touch r since) ∙ append-nil (entries_of log)

either_log : (b : Bool) (log : List Event) (r since : ℕ) → entries_of (cond b log (log ++ events.Touch r since ∷ [])) ≡ entries_of log
either_log true log r since = refl
either_log false log r since = no_entry log r since

same_touch : (c : Core) (r : ℕ) (since : Option ℕ) → Same c (with_touch_if_good c r since)
same_touch c r None = itself c
same_touch c r (Some since) = record {
  state = refl;
  made = refl;
  entries = either_log (is_touched c.guest.touches r since) c.log r since;
}

same_look : (c : Core) (permitted : Owner) (page : ℕ) → Same c (looked c permitted page)
same_look c permitted page =
    let d : Core = given c (own_word (region_under c page)) in
    let s : Same d (with_touch_if_good d (region_of_page c.state.shape page) (owned_since permitted (region_under c page))) =
    same_touch d (region_of_page c.state.shape page) (owned_since permitted (region_under c page)) in
    record { state = s.state; made = s.made; entries = s.entries }

-- ---- the page of an access

same_filling : (access : Access) (entry : Translation) (c : Core) (good : Bool) → Same c (filling access entry c good).core
same_filling access entry c true = record { state = refl; made = refl; entries = refl }
same_filling access entry c false = itself c

same_page : (c : Core) (permitted : Owner) (va : ℕ) (access : Access) (load store fetch : Bool) (page : Option ℕ)
    → Same c (at_page c permitted va access load store fetch page).core
same_page c permitted va access load store fetch None = itself c
same_page c permitted va access load store fetch (Some page) =
    then_same (same_look c permitted page)
    (same_filling access (entry_of (vpn_of va) page load store fetch) (looked c permitted page) (is_good_look c permitted page))

same_arrived : (c : Core) (permitted : Owner) (va : ℕ) (access : Access) (state : WalkState) → Same c (arrived c permitted va access state).core
same_arrived c permitted va access (states.Found frame load store fetch) =
    same_page c permitted va access load store fetch (page_of_frame c.state.shape frame)
same_arrived c permitted va access (states.Wish address) = itself c
same_arrived c permitted va access states.PageFault = itself c

-- ---- page walks

same_pte : (access : Access) (w : Walking) (place : ℕ) (c : Core) (good : Bool) → Same c (pte_loaded access w place c good).core
same_pte access w place c true = record { state = refl; made = refl; entries = refl }
same_pte access w place c false = itself c

same_at_pte : (c : Core) (permitted : Owner) (access : Access) (w : Walking) (address : ℕ) (page : Option ℕ)
    → Same c (at_pte c permitted access w address page).core
same_at_pte c permitted access w address None = itself c
same_at_pte c permitted access w address (Some page) =
    then_same (same_look c permitted page)
    (same_pte access w (place_in page address) (looked c permitted page) (is_good_look c permitted page))

same_from : (c : Core) (permitted : Owner) (access : Access) (w : Walking) (state : WalkState)
    → Same c (descended_from c permitted access w state).core
same_from c permitted access w (states.Wish address) = same_at_pte c permitted access w address (page_of c.state.shape address)
same_from c permitted access w (states.Found frame load store fetch) = itself c
same_from c permitted access w states.PageFault = itself c

same_descended : (c : Core) (permitted : Owner) (access : Access) (w : Walking) → Same c (descended c permitted access w).core
same_descended c permitted access w = same_from c permitted access w w.state

same_on : (permitted : Owner) (access : Access) (c : Core) (walk : Result Walking ℕ) → Same c (descended_on permitted access c walk).core
same_on permitted access c (Ok w) = same_descended c permitted access w
same_on permitted access c (Err cause) = itself c

same_level : (permitted : Owner) (access : Access) (d : Descended) → Same d.core (next_level permitted access d).core
same_level permitted access d = same_on permitted access d.core d.walk

same_end : (permitted : Owner) (va : ℕ) (access : Access) (c : Core) (walk : Result Walking ℕ) → Same c (arrived_by permitted va access c walk).core
same_end permitted va access c (Ok w) = same_arrived c permitted va access w.state
same_end permitted va access c (Err cause) = itself c

same_walk : (c : Core) (permitted : Owner) (va : ℕ) (access : Access) (w : Walking) → Same c (walked c permitted va access w).core
same_walk c permitted va access w =
    let one : Descended = descended c permitted access w in
    let two : Descended = next_level permitted access one in
    let three : Descended = next_level permitted access two in
    then_same (same_descended c permitted access w)
    (then_same (same_level permitted access one)
    (then_same (same_level permitted access two) (same_end permitted va access three.core three.walk)))

-- ---- translation

same_by : (c : Core) (permitted : Owner) (va : ℕ) (access : Access) (paging : Paging) → Same c (translated_by c permitted va access paging).core
same_by c permitted va access pagings.Bare = same_arrived c permitted va access (bare va)
same_by c permitted va access (pagings.Sv39 root) = same_walk c permitted va access (begun root va access (mode_now c))

same_cached : (c : Core) (va : ℕ) (access : Access) (page : Option ℕ) → Same c (or_translated c va access page).core
same_cached c va access (Some page) = itself c
same_cached c va access None = same_by c (route_now c va).owner va access (route_now c va).paging

pub same_access : (c : Core) (va : ℕ) (access : Access) → Same c (accessed c va access).core
same_access c va access = same_cached c va access (page_for c.guest.cache (vpn_of va) access)
