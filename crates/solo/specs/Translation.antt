-- One access of the one core: from a virtual address to a page of DRAM, or to the cause of a fault. Its parts are said
-- by the crates core_access, tlb and sv39_walk; here is how they follow one another. This project's own.
use Rattle.std.specs.Prelude.{ℕ, Bool, true, false, if◌then◌else◌, [], ◌∷◌, ◌++◌, Option, Some, None, Result, Ok, Err}
use Rattle.mon_types.specs.Shape.{region_of_page}
use Rattle.mon_types.specs.declared.thread.Mode.{Mode}
use Rattle.mon_types.specs.declared.thread.Mode.TheVariants as modes
use Rattle.mon_types.specs.declared.region.Owner.{Owner}
use Rattle.mon_types.specs.declared.region.Region.{Region}
use Rattle.mon_types.specs.Owns.{own_word}
use Rattle.mon_types.specs.Enclaves.{empty_enclave}
use Rattle.mon_model.specs.State.{State, region_at, enclave_at}
use Rattle.hist.specs.declared.event.Event.TheVariants as events
use Rattle.dram_map.specs.Addresses.{page_of, page_of_frame}
use Rattle.dram_map.specs.Words.{word_at}
use Rattle.sv39_pte.specs.declared.pte.Access.{Access}
use Rattle.sv39_walk.specs.declared.walk.WalkState.{WalkState}
use Rattle.sv39_walk.specs.declared.walk.WalkState.TheVariants as states
use Rattle.sv39_walk.specs.Relation.{vpn_of}
use Rattle.sv39_walk.specs.Walking.{Walking, begun, answered, bare}
use Rattle.tlb.specs.declared.entry.Entry.{Entry}
use Rattle.tlb.specs.Cache.{entry_of, page_for, filled}
use Rattle.tlb.specs.Sets.{by_set}
use Rattle.core_access.specs.declared.route.Paging.{Paging}
use Rattle.core_access.specs.declared.route.Paging.TheVariants as pagings
use Rattle.core_access.specs.declared.route.Space.{Space}
use Rattle.core_access.specs.declared.route.Route.{Route}
use Rattle.core_access.specs.Causes.{access_fault, page_fault}
use Rattle.core_access.specs.Routes.{space_of, route_of}
use Rattle.core_access.specs.Looks.{owned_since, is_good}
use Rattle.core_access.specs.Touched.{is_touched, touched}
use Rattle.core_access.specs.Words.{place_in}
use Rattle.solo.specs.Core.{Core, mode_now, given}

-- ---- looks

-- the region in which a page lies, as the monitor's state has it
abbrev pub region_under : Core → ℕ → Region
region_under c page = region_at c.state (region_of_page c.state.shape page)

-- after a good look at a period of a region: the first since the core's last clear is a touch and is logged
abbrev pub with_touch : Core → ℕ → ℕ → Core
with_touch c r since = record c {
  guest = record c.guest { touches = touched c.guest.touches r since };
  log = if is_touched c.guest.touches r since then c.log else c.log ++ events.Touch r since ∷ [];
}

-- the same after any look: one that is not good is no touch
abbrev pub with_touch_if_good : Core → ℕ → Option ℕ → Core
with_touch_if_good c r None = c
with_touch_if_good c r (Some since) = with_touch c r since

-- the core after a look at the region of a page, which gives the region's own-word
abbrev pub looked : Core → Owner → ℕ → Core
looked c permitted page =
    with_touch_if_good (given c (own_word (region_under c page))) (region_of_page c.state.shape page)
    (owned_since permitted (region_under c page))

-- whether that look is good: the region is Owned by the permitted owner
abbrev pub is_good_look : Core → Owner → ℕ → Bool
is_good_look c permitted page = is_good permitted (region_under c page)

-- ---- the page of an access

-- the core after an access was translated, and the page of DRAM that it reaches, or the cause of its fault
pub record Reached : Type 0 where
  pub core : Core
  pub page : Result ℕ ℕ

-- a fault with this cause
abbrev pub fails : Core → ℕ → Reached
fails c cause = record { core = c; page = Err cause }

-- the translation is filled into the cache, where the look at the page's region was good
abbrev pub filling : Access → Entry → Core → Bool → Reached
filling access entry c true =
    let guest = record c.guest { cache = by_set (filled c.guest.cache entry) } in
    record { core = record c { guest = guest }; page = Ok entry.page }
filling access entry c false = fails c (access_fault access)

-- the core looks at the region of the page that is addressed; outside DRAM there is none
abbrev pub at_page : Core → Owner → ℕ → Access → Bool → Bool → Bool → Option ℕ → Reached
at_page c permitted va access load store fetch None = fails c (access_fault access)
at_page c permitted va access load store fetch (Some page) =
    filling access (entry_of (vpn_of va) page load store fetch) (looked c permitted page)
    (is_good_look c permitted page)

-- where a translation ends: at the page of a frame, which accesses may use so, or at a page fault
abbrev pub arrived : Core → Owner → ℕ → Access → WalkState → Reached
arrived c permitted va access (states.Found frame load store fetch) =
    at_page c permitted va access load store fetch (page_of_frame c.state.shape frame)
arrived c permitted va access (states.Wish address) = fails c (page_fault access)
arrived c permitted va access states.PageFault = fails c (page_fault access)

-- ---- page walks

-- the core after a level of a walk, and what is left of the walk, or the cause of a fault
pub record Descended : Type 0 where
  pub core : Core
  pub walk : Result Walking ℕ

-- the page-table entry (pte) at a place is loaded and answers the walk, where the look at its region was good
abbrev pub pte_loaded : Access → Walking → ℕ → Core → Bool → Descended
pte_loaded access w place c true =
    record { core = given c (word_at c.words place); walk = Ok (answered w (word_at c.words place)) }
pte_loaded access w place c false = record { core = c; walk = Err (access_fault access) }

-- the core looks at the region in which a pte lies; outside DRAM there is none
abbrev pub at_pte : Core → Owner → Access → Walking → ℕ → Option ℕ → Descended
at_pte c permitted access w address None = record { core = c; walk = Err (access_fault access) }
at_pte c permitted access w address (Some page) =
    pte_loaded access w (place_in page address) (looked c permitted page) (is_good_look c permitted page)

-- the pte that a walk in this state asks for, if it asks for one
abbrev pub descended_from : Core → Owner → Access → Walking → WalkState → Descended
descended_from c permitted access w (states.Wish address) =
    at_pte c permitted access w address (page_of c.state.shape address)
descended_from c permitted access w (states.Found frame load store fetch) = record { core = c; walk = Ok w }
descended_from c permitted access w states.PageFault = record { core = c; walk = Ok w }

-- one level of a walk for this access: nothing more, where the walk is over
abbrev pub descended : Core → Owner → Access → Walking → Descended
descended c permitted access w = descended_from c permitted access w w.state

-- one level more, unless there was a fault
abbrev pub descended_on : Owner → Access → Core → Result Walking ℕ → Descended
descended_on permitted access c (Ok w) = descended c permitted access w
descended_on permitted access c (Err cause) = record { core = c; walk = Err cause }

-- the same after a level that was gone down
abbrev pub next_level : Owner → Access → Descended → Descended
next_level permitted access d = descended_on permitted access d.core d.walk

-- where a walk leads in the end
abbrev pub arrived_by : Owner → ℕ → Access → Core → Result Walking ℕ → Reached
arrived_by permitted va access c (Ok w) = arrived c permitted va access w.state
arrived_by permitted va access c (Err cause) = fails c cause

-- a walk of the levels 2, 1 and 0, and then the page itself
abbrev pub walked : Core → Owner → ℕ → Access → Walking → Reached
walked c permitted va access w =
    let bottom = next_level permitted access (next_level permitted access (descended c permitted access w)) in
    arrived_by permitted va access bottom.core bottom.walk

-- ---- translation

-- an address is translated so, for regions of the permitted owner
abbrev pub translated_by : Core → Owner → ℕ → Access → Paging → Reached
translated_by c permitted va access pagings.Bare = arrived c permitted va access (bare va)
translated_by c permitted va access (pagings.Sv39 root) =
    walked c permitted va access (begun root va access (mode_now c))

-- the addresses and the root of the enclave that the core is inside; for the OS there are none
abbrev pub space_in : State → Mode → Space
space_in s modes.Os = space_of empty_enclave
space_in s (modes.Inside e t) = space_of (enclave_at s e)

-- who translates an address now
abbrev pub route_now : Core → ℕ → Route
route_now c va = route_of (mode_now c) (space_in c.state (mode_now c)) c.guest.satp va

-- an address is translated without the cache
abbrev pub translated : Core → ℕ → Access → Reached
translated c va access = translated_by c (route_now c va).owner va access (route_now c va).paging

-- where the cache has the page, it is used and no look is made
abbrev pub or_translated : Core → ℕ → Access → Option ℕ → Reached
or_translated c va access (Some page) = record { core = c; page = Ok page }
or_translated c va access None = translated c va access

-- an access: by the cache where it holds the virtual page with permission for this access, and else by a translation
abbrev pub accessed : Core → ℕ → Access → Reached
accessed c va access = or_translated c va access (page_for c.guest.cache (vpn_of va) access)
