-- One access of a core: from a virtual address to a page of DRAM, or to the cause of a fault, with its looks and loads.
-- Its parts are said by the crates core_access, tlb and sv39_walk; here is how they follow one another. This project's
-- own.
use Rattle.std.specs.Prelude.{ℕ, zero, suc, Bool, true, false, is_some, Option, Some, None, Result, Ok, Err}
use Rattle.mon_types.specs.Shape.{Shape, region_of_page}
use Rattle.mon_types.specs.declared.region.Owner.{Owner}
use Rattle.dram_map.specs.Addresses.{page_of, page_of_frame}
use Rattle.sv39_pte.specs.declared.pte.Access.{Access}
use Rattle.sv39_walk.specs.declared.walk.WalkState.{WalkState}
use Rattle.sv39_walk.specs.declared.walk.WalkState.TheVariants as states
use Rattle.sv39_walk.specs.Relation.{vpn_of}
use Rattle.sv39_walk.specs.Walking.{Walking, begun, answered, bare}
use Rattle.tlb.specs.declared.entry.Entry.{Entry}
use Rattle.tlb.specs.Cache.{entry_of, page_for, filled}
use Rattle.tlb.specs.Sets.{by_set}
use Rattle.core_access.specs.declared.route.Paging.{Paging}
use Rattle.core_access.specs.declared.route.Paging.TheVariants as pagings
use Rattle.core_access.specs.declared.route.Route.{Route}
use Rattle.core_access.specs.Causes.{access_fault, page_fault}
use Rattle.core_access.specs.Routes.{route_of}
use Rattle.core_access.specs.Looks.{since_in_word}
use Rattle.core_access.specs.Words.{place_in}
use Rattle.protocol.specs.declared.action.Move.TheVariants as moves
use Rattle.protocol.specs.CallTree.{number_in}
use Rattle.core_behaviour.specs.Course.{Course, Acts}
use Rattle.core_behaviour.specs.Core.{Core, mode_now, made}

-- ---- looks and loads

-- a look at the region in which a page lies; what follows has the core, and whether the look was good
abbrev pub looks : Shape → Owner → ℕ → Core → (Core → Bool → Course) → Course
looks shape permitted page c next =
    Acts (moves.Look (region_of_page shape page) permitted) (λ outcome.
    next (made c (moves.Look (region_of_page shape page) permitted) outcome)
    (is_some (since_in_word permitted (number_in outcome))))

-- a load of a word of DRAM; what follows has the core, and the word
abbrev pub loads : ℕ → Core → (Core → ℕ → Course) → Course
loads place c next = Acts (moves.Load place) (λ outcome. next (made c (moves.Load place) outcome) (number_in outcome))

-- ---- the page of an access

-- what follows a translation: it has the core, and the page of DRAM or the cause of the fault
abbrev pub Reached : Type 0
Reached = Core → Result ℕ ℕ → Course

-- the translation is filled into the cache, where the look at the page's region was good
abbrev pub filling : Access → Entry → Reached → Core → Bool → Course
filling access entry next c true = next (record c { cache = by_set (filled c.cache entry) }) (Ok entry.page)
filling access entry next c false = next c (Err (access_fault access))

-- the core looks at the region of the page that is addressed; outside DRAM there is none, and no move is made
abbrev pub at_page : Shape → Owner → ℕ → Access → Bool → Bool → Bool → Option ℕ → Core → Reached → Course
at_page shape permitted va access load store fetch None c next = next c (Err (access_fault access))
at_page shape permitted va access load store fetch (Some page) c next =
    looks shape permitted page c (filling access (entry_of (vpn_of va) page load store fetch) next)

-- where a translation ends: at the page of a frame, which accesses may use so, or at a page fault
abbrev pub arrived : Shape → Owner → ℕ → Access → WalkState → Core → Reached → Course
arrived shape permitted va access (states.Found frame load store fetch) c next =
    at_page shape permitted va access load store fetch (page_of_frame shape frame) c next
arrived shape permitted va access (states.Wish address) c next = next c (Err (page_fault access))
arrived shape permitted va access states.PageFault c next = next c (Err (page_fault access))

-- what is left of a walk, once a page-table entry (pte) has answered it
abbrev pub Further : Type 0
Further = Walking → Core → Course

-- the pte at a place is loaded and answers the walk, where the look at its region was good
abbrev pub pte_loaded : Access → Walking → ℕ → Further → Reached → Core → Bool → Course
pte_loaded access w place down next c true = loads place c (λ d word. down (answered w word) d)
pte_loaded access w place down next c false = next c (Err (access_fault access))

-- the core looks at the region in which a pte lies; outside DRAM there is none, and no move is made
abbrev pub at_pte : Shape → Owner → Access → Walking → ℕ → Option ℕ → Core → Further → Reached → Course
at_pte shape permitted access w address None c down next = next c (Err (access_fault access))
at_pte shape permitted access w address (Some page) c down next =
    looks shape permitted page c (pte_loaded access w (place_in page address) down next)

-- one level of a walk in this state, and the levels below it
abbrev pub level : Shape → Owner → ℕ → Access → Walking → WalkState → Core → Further → Reached → Course
level shape permitted va access w (states.Wish address) c down next =
    at_pte shape permitted access w address (page_of shape address) c down next
level shape permitted va access w (states.Found frame load store fetch) c down next =
    arrived shape permitted va access (states.Found frame load store fetch) c next
level shape permitted va access w states.PageFault c down next =
    arrived shape permitted va access states.PageFault c next

-- a walk of so many levels at most, and then the page itself
unfoldable pub walked : Shape → Owner → ℕ → Access → ℕ → Walking → Core → Reached → Course
walked shape permitted va access zero w c next = arrived shape permitted va access w.state c next
walked shape permitted va access (suc levels) w c next =
    level shape permitted va access w w.state c (λ x d. walked shape permitted va access levels x d next) next

-- an address is translated so, for regions of the permitted owner; a walk has the levels 2, 1 and 0
abbrev pub translated_by : Shape → Owner → ℕ → Access → Paging → Core → Reached → Course
translated_by shape permitted va access pagings.Bare c next = arrived shape permitted va access (bare va) c next
translated_by shape permitted va access (pagings.Sv39 root) c next =
    walked shape permitted va access 3 (begun root va access (mode_now c)) c next

-- who translates an address now
abbrev pub route_now : Core → ℕ → Route
route_now c va = route_of (mode_now c) c.space c.satp va

-- by the cache, where it has the page, and no look is made; and else by a translation
abbrev pub or_translated : Shape → ℕ → Access → Option ℕ → Core → Reached → Course
or_translated shape va access (Some page) c next = next c (Ok page)
or_translated shape va access None c next =
    translated_by shape (route_now c va).owner va access (route_now c va).paging c next

-- an access
abbrev pub accessed : Shape → ℕ → Access → Core → Reached → Course
accessed shape va access c next = or_translated shape va access (page_for c.cache (vpn_of va) access) c next
