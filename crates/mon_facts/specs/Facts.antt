-- The facts of the tables that the sequential monitor keeps, beside their sizes and the tickets of
-- regions. This project's own.
use Rattle.std.specs.Prelude.{◌≡◌, ℕ, ◌<◌, Bool, true, false, ◌==◌, Some, None, [], All, count_by}
use Rattle.mon_types.specs.Shape.{Shape, region_of_page}
use Rattle.mon_types.specs.Enclaves.{empty_enclave}
use Rattle.mon_types.specs.declared.region.Owner.{Owner}
use Rattle.mon_types.specs.declared.region.Owner.TheVariants as owners
use Rattle.mon_types.specs.declared.region.Region.{Region}
use Rattle.mon_types.specs.declared.region.Region.TheVariants as regions
use Rattle.mon_types.specs.declared.enclave.Enclave.{Enclave}
use Rattle.mon_types.specs.declared.enclave.Loaded.{Loaded}
use Rattle.mon_types.specs.declared.thread.Mode.TheVariants as modes
use Rattle.mon_types.specs.declared.thread.ThreadState.{ThreadState}
use Rattle.mon_types.specs.declared.thread.ThreadState.TheVariants as states
use Rattle.mon_model.specs.Loading.{is_reserved}
use Rattle.mon_model.specs.State.{State, region_at, enclave_at, thread_at, mode_of, loaded_at}
use Rattle.mon_types.specs.Bits.{has_bit}
use Rattle.mon_model.specs.RegionCalls.{is_empty, is_loading, is_initialized}
use Rattle.mon_facts.specs.Tables.{IsRooted}

-- ---- regions

-- whether the owner is the enclave in slot e
abbrev pub is_enclave : ℕ → Owner → Bool
is_enclave e owners.Os = false
is_enclave e (owners.Enclave f) = e == f

-- whether the enclave in slot e owns the region
abbrev pub is_owned_by : ℕ → Region → Bool
is_owned_by e regions.Free = false
is_owned_by e (regions.Owned owner since) = is_enclave e owner
is_owned_by e (regions.Blocked owner since at) = false
is_owned_by e (regions.Offered to at) = false

-- a region is in an enclave's set exactly where it is Owned by that enclave
abbrev pub SetsAreOwned : State → Type 0
SetsAreOwned s = (e r : ℕ) → has_bit (enclave_at s e).regions r ≡ is_owned_by e (region_at s r)

-- an enclave with a region in its set is not Empty
abbrev pub OwnersAreThere : State → Type 0
OwnersAreThere s = (e r : ℕ) → has_bit (enclave_at s e).regions r ≡ true → is_empty (enclave_at s e).stage ≡ false

-- a Blocked region was blocked at a later ticket than the one since which it has its owner
abbrev pub BlockedAreOlder : State → Type 0
BlockedAreOlder s = (r : ℕ) (owner : Owner) (since at : ℕ) → region_at s r ≡ regions.Blocked owner since at → since < at

-- ---- enclaves and threads

-- the record of an Empty slot has all numbers 0
abbrev pub EmptyAreBlank : State → Type 0
EmptyAreBlank s = (e : ℕ) → is_empty (enclave_at s e).stage ≡ true → enclave_at s e ≡ empty_enclave

-- an enclave that is Initialized has a root
abbrev pub InitializedAreRooted : State → Type 0
InitializedAreRooted s = (e : ℕ) → IsRooted (enclave_at s e)

-- Ready or Running in the enclave in slot e
abbrev pub is_thread_of : ℕ → ThreadState → Bool
is_thread_of e states.Empty = false
is_thread_of e (states.Ready f) = e == f
is_thread_of e (states.Running f) = e == f

-- an enclave's thread count is the number of its Ready and Running threads
abbrev pub ThreadsAreCounted : State → Type 0
ThreadsAreCounted s = (e : ℕ) → (enclave_at s e).threads ≡ count_by (λ thread. is_thread_of e thread.state) s.threads

-- A thread is Running in an enclave exactly where one core, and no other, is inside the enclave with it:
-- a thread with which a core is inside is Running there,
abbrev pub InsideAreRunning : State → Type 0
InsideAreRunning s = (core e t : ℕ) → mode_of s core ≡ modes.Inside e t → (thread_at s t).state ≡ states.Running e

-- with a thread that is Running there a core of the machine is inside,
abbrev pub RunningAreInside : State → Type 0
RunningAreInside s =
    (e t : ℕ) → (thread_at s t).state ≡ states.Running e → (core : ℕ) × (core < s.shape.cores)
    × (mode_of s core ≡ modes.Inside e t)

-- and no two cores are inside with one thread.
abbrev pub InsideAreAlone : State → Type 0
InsideAreAlone s =
    (core other e t : ℕ) → mode_of s core ≡ modes.Inside e t → mode_of s other ≡ modes.Inside e t → other ≡ core

-- an enclave in which a thread is Running is Initialized
abbrev pub RunningAreInitialized : State → Type 0
RunningAreInitialized s =
    (e t : ℕ) → (thread_at s t).state ≡ states.Running e → is_initialized (enclave_at s e).stage ≡ true

-- ---- loaded items

-- the item's page is below the next that the enclave may take, and lies in a region of its set unless
-- it is Reserved
pub record IsPlaced (shape : Shape) (enclave : Enclave) (item : Loaded) : Type 0 where
  pub below : item.page < enclave.next_page
  pub in_set : is_reserved item.kind ≡ false → has_bit enclave.regions (region_of_page shape item.page) ≡ true

-- the items of a Loading enclave are so placed
abbrev pub LoadedArePlaced : State → Type 0
LoadedArePlaced s =
    (e : ℕ) → is_loading (enclave_at s e).stage ≡ true → All (IsPlaced s.shape (enclave_at s e)) (loaded_at s e)

-- A root's page is below the next that the enclave may take, and lies in a region of its set as long as the
-- enclave is Loading.
pub record IsRootPlaced (shape : Shape) (enclave : Enclave) (page : ℕ) : Type 0 where
  pub below : page < enclave.next_page
  pub in_set : is_loading enclave.stage ≡ true → has_bit enclave.regions (region_of_page shape page) ≡ true

-- each root is so placed
abbrev pub RootsArePlaced : State → Type 0
RootsArePlaced s = (e page : ℕ) → (enclave_at s e).root ≡ Some page → IsRootPlaced s.shape (enclave_at s e) page

-- nothing is loaded into an enclave without a root
abbrev pub RootlessAreEmpty : State → Type 0
RootlessAreEmpty s = (e : ℕ) → (enclave_at s e).root ≡ None → loaded_at s e ≡ []

-- ---- all of them

-- What each call keeps if it held before. `AreTables` has that an Initialized enclave has a root, and
-- `AreDated` the tickets of Blocked regions.
pub record FactsHold (s : State) : Type 0 where
  pub sets : SetsAreOwned s
  pub blank : EmptyAreBlank s
  pub counts : ThreadsAreCounted s
  pub inside : InsideAreRunning s
  pub running : RunningAreInside s
  pub alone : InsideAreAlone s
  pub initialized : RunningAreInitialized s
  pub placed : LoadedArePlaced s
  pub root_pages : RootsArePlaced s
  pub rootless : RootlessAreEmpty s
