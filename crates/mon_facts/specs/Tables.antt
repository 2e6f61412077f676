-- The tables of the monitor and what always holds of them. This project's own.
use Rattle.std.specs.Prelude.{◌≡◌, ℕ, ◌<◌, ◌≤◌, ⊤, true, List, length}
use Rattle.std.specs.List.{All}
use Rattle.mon_types.specs.Shape.{Shape, is_shape, page_total}
use Rattle.mon_types.specs.declared.region.Region.{Region}
use Rattle.mon_types.specs.declared.region.Region.TheVariants as regions
use Rattle.mon_types.specs.declared.enclave.Enclave.{Enclave}
use Rattle.mon_types.specs.declared.enclave.Loaded.{Loaded}
use Rattle.mon_types.specs.declared.thread.Mode.{Mode}
use Rattle.mon_types.specs.declared.thread.Mode.TheVariants as modes
use Rattle.mon_model.specs.State.{State, IsWhole, enclave_at, loaded_at}
use Rattle.mon_model.specs.RegionCalls.{is_initialized}
use Rattle.mon_model.specs.Loading.{StandInPages, has_root}

-- a core that is inside an enclave is so by an enclave slot below 8 and a thread slot below 16
abbrev pub NamesSlots : Mode → Type 0
NamesSlots modes.Os = ⊤
NamesSlots (modes.Inside e t) = (e < 8) × (t < 16)

-- an enclave that is Initialized has a root
abbrev pub IsRooted : Enclave → Type 0
IsRooted enclave = is_initialized enclave.stage ≡ true → has_root enclave ≡ true

-- An enclave slot has no more items than there are pages below the next that it may take, which is at most
-- the number of the machine's pages, each item stands in a page of the machine, and there is a root once
-- the enclave is Initialized.
pub record IsSlot (shape : Shape) (enclave : Enclave) (items : List Loaded) : Type 0 where
  pub count : length items ≤ enclave.next_page
  pub next : enclave.next_page ≤ page_total shape
  pub pages : StandInPages shape items
  pub root : IsRooted enclave

-- the machine is within the limits, the tables are as long as its shape says, each mode names slots that
-- are there, and the items of each slot are as said above
pub record AreTables (s : State) : Type 0 where
  pub machine : is_shape s.shape ≡ true
  pub whole : IsWhole s
  pub slots : All NamesSlots s.modes
  pub items : (e : ℕ) → IsSlot s.shape (enclave_at s e) (loaded_at s e)

-- Up to ticket k: the tickets of a region are those of calls so far, and a blocked region was owned
-- before it was blocked.
abbrev pub IsDated : ℕ → Region → Type 0
IsDated k regions.Free = ⊤
IsDated k (regions.Owned owner since) = since ≤ k
IsDated k (regions.Blocked owner since at) = (since < at) × (at ≤ k)
IsDated k (regions.Offered to at) = at ≤ k

-- the same of every region
pub record AreDated (k : ℕ) (s : State) : Type 0 where
  pub regions : All (IsDated k) s.regions
