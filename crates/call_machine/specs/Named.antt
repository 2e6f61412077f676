-- Records that name no slot past those that are there, as their rows need it. This project's own.
use Rattle.std.specs.Prelude.{ℕ, List}
use Rattle.std.specs.List.{AllByRecursion}
use Rattle.mon_types.specs.Owns.{RegionNamesSlot}
use Rattle.mon_types.specs.Enclaves.{EnclaveNamesSlots}
use Rattle.mon_types.specs.Threads.{StateNamesSlot}
use Rattle.mon_types.specs.declared.region.Region.{Region}
use Rattle.mon_types.specs.declared.enclave.Enclave.{Enclave}
use Rattle.mon_types.specs.declared.thread.Thread.{Thread}
use Rattle.lock_plan.specs.declared.held.Held.{Held}

-- each of these enclaves
abbrev pub EnclavesAreNamed : List (ℕ × Enclave) → Type 0
EnclavesAreNamed items = AllByRecursion (λ x. EnclaveNamesSlots x.1) items

-- of these threads
abbrev pub ThreadsAreNamed : List (ℕ × Thread) → Type 0
ThreadsAreNamed items = AllByRecursion (λ x. StateNamesSlot x.1.state) items

-- of these regions
abbrev pub RegionsAreNamed : List (ℕ × Region) → Type 0
RegionsAreNamed items = AllByRecursion (λ x. RegionNamesSlot x.1) items

-- of all records that are held
pub record IsNamed (h : Held) : Type 0 where
  pub enclaves : EnclavesAreNamed h.enclaves.items
  pub threads : ThreadsAreNamed h.threads.items
  pub regions : RegionsAreNamed h.regions.items
