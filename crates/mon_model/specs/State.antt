-- The state of the sequential monitor: whole tables. This project's own.
use Rattle.std.specs.Prelude.{◌≡◌, ℕ, List, [], length, replicate, slice_set}
use Rattle.std.specs.List.{slice_index_or}
use Rattle.mon_types.specs.Shape.{Shape}
use Rattle.mon_types.specs.Sizes.{slot_count, thread_count}
use Rattle.mon_types.specs.Enclaves.{empty_enclave}
use Rattle.mon_types.specs.Threads.{empty_thread}
use Rattle.mon_types.specs.declared.region.Owner.TheVariants as owners
use Rattle.mon_types.specs.declared.region.Region.{Region}
use Rattle.mon_types.specs.declared.region.Region.TheVariants as regions
use Rattle.mon_types.specs.declared.enclave.Enclave.{Enclave}
use Rattle.mon_types.specs.declared.enclave.Loaded.{Loaded}
use Rattle.mon_types.specs.declared.thread.Thread.{Thread}
use Rattle.mon_types.specs.declared.thread.Mode.{Mode}
use Rattle.mon_types.specs.declared.thread.Mode.TheVariants as modes

-- The machine's shape, and by number: each region, each enclave slot, each thread slot, each core's
-- last flush ticket, for whom each core runs, and the items loaded into each enclave slot.
pub record State : Type 0 where
  pub shape : Shape
  pub regions : List Region
  pub enclaves : List Enclave
  pub threads : List Thread
  pub flushed : List ℕ
  pub modes : List Mode
  pub loaded : List (List Loaded)

-- The start: every region is the OS's since ticket 0, every slot is empty, no core has flushed, every
-- core runs for the OS, and nothing is loaded.
abbrev pub start : Shape → State
start shape = record {
  shape = shape;
  regions = replicate shape.regions (regions.Owned owners.Os 0);
  enclaves = replicate slot_count empty_enclave;
  threads = replicate thread_count empty_thread;
  flushed = replicate shape.cores 0;
  modes = replicate shape.cores modes.Os;
  loaded = replicate slot_count [];
}

-- the tables are as long as the machine's shape says
pub record IsWhole (s : State) : Type 0 where
  pub regions : length s.regions ≡ s.shape.regions
  pub enclaves : length s.enclaves ≡ slot_count
  pub threads : length s.threads ≡ thread_count
  pub flushed : length s.flushed ≡ s.shape.cores
  pub modes : length s.modes ≡ s.shape.cores
  pub loaded : length s.loaded ≡ slot_count

-- What a table has at a number. No call asks past a table's end; what stands there is named for
-- completeness alone.
abbrev pub region_at : State → ℕ → Region
region_at s r = slice_index_or s.regions r regions.Free

-- the record of an enclave slot
abbrev pub enclave_at : State → ℕ → Enclave
enclave_at s e = slice_index_or s.enclaves e empty_enclave

-- the record of a thread slot
abbrev pub thread_at : State → ℕ → Thread
thread_at s t = slice_index_or s.threads t empty_thread

-- the ticket of a core's last flush
abbrev pub flushed_at : State → ℕ → ℕ
flushed_at s core = slice_index_or s.flushed core 0

-- for whom a core runs
abbrev pub mode_of : State → ℕ → Mode
mode_of s core = slice_index_or s.modes core modes.Os

-- the items loaded into an enclave slot
abbrev pub loaded_at : State → ℕ → List Loaded
loaded_at s e = slice_index_or s.loaded e []

-- The state with another record at one number.
abbrev pub with_region : State → ℕ → Region → State
with_region s r region = record s { regions = slice_set s.regions r region }

-- another record of an enclave slot
abbrev pub with_enclave : State → ℕ → Enclave → State
with_enclave s e enclave = record s { enclaves = slice_set s.enclaves e enclave }

-- another record of a thread slot
abbrev pub with_thread : State → ℕ → Thread → State
with_thread s t thread = record s { threads = slice_set s.threads t thread }

-- another flush ticket of a core
abbrev pub with_flushed : State → ℕ → ℕ → State
with_flushed s core ticket = record s { flushed = slice_set s.flushed core ticket }

-- another mode of a core
abbrev pub with_mode : State → ℕ → Mode → State
with_mode s core mode = record s { modes = slice_set s.modes core mode }

-- The state with another record and other items at one enclave slot.
abbrev pub with_slot : State → ℕ → Enclave → List Loaded → State
with_slot s e enclave items =
    record s { enclaves = slice_set s.enclaves e enclave; loaded = slice_set s.loaded e items }
