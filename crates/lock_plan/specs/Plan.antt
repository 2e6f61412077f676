-- Held records by their places, and what a call tries, as far as they tell it. This project's own.
use Rattle.std.specs.Prelude.{ℕ, ◌+◌, List, Option, slice_get}
use Rattle.std.specs.List.{slice_index_or}
use Rattle.arrayvec.specs.ArrayVec.{array_vec_len}
use Rattle.mon_types.specs.Shape.{Shape}
use Rattle.mon_types.specs.Enclaves.{empty_enclave}
use Rattle.mon_types.specs.Threads.{empty_thread}
use Rattle.mon_types.specs.declared.region.Region.{Region}
use Rattle.mon_types.specs.declared.region.Region.TheVariants as regions
use Rattle.mon_types.specs.declared.enclave.Enclave.{Enclave}
use Rattle.mon_types.specs.declared.thread.Mode.{Mode}
use Rattle.mon_types.specs.declared.thread.Thread.{Thread}
use Rattle.mon_types.specs.declared.call.Call.{Call}
use Rattle.mon_types.specs.declared.object.ObjectId.{ObjectId}
use Rattle.mon_model.specs.Tries.{plan}
use Rattle.lock_plan.specs.declared.held.Held.{Held}

-- how many objects are held
abbrev pub held_count : Held → ℕ
held_count h = array_vec_len h.enclaves + array_vec_len h.threads + array_vec_len h.regions + array_vec_len h.cells

-- the first region that is held, Free where none is
abbrev pub first_region : Held → Region
first_region h = (slice_index_or h.regions.items 0 (0, regions.Free)).1

-- the first enclave that is held, an empty slot where none is
abbrev pub first_enclave : Held → Enclave
first_enclave h = (slice_index_or h.enclaves.items 0 (0, empty_enclave)).1

-- the second enclave that is held, an empty slot where there is none
abbrev pub second_enclave : Held → Enclave
second_enclave h = (slice_index_or h.enclaves.items 1 (0, empty_enclave)).1

-- the first thread that is held, an empty slot where none is
abbrev pub first_thread : Held → Thread
first_thread h = (slice_index_or h.threads.items 0 (0, empty_thread)).1

-- The objects that the call tries, in order, as far as these records tell them: the first region that is held tells
-- what a free tries, the first enclave what a delete does. Before it is held only the first object counts.
abbrev pub plan_of : Shape → ℕ → Mode → Call → Held → List ObjectId
plan_of shape core mode call held = plan shape core mode call (first_region held) (first_enclave held).regions

-- the object of the plan that comes after as many as are held, None where no more comes
abbrev pub planned : Shape → ℕ → Mode → Call → Held → Option ObjectId
planned shape core mode call held = slice_get (plan_of shape core mode call held) (held_count held)
