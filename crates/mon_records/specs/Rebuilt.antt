-- The state that a call rebuilds from the rows that it has found. Nothing is said of the records that it has not found,
-- and no items are known. This project's own.
use Rattle.std.specs.Prelude.{ℕ, [], map, replicate}
use Rattle.std.specs.List.{range_with_len}
use Rattle.mon_types.specs.Shape.{Shape}
use Rattle.mon_types.specs.Owns.{region_from}
use Rattle.mon_types.specs.Enclaves.{enclave_from, enclave_within}
use Rattle.mon_types.specs.Threads.{thread_from}
use Rattle.mon_types.specs.Cells.{cell_from}
use Rattle.mon_types.specs.declared.region.Region.{Region}
use Rattle.mon_types.specs.declared.enclave.Enclave.{Enclave}
use Rattle.mon_types.specs.declared.thread.Thread.{Thread}
use Rattle.mon_types.specs.declared.thread.Mode.{Mode}
use Rattle.mon_types.specs.declared.object.ObjectId.TheVariants as objects
use Rattle.mon_model.specs.State.{State}
use Rattle.mon_records.specs.Rows.{Found, words_of}

-- the record of each number, as it is read from the words that were found for it
abbrev pub found_region : Found → ℕ → Region
found_region found r = region_from (words_of found (objects.Region r))

-- of each enclave slot, without what lies past the end of the machine
abbrev pub found_enclave : Shape → Found → ℕ → Enclave
found_enclave shape found e = enclave_within shape (enclave_from (words_of found (objects.Enclave e)))

-- of each thread slot
abbrev pub found_thread : Found → ℕ → Thread
found_thread found t = thread_from (words_of found (objects.Thread t))

-- of each core's cell
abbrev pub found_cell : Found → ℕ → ℕ
found_cell found c = cell_from (words_of found (objects.Cell c))

-- a state of this shape in which every core is in this mode and the records are those that were found
unfoldable pub state_of : Shape → Mode → Found → State
state_of shape mode found = record {
  shape = shape;
  regions = map (found_region found) (range_with_len 0 shape.regions);
  enclaves = map (found_enclave shape found) (range_with_len 0 8);
  threads = map (found_thread found) (range_with_len 0 16);
  flushed = map (found_cell found) (range_with_len 0 shape.cores);
  modes = replicate shape.cores mode;
  loaded = replicate 8 [];
}
