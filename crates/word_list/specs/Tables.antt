-- The tables that a memory holds, and that those of a finished run are these. This project's own.
use Rattle.std.specs.Prelude.{◌≡◌, List, map}
use Rattle.std.specs.List.{range_with_len}
use Rattle.mon_types.specs.Shape.{Shape}
use Rattle.mon_types.specs.Sizes.{slot_count, thread_count}
use Rattle.mon_types.specs.Owns.{region_from}
use Rattle.mon_types.specs.Threads.{thread_from}
use Rattle.mon_types.specs.Cells.{cell_from}
use Rattle.mon_types.specs.declared.image.Image.{Image}
use Rattle.mon_types.specs.declared.object.ObjectId.TheVariants as objects
use Rattle.dram_map.specs.Addresses.{word_total}
use Rattle.hist.specs.declared.finished.Finished.{Finished}
use Rattle.protocol.specs.Places.{Memory, Dram}
use Rattle.protocol.specs.Runs.{Made, memory_after}
use Rattle.core_behaviour.specs.Runs.{start_words, row_in, enclave_in, finished_run}
use Rattle.word_list.specs.declared.tables.Tables.{Tables}

-- each record is what the words of its row read as, and the words are those of DRAM
pub record AreTablesOf (shape : Shape) (memory : Memory) (t : Tables) : Type 0 where
  pub regions : t.regions ≡ map (λ r. region_from (row_in memory (objects.Region r))) (range_with_len 0 shape.regions)
  pub enclaves : t.enclaves ≡ map (λ e. enclave_in shape memory e) (range_with_len 0 slot_count)
  pub threads : t.threads ≡ map (λ t. thread_from (row_in memory (objects.Thread t))) (range_with_len 0 thread_count)
  pub flushed : t.flushed ≡ map (λ c. cell_from (row_in memory (objects.Cell c))) (range_with_len 0 shape.cores)
  pub words : t.words ≡ map (λ i. memory (Dram i)) (range_with_len 0 (word_total shape))

-- the tables and words of a finished run
pub record HasTables (f : Finished) (t : Tables) : Type 0 where
  pub regions : f.regions ≡ t.regions
  pub enclaves : f.enclaves ≡ t.enclaves
  pub threads : f.threads ≡ t.threads
  pub flushed : f.flushed ≡ t.flushed
  pub words : f.words ≡ t.words

-- they are those of the memory that its moves leave
abbrev pub TablesAreThoseOfARun : Type 0
TablesAreThoseOfARun =
    (image : Image) (run : List Made) (t : Tables)
    → AreTablesOf image.config (memory_after image.config (start_words image) run) t
    → HasTables (finished_run image run) t
