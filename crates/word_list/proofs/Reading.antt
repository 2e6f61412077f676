-- The tables that the pieces hold are those of the memory for which the list stands.
use Rattle.std.proofs.Common.{◌≡◌, ◌∙◌, ℕ, ◌+◌, ◌-◌, ◌<◌, List, ◌++◌, length, get_or, map, sym, ap, subst, arith}
use Rattle.std.specs.List.{range_with_len}
use Rattle.std.proofs.lemmas.List.{get_or-append_right}
use Rattle.std.proofs.lemmas.List.FromFn.{fill_by_all}
use Rattle.mon_types.specs.Shape.{Shape}
use Rattle.mon_types.specs.Owns.{region_from}
use Rattle.mon_types.specs.Enclaves.{enclave_from, enclave_within}
use Rattle.mon_types.specs.Threads.{thread_from}
use Rattle.mon_types.specs.Cells.{cell_from}
use Rattle.mon_types.specs.declared.object.ObjectId.{ObjectId}
use Rattle.mon_types.specs.declared.object.ObjectId.TheVariants as objects
use Rattle.dram_map.specs.Addresses.{word_total}
use Rattle.lock_plan.specs.Objects.{HasObject}
use Rattle.protocol.specs.Places.{Dram, Memory}
use Rattle.protocol.specs.Layout.{dram_from, place_index, Holds}
use Rattle.core_behaviour.specs.Runs.{row_in, enclave_in}
use Rattle.word_list.specs.declared.tables.Tables.{Tables}
use Rattle.word_list.specs.Listed.{Listed}
use Rattle.word_list.specs.Records.{row_listed, region_listed, enclave_listed, thread_listed, cell_listed}
use Rattle.word_list.specs.Tables.{AreTablesOf}
use Rattle.word_list.proofs.Rows.{same_below, row_is}

module _ (shape : Shape) (table dram : List ℕ) (memory : Memory) (stands : Holds shape (table ++ dram) memory) where
  row_read : (o : ObjectId) → HasObject shape o → row_listed shape (table ++ dram) o ≡ row_in memory o
  row_read o h = let l : Listed = record { shape = shape; words = table ++ dram } in row_is l memory stands o h

  regions_are : map (region_listed shape (table ++ dram)) (range_with_len 0 shape.regions) ≡ map (λ r. region_from (row_in memory (objects.Region r))) (range_with_len 0 shape.regions)
  regions_are =
      same_below (region_listed shape (table ++ dram)) (λ r. region_from (row_in memory (objects.Region r))) shape.regions
      (λ r low. ap region_from (row_read (objects.Region r) low))

  enclaves_are : map (enclave_listed shape (table ++ dram)) (range_with_len 0 8) ≡ map (λ e. enclave_in shape memory e) (range_with_len 0 8)
  enclaves_are =
      same_below (enclave_listed shape (table ++ dram)) (λ e. enclave_in shape memory e) 8
      (λ e low. ap (λ (row : List ℕ). enclave_within shape (enclave_from row)) (row_read (objects.Enclave e) low))

  threads_are : map (thread_listed shape (table ++ dram)) (range_with_len 0 16) ≡ map (λ t. thread_from (row_in memory (objects.Thread t))) (range_with_len 0 16)
  threads_are =
      same_below (thread_listed shape (table ++ dram)) (λ t. thread_from (row_in memory (objects.Thread t))) 16
      (λ t low. ap thread_from (row_read (objects.Thread t) low))

  cells_are : map (cell_listed shape (table ++ dram)) (range_with_len 0 shape.cores) ≡ map (λ c. cell_from (row_in memory (objects.Cell c))) (range_with_len 0 shape.cores)
  cells_are =
      same_below (cell_listed shape (table ++ dram)) (λ c. cell_from (row_in memory (objects.Cell c))) shape.cores
      (λ c low. ap cell_from (row_read (objects.Cell c) low))

  dram_at : length table ≡ dram_from shape → (k : ℕ) → k < word_total shape → get_or dram k 0 ≡ memory (Dram k)
  unfolding place_index
  dram_at many k low =
      ap (λ (i : ℕ). get_or dram i 0) (let e : k ≡ (dram_from shape + k) - dram_from shape = omega arith in e)
      ∙ sym (get_or-append_right table dram (dram_from shape) (dram_from shape + k) 0 many (omega arith))
      ∙ stands.each (Dram k) low

  dram_is : length table ≡ dram_from shape → length dram ≡ word_total shape → dram ≡ map (λ i. memory (Dram i)) (range_with_len 0 (word_total shape))
  dram_is many count = fill_by_all (λ i. memory (Dram i)) dram (word_total shape) 0 count (dram_at many)

  pub tables_read : (t : Tables) → length table ≡ dram_from shape → length dram ≡ word_total shape
      → t.regions ≡ map (region_listed shape (table ++ dram)) (range_with_len 0 shape.regions)
      → t.enclaves ≡ map (enclave_listed shape (table ++ dram)) (range_with_len 0 8)
      → t.threads ≡ map (thread_listed shape (table ++ dram)) (range_with_len 0 16)
      → t.flushed ≡ map (cell_listed shape (table ++ dram)) (range_with_len 0 shape.cores)
      → t.words ≡ dram → AreTablesOf shape memory t
  tables_read t many count regions enclaves threads flushed words = record {
    regions = regions ∙ regions_are;
    enclaves = enclaves ∙ enclaves_are;
    threads = threads ∙ threads_are;
    flushed = flushed ∙ cells_are;
    words = words ∙ dram_is many count;
  }

-- the same of a shape that is this one
pub tables_along : (shape other : Shape) (memory : Memory) (t : Tables) → shape ≡ other → AreTablesOf shape memory t → AreTablesOf other memory t
tables_along shape other memory t same are = subst (λ (s : Shape). AreTablesOf s memory t) same are
