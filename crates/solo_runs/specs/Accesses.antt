-- Ends of runs of single accesses, without page tables. This project's own.
use Rattle.std.specs.Prelude.{ℕ, true, [], ◌∷◌}
use Rattle.mon_types.specs.declared.region.Region.{Region}
use Rattle.mon_types.specs.declared.call.Call.TheVariants as calls
use Rattle.mon_types.specs.declared.script.Line.TheVariants as lines
use Rattle.mon_model.specs.State.{with_region}
use Rattle.core_access.specs.Touched.{touch_of}
use Rattle.solo.specs.Core.{Core, guest_start}
use Rattle.solo_runs.specs.Machines.{at, two, sfence, load, store, add_word, os_core, with_x6_x7, ready_core, inside_core, after_lines}

-- a load, a store and an atomic instruction, one after the other, at the address in x6
abbrev pub three_accesses : ℕ → Core
three_accesses address = with_x6_x7 (os_core (at 0 (two load store) ∷ at 1 add_word ∷ [])) address 7

-- each in a line of its own
abbrev pub each_tried : ℕ → Core
each_tried address =
    after_lines (three_accesses address)
    (lines.Run 1 ∷ lines.SetPc 0x8000_0004 ∷ lines.Run 1 ∷ lines.SetPc 0x8000_0008 ∷ lines.Run 1 ∷ [])

-- the lines load and store at an address that is no multiple of 8
abbrev pub both_misaligned : Core
both_misaligned = after_lines (os_core []) (lines.LoadWord 4 ∷ lines.StoreWord 4 1 ∷ [])

-- a fetch outside DRAM
abbrev pub fetched_outside : Core
fetched_outside = after_lines (os_core []) (lines.SetPc 0x7000 ∷ lines.Run 1 ∷ [])

-- loads of the last word of DRAM, and of the one behind it
abbrev pub both_ends_of_dram : Core
both_ends_of_dram = after_lines (os_core []) (lines.LoadWord 0x8000_7FF8 ∷ lines.LoadWord 0x8000_8000 ∷ [])

-- two loads from one page
abbrev pub loaded_twice : Core
loaded_twice = after_lines (os_core []) (lines.LoadWord 0x8000_1000 ∷ lines.LoadWord 0x8000_1008 ∷ [])

-- the page's region is blocked after a load; it is loaded from again, and once more after a flush
abbrev pub loaded_when_blocked : Core
loaded_when_blocked =
    after_lines (os_core [])
    (lines.LoadWord 0x8000_1000
    ∷ lines.Make (calls.Block 1)
    ∷ lines.LoadWord 0x8000_1000
    ∷ lines.Make calls.Flush
    ∷ lines.LoadWord 0x8000_1000
    ∷ [])

-- a load from page 1, whose region is in this state
abbrev pub loaded_from : Region → Core
loaded_from region =
    after_lines (record (os_core []) { state = with_region (os_core []).state 1 region })
    (lines.LoadWord 0x8000_1000 ∷ [])

-- the same, where the core has touched the region's period since ticket 0
abbrev pub loaded_after_touch : Region → Core
loaded_after_touch region =
    after_lines
    (record (os_core []) {
      state = with_region (os_core []).state 1 region;
      guest = record guest_start { touches = touch_of 1 0 ∷ [] };
    })
    (lines.LoadWord 0x8000_1000 ∷ [])

-- the OS loads from an enclave's page
abbrev pub loaded_from_enclave : Core
loaded_from_enclave = after_lines (ready_core 0) (lines.LoadWord 0x8000_2000 ∷ [])

-- an enclave loads from this address; at 0x10000 it has 77
abbrev pub loaded_inside : ℕ → Core
loaded_inside va = after_lines (inside_core true 77) (lines.LoadWord va ∷ [])

-- an enclave stores in the OS's page 1, and loads from there
abbrev pub stored_outside_range : Core
stored_outside_range =
    after_lines (inside_core true 77) (lines.StoreWord 0x8000_1008 88 ∷ lines.LoadWord 0x8000_1008 ∷ [])

-- two loads from page 1, with the instruction sfence.vma between them
abbrev pub fenced_between : Core
fenced_between =
    after_lines (os_core (at 0 (two sfence sfence) ∷ []))
    (lines.LoadWord 0x8000_1000 ∷ lines.Run 1 ∷ lines.LoadWord 0x8000_1000 ∷ [])

-- the same with the call flush
abbrev pub flushed_between : Core
flushed_between =
    after_lines (os_core []) (lines.LoadWord 0x8000_1000 ∷ lines.Make calls.Flush ∷ lines.LoadWord 0x8000_1000 ∷ [])
