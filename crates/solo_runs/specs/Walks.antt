-- Ends of runs of accesses by page tables. This project's own.
use Rattle.std.specs.Prelude.{ℕ, true, List, [], ◌∷◌}
use Rattle.mon_types.specs.declared.script.Line.TheVariants as lines
use Rattle.sv39_pte.specs.Tables.{pointer_pte}
use Rattle.solo.specs.Core.{Core}
use Rattle.solo_runs.specs.Machines.{Stored, at, two, count, back, add_word, with_words, os_core, with_x6_x7, with_satp, tables_satp, os_leaf, tables, inside_core, after_lines}

-- the OS by Sv39, with these words in DRAM
abbrev pub by_tables : List Stored → Core
by_tables stored = with_satp (os_core stored) tables_satp

-- a load from 0x8000_0000, where the leaf is on page 0 for every access
abbrev pub walked : Core
walked = after_lines (by_tables (at 0 (two count back) ∷ tables (os_leaf 0 0xCF))) (lines.LoadWord 0x8000_0000 ∷ [])

-- a load from page 3 of a leaf of 2 MiB, which begins on page 0
abbrev pub walked_in_large_leaf : Core
walked_in_large_leaf =
    after_lines (by_tables (at 3586 (pointer_pte 6) ∷ at 3072 (os_leaf 0 0xCF) ∷ []))
    (lines.LoadWord 0x8000_3000 ∷ [])

-- an enclave's load from this address in its range, with further words in DRAM
abbrev pub walked_inside : List Stored → ℕ → Core
walked_inside stored va =
    after_lines (record (inside_core true 77) { words = with_words (inside_core true 77).words stored })
    (lines.LoadWord va ∷ [])

-- an enclave's load from 0x8000_0000, by the OS's tables with this leaf
abbrev pub walked_outside_range : ℕ → Core
walked_outside_range pte =
    after_lines
    (with_satp
    (record (inside_core true 77) { words = with_words (inside_core true 77).words (tables pte) }) tables_satp)
    (lines.LoadWord 0x8000_0000 ∷ [])

-- a load, a store and a fetch at 0x8000_0000, where this is the leaf
abbrev pub three_by_leaf : ℕ → Core
three_by_leaf pte =
    after_lines (by_tables (tables pte))
    (lines.LoadWord 0x8000_0000 ∷ lines.StoreWord 0x8000_0000 1 ∷ lines.Run 1 ∷ [])

-- a load from an address without a page
abbrev pub without_page : Core
without_page = after_lines (by_tables (tables 0)) (lines.LoadWord 0x40_0000_0000 ∷ [])

-- a load through a pte that leads to a table past DRAM
abbrev pub table_past_dram : Core
table_past_dram = after_lines (by_tables (at 3586 (pointer_pte 16) ∷ [])) (lines.LoadWord 0x8000_0000 ∷ [])

-- a load from a page past DRAM
abbrev pub page_past_dram : Core
page_past_dram = after_lines (by_tables (tables (os_leaf 16 0xCF))) (lines.LoadWord 0x8000_0000 ∷ [])

-- an atomic instruction on its own page, which may be read, written, and fetched from as these bits of the leaf say
abbrev pub atomic_by_leaf : ℕ → Core
atomic_by_leaf bits =
    after_lines (with_x6_x7 (by_tables (at 0 (two add_word back) ∷ tables (os_leaf 0 bits))) 0x8000_0100 7)
    (lines.Run 1 ∷ [])
