-- Where ptes stand in tables on pages of DRAM, after the RISC-V Privileged ISA, "Sv39: Page-Based 39-bit
-- Virtual-Memory System"; and the ptes that the monitor writes, which are this project's own.
use Rattle.std.specs.Prelude.{ℕ, zero, suc, ◌+◌, ◌-◌, ◌*◌, ◌/◌, ◌%◌, ◌^◌, Bool, ◌==◌, ◌||◌, if◌then◌else◌, List, [], ◌∷◌, length, slice_get, Option, Some, None}
use Rattle.mon_types.specs.Shape.{Shape}
use Rattle.mon_types.specs.Sizes.{page_words}
use Rattle.dram_map.specs.Addresses.{first_word, frame_of, is_dram_frame, page_in_frame, page_of_frame}
use Rattle.sv39_pte.specs.Pte.{ppn_of}

-- ---- where a pte stands

-- the place of an address's pte in a table of this level: bits 38 to 30, 29 to 21 and 20 to 12 of the address
-- for levels 2, 1 and 0
abbrev pub pte_index : ℕ → ℕ → ℕ
pte_index level va = va / 2 ^ (12 + 9 * level) % page_words

-- the number of the word of DRAM in which it stands, for a table on this page
abbrev pub pte_place : ℕ → ℕ → ℕ → ℕ
pte_place page level va = first_word page + pte_index level va

-- ---- where a pte leads: only its page frame number is looked at

-- whether a pte leads to a page of DRAM; one that leads to none, as 0 does, counts as that of a missing table
abbrev pub leads_to_table : Shape → ℕ → Bool
leads_to_table shape pte = is_dram_frame shape (ppn_of pte)

-- the page of DRAM to which a pte leads
abbrev pub page_led_to : ℕ → ℕ
page_led_to pte = page_in_frame (ppn_of pte)

-- the same, None where it leads to none
abbrev pub table_led_to : Shape → ℕ → Option ℕ
table_led_to shape pte = page_of_frame shape (ppn_of pte)

-- ---- the path of an address

-- The places of so many ptes on an address's path, from the table of this level on this page down, where the words
-- stand that are given by their places. A pte that leads to no table is the last.
abbrev pub path_by : Shape → (ℕ → ℕ) → ℕ → ℕ → ℕ → ℕ → List ℕ
path_by shape word va level zero page = []
path_by shape word va level (suc count) page =
    let pte = word (pte_place page level va) in
    pte_place page level va
    ∷ (if leads_to_table shape pte then path_by shape word va (level - 1) count (page_led_to pte) else [])

-- the same from a root down, whose level is 2; without a root there is none
abbrev pub path_below : Shape → (ℕ → ℕ) → ℕ → ℕ → Option ℕ → List ℕ
path_below shape word va count None = []
path_below shape word va count (Some root) = path_by shape word va 2 count root

-- the last of these places, if there is one
abbrev pub last_place : List ℕ → Option ℕ
last_place places = slice_get places (length places - 1)

-- ---- the ptes that the monitor writes

-- the pte that leads to the table on a page: its frame, and V
abbrev pub pointer_pte : ℕ → ℕ
pointer_pte page = frame_of page * 2 ^ 10 + 1

-- the pte of a leaf on a page: its frame, D, A, U and V, and the permissions, where bit 0 is R, bit 1 W, bit 2 X
abbrev pub leaf_pte : ℕ → ℕ → ℕ
leaf_pte page perms = frame_of page * 2 ^ 10 + 0xD1 + 2 * perms

-- the permissions of a leaf: R, RW, X, RX or RWX
abbrev pub are_perms : ℕ → Bool
are_perms perms = perms == 1 || perms == 3 || perms == 4 || perms == 5 || perms == 7
