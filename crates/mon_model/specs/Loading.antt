-- What is loaded into an enclave, and which page tables and leaves that makes. This project's own; the
-- shape of the tables is Sv39 of the RISC-V Privileged ISA.
use Rattle.std.specs.Prelude.{ℕ, ◌<◌, ◌+◌, ◌/◌, ◌^◌, Bool, true, false, ◌==◌, ◌&&◌, not, nat_lt, nat_le, if◌then◌else◌, List, is_some}
use Rattle.std.specs.List.{list_any, AllByRecursion}
use Rattle.mon_types.specs.Shape.{Shape, page_total, region_of_page}
use Rattle.mon_types.specs.declared.enclave.LoadedKind.{LoadedKind}
use Rattle.mon_types.specs.declared.enclave.LoadedKind.TheVariants as kinds
use Rattle.mon_types.specs.declared.enclave.Loaded.{Loaded}
use Rattle.mon_types.specs.declared.enclave.Enclave.{Enclave}
use Rattle.mon_types.specs.Bits.{has_bit}
use Rattle.mon_model.specs.RegionCalls.{is_loading}

-- the part of an address that an item of this kind serves: a table of level 2 serves all addresses,
-- one of level 1 those with the same bits from 30 on, one of level 0 from 21 on, a page from 12 on
abbrev pub served_part : LoadedKind → ℕ → ℕ
served_part kinds.Table2 va = 0
served_part kinds.Table1 va = va / 2 ^ 30
served_part kinds.Table0 va = va / 2 ^ 21
served_part kinds.Page va = va / 2 ^ 12
served_part kinds.Reserved va = va / 2 ^ 12

-- whether an item is there for an address
abbrev pub is_there_for : ℕ → Loaded → Bool
is_there_for va item = served_part item.kind item.va == served_part item.kind va

-- a table of level 1
abbrev pub is_table_1 : LoadedKind → Bool
is_table_1 kinds.Table2 = false
is_table_1 kinds.Table1 = true
is_table_1 kinds.Table0 = false
is_table_1 kinds.Page = false
is_table_1 kinds.Reserved = false

-- a table of level 0
abbrev pub is_table_0 : LoadedKind → Bool
is_table_0 kinds.Table2 = false
is_table_0 kinds.Table1 = false
is_table_0 kinds.Table0 = true
is_table_0 kinds.Page = false
is_table_0 kinds.Reserved = false

-- a page or a reserved page
abbrev pub is_leaf : LoadedKind → Bool
is_leaf kinds.Table2 = false
is_leaf kinds.Table1 = false
is_leaf kinds.Table0 = false
is_leaf kinds.Page = true
is_leaf kinds.Reserved = true

-- a reserved page
abbrev pub is_reserved : LoadedKind → Bool
is_reserved kinds.Table2 = false
is_reserved kinds.Table1 = false
is_reserved kinds.Table0 = false
is_reserved kinds.Page = false
is_reserved kinds.Reserved = true

-- A page-table entry (pte) on an address's path is not 0 exactly where its child is there: the root's where a table of
-- level 1 is, that table's where a table of level 0 is, and that one's where a leaf is.
abbrev pub has_table_1 : ℕ → List Loaded → Bool
has_table_1 va items = list_any (λ item. is_table_1 item.kind && is_there_for va item) items

-- the pte below it, in the table of level 1
abbrev pub has_table_0 : ℕ → List Loaded → Bool
has_table_0 va items = list_any (λ item. is_table_0 item.kind && is_there_for va item) items

-- the pte below that, in the table of level 0
abbrev pub has_leaf : ℕ → List Loaded → Bool
has_leaf va items = list_any (λ item. is_leaf item.kind && is_there_for va item) items

-- the items stand in pages of the machine
abbrev pub StandInPages : Shape → List Loaded → Type 0
StandInPages shape items = AllByRecursion (λ item. item.page < page_total shape) items

-- ---- what the enclave's record decides

-- the address is in the enclave's range
abbrev pub in_range : Enclave → ℕ → Bool
in_range enclave va = nat_le enclave.base va && nat_lt va (enclave.base + enclave.size)

-- the enclave has a root page table
abbrev pub has_root : Enclave → Bool
has_root enclave = is_some enclave.root

-- pages are taken in ascending order, so that none is taken twice
abbrev pub is_next_page : Enclave → ℕ → Bool
is_next_page enclave page = is_loading enclave.stage && nat_le enclave.next_page page

-- the page of a table, or one to be filled, lies in a region of the enclave; a reserved page does not
abbrev pub takes_page : Shape → Enclave → ℕ → Bool
takes_page shape enclave page = is_next_page enclave page && has_bit enclave.regions (region_of_page shape page)

-- the page of a reserve
abbrev pub reserves_page : Shape → Enclave → ℕ → Bool
reserves_page shape enclave page =
    is_next_page enclave page && not (has_bit enclave.regions (region_of_page shape page))

-- ---- what the items decide

-- whether a table of this level finds its place empty and its parents there
abbrev pub has_place_for_table : List Loaded → ℕ → ℕ → Bool
has_place_for_table items va level =
    if level == 1 then not (has_table_1 va items) else has_table_1 va items && not (has_table_0 va items)

-- whether a leaf does
abbrev pub has_place_for_leaf : List Loaded → ℕ → Bool
has_place_for_leaf items va = has_table_1 va items && has_table_0 va items && not (has_leaf va items)

-- the kind of a table of this level
abbrev pub table_kind : ℕ → LoadedKind
table_kind level = if level == 2 then kinds.Table2 else if level == 1 then kinds.Table1 else kinds.Table0
