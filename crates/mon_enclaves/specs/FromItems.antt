-- The page-table entries (ptes) that an enclave's loaded items give on an address's path. This project's own.
use Rattle.std.specs.Prelude.{ℕ, ◌==◌, ◌&&◌, if◌then◌else◌, List, [], ◌∷◌, Option, Some, None}
use Rattle.std.specs.List.{find}
use Rattle.mon_types.specs.declared.enclave.Loaded.{Loaded}
use Rattle.mon_model.specs.Loading.{is_there_for, is_table_1, is_table_0, is_leaf}
use Rattle.sv39_pte.specs.Tables.{pointer_pte, leaf_pte}

-- the table of level 1 that is there for an address, if there is one
abbrev pub table_1_for : ℕ → List Loaded → Option Loaded
table_1_for va items = find (λ item. is_table_1 item.kind && is_there_for va item) items

-- the table of level 0 that is there for it, if there is one
abbrev pub table_0_for : ℕ → List Loaded → Option Loaded
table_0_for va items = find (λ item. is_table_0 item.kind && is_there_for va item) items

-- the leaf that is there for it, if there is one
abbrev pub leaf_for : ℕ → List Loaded → Option Loaded
leaf_for va items = find (λ item. is_leaf item.kind && is_there_for va item) items

-- the pte that leads to a table; 0 where there is none
abbrev pub pte_of_table : Option Loaded → ℕ
pte_of_table None = 0
pte_of_table (Some item) = pointer_pte item.page

-- the pte that leads to a leaf with these permissions; 0 where there is none
abbrev pub pte_of_leaf : Option Loaded → ℕ → ℕ
pte_of_leaf None perms = 0
pte_of_leaf (Some item) perms = leaf_pte item.page perms

-- further ptes are read below a table that is there
abbrev pub below : Option Loaded → List ℕ → List ℕ
below None words = []
below (Some table) words = words

-- all ptes that are read on the path of a table of level 1
abbrev pub table_1_words : List Loaded → ℕ → List ℕ
table_1_words items va = pte_of_table (table_1_for va items) ∷ []

-- all ptes that are read on the path of a table of level 0
abbrev pub table_0_words : List Loaded → ℕ → List ℕ
table_0_words items va =
    let table_1 = table_1_for va items in
    pte_of_table table_1 ∷ below table_1 (pte_of_table (table_0_for va items) ∷ [])

-- all ptes that are read on the path of a table
abbrev pub table_words : List Loaded → ℕ → ℕ → List ℕ
table_words items va level =
    if level == 2 then [] else if level == 1 then table_1_words items va else table_0_words items va

-- all ptes that are read on the path of a leaf
abbrev pub leaf_words : List Loaded → ℕ → ℕ → List ℕ
leaf_words items va perms =
    let table_1 = table_1_for va items in
    let table_0 = table_0_for va items in
    pte_of_table table_1
    ∷ below table_1 (pte_of_table table_0 ∷ below table_0 (pte_of_leaf (leaf_for va items) perms ∷ []))
