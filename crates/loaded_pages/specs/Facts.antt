-- What holds of the content in every state: zeros where no enclave has loaded, and in the tables of a Loading enclave
-- the ptes of its items. This project's own.
use Rattle.std.specs.Prelude.{◌≡◌, ◌≢◌, ◌⊎◌, ℕ, ◌+◌, ◌/◌, ◌^◌, ◌<◌, ◌≤◌, true, List, Some, is_some}
use Rattle.mon_types.specs.Bits.{has_bit}
use Rattle.mon_types.specs.Shape.{Shape, region_of_page}
use Rattle.mon_types.specs.declared.enclave.Enclave.{Enclave}
use Rattle.mon_types.specs.declared.enclave.Loaded.{Loaded}
use Rattle.mon_model.specs.State.{State, region_at, enclave_at, loaded_at}
use Rattle.mon_model.specs.RegionCalls.{is_loading}
use Rattle.mon_model.specs.RegionStep.{is_idle}
use Rattle.mon_types.specs.Sizes.{page_words}
use Rattle.dram_map.specs.Addresses.{first_word, region_of_word}
use Rattle.sv39_pte.specs.Tables.{pte_index}
use Rattle.mon_enclaves.specs.FromItems.{table_1_for, table_0_for, leaf_for, pte_of_table, pte_of_leaf}
use Rattle.loaded_pages.specs.Content.{Content}

-- a word by its page and its place in it
abbrev pub word_in : Content → ℕ → ℕ → ℕ
word_in content page j = content (first_word page + j)

-- a table of level 1 or 0 that is there for an address
abbrev pub IsTable : List Loaded → ℕ → Loaded → Type 0
IsTable items va t = (table_1_for va items ≡ Some t) ⊎ (table_0_for va items ≡ Some t)

-- The pages of an enclave's root and tables hold the ptes that its items give: each word by its page and its place.
-- Where a leaf is, its permissions are those of its call, which no item keeps.
pub record TablesHold (items : List Loaded) (root : ℕ) (word : ℕ → ℕ → ℕ) : Type 0 where
  pub first : (va : ℕ) → va < 2 ^ 38 → word root (pte_index 2 va) ≡ pte_of_table (table_1_for va items)
  pub second : (va : ℕ) (t : Loaded) → table_1_for va items ≡ Some t
      → word t.page (pte_index 1 va) ≡ pte_of_table (table_0_for va items)
  pub third : (va : ℕ) (t : Loaded) → table_0_for va items ≡ Some t
      → (perms : ℕ) × (word t.page (pte_index 0 va) ≡ pte_of_leaf (leaf_for va items) perms)
  -- a table of level 0 has its parent, and so has a leaf
  pub parents : (va : ℕ) → is_some (table_0_for va items) ≡ true → is_some (table_1_for va items) ≡ true
  pub children : (va : ℕ) → is_some (leaf_for va items) ≡ true → is_some (table_0_for va items) ≡ true
  -- root and tables have pages of their own
  pub beside : (va : ℕ) (t : Loaded) → IsTable items va t → t.page ≢ root
  pub levels : (va other : ℕ) (t u : Loaded) → table_1_for va items ≡ Some t → table_0_for other items ≡ Some u
      → t.page ≢ u.page
  pub apart_1 : (va other : ℕ) (t u : Loaded) → table_1_for va items ≡ Some t → table_1_for other items ≡ Some u
      → t.page ≡ u.page → va / 2 ^ 30 ≡ other / 2 ^ 30
  pub apart_0 : (va other : ℕ) (t u : Loaded) → table_0_for va items ≡ Some t → table_0_for other items ≡ Some u
      → t.page ≡ u.page → va / 2 ^ 21 ≡ other / 2 ^ 21

-- the tables of a Loading enclave, and zeros from the next page that it may take on
pub record PagesHold (shape : Shape) (enclave : Enclave) (items : List Loaded) (content : Content) : Type 0 where
  pub tables : (root : ℕ) → enclave.root ≡ Some root → TablesHold items root (word_in content)
  pub fresh : (page j : ℕ) → has_bit enclave.regions (region_of_page shape page) ≡ true → enclave.next_page ≤ page
      → j < page_words → word_in content page j ≡ 0

-- zeros in idle regions, and in each Loading enclave's pages what is said above
pub record ContentHolds (s : State) (content : Content) : Type 0 where
  pub zeros : (i : ℕ) → is_idle (region_at s (region_of_word s.shape i)) ≡ true → content i ≡ 0
  pub pages : (e : ℕ) → is_loading (enclave_at s e).stage ≡ true
      → PagesHold s.shape (enclave_at s e) (loaded_at s e) content
