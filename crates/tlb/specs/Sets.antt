-- The translation cache set after set: the order of entries is kept within each set, and between sets it is forgotten.
-- No look and no fill sees the difference, as the laws say. This project's own.
use Rattle.std.specs.Prelude.{◌≡◌, ℕ, ◌≤◌, nat_lt, if◌then◌else◌, List, [], ◌∷◌, ◌++◌, drop, length, slice_set}
use Rattle.std.specs.List.{flat_map, slice_index_or}
use Rattle.tlb.specs.declared.entry.Entry.{Entry}
use Rattle.tlb.specs.Cache.{set_room, set_of, HasOneEach, of_others, in_set}

-- the four sets, each the list of its entries
abbrev pub sets_of : List Entry → List (List Entry)
sets_of es = in_set 0 es ∷ in_set 1 es ∷ in_set 2 es ∷ in_set 3 es ∷ []

-- sets, one behind the other
abbrev pub joined : List (List Entry) → List Entry
joined sets = flat_map (λ set. set) sets

-- the same entries, set after set
abbrev pub by_set : List Entry → List Entry
by_set es = joined (sets_of es)

-- no set has more than four entries
abbrev pub FitsInSets : List Entry → Type 0
FitsInSets es = (set : ℕ) → length (in_set set es) ≤ set_room

-- ---- one set

-- the set with this number, one of four
abbrev pub set_at : List (List Entry) → ℕ → List Entry
set_at sets set = slice_index_or sets set []

-- a set with room for an entry
abbrev pub set_with_room : List Entry → List Entry
set_with_room es = if nat_lt (length es) set_room then es else drop 1 es

-- a set after a fill
abbrev pub set_filled : List Entry → Entry → List Entry
set_filled es e = set_with_room (of_others e.vpn es) ++ e ∷ []

-- four sets after a fill
abbrev pub sets_filled : List (List Entry) → Entry → List (List Entry)
sets_filled sets e = slice_set sets (set_of e.vpn) (set_filled (set_at sets (set_of e.vpn)) e)

-- four sets that are those of their entries, none with more than four and none with two of one virtual page
pub record AreSets (sets : List (List Entry)) : Type 0 where
  pub own : sets_of (joined sets) ≡ sets
  pub few : (set : ℕ) → length (set_at sets set) ≤ set_room
  pub one : HasOneEach (joined sets)
