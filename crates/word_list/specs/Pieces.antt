-- The one list of words in two pieces, and the piece before DRAM at the start. This project's own.
use Rattle.std.specs.Prelude.{◌≡◌, ◌≢◌, ℕ, ◌+◌, ◌*◌, ◌<◌, List, ◌++◌, map, length, slice_index}
use Rattle.std.specs.List.{range_with_len}
use Rattle.mon_types.specs.Shape.{Shape}
use Rattle.protocol.specs.Layout.{dram_from, regions_from}
use Rattle.word_list.specs.declared.pieces.Pieces.{Pieces}

-- the words before DRAM, and then those of DRAM
abbrev pub joined : Pieces → List ℕ
joined p = p.table.items ++ p.dram.items

-- so many words of a list from a place on
abbrev pub words_at : List ℕ → ℕ → ℕ → List ℕ
words_at words at count = map (λ i. slice_index words (at + i)) (range_with_len 0 count)

-- the own-words of the regions below a number are 1, Owned by the OS since ticket 0, and all other words before DRAM
-- are 0
pub record AreOwnedBelow (shape : Shape) (count : ℕ) (table : List ℕ) : Type 0 where
  pub many : length table ≡ dram_from shape
  pub own : (r : ℕ) → r < count → slice_index table (regions_from shape + 2 * r) ≡ 1
  pub others : (at : ℕ) → ((r : ℕ) → r < count → at ≢ regions_from shape + 2 * r) → slice_index table at ≡ 0

-- so they are at the start, for all regions
abbrev pub IsFirstTable : Shape → List ℕ → Type 0
IsFirstTable shape table = AreOwnedBelow shape shape.regions table
