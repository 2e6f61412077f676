-- The row of a core's cell, its last flush ticket: one word, this project's own.
use Rattle.std.specs.Prelude.{ℕ, ◌^◌, List, [], ◌∷◌, slice_index}
use Rattle.mon_types.specs.Words.{fitting}

-- the one word of a cell's row
abbrev pub cell_row : ℕ → List ℕ
cell_row flushed = flushed ∷ []

-- the ticket in a cell's word; 0 where it is no ticket
unfoldable pub cell_from : List ℕ → ℕ
cell_from words = fitting (2 ^ 32) (slice_index words 0)
