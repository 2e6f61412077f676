-- The lines of a text, with the line feeds that end them. This project's own.
use Rattle.std.specs.Prelude.{ℕ, ◌-◌, if◌then◌else◌, List, [], ◌∷◌, length, take}
use Rattle.text_in.specs.Bytes.{is_line_feed}
use Rattle.text_in.specs.Lines.{onto}

-- the text cut behind each line feed: each line has the line feed that ends it, and what stands behind the last line
-- feed, if anything, is one more line, which has none
unfoldable pub ended_lines : List ℕ → List (List ℕ)
ended_lines [] = []
ended_lines (b ∷ bs) = if is_line_feed b then (b ∷ []) ∷ ended_lines bs else onto b (ended_lines bs)

-- a line without its last byte, which is the line feed that ends it, if it is ended
abbrev pub without_end : List ℕ → List ℕ
without_end line = take (length line - 1) line
