-- Texts that are cut at the first or the last byte of a kind. All of it is this project's own.
use Rattle.std.specs.Prelude.{ℕ, Bool, List, [], ◌∷◌, drop, if◌then◌else◌}
use Rattle.std.specs.List.{position_or_len, before_first}
use Rattle.text_in.specs.Bytes.{is_number_sign}

-- the text from its first byte on that passes
abbrev pub from_first : (ℕ → Bool) → List ℕ → List ℕ
from_first test text = drop (position_or_len test text) text

-- the byte before a text, where the text goes on or the byte passes
abbrev pub kept : Bool → ℕ → List ℕ → List ℕ
kept passes b [] = if passes then b ∷ [] else []
kept passes b (c ∷ bs) = b ∷ c ∷ bs

-- the text up to its last byte that passes
unfoldable pub up_to_last : (ℕ → Bool) → List ℕ → List ℕ
up_to_last test [] = []
up_to_last test (b ∷ bs) = kept (test b) b (up_to_last test bs)

-- the text without what does not pass at its start and at its end
abbrev pub trimmed : (ℕ → Bool) → List ℕ → List ℕ
trimmed test text = up_to_last test (from_first test text)

-- what stands in a line before its comment, which the first number sign begins
abbrev pub before_comment : List ℕ → List ℕ
before_comment line = before_first is_number_sign line
