-- Words of 64 bits in a row, this project's own.
use Rattle.std.specs.Prelude.{◌≡◌, ℕ, ◌^◌, ◌<◌, Bool, nat_lt, if◌then◌else◌, List, length}
use Rattle.std.specs.List.{AllByRecursion}
use Rattle.std.specs.Str.{bytes_eq}

-- so many words of 64 bits
pub record AreWords (count : ℕ) (words : List ℕ) : Type 0 where
  pub many : length words ≡ count
  pub fit : AllByRecursion (λ w. w < 2 ^ 64) words

-- the word, or 0 where it is not below the limit
unfoldable pub fitting : ℕ → ℕ → ℕ
fitting limit word = if nat_lt word limit then word else 0

-- whether two rows have the same words
abbrev pub same_words : List ℕ → List ℕ → Bool
same_words = bytes_eq
