-- A word as a set of small numbers: i is in it where bit i is set. This project's own.
use Rattle.std.specs.Prelude.{ℕ, zero, suc, ◌+◌, ◌-◌, ◌/◌, ◌%◌, ◌^◌, Bool, ◌==◌, if◌then◌else◌, List, [], ◌∷◌, ◌++◌}

-- whether i is in the set
abbrev pub has_bit : ℕ → ℕ → Bool
has_bit word i = word / 2 ^ i % 2 == 1

-- the set and i
abbrev pub with_bit : ℕ → ℕ → ℕ
with_bit word i = if has_bit word i then word else word + 2 ^ i

-- the set without i
abbrev pub without_bit : ℕ → ℕ → ℕ
without_bit word i = if has_bit word i then word - 2 ^ i else word

-- i where it is in the set
abbrev pub member : ℕ → ℕ → List ℕ
member word i = if has_bit word i then i ∷ [] else []

-- the members below n, ascending
unfoldable pub members : ℕ → ℕ → List ℕ
members word zero = []
members word (suc n) = members word n ++ member word n
