-- The least of tickets and of those behind them. This project's own.
use Rattle.std.specs.Prelude.{ℕ, suc, nat_lt, if◌then◌else◌, List, [], ◌∷◌, slice_index_or, slice_set}

-- the lesser of a number and the first of others, if there is one
abbrev pub lesser_of : ℕ → List ℕ → ℕ
lesser_of x [] = x
lesser_of x (y ∷ ys) = if nat_lt y x then y else x

-- of each of these numbers the least of it and those behind it
abbrev pub least_behind : List ℕ → List ℕ
least_behind [] = []
least_behind (x ∷ xs) = lesser_of x (least_behind xs) ∷ least_behind xs

-- the number at a place lowered to the one behind it, where that is less
abbrev pub lowered : List ℕ → ℕ → List ℕ
lowered xs at =
    if nat_lt (slice_index_or xs (suc at) 0) (slice_index_or xs at 0)
    then slice_set xs at (slice_index_or xs (suc at) 0)
    else xs
