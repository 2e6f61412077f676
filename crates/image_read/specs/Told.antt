-- What was told to a tally by a function that puts a text. This project's own.
use Rattle.std.specs.Prelude.{ℕ, List, ◌++◌}

-- a tally that was told some bytes before has now been told these behind them
abbrev pub Covers : (List ℕ → Type 0) → (List ℕ → Type 0) → List ℕ → Type 0
Covers told_before told_after text = (m : List ℕ) → told_before m → told_after (m ++ text)
