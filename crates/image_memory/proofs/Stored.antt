-- Storing the words of one segment, word by word.
use Rattle.std.proofs.Common.{ℕ, ◌+◌, ◌-◌, cond, ◌&&◌, nat_le, nat_lt, List}
use Rattle.std.specs.Prelude.{slice_index}

-- word j after `count` words were stored from place `first` on
abbrev pub word_after : List ℕ → List ℕ → ℕ → ℕ → ℕ → ℕ
word_after before words first count j =
    cond (nat_le first j && nat_lt j (first + count)) (slice_index words (j - first)) (slice_index before j)
