-- A line and several texts behind it.
use Rattle.std.proofs.Common.{◌≡◌, ℕ, List, ◌++◌, append_assoc}

pub joined_four : (line a b c d : List ℕ) → line ++ a ++ b ++ c ++ d ≡ line ++ (a ++ b ++ c ++ d)
joined_four line a b c d = simp append_assoc
