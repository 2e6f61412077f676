-- Steps of hashing one after the other.
use Rattle.std.proofs.Common.{List, ℕ, ◌++◌, subst, append_assoc}
use Rattle.sha2.specs.Hashers.{Holds256}
use Rattle.sha2.specs.declared.Sha256.{Sha256}
use Rattle.mon_measure.specs.Chain.{Adds}

-- two steps add the bytes of both
pub adds_both : (before between after : Sha256) (first second : List ℕ) → Adds before between first → Adds between after second → Adds before after (first ++ second)
adds_both before between after first second one two = λ m held.
    subst (λ (bytes : List ℕ). Holds256 after bytes) (append_assoc m first second) (two (m ++ first) (one m held))
