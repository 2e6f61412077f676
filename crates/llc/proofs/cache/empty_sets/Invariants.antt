use Rattle.std.proofs.Common.{◌≡◌, ℕ, [], length}
use Rattle.llc.specs.Sets.{tags_at}
use Rattle.llc.proofs.cache.empty_sets.Given as goal

abbrev pub invariant-loop : goal.invariant-loop
invariant-loop l = record {
  count : length l.sets.items ≡ l.counter;
  empty : (set : ℕ) → tags_at l.sets.items set ≡ [];
}
