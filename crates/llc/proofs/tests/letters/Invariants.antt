use Rattle.std.proofs.Common.{◌≡◌}
use Rattle.llc.proofs.tests.letters.Given as goal

abbrev pub invariant-loop-address : goal.invariant-loop-address
invariant-loop-address l = l.cache.shape ≡ l.config
