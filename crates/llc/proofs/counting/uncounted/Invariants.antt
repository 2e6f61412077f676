use Rattle.std.proofs.Common.{◌≡◌, map}
use Rattle.std.specs.List.{range_with_len}
use Rattle.llc.specs.Tallies.{uncounted}
use Rattle.llc.proofs.counting.uncounted.Given as goal

abbrev pub invariant-loop-region : goal.invariant-loop-region
invariant-loop-region l = l.tallies.items ≡ map uncounted (range_with_len 0 l.region)
