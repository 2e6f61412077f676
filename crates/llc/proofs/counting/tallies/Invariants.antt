use Rattle.std.proofs.Common.{◌≡◌, take}
use Rattle.llc.specs.Sets.{StandsFor}
use Rattle.llc.specs.Tallies.{tallies_of}
use Rattle.llc.proofs.counting.tallies.Given as goal

abbrev pub invariant-loop-address : goal.invariant-loop-address
invariant-loop-address l = record {
  shape : l.cache.shape ≡ l.trace.config;
  ways : l.cache.ways ≡ l.trace.ways;
  stands : StandsFor l.cache (take l.address-index l.address-items);
  counted : l.tallies.items ≡ tallies_of l.trace.config l.trace.ways (take l.address-index l.address-items);
}
