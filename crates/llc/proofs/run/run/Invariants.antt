use Rattle.std.proofs.Common.{◌≡◌, ◌++◌, take, drop, vec_len}
use Rattle.llc.specs.Hits.{hits_behind, hits_of}
use Rattle.llc.specs.Sets.{StandsFor}
use Rattle.llc.proofs.run.run.Given as goal

abbrev pub invariant-loop-address : goal.invariant-loop-address
invariant-loop-address l = record {
  shape : l.cache.shape ≡ l.trace.config;
  ways : l.cache.ways ≡ l.trace.ways;
  stands : StandsFor l.cache (take l.address-index l.address-items);
  hits : l.hits.items ++ hits_behind l.trace.config l.trace.ways (take l.address-index l.address-items) (drop l.address-index l.address-items) ≡ hits_of l.trace.config l.trace.ways l.trace.addresses;
  count : vec_len l.hits ≡ l.address-index;
}
