use Rattle.std.proofs.Common.{refl}
use Rattle.llc.specs.Hits.{hits_of}
use Rattle.llc.proofs.Whole.{are_hits}
use Rattle.llc.proofs.laws.hits_are_computed.Goals as goal

pub returns : goal.returns
returns c = λ shape ways accesses. are_hits shape ways accesses (hits_of shape ways accesses) refl
