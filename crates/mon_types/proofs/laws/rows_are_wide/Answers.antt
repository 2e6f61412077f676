use Rattle.std.proofs.Common.{refl, arith}
use Rattle.mon_types.specs.Objects.{width}
use Rattle.mon_types.proofs.EnclaveRows.{enclave_long}
use Rattle.mon_types.proofs.laws.rows_are_wide.Goals as goal

pub returns : goal.returns
unfolding width
returns c = record {
  regions = λ r x. refl;
  enclaves = λ e x h. enclave_long x h;
  threads = λ t x h. omega (arith, h.saved.many);
  cells = λ k x. refl;
}
