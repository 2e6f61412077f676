use Rattle.std.proofs.Common.{◌≡◌, ◌++◌, map, take, drop}
use Rattle.mon_types.specs.Enclaves.{empty_enclave}
use Rattle.mon_model.specs.EnclaveCalls.{deleted}
use Rattle.mon_enclaves.proofs.after.after_delete.Given as goal

abbrev pub invariant-loop-region : goal.invariant-loop-region
invariant-loop-region l = record {
  enclave : l.enclave ≡ empty_enclave;
  regions : l.regions ≡ map (λ region. deleted region l.fn.ticket) (take l.region-index l.initial.regions) ++ drop l.region-index l.initial.regions;
}
