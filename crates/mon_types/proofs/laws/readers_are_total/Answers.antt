use Rattle.std.proofs.Common.{◌^◌, arith}
use Rattle.mon_types.specs.Cells.{cell_from}
use Rattle.mon_types.proofs.Rows.{fitting_less}
use Rattle.mon_types.proofs.RegionRows.{region_valid}
use Rattle.mon_types.proofs.EnclaveRows.{enclave_valid}
use Rattle.mon_types.proofs.ThreadRows.{thread_valid}
use Rattle.mon_types.proofs.laws.readers_are_total.Goals as goal

pub returns : goal.returns
unfolding cell_from
returns c = record { regions = region_valid; enclaves = enclave_valid; threads = thread_valid; cells = λ words. fitting_less (2 ^ 32) _ (omega arith) }
