use Rattle.mon_types.specs.Cells.{cell_from}
use Rattle.mon_types.proofs.Rows.{fitting_is}
use Rattle.mon_types.proofs.RegionRows.{region_back}
use Rattle.mon_types.proofs.EnclaveRows.{enclave_back}
use Rattle.mon_types.proofs.ThreadRows.{thread_back}
use Rattle.std.proofs.Common.{◌^◌}
use Rattle.mon_types.proofs.laws.rows_read_back.Goals as goal

pub returns : goal.returns
unfolding cell_from
returns c = record { regions = region_back; enclaves = enclave_back; threads = thread_back; cells = λ flushed h. fitting_is (2 ^ 32) flushed h }
