use Rattle.mon_types.proofs.EnclaveRows.{within_same}
use Rattle.mon_types.proofs.laws.within_keeps_records.Goals as goal

pub returns : goal.returns
returns c = within_same
