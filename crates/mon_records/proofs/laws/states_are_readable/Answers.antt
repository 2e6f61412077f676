use Rattle.mon_records.proofs.Readable.{readable}
use Rattle.mon_records.proofs.RebuiltStates.{rows_long}
use Rattle.mon_records.proofs.laws.states_are_readable.Goals as goal

pub returns-clause-readable : goal.returns-clause-readable
returns-clause-readable c = readable

pub returns-clause-long : goal.returns-clause-long
returns-clause-long c = rows_long
