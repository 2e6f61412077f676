use Rattle.core_laws.proofs.AtEnd.{every_schedule}
use Rattle.core_laws.proofs.laws.finished_is_one_history.Goals as goal

pub returns : goal.returns
returns c = every_schedule
