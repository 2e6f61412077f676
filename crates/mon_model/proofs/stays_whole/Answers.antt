use Rattle.mon_model.proofs.Whole.{stays}
use Rattle.mon_model.proofs.stays_whole.Goals as goal

pub returns-clause-next : goal.returns-clause-next
returns-clause-next c = stays
