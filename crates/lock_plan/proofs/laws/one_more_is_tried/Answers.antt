use Rattle.lock_plan.proofs.Sets as sets
use Rattle.lock_plan.proofs.laws.one_more_is_tried.Goals as goal

pub returns : goal.returns
returns c = sets.one_more_is_tried
