use Rattle.lock_plan.specs.EveryPlan.{one_more}
use Rattle.lock_plan.proofs.laws.one_more_is_held.Goals as goal

pub returns : goal.returns
returns c = one_more
