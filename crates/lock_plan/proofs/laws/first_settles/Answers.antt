use Rattle.lock_plan.specs.EveryPlan.{first_settles}
use Rattle.lock_plan.proofs.laws.first_settles.Goals as goal

pub returns : goal.returns
returns c = first_settles
