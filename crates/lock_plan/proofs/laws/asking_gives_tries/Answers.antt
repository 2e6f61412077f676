use Rattle.lock_plan.specs.EveryPlan.{asking}
use Rattle.lock_plan.proofs.laws.asking_gives_tries.Goals as goal

pub returns : goal.returns
returns c = asking
