use Rattle.lock_plan.proofs.Order as order
use Rattle.lock_plan.proofs.laws.tries_ascend.Goals as goal

pub returns : goal.returns
returns c = order.tries_ascend
