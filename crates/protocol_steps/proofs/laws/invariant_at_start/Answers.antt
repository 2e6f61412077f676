use Rattle.protocol_steps.proofs.Given.{invariant_at_start}
use Rattle.protocol_steps.proofs.laws.invariant_at_start.Goals as goal

pub returns : goal.returns
returns c = invariant_at_start
