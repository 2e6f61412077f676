use Rattle.protocol_steps.proofs.Given.{permitted_has_right, permitted_is_placed}
use Rattle.protocol_steps.proofs.laws.moves_are_right.Goals as goal

pub returns-clause-right : goal.returns-clause-right
returns-clause-right c = permitted_has_right

pub returns-clause-placed : goal.returns-clause-placed
returns-clause-placed c = permitted_is_placed
