use Rattle.protocol_steps.proofs.Given.{given_stands}
use Rattle.protocol_steps.proofs.laws.given_stands.Goals as goal

pub returns : goal.returns
returns c = given_stands
