use Rattle.protocol_steps.proofs.Next.{left_is_permitted}
use Rattle.protocol_steps.proofs.Given.{always_go_on}
use Rattle.protocol_steps.proofs.laws.calls_may_go_on.Goals as goal

pub returns-clause-permitted : goal.returns-clause-permitted
returns-clause-permitted c = left_is_permitted

pub returns-clause-left : goal.returns-clause-left
returns-clause-left c = always_go_on
