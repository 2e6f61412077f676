use Rattle.protocol_steps.proofs.Passed.{move_is_given}
use Rattle.protocol_steps.proofs.Given.{move_keeps}
use Rattle.protocol_steps.proofs.laws.each_move_keeps.Goals as goal

pub returns-clause-given : goal.returns-clause-given
returns-clause-given c = move_is_given

pub returns-clause-all : goal.returns-clause-all
returns-clause-all c = move_keeps
