use Rattle.core_machine.proofs.Efforts.{in_budget}
use Rattle.core_machine.proofs.machine.CoreMachine.took.Goals as goal

pub returns-clause-budget : goal.returns-clause-budget
returns-clause-budget c = in_budget _ c.took.ensures.sound
