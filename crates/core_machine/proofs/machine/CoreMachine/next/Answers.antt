use Rattle.core_machine.proofs.Efforts.{in_budget, is_fresh}
use Rattle.core_machine.proofs.machine.CoreMachine.next.Goals as goal

pub returns-clause-budget : goal.returns-clause-budget
returns-clause-budget c = in_budget _ c.next.ensures.sound

pub returns-clause-fresh : goal.returns-clause-fresh
returns-clause-fresh c = is_fresh _ c.next.ensures.sound
