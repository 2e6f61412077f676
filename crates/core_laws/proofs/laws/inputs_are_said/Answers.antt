use Rattle.core_laws.proofs.Inputs.{images_are_machines, scripts_are_wide}
use Rattle.core_laws.proofs.laws.inputs_are_said.Goals as goal

pub returns-clause-images : goal.returns-clause-images
returns-clause-images c = images_are_machines

pub returns-clause-scripts : goal.returns-clause-scripts
returns-clause-scripts c = scripts_are_wide
