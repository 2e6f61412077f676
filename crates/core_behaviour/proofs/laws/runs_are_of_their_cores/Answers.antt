use Rattle.core_behaviour.proofs.RunLaws.{run_law}
use Rattle.core_behaviour.proofs.laws.runs_are_of_their_cores.Goals as goal

pub returns : goal.returns
returns c = run_law
