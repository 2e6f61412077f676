use Rattle.hist_stands.proofs.InSets.{in_its_set, no_others}
use Rattle.hist_stands.proofs.tried.tried_and_their_set.Goals as goal

pub returns-clause-tried : goal.returns-clause-tried
returns-clause-tried c = in_its_set

pub returns-clause-no_others : goal.returns-clause-no_others
returns-clause-no_others c = no_others
