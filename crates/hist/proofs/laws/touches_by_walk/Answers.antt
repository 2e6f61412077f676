use Rattle.hist.proofs.Touching.{untouched_cleared, cleared_untouched}
use Rattle.hist.proofs.laws.touches_by_walk.Goals as goal

pub returns-clause-untouched : goal.returns-clause-untouched
returns-clause-untouched c = untouched_cleared

pub returns-clause-cleared : goal.returns-clause-cleared
returns-clause-cleared c = cleared_untouched
