use Rattle.std.proofs.Common.{refl}
use Rattle.hist_stands.proofs.runs.second_period.Goals as goal

pub returns-clause-period : goal.returns-clause-period
returns-clause-period c = refl

pub returns-clause-before : goal.returns-clause-before
returns-clause-before c = refl

pub returns-clause-begins : goal.returns-clause-begins
returns-clause-begins c = refl
