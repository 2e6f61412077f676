use Rattle.std.proofs.Common.{refl}
use Rattle.hist_stands.proofs.runs.first_period.Goals as goal

pub returns-clause-period : goal.returns-clause-period
returns-clause-period c = refl

pub returns-clause-begins : goal.returns-clause-begins
returns-clause-begins c = refl

pub returns-clause-blocked : goal.returns-clause-blocked
returns-clause-blocked c = refl

pub returns-clause-still_blocked : goal.returns-clause-still_blocked
returns-clause-still_blocked c = refl

pub returns-clause-freed : goal.returns-clause-freed
returns-clause-freed c = refl
