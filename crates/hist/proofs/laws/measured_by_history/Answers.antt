use Rattle.hist.proofs.Measured.{history_measured, last_measured}
use Rattle.hist.proofs.laws.measured_by_history.Goals as goal

pub returns-clause-after : goal.returns-clause-after
returns-clause-after c = history_measured

pub returns-clause-last : goal.returns-clause-last
returns-clause-last c = last_measured
