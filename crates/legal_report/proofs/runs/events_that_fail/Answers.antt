use Rattle.legal_report.proofs.Small.{other_fails, left_fails, period_fails, twice_fails, stop_fails, limit_fails}
use Rattle.legal_report.proofs.runs.events_that_fail.Goals as goal

pub returns-clause-entry : goal.returns-clause-entry
returns-clause-entry c = other_fails

pub returns-clause-left : goal.returns-clause-left
returns-clause-left c = left_fails

pub returns-clause-period : goal.returns-clause-period
returns-clause-period c = period_fails

pub returns-clause-touched : goal.returns-clause-touched
returns-clause-touched c = twice_fails

pub returns-clause-stop : goal.returns-clause-stop
returns-clause-stop c = stop_fails

pub returns-clause-limit : goal.returns-clause-limit
returns-clause-limit c = limit_fails
