use Rattle.hist_stands.proofs.Sorted.{log_safe, all_safe}
use Rattle.hist_stands.proofs.results.stands_safe.Goals as goal

pub returns-clause-core : goal.returns-clause-core
returns-clause-core c = log_safe

pub returns-clause-logs : goal.returns-clause-logs
returns-clause-logs c = all_safe
