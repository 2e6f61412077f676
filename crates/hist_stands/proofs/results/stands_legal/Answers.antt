use Rattle.hist_stands.proofs.Sorted.{same_history, all_legal}
use Rattle.hist_stands.proofs.results.stands_legal.Goals as goal

pub returns-clause-history : goal.returns-clause-history
returns-clause-history c = same_history

pub returns-clause-logs : goal.returns-clause-logs
returns-clause-logs c = all_legal
