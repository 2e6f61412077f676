use Rattle.hist.proofs.Lawful.{legal_merges, legal_prints}
use Rattle.hist.proofs.laws.legal_logs_are_reported.Goals as goal

pub returns-clause-merge : goal.returns-clause-merge
returns-clause-merge c = legal_merges

pub returns-clause-print : goal.returns-clause-print
returns-clause-print c = legal_prints
