use Rattle.legal_report.proofs.Lowest.{decided_by_least}
use Rattle.legal_report.proofs.least.all_above.Goals as goal

pub returns : goal.returns
returns c = λ tickets is. decided_by_least c.args.since tickets c.args.least.now c.args.at c.is_none_or_above.result is c.is_none_or_above.ensures
