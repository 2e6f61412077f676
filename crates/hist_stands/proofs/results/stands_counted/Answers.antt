use Rattle.hist_stands.proofs.Counts.{few_tickets}
use Rattle.hist_stands.proofs.results.stands_counted.Goals as goal

pub returns : goal.returns
returns c = few_tickets
