use Rattle.hist_stands.proofs.Listed.{legal_stand}
use Rattle.hist_stands.proofs.results.legal_logs_stand.Goals as goal

pub returns : goal.returns
returns c = legal_stand
