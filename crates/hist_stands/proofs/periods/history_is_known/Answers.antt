use Rattle.hist_stands.proofs.Knowing.{known_now}
use Rattle.hist_stands.proofs.periods.history_is_known.Goals as goal

pub returns : goal.returns
returns c = known_now
