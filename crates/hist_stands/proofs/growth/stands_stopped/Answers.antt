use Rattle.hist_stands.proofs.Grows.{stop_stands}
use Rattle.hist_stands.proofs.growth.stands_stopped.Goals as goal

pub returns : goal.returns
returns c = stop_stands
