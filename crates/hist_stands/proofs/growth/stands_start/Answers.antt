use Rattle.hist_stands.proofs.Grows.{start_stands}
use Rattle.hist_stands.proofs.growth.stands_start.Goals as goal

pub returns : goal.returns
returns c = start_stands
