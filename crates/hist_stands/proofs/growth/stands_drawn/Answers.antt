use Rattle.hist_stands.proofs.Grows.{entry_stands}
use Rattle.hist_stands.proofs.growth.stands_drawn.Goals as goal

pub returns : goal.returns
returns c = entry_stands
