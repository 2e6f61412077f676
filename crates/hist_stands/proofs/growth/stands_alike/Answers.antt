use Rattle.hist_stands.proofs.Alike.{alike_stands}
use Rattle.hist_stands.proofs.growth.stands_alike.Goals as goal

pub returns : goal.returns
returns c = alike_stands
