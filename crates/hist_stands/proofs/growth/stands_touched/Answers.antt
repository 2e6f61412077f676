use Rattle.hist_stands.proofs.Grows.{touch_stands}
use Rattle.hist_stands.proofs.growth.stands_touched.Goals as goal

pub returns : goal.returns
returns c = touch_stands
