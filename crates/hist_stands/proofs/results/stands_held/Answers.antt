use Rattle.hist_stands.proofs.Holding.{held_now}
use Rattle.hist_stands.proofs.results.stands_held.Goals as goal

pub returns : goal.returns
returns c shape h log stands core lt = held_now shape h stands.legal core lt (log core) (stands.mine core lt)
    (stands.stamped core lt)
