use Rattle.sv39_walk.proofs.Alike.{one_answer}
use Rattle.sv39_walk.proofs.laws.relation_gives_one_answer.Goals as goal

pub returns : goal.returns
returns c = one_answer
