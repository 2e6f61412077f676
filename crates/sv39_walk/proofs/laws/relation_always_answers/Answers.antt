use Rattle.sv39_walk.proofs.Alike.{always_answers}
use Rattle.sv39_walk.proofs.laws.relation_always_answers.Goals as goal

pub returns : goal.returns
returns c = always_answers
