use Rattle.sv39_walk.proofs.Related.{ends_by_relation, wishes_by_relation}
use Rattle.sv39_walk.proofs.laws.walks_are_the_relation.Goals as goal

pub returns-clause-ends : goal.returns-clause-ends
returns-clause-ends c = ends_by_relation

pub returns-clause-wishes : goal.returns-clause-wishes
returns-clause-wishes c = wishes_by_relation
