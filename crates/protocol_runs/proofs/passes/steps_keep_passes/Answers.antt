use Rattle.protocol_runs.proofs.Passing.{split_keeps, join_keeps, split_keeps_all, join_keeps_all}
use Rattle.protocol_runs.proofs.passes.steps_keep_passes.Goals as goal

pub returns-clause-split : goal.returns-clause-split
returns-clause-split c = split_keeps

pub returns-clause-join : goal.returns-clause-join
returns-clause-join c = join_keeps

pub returns-clause-split_all : goal.returns-clause-split_all
returns-clause-split_all c = split_keeps_all

pub returns-clause-join_all : goal.returns-clause-join_all
returns-clause-join_all c = join_keeps_all
