use Rattle.word_list.proofs.Finished.{tables_are}
use Rattle.word_list.proofs.laws.tables_are_those_of_a_run.Goals as goal

pub returns : goal.returns
returns c = tables_are
