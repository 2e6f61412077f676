use Rattle.word_list.proofs.Trying.{held_by_its_core, taken_where_nobodys}
use Rattle.word_list.proofs.moves.try_outcome.Goals as goal

pub returns-in-None : goal.returns-in-None
returns-in-None c = taken_where_nobodys c.args.found c.requires c.in-None.ensures.only

pub returns-in-Some : goal.returns-in-Some
returns-in-Some c = held_by_its_core c.args.found _ _ c.in-Some.ensures.found
