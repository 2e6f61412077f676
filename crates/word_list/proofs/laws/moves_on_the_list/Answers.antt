use Rattle.word_list.proofs.Listing.{found_is_listed, move_is_listed}
use Rattle.word_list.proofs.laws.moves_on_the_list.Goals as goal

pub returns-clause-found : goal.returns-clause-found
returns-clause-found c = found_is_listed

pub returns-clause-moved : goal.returns-clause-moved
returns-clause-moved c = move_is_listed
