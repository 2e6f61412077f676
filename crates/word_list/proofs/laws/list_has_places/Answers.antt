use Rattle.word_list.proofs.Listing.{index_is_there, index_is_apart, set_is_at_place}
use Rattle.word_list.proofs.Everywhere.{list_is_there}
use Rattle.word_list.proofs.laws.list_has_places.Goals as goal

pub returns-clause-there : goal.returns-clause-there
returns-clause-there c = index_is_there

pub returns-clause-apart : goal.returns-clause-apart
returns-clause-apart c = index_is_apart

pub returns-clause-set : goal.returns-clause-set
returns-clause-set c = set_is_at_place

pub returns-clause-listed : goal.returns-clause-listed
returns-clause-listed c = list_is_there
