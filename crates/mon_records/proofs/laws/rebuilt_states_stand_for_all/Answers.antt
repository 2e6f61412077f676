use Rattle.mon_records.proofs.RebuiltStates.{rebuilt_answers, rebuilt_tries, rebuilt_changes, nothing_found, first_found, found_stays}
use Rattle.mon_records.proofs.laws.rebuilt_states_stand_for_all.Goals as goal

pub returns-clause-answers : goal.returns-clause-answers
returns-clause-answers c = rebuilt_answers

pub returns-clause-objects : goal.returns-clause-objects
returns-clause-objects c = rebuilt_tries

pub returns-clause-rows : goal.returns-clause-rows
returns-clause-rows c = rebuilt_changes

pub returns-clause-begins : goal.returns-clause-begins
returns-clause-begins c = nothing_found

pub returns-clause-settles : goal.returns-clause-settles
returns-clause-settles c = first_found

pub returns-clause-stays : goal.returns-clause-stays
returns-clause-stays c = found_stays
