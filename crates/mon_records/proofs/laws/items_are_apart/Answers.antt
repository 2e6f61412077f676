use Rattle.mon_records.proofs.Items.{same_tries, same_reply, same_change, same_rows}
use Rattle.mon_records.proofs.laws.items_are_apart.Goals as goal

pub returns-clause-objects : goal.returns-clause-objects
returns-clause-objects c = same_tries

pub returns-clause-answers : goal.returns-clause-answers
returns-clause-answers c = same_reply

pub returns-clause-tables : goal.returns-clause-tables
returns-clause-tables c = same_change

pub returns-clause-rows : goal.returns-clause-rows
returns-clause-rows c = same_rows
