use Rattle.protocol_steps.proofs.Given.{always_2, always_3, always_4, always_5, always_6, always_7, always_8, always_9, always_10}
use Rattle.protocol_steps.proofs.laws.moves_keep.Goals as goal

pub returns-clause-entries : goal.returns-clause-entries
returns-clause-entries c = always_2

pub returns-clause-locks : goal.returns-clause-locks
returns-clause-locks c = always_3

pub returns-clause-free_rows : goal.returns-clause-free_rows
returns-clause-free_rows c = always_4

pub returns-clause-held_rows : goal.returns-clause-held_rows
returns-clause-held_rows c = always_5

pub returns-clause-own_words : goal.returns-clause-own_words
returns-clause-own_words c = always_6

pub returns-clause-touches : goal.returns-clause-touches
returns-clause-touches c = always_7

pub returns-clause-loading : goal.returns-clause-loading
returns-clause-loading c = always_8

pub returns-clause-zeros : goal.returns-clause-zeros
returns-clause-zeros c = always_9

pub returns-clause-logs : goal.returns-clause-logs
returns-clause-logs c = always_10
