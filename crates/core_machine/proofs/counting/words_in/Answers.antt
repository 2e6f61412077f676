use Rattle.core_machine.proofs.Adding.{one_word, no_word}
use Rattle.core_machine.proofs.counting.words_in.Goals as goal

pub returns-in-Word : goal.returns-in-Word
returns-in-Word c = one_word c.args.outcome.now _ c.in-Word.is

pub returns-in_default : goal.returns-in_default
returns-in_default c = no_word c.args.outcome.now c.in_default.not-Word
