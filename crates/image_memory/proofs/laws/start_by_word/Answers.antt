use Rattle.image_memory.proofs.Whole.{has_its_words, zeros_without_segments, each_word}
use Rattle.image_memory.proofs.laws.start_by_word.Goals as goal

pub returns-clause-size : goal.returns-clause-size
returns-clause-size c = has_its_words

pub returns-clause-zeros : goal.returns-clause-zeros
returns-clause-zeros c = zeros_without_segments

pub returns-clause-word : goal.returns-clause-word
returns-clause-word c = each_word
