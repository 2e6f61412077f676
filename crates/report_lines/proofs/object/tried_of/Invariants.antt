use Rattle.std.proofs.Common.{◌≡◌, [], length}
use Rattle.text_in.specs.Words.{words_of}
use Rattle.mon_model.specs.Tries.{tried_set}
use Rattle.report_lines.specs.Reading.{tried_from}
use Rattle.report_lines.proofs.object.tried_of.Given as goal

abbrev pub invariant-loop-word : goal.invariant-loop-word
invariant-loop-word l = tried_from l.config l.tried (words_of l.rest) ≡ tried_from l.config (tried_set []) (words_of l.text)

abbrev pub decreases-loop-word : goal.decreases-loop-word
decreases-loop-word l = length l.rest
