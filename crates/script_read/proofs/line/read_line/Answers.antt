use Rattle.script_read.proofs.LineLaws.{words_may}
use Rattle.script_read.proofs.line.read_line.Goals as goal

pub returns-then-all_ascii-clause-may : goal.returns-then-all_ascii-clause-may
returns-then-all_ascii-clause-may c = words_may c.args.count c.args.line _ c.read_words.result c.read_words.ensures
