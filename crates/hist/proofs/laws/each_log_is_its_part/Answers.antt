use Rattle.hist.proofs.Parts.{own_of_log}
use Rattle.hist.proofs.laws.each_log_is_its_part.Goals as goal

pub returns : goal.returns
returns c = own_of_log
