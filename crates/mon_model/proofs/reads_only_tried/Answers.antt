use Rattle.mon_model.proofs.Agree.{reads}
use Rattle.mon_model.proofs.reads_only_tried.Goals as goal

pub returns : goal.returns
returns c = reads
