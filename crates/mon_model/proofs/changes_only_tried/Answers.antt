use Rattle.mon_model.proofs.Changes.{changes}
use Rattle.mon_model.proofs.changes_only_tried.Goals as goal

pub returns : goal.returns
returns c = changes
