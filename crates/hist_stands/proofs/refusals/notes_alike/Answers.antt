use Rattle.hist_stands.proofs.Alike.{alike_noted}
use Rattle.hist_stands.proofs.refusals.notes_alike.Goals as goal

pub returns : goal.returns
returns c = alike_noted
