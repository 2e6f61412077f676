use Rattle.hist_stands.proofs.Noting.{notes_refused}
use Rattle.hist_stands.proofs.refusals.found_now.Goals as goal

pub returns : goal.returns
returns c = notes_refused
