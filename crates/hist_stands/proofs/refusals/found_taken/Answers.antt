use Rattle.hist_stands.proofs.Noting.{notes_taken}
use Rattle.hist_stands.proofs.refusals.found_taken.Goals as goal

pub returns : goal.returns
returns c = notes_taken
