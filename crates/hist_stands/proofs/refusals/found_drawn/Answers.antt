use Rattle.hist_stands.proofs.refusals.found_drawn.Goals as goal
use Rattle.hist_stands.proofs.Drawing.{notes_drawn}

pub returns : goal.returns
returns c shape h log stands now notes e draws = notes_drawn shape h log stands now e draws notes
