use Rattle.loaded_pages.proofs.Histories as histories
use Rattle.loaded_pages.proofs.laws.history_reaches.Goals as goal

pub returns : goal.returns
returns c = histories.history_reaches
