use Rattle.loaded_pages.proofs.Words as words
use Rattle.loaded_pages.proofs.laws.paths_agree.Goals as goal

pub returns : goal.returns
returns c = words.paths_agree
