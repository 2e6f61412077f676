use Rattle.core_access.proofs.Told.{words_tell}
use Rattle.core_access.proofs.laws.own_words_tell.Goals as goal

pub returns : goal.returns
returns c = words_tell
