use Rattle.hist.proofs.Lawful.{never_busy}
use Rattle.hist.proofs.laws.never_busy_alone.Goals as goal

pub returns : goal.returns
returns c = never_busy
