use Rattle.mon_model.specs.EveryReply.{never_met}
use Rattle.mon_model.proofs.never_concurrent.Goals as goal

pub returns : goal.returns
returns c s core call digest ticket = never_met s core call
