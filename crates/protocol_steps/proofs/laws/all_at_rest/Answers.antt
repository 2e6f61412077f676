use Rattle.protocol_steps.proofs.Resting.{rests_where_no_call_is}
use Rattle.protocol_steps.proofs.laws.all_at_rest.Goals as goal

pub returns : goal.returns
returns c = rests_where_no_call_is
