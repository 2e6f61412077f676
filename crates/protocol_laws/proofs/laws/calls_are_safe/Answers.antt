use Rattle.protocol_laws.proofs.Calls.{calls_safe}
use Rattle.protocol_laws.proofs.laws.calls_are_safe.Goals as goal

pub returns : goal.returns
returns c = calls_safe
