use Rattle.protocol.proofs.Swapping.{done_is_stored, again_is_left}
use Rattle.protocol.proofs.swaps.swaps_tell.Goals as goal

pub returns-clause-done : goal.returns-clause-done
returns-clause-done c = done_is_stored

pub returns-clause-again : goal.returns-clause-again
returns-clause-again c = again_is_left
