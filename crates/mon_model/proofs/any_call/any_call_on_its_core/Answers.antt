use Rattle.mon_model.proofs.CoreSteps.{modes_after, cells_after}
use Rattle.mon_model.proofs.any_call.any_call_on_its_core.Goals as goal

pub returns-clause-modes : goal.returns-clause-modes
returns-clause-modes c = modes_after

pub returns-clause-cells : goal.returns-clause-cells
returns-clause-cells c = cells_after
