use Rattle.mon_model.proofs.CoreSteps.{inside_after}
use Rattle.mon_model.proofs.StageSteps.{slot_after}
use Rattle.mon_model.proofs.any_call.any_call_on_slots.Goals as goal

pub returns-clause-stages : goal.returns-clause-stages
returns-clause-stages c s core call digest k flags right e = slot_after s core call digest k e (flags e) (right e)

pub returns-clause-inside : goal.returns-clause-inside
returns-clause-inside c = inside_after
