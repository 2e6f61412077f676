use Rattle.mon_model.proofs.RegionSteps.{region_step}
use Rattle.mon_model.proofs.any_call.any_call_on_a_region.Goals as goal

pub returns : goal.returns
returns c s core k flags whole right inside call digest ok r lt = region_step s core k r flags whole lt right inside call digest ok
