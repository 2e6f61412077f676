use Rattle.std.proofs.Common.{◌-◌, length}
use Rattle.mon_model.specs.Tries.{tries}
use Rattle.lock_plan.specs.Plan.{held_count}
use Rattle.mon_seq.proofs.Passed.{IsPassed}
use Rattle.mon_seq.proofs.state.MonitorState.gather_to.Given as goal

abbrev pub invariant-loop-object : goal.invariant-loop-object
invariant-loop-object l = IsPassed l.self l.core l.call l.lock l.wanted l.tried l.held

-- how many objects are left
abbrev pub decreases-loop-object : goal.decreases-loop-object
decreases-loop-object l = length (tries l.self l.core l.call) - held_count l.held
