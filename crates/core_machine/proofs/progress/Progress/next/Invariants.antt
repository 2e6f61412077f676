use Rattle.core_machine.specs.Kept.{weight}
use Rattle.core_machine.proofs.Following.{HasGone}
use Rattle.core_machine.proofs.progress.Progress.next.Given as goal

abbrev pub invariant-work : goal.invariant-work
invariant-work l = HasGone l.initial.self l.self

abbrev pub decreases-work : goal.decreases-work
decreases-work l = weight l.self
