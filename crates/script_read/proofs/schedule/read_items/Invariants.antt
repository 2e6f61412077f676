use Rattle.std.proofs.Common.{length}
use Rattle.script_read.proofs.ItemsGoing.{Going}
use Rattle.script_read.proofs.schedule.read_items.Given as goal

abbrev pub invariant-loop-rest : goal.invariant-loop-rest
invariant-loop-rest l = Going l.cores l.bytes l.rest l.items

abbrev pub decreases-loop-rest : goal.decreases-loop-rest
decreases-loop-rest l = length l.rest
