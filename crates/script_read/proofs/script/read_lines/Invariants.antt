use Rattle.std.proofs.Common.{length}
use Rattle.script_read.proofs.Going.{Going}
use Rattle.script_read.proofs.script.read_lines.Given as goal

abbrev pub invariant-loop-rest : goal.invariant-loop-rest
invariant-loop-rest l = Going l.count l.line l.bytes l.rest l.draft

abbrev pub decreases-loop-rest : goal.decreases-loop-rest
decreases-loop-rest l = length l.rest
