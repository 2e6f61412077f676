use Rattle.std.proofs.Common.{◌≡◌, length}
use Rattle.hist.specs.History.{entries_of}
use Rattle.hist.proofs.merge.from_entry.Given as goal

abbrev pub invariant-loop-rest : goal.invariant-loop-rest
invariant-loop-rest l = entries_of l.rest ≡ entries_of l.events

abbrev pub decreases-loop-rest : goal.decreases-loop-rest
decreases-loop-rest l = length l.rest
