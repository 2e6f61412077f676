use Rattle.std.proofs.Common.{◌≡◌, length, take}
use Rattle.hist.proofs.Begun.{Holds}
use Rattle.hist.proofs.merge.Merge.new.Given as goal

abbrev pub invariant-loop-i : goal.invariant-loop-i
invariant-loop-i l = (length l.rests ≡ 16) × Holds l.rests (take l.i l.logs)
