use Rattle.std.proofs.Common.{map, take}
use Rattle.hist.specs.Merging.{entries_left, IsEarliest}
use Rattle.hist.proofs.merge.earliest.Given as goal

abbrev pub invariant-loop-at : goal.invariant-loop-at
invariant-loop-at l = IsEarliest (map entries_left (take l.at l.rests)) l.first
