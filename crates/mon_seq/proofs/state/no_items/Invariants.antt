use Rattle.std.proofs.Common.{◌≡◌, [], replicate}
use Rattle.mon_seq.proofs.state.no_items.Given as goal

-- no items for each slot so far
abbrev pub invariant-loop-i : goal.invariant-loop-i
invariant-loop-i l = l.loaded.items ≡ replicate l.i []
