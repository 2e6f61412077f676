use Rattle.std.proofs.Common.{◌≡◌, ◌≤◌, ◌-◌, ℕ, List, length}
use Rattle.mon_types.specs.declared.object.ObjectId.{ObjectId}
use Rattle.protocol.specs.CallTree.{Tree}
use Rattle.call_machine.specs.Rest.{writes_from}
use Rattle.call_machine.proofs.places.first_change.Given as goal

-- the words before it stay
abbrev pub invariant-loop-at : goal.invariant-loop-at
invariant-loop-at l = record {
  on : l.from ≤ l.at;
  end : l.at ≤ length l.stood;
  skips : (ps : List (ObjectId × ℕ)) (next : Tree) → length ps ≡ length l.stood → writes_from ps l.stood l.wanted l.from next ≡ writes_from ps l.stood l.wanted l.at next;
}

abbrev pub decreases-loop-at : goal.decreases-loop-at
decreases-loop-at l = length l.stood - l.at
