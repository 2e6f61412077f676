use Rattle.std.proofs.Common.{◌≡◌, ◌≤◌, ◌-◌, ℕ, List, drop, length}
use Rattle.mon_types.specs.declared.object.ObjectId.{ObjectId}
use Rattle.protocol.specs.CallTree.{Tree}
use Rattle.call_machine.specs.Rest.{early_rest}
use Rattle.call_machine.proofs.early.next_early.Given as goal

-- the regions before it are not withdrawn
abbrev pub invariant-loop-at : goal.invariant-loop-at
invariant-loop-at l = record {
  on : l.from ≤ l.at;
  end : l.at ≤ length l.items;
  skips : (os : List ObjectId) (stood : List ℕ) (next : List ℕ → Tree) → early_rest l.call os (drop l.from l.items) stood next ≡ early_rest l.call os (drop l.at l.items) stood next;
}

abbrev pub decreases-loop-at : goal.decreases-loop-at
decreases-loop-at l = length l.items - l.at
