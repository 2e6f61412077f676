use Rattle.std.proofs.Common.{◌≡◌, ◌≤◌, length}
use Rattle.mon_types.specs.Bits.{members}
use Rattle.lock_plan.proofs.plan.nth_region.Given as goal

-- the members below r were skipped
abbrev pub invariant-loop-r : goal.invariant-loop-r
invariant-loop-r l = record {
  below : length (members l.set l.r) ≡ l.skipped;
  few : l.skipped ≤ l.n;
}
