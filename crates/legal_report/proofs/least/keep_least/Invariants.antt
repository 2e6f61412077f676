use Rattle.std.proofs.Common.{◌≡◌, ◌-◌, ◌≤◌, ◌++◌, length, take, drop}
use Rattle.legal_report.specs.Least.{least_behind}
use Rattle.legal_report.proofs.least.keep_least.Given as goal

abbrev pub invariant-loop-at : goal.invariant-loop-at
invariant-loop-at l = record {
  done : l.tickets ≡ take (l.at - 1) l.fn.tickets ++ least_behind (drop (l.at - 1) l.fn.tickets);
  within : l.at ≤ length l.fn.tickets;
}

abbrev pub decreases-loop-at : goal.decreases-loop-at
decreases-loop-at l = l.at
