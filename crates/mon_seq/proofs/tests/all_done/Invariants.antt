use Rattle.std.proofs.Common.{◌≡◌, ◌+◌}
use Rattle.mon_seq.proofs.tests.all_done.Given as goal

-- the same machine, and a ticket for each call
abbrev pub invariant-loop-call : goal.invariant-loop-call
invariant-loop-call g l = record {
  machine : l.monitor.state.shape ≡ l.initial.monitor.state.shape;
  ticket : l.monitor.ticket ≡ l.initial.monitor.ticket + l.call-index;
}
