use Rattle.std.proofs.Common.{◌≡◌, take}
use Rattle.legal_report.specs.Counted.{state_behind}
use Rattle.legal_report.specs.Kept.{calls_told}
use Rattle.legal_report.proofs.Firsts.{GoesOn}
use Rattle.legal_report.proofs.calls.check_calls.Given as goal

abbrev pub invariant-loop-k : goal.invariant-loop-k
invariant-loop-k l = record {
  goes : GoesOn l.calls.config.now (calls_told l.calls) l.k;
  state : l.monitor ≡ record { state = state_behind l.calls.config.now (take l.k (calls_told l.calls)); ticket = l.k };
}
