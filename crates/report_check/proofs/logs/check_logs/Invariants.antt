use Rattle.std.proofs.Common.{◌+◌, ◌*◌, ◌≤◌}
use Rattle.legal_report.specs.Laid.{limit}
use Rattle.report_check.proofs.Ending.{LogsLeftOf}
use Rattle.report_check.proofs.logs.check_logs.Given as goal

abbrev pub invariant-loop-core : goal.invariant-loop-core
invariant-loop-core l = record {
  left : LogsLeftOf l.known.calls l.logs l.first l.core l.ended;
  few : l.ended.line ≤ l.first + l.core * (limit + 1);
}
