use Rattle.std.proofs.Common.{◌≡◌, ◌+◌, ◌-◌, ◌≤◌, length, drop}
use Rattle.report_lines.specs.Lines.{ended_lines}
use Rattle.legal_report.specs.Form.{calls_from}
use Rattle.legal_report.specs.Laid.{calls_at, AreCalls}
use Rattle.legal_report.proofs.Walk.{behind}
use Rattle.legal_report.proofs.form.read_calls.Given as goal

abbrev pub invariant-loop-at : goal.invariant-loop-at
invariant-loop-at l = record {
  read : behind (calls_at l.config l.bytes l.places) (calls_from l.config l.line (ended_lines (drop l.at l.bytes))) ≡ calls_from l.config 3 (ended_lines (drop l.first l.bytes));
  are : AreCalls l.config l.bytes l.places;
  within : l.at ≤ length l.bytes;
  lines : l.line ≤ l.at + 3;
  count : length l.places ≤ l.at;
}

abbrev pub decreases-loop-at : goal.decreases-loop-at
decreases-loop-at l = length l.bytes - l.at
