use Rattle.std.proofs.Common.{◌≡◌, ◌+◌, ◌-◌, ◌≤◌, length}
use Rattle.report_lines.specs.Lines.{ended_lines}
use Rattle.legal_report.specs.Form.{logs_from}
use Rattle.legal_report.specs.Laid.{logs_at, LogsLaid}
use Rattle.legal_report.proofs.Walk.{behind_logs}
use Rattle.legal_report.proofs.form.read_logs.Given as goal

abbrev pub invariant-loop-core : goal.invariant-loop-core
invariant-loop-core l = record {
  read : behind_logs (logs_at l.config l.logs.items) (logs_from l.config (l.config.cores - l.core) l.core l.line (ended_lines l.rest)) ≡ logs_from l.config l.config.cores 0 l.first (ended_lines l.text);
  size : l.line + length l.rest ≤ l.first + length l.text;
  laid : LogsLaid l.core l.logs.items;
  fewer : length l.rest ≤ length l.text;
}
