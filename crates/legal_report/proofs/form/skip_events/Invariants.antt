use Rattle.std.proofs.Common.{◌+◌, ◌≤◌, length}
use Rattle.report_lines.specs.Lines.{ended_lines}
use Rattle.legal_report.specs.Form.{events_at}
use Rattle.legal_report.proofs.Walk.{Skipped}
use Rattle.legal_report.proofs.form.skip_events.Given as goal

abbrev pub invariant-loop-line : goal.invariant-loop-line
invariant-loop-line l = record {
  read : Skipped (events_at l.config (ended_lines l.text)) l.count (events_at l.config (ended_lines l.rest));
  size : l.count + length l.rest ≤ length l.text;
}

abbrev pub decreases-loop-line : goal.decreases-loop-line
decreases-loop-line l = length l.rest
