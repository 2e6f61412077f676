use Rattle.std.proofs.Common.{◌≡◌, ◌+◌, ◌≤◌, length}
use Rattle.report_lines.specs.Lines.{ended_lines}
use Rattle.legal_report.specs.Differs.{differs_at}
use Rattle.legal_report.proofs.tables.difference.Given as goal

abbrev pub invariant-loop-left : goal.invariant-loop-left
invariant-loop-left l = record {
  read : differs_at l.line (ended_lines l.left) (ended_lines l.rest) ≡ differs_at l.first (ended_lines l.wanted) (ended_lines l.there);
  size : l.line + length l.rest ≤ l.first + length l.there;
}

abbrev pub decreases-loop-left : goal.decreases-loop-left
decreases-loop-left l = length l.left
