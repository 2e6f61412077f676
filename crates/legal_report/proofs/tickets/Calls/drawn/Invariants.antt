use Rattle.std.proofs.Common.{◌≡◌, ◌+◌, ◌≤◌, length}
use Rattle.report_lines.specs.Lines.{ended_lines}
use Rattle.legal_report.specs.Kept.{calls_told}
use Rattle.legal_report.proofs.Told.{ToldSoFar, lines_of_log}
use Rattle.legal_report.proofs.tickets.Calls.drawn.Given as goal

abbrev pub invariant-loop-rest : goal.invariant-loop-rest
invariant-loop-rest l = record {
  told : ToldSoFar (calls_told l.self) l.core (lines_of_log l.self.config.now (ended_lines l.text)) (lines_of_log l.self.config.now (ended_lines l.rest)) l.drawn;
  size : l.drawn.events + length l.rest ≤ length l.text;
}

abbrev pub decreases-loop-rest : goal.decreases-loop-rest
decreases-loop-rest l = length l.rest
