use Rattle.legal_report.specs.Kept.{calls_told}
use Rattle.legal_report.proofs.Noted.{NotedUpTo}
use Rattle.legal_report.proofs.periods.find_periods.Given as goal

abbrev pub invariant-loop-k : goal.invariant-loop-k
invariant-loop-k l = NotedUpTo l.calls.config.now (calls_told l.calls) l.k l.marks.items l.initialized
