use Rattle.std.proofs.Common.{[]}
use Rattle.legal_report.specs.Marks.{PeriodsTell}
use Rattle.legal_report.proofs.periods.marks_at_start.Given as goal

abbrev pub invariant-loop-region : goal.invariant-loop-region
invariant-loop-region l = PeriodsTell [] 1 l.region l.marks.items
