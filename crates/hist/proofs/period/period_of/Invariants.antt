use Rattle.hist.specs.Logged.{events_of}
use Rattle.hist.specs.History.{history}
use Rattle.hist.proofs.Walked.{Walked}
use Rattle.hist.proofs.period.period_of.Given as goal

abbrev pub invariant-loop-entry : goal.invariant-loop-entry
invariant-loop-entry l = Walked (history (events_of l.logs)) l.entry-iterator l.region l.since l.initialized l.period
