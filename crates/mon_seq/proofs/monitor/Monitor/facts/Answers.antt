use Rattle.std.proofs.Common.{subst}
use Rattle.mon_facts.specs.Facts.{FactsHold}
use Rattle.mon_seq.specs.Sequential.{Sequential}
use Rattle.mon_seq.proofs.monitor.Monitor.facts.Goals as goal

pub returns-clause-running : goal.returns-clause-running
returns-clause-running c =
    let facts : FactsHold c.args.self.now.state = subst (λ (m : Sequential). FactsHold m.state) c.self.view_is c.self.invariant.2 in
    facts.running
