use Rattle.std.proofs.Common.{◌+◌, ◌<◌, sym, subst}
use Rattle.mon_model.specs.State.{State}
use Rattle.mon_facts.specs.Facts.{FactsHold}
use Rattle.mon_facts.specs.Tables.{AreTables, AreDated}
use Rattle.mon_facts.proofs.Dated.{after_dated}
use Rattle.mon_facts.proofs.FactsKept.{after_kept}
use Rattle.mon_facts.proofs.TablesKept.{after_tables}
use Rattle.mon_seq.specs.Sequential.{Sequential}
use Rattle.mon_seq.proofs.monitor.Monitor.call.Goals as goal

pub invariant_of-self : goal.invariant_of-self
invariant_of-self c =
    let k = c.self.inside.ticket in
    let s = c.self.inside.state in
    let there = subst (λ (m : Sequential). c.args.core < m.state.shape.cores) (sym c.self.view_is) c.requires.core in
    let is = sym c.finish.ensures in (
      subst AreTables is (after_tables s c.args.core c.args.call.now c.args.digest.now (k + 1) there c.self.invariant.0),
      subst (λ (t : State). AreDated (k + 1) t) is (after_dated s c.args.core c.args.call.now c.args.digest.now k c.self.invariant.1),
      subst FactsHold is (after_kept s c.args.core c.args.call.now c.args.digest.now (k + 1) there c.self.invariant.0 c.self.invariant.2),
    )
