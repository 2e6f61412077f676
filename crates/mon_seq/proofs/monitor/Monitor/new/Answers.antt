use Rattle.std.proofs.Common.{sym, subst}
use Rattle.mon_facts.specs.Facts.{FactsHold}
use Rattle.mon_facts.specs.Tables.{AreDated}
use Rattle.mon_facts.proofs.Dated.{start_dated}
use Rattle.mon_facts.proofs.FactsKept.{start_kept}
use Rattle.mon_seq.proofs.monitor.Monitor.new.Goals as goal

pub invariant_of-result : goal.invariant_of-result
invariant_of-result c =
    let is = sym c.in_ok-new.ensures.start in
    (c.in_ok-new.ensures.tables, subst (AreDated 0) is (start_dated c.args.config), subst FactsHold is (start_kept c.args.config))
