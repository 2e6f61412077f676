use Rattle.tlb.proofs.Joined.{looks_by_set}
use Rattle.tlb.proofs.Filled.{fills_by_set, runs_by_set}
use Rattle.tlb.proofs.laws.order_between_sets_is_not_seen.Goals as goal

pub returns-clause-looks : goal.returns-clause-looks
returns-clause-looks c = looks_by_set

pub returns-clause-fills : goal.returns-clause-fills
returns-clause-fills c = fills_by_set

pub returns-clause-runs : goal.returns-clause-runs
returns-clause-runs c = runs_by_set
