use Rattle.mon_facts.proofs.FactsKept.{start_kept, after_kept}
use Rattle.mon_facts.proofs.laws.facts_stay.Goals as goal

pub returns-clause-first : goal.returns-clause-first
returns-clause-first c = start_kept

pub returns-clause-next : goal.returns-clause-next
returns-clause-next c = after_kept
