use Rattle.mon_facts.proofs.Dated.{start_dated, after_dated, more_dated}
use Rattle.mon_facts.proofs.laws.dates_stay.Goals as goal

pub returns-clause-first : goal.returns-clause-first
returns-clause-first c = start_dated

pub returns-clause-next : goal.returns-clause-next
returns-clause-next c s core call digest k h = after_dated s core call digest k h

pub returns-clause-unused : goal.returns-clause-unused
returns-clause-unused c s k h = more_dated k s h
