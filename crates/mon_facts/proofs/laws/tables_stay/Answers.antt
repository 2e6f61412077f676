use Rattle.mon_facts.proofs.TablesKept.{start_sound, after_tables}
use Rattle.mon_facts.proofs.laws.tables_stay.Goals as goal

pub returns-clause-first : goal.returns-clause-first
returns-clause-first c = start_sound

pub returns-clause-next : goal.returns-clause-next
returns-clause-next c = after_tables
