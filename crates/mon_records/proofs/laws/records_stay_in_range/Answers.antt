use Rattle.mon_records.proofs.RangesKept.{start_in, after_in}
use Rattle.mon_records.proofs.laws.records_stay_in_range.Goals as goal

pub returns-clause-first : goal.returns-clause-first
returns-clause-first c = start_in

pub returns-clause-next : goal.returns-clause-next
returns-clause-next c = after_in
