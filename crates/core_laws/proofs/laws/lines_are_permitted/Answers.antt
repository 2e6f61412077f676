use Rattle.core_laws.proofs.Courses.{next_is_permitted, end_is_at_rest}
use Rattle.core_laws.proofs.laws.lines_are_permitted.Goals as goal

pub returns-clause-next : goal.returns-clause-next
returns-clause-next c = next_is_permitted

pub returns-clause-end : goal.returns-clause-end
returns-clause-end c = end_is_at_rest
