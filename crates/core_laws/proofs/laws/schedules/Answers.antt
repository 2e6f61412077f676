use Rattle.core_laws.proofs.Scheduled.{schedules_are_given, schedules_are_of_lines}
use Rattle.core_laws.proofs.laws.schedules.Goals as goal

pub returns-clause-given : goal.returns-clause-given
returns-clause-given c = schedules_are_given

pub returns-clause-of_lines : goal.returns-clause-of_lines
returns-clause-of_lines c = schedules_are_of_lines
