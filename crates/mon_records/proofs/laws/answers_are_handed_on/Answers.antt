use Rattle.mon_records.proofs.Answered.{one_answers, answered_before, freed_regions}
use Rattle.mon_records.proofs.laws.answers_are_handed_on.Goals as goal

pub returns-clause-one : goal.returns-clause-one
returns-clause-one c = one_answers

pub returns-clause-before : goal.returns-clause-before
returns-clause-before c = answered_before

pub returns-clause-freed : goal.returns-clause-freed
returns-clause-freed c = freed_regions
