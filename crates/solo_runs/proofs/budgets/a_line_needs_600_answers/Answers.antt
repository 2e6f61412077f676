use Rattle.std.proofs.Common.{refl}
use Rattle.solo.specs.Solo.{core_from}
use Rattle.solo_runs.proofs.budgets.a_line_needs_600_answers.Goals as goal

pub returns-clause-enough : goal.returns-clause-enough
unfolding core_from
returns-clause-enough c = λ answers e. rw e refl

pub returns-clause-too_few : goal.returns-clause-too_few
unfolding core_from
returns-clause-too_few c = λ answers e. rw e refl

pub returns-clause-limit : goal.returns-clause-limit
unfolding core_from
returns-clause-limit c = λ answers e. rw e refl
