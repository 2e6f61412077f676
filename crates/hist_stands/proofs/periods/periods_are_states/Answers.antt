use Rattle.hist_stands.proofs.Begun.{periods_begin, periods_go_on}
use Rattle.hist_stands.proofs.periods.periods_are_states.Goals as goal

pub returns-clause-begin : goal.returns-clause-begin
returns-clause-begin c = periods_begin

pub returns-clause-go_on : goal.returns-clause-go_on
returns-clause-go_on c = periods_go_on
