use Rattle.hist_stands.proofs.Busied.{all_busy}
use Rattle.hist.specs.Busy.{idle}
use Rattle.hist_stands.proofs.refusals.stands_busy.Goals as goal

pub returns-clause-under_way : goal.returns-clause-under_way
returns-clause-under_way c = all_busy

pub returns-clause-idle : goal.returns-clause-idle
returns-clause-idle c shape h log stands notes = all_busy shape h log stands idle notes (λ core lt. tt)
