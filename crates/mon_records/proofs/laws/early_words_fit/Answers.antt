use Rattle.mon_records.proofs.Early.{early_fit, early_stay, changed_early}
use Rattle.mon_records.proofs.laws.early_words_fit.Goals as goal

pub returns-clause-fit : goal.returns-clause-fit
returns-clause-fit c = early_fit

pub returns-clause-stay : goal.returns-clause-stay
returns-clause-stay c = early_stay

pub returns-clause-owned : goal.returns-clause-owned
returns-clause-owned c = changed_early
