use Rattle.std.proofs.Common.{[], refl, arith}
use Rattle.mon_model.specs.Examples.{r3}
use Rattle.hist.proofs.ByHand.{not_held}
use Rattle.hist.proofs.fields.both_met.Goals as goal

pub returns-clause-entries : goal.returns-clause-entries
returns-clause-entries c = record { entries = λ all. not_held _ _ r3 (λ taken. taken.another 1 0 refl) all.0.held; refused = λ core lt. tt }

pub returns-clause-held : goal.returns-clause-held
returns-clause-held c = record { core = omega arith; other = omega arith; tried = record { before = []; behind = []; planned_are = refl; tried_are = refl }; held = λ held. not_held _ _ r3 (λ taken. taken.another 1 0 refl) held; begun = tt; under_way = tt }

pub returns-clause-another : goal.returns-clause-another
returns-clause-another c = record { tried = refl; another = λ none. none 1 0 refl }
