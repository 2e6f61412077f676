use Rattle.std.proofs.Common.{[], refl, arith}
use Rattle.mon_model.specs.Examples.{r3}
use Rattle.hist.proofs.ByHand.{not_held}
use Rattle.hist.proofs.fields.nobody_holds.Goals as goal

pub returns-clause-refused : goal.returns-clause-refused
returns-clause-refused c = record { entries = tt; refused = λ all. not_held _ _ r3 (λ no. no) (all 1 (omega arith)).0.held }

pub returns-clause-held : goal.returns-clause-held
returns-clause-held c = record { core = omega arith; other = omega arith; tried = record { before = []; behind = []; planned_are = refl; tried_are = refl }; held = λ held. not_held _ _ r3 (λ no. no) held; begun = tt; under_way = tt }
