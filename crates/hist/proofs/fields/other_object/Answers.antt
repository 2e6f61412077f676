use Rattle.std.proofs.Common.{◌≡◌, true, false, [], refl, arith}
use Rattle.mon_model.specs.Examples.{r3}
use Rattle.hist.proofs.ByHand.{not_held}
use Rattle.hist.proofs.fields.other_object.Goals as goal

pub returns-clause-entries : goal.returns-clause-entries
returns-clause-entries c = record { entries = λ all. not_held _ _ r3 (λ taken. let is : false ≡ true = taken.tried in cc) all.0.held; refused = λ core lt. tt }

pub returns-clause-held : goal.returns-clause-held
returns-clause-held c = record { core = omega arith; other = omega arith; tried = record { before = []; behind = []; planned_are = refl; tried_are = refl }; held = λ held. not_held _ _ r3 (λ taken. let is : false ≡ true = taken.tried in cc) held; begun = tt; under_way = tt }

pub returns-clause-tried : goal.returns-clause-tried
returns-clause-tried c = record { tried = λ tried. let is : false ≡ true = tried in cc; another = λ holder serial is. cc }
