use Rattle.std.proofs.Common.{[], refl, inl, arith}
use Rattle.hist.proofs.fields.was_over.Goals as goal

pub returns-clause-entries : goal.returns-clause-entries
returns-clause-entries c = record { entries = λ all. omega (arith, all.1.1.1.0.under_way); refused = λ core lt. tt }

pub returns-clause-under_way : goal.returns-clause-under_way
returns-clause-under_way c = record { core = omega arith; other = omega arith; tried = record { before = []; behind = []; planned_are = refl; tried_are = refl }; held = inl (record { tried = refl; another = λ holder serial is. cc }); begun = tt; under_way = λ lt. omega (arith, lt) }
