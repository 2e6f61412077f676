use Rattle.std.proofs.Common.{[], refl, inl, arith}
use Rattle.hist.proofs.fields.not_begun.Goals as goal

pub returns-clause-entries : goal.returns-clause-entries
returns-clause-entries c = record { entries = λ all. omega (arith, all.0.begun); refused = λ core lt. tt }

pub returns-clause-begun : goal.returns-clause-begun
returns-clause-begun c = record { core = omega arith; other = omega arith; tried = record { before = []; behind = []; planned_are = refl; tried_are = refl }; held = inl (record { tried = refl; another = λ holder serial is. cc }); begun = λ lt. omega (arith, lt); under_way = tt }
