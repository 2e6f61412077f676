use Rattle.std.proofs.Common.{[], refl, inl, arith}
use Rattle.hist.proofs.fields.no_core.Goals as goal

pub returns-clause-entries : goal.returns-clause-entries
returns-clause-entries c = record { entries = λ all. omega (arith, all.0.core); refused = λ core lt. tt }

pub returns-clause-core : goal.returns-clause-core
returns-clause-core c = record { core = λ lt. omega (arith, lt); other = omega arith; tried = record { before = []; behind = []; planned_are = refl; tried_are = refl }; held = inl (record { tried = refl; another = λ holder serial is. cc }); begun = tt; under_way = tt }
