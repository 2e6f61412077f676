use Rattle.std.proofs.Common.{[], refl, inl, arith}
use Rattle.hist.proofs.fields.own_lock.Goals as goal

pub returns-clause-entries : goal.returns-clause-entries
returns-clause-entries c = record { entries = λ all. all.1.0.other refl; refused = λ core lt. tt }

pub returns-clause-other : goal.returns-clause-other
returns-clause-other c = record { core = omega arith; other = λ ne. ne refl; tried = record { before = []; behind = []; planned_are = refl; tried_are = refl }; held = inl (record { tried = refl; another = λ holder serial is. cc }); begun = tt; under_way = omega arith }
