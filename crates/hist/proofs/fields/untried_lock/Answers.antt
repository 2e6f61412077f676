use Rattle.std.proofs.Common.{refl, inl, arith}
use Rattle.hist.proofs.ByHand.{nothing_tried}
use Rattle.hist.proofs.fields.untried_lock.Goals as goal

pub returns-clause-entries : goal.returns-clause-entries
returns-clause-entries c = record { entries = λ all. nothing_tried _ all.0.tried; refused = λ core lt. tt }

pub returns-clause-tried : goal.returns-clause-tried
returns-clause-tried c = record { core = omega arith; other = omega arith; tried = λ upto. nothing_tried _ upto; held = inl (record { tried = refl; another = λ holder serial is. cc }); begun = tt; under_way = tt }
