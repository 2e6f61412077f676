use Rattle.std.proofs.Common.{refl, arith}
use Rattle.hist.proofs.fields.falling_tickets.Goals as goal

pub returns-clause-own : goal.returns-clause-own
returns-clause-own c = record { count = refl; tickets = (refl, (refl, tt)); own = λ own. omega (arith, (own 0 (omega arith)).1.0.ascends); entries = (record { reply = λ _. refl; tried = λ _. refl; page = refl }, (record { reply = λ _. refl; tried = λ _. refl; page = refl }, tt)) }

pub returns-clause-ascends : goal.returns-clause-ascends
returns-clause-ascends c = record { core = refl; serial = refl; ascends = λ lt. omega (arith, lt) }
