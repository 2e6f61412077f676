use Rattle.std.proofs.Common.{refl, arith}
use Rattle.hist.proofs.fields.anothers_entry.Goals as goal

pub returns-clause-own : goal.returns-clause-own
returns-clause-own c = record { count = refl; tickets = (refl, tt); own = λ own. omega (arith, (own 0 (omega arith)).0.core); entries = (record { reply = λ _. refl; tried = λ _. refl; page = refl }, tt) }

pub returns-clause-core : goal.returns-clause-core
returns-clause-core c = record { core = λ is. omega (arith, is); serial = refl; ascends = omega arith }
