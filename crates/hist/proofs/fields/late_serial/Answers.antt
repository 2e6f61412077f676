use Rattle.std.proofs.Common.{refl, arith}
use Rattle.hist.proofs.fields.late_serial.Goals as goal

pub returns-clause-own : goal.returns-clause-own
returns-clause-own c = record { count = refl; tickets = (refl, tt); own = λ own. omega (arith, (own 0 (omega arith)).0.serial); entries = (record { reply = λ _. refl; tried = λ _. refl; page = refl }, tt) }

pub returns-clause-serial : goal.returns-clause-serial
returns-clause-serial c = record { core = refl; serial = λ is. omega (arith, is); ascends = omega arith }
