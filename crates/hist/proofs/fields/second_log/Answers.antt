use Rattle.std.proofs.Common.{refl, arith}
use Rattle.hist.specs.History.{entries_of, log_of}
use Rattle.hist.specs.Legal.{AreOwn}
use Rattle.hist.specs.Rows.{second_log}
use Rattle.mon_types.proofs.Below.{by_two}
use Rattle.hist.proofs.fields.second_log.Goals as goal

pub returns : goal.returns
returns c = record { count = λ is. omega (arith, is); tickets = (refl, tt); own = by_two (λ core. AreOwn core 0 0 (entries_of (log_of second_log core))) (record { core = refl; serial = refl; ascends = omega arith }, tt) tt; entries = (record { reply = λ _. refl; tried = λ _. refl; page = refl }, tt) }
