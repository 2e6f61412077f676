use Rattle.std.proofs.Common.{refl, arith}
use Rattle.hist.specs.History.{entries_of, log_of}
use Rattle.hist.specs.Legal.{AreOwn}
use Rattle.hist.specs.Rows.{late_ticket}
use Rattle.mon_types.proofs.Below.{by_one}
use Rattle.hist.proofs.fields.late_ticket.Goals as goal

pub returns : goal.returns
returns c = record { count = refl; tickets = λ all. omega (arith, all.0); own = by_one (λ core. AreOwn core 0 0 (entries_of (log_of late_ticket core))) (record { core = refl; serial = refl; ascends = omega arith }, tt); entries = (record { reply = λ _. refl; tried = λ _. refl; page = refl }, tt) }
