use Rattle.std.proofs.Common.{refl, arith}
use Rattle.hist.specs.History.{entries_of, log_of}
use Rattle.hist.specs.Legal.{AreOwn}
use Rattle.hist.specs.Rows.{moved_touch}
use Rattle.mon_types.proofs.Below.{by_two}
use Rattle.hist.proofs.rows.moved_touch.Goals as goal

pub returns-clause-legal : goal.returns-clause-legal
returns-clause-legal c = record { count = refl; tickets = (refl, (refl, (refl, (refl, (refl, tt))))); own = by_two (λ core. AreOwn core 0 0 (entries_of (log_of moved_touch core))) (record { core = refl; serial = refl; ascends = omega arith }, (record { core = refl; serial = refl; ascends = omega arith }, (record { core = refl; serial = refl; ascends = omega arith }, (record { core = refl; serial = refl; ascends = omega arith }, tt)))) (record { core = refl; serial = refl; ascends = omega arith }, tt); entries = (record { reply = λ _. refl; tried = λ _. refl; page = refl }, (record { reply = λ _. refl; tried = λ _. refl; page = refl }, (record { reply = λ _. refl; tried = λ _. refl; page = refl }, (record { reply = λ _. refl; tried = λ _. refl; page = refl }, (record { reply = λ _. refl; tried = λ _. refl; page = refl }, tt))))) }

pub returns-clause-not_safe : goal.returns-clause-not_safe
returns-clause-not_safe c = λ safe. omega (arith, (safe 1 (omega arith)).1.0.period.before_block.0)
