use Rattle.std.proofs.Common.{◌≡◌, [], refl, arith}
use Rattle.mon_types.specs.Shape.{plain}
use Rattle.hist.specs.History.{entries_of, log_of, history}
use Rattle.hist.specs.Legal.{AreOwn}
use Rattle.hist.specs.SafeLog.{AreSafe}
use Rattle.hist.specs.Rows.{flushed, stale_translation}
use Rattle.mon_types.proofs.Below.{by_two}
use Rattle.hist.proofs.rows.stale_translation.Goals as goal

pub returns-clause-legal : goal.returns-clause-legal
returns-clause-legal c = record { count = refl; tickets = (refl, (refl, (refl, (refl, (refl, tt))))); own = by_two (λ core. AreOwn core 0 0 (entries_of (log_of stale_translation core))) (record { core = refl; serial = refl; ascends = omega arith }, (record { core = refl; serial = refl; ascends = omega arith }, (record { core = refl; serial = refl; ascends = omega arith }, (record { core = refl; serial = refl; ascends = omega arith }, tt)))) (record { core = refl; serial = refl; ascends = omega arith }, tt); entries = (record { reply = λ _. refl; tried = λ _. refl; page = refl }, (record { reply = λ _. refl; tried = λ _. refl; page = refl }, (record { reply = λ _. refl; tried = λ _. refl; page = refl }, (record { reply = λ _. refl; tried = λ _. refl; page = refl }, (record { reply = λ _. refl; tried = λ _. refl; page = refl }, tt))))) }

pub returns-clause-busy : goal.returns-clause-busy
returns-clause-busy c = record { entries = (tt, (tt, (tt, (tt, (tt, tt))))); refused = λ core lt. tt }

pub returns-clause-safe : goal.returns-clause-safe
returns-clause-safe c = by_two (λ core. AreSafe (plain 2) (history stale_translation) [] (log_of stale_translation core)) (tt, (tt, (tt, (tt, tt)))) (record { region = omega arith; period = record { before_block = tt; after_beginning = (omega arith, tt); owner = tt; counted_flush = λ b z blocked freed. let one : 1 ≡ b = cc in let five : 5 ≡ z = cc in (0, flushed 4 1 0, omega arith, refl, (refl, omega arith, omega arith)); cleared = tt } }, (tt, tt))
