use Rattle.std.proofs.Common.{[], refl, inl, arith}
use Rattle.mon_types.specs.Shape.{plain}
use Rattle.hist.specs.History.{entries_of, log_of, history}
use Rattle.hist.specs.Legal.{AreOwn}
use Rattle.hist.specs.SafeLog.{AreSafe}
use Rattle.hist.specs.Rows.{lost_race}
use Rattle.mon_types.proofs.Below.{by_two}
use Rattle.hist.proofs.rows.lost_race.Goals as goal

pub returns-clause-legal : goal.returns-clause-legal
returns-clause-legal c = record { count = refl; tickets = (refl, (refl, tt)); own = by_two (λ core. AreOwn core 0 0 (entries_of (log_of lost_race core))) (record { core = refl; serial = refl; ascends = omega arith }, tt) (record { core = refl; serial = refl; ascends = omega arith }, tt); entries = (record { reply = λ no. absurd (cc); tried = λ no. absurd (cc); page = refl }, (record { reply = λ _. refl; tried = λ _. refl; page = refl }, tt)) }

pub returns-clause-busy : goal.returns-clause-busy
returns-clause-busy c = record { entries = (record { core = omega arith; other = omega arith; tried = record { before = []; behind = []; planned_are = refl; tried_are = refl }; held = inl (record { tried = refl; another = λ holder serial is. cc }); begun = tt; under_way = tt }, (tt, tt)); refused = λ core lt. tt }

pub returns-clause-safe : goal.returns-clause-safe
returns-clause-safe c = by_two (λ core. AreSafe (plain 2) (history lost_race) [] (log_of lost_race core)) (tt, tt) (tt, tt)
