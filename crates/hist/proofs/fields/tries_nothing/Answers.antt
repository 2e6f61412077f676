use Rattle.std.proofs.Common.{◌≡◌, refl, ap, arith}
use Rattle.mon_types.specs.declared.object.Tried.{Tried}
use Rattle.hist.specs.History.{entries_of, log_of}
use Rattle.hist.specs.Legal.{AreOwn}
use Rattle.hist.specs.Rows.{alone, tries_nothing}
use Rattle.mon_types.proofs.Below.{by_one}
use Rattle.hist.proofs.fields.tries_nothing.Goals as goal

pub returns-clause-entries : goal.returns-clause-entries
returns-clause-entries c = record { count = refl; tickets = (refl, tt); own = by_one (λ core. AreOwn core 0 0 (entries_of (log_of (alone tries_nothing) core))) (record { core = refl; serial = refl; ascends = omega arith }, tt); entries = λ all. let is : 0 ≡ 8 = ap (λ (t : Tried). t.regions) (all.0.tried refl) in omega arith }

pub returns-clause-tried : goal.returns-clause-tried
returns-clause-tried c = record { reply = λ _. refl; tried = λ each. let is : 0 ≡ 8 = ap (λ (t : Tried). t.regions) (each refl) in omega arith; page = refl }
