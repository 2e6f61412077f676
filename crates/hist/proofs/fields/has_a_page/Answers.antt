use Rattle.std.proofs.Common.{◌≡◌, true, false, refl, arith}
use Rattle.hist.specs.History.{entries_of, log_of}
use Rattle.hist.specs.Legal.{AreOwn}
use Rattle.hist.specs.Rows.{alone, has_a_page}
use Rattle.mon_types.proofs.Below.{by_one}
use Rattle.hist.proofs.fields.has_a_page.Goals as goal

pub returns-clause-entries : goal.returns-clause-entries
returns-clause-entries c = record { count = refl; tickets = (refl, tt); own = by_one (λ core. AreOwn core 0 0 (entries_of (log_of (alone has_a_page) core))) (record { core = refl; serial = refl; ascends = omega arith }, tt); entries = λ all. let is : true ≡ false = all.0.page in cc }

pub returns-clause-page : goal.returns-clause-page
returns-clause-page c = record { reply = λ _. refl; tried = λ _. refl; page = λ has. let is : true ≡ false = has in cc }
