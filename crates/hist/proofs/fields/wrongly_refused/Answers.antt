use Rattle.std.proofs.Common.{◌≡◌, refl, arith}
use Rattle.mon_types.specs.Replies.{done}
use Rattle.hist.specs.History.{entries_of, log_of}
use Rattle.hist.specs.Legal.{AreOwn}
use Rattle.hist.specs.Rows.{alone, wrongly_refused}
use Rattle.mon_types.proofs.Below.{by_one}
use Rattle.mon_types.specs.declared.reply.Reply.TheVariants as replies
use Rattle.hist.proofs.fields.wrongly_refused.Goals as goal

pub returns-clause-entries : goal.returns-clause-entries
returns-clause-entries c = record { count = refl; tickets = (refl, tt); own = by_one (λ core. AreOwn core 0 0 (entries_of (log_of (alone wrongly_refused) core))) (record { core = refl; serial = refl; ascends = omega arith }, tt); entries = λ all. let is : replies.InvalidState ≡ done = all.0.reply refl in cc }

pub returns-clause-reply : goal.returns-clause-reply
returns-clause-reply c = record { reply = λ each. let is : replies.InvalidState ≡ done = each refl in cc; tried = λ _. refl; page = refl }
