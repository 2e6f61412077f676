use Rattle.std.proofs.Common.{◌≡◌, ◌∙◌, ap, sym}
use Rattle.core_machine.specs.Meaning.{due_in, due_at}
use Rattle.core_machine.proofs.Taking.{heads_due, over_of, other_due}
use Rattle.core_machine.proofs.progress.Progress.due.Goals as goal

pub next-requires : goal.next-requires
next-requires c = λ e. (c.done.ensures.over e).1 c.in-None.is

pub returns-in-None : goal.returns-in-None
returns-in-None c = sym (ap (due_at c.args.self.now) c.in-Calls.is ∙ heads_due _ c.next.result c.next.ensures.first)

pub returns-in-Some : goal.returns-in-Some
returns-in-Some c = sym (ap (due_at c.args.self.now) c.in-Calls.is ∙ ap due_in (over_of _ c.done.result _ c.done.ensures.left c.in-Some.is))

pub returns-in_default : goal.returns-in_default
returns-in_default c = sym (other_due c.args.self.now c.args.self.now.work c.in_default.not-Calls)
