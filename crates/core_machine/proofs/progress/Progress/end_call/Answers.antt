use Rattle.std.proofs.Common.{◌≡◌, ◌∙◌, ◌<◌, ◌≤◌, ap, sym, subst}
use Rattle.mon_types.specs.Budgets.{event_budget, answer_budget}
use Rattle.core_machine.specs.declared.work.Purpose.TheVariants as purposes
use Rattle.core_machine.specs.declared.own.Own.{Own}
use Rattle.core_machine.specs.declared.work.Work.TheVariants as works
use Rattle.core_machine.specs.Own.{left_by}
use Rattle.core_machine.specs.Meaning.{behind_line}
use Rattle.core_machine.specs.Kept.{IsOwn, IsSound, weight}
use Rattle.core_machine.specs.Follows.{GoesOn, Leads}
use Rattle.core_machine.proofs.Over.{own_new, retry_sound, retry_goes_on, retry_low, few_events, few_answers, there, line_goes_on, line_low}
use Rattle.core_machine.proofs.progress.Progress.end_call.Goals as goal

pub returns-in-Retry-clause-sound : goal.returns-in-Retry-clause-sound
returns-in-Retry-clause-sound c =
    let k = c.args.self.now in
    let is = c.requires.work.1 ∙ ap (λ p. works.Calls c.args.origin p c.requires.work.0) c.in-Retry.is in
    let own = c.leave.ensures ∙ ap (λ q. left_by c.args.origin q c.args.change.now c.args.reply.now k.own) c.call.ensures in
    subst (λ x. IsSound (record k { own = x; work = works.Line })) (sym own) (retry_sound k c.args.origin c.requires.work.0 c.args.reply.now c.args.change.now is c.requires.sound c.requires.ends)

pub returns-in-Retry-clause-goes : goal.returns-in-Retry-clause-goes
returns-in-Retry-clause-goes c =
    let k = c.args.self.now in
    let is = c.requires.work.1 ∙ ap (λ p. works.Calls c.args.origin p c.requires.work.0) c.in-Retry.is in
    let own = c.leave.ensures ∙ ap (λ q. left_by c.args.origin q c.args.change.now c.args.reply.now k.own) c.call.ensures in
    subst (λ x. GoesOn k (record k { own = x; work = works.Line })) (sym own) (retry_goes_on k c.args.origin c.requires.work.0 c.args.reply.now c.args.change.now is c.requires.sound c.requires.ends c.requires.over)

pub returns-in-Retry-clause-low : goal.returns-in-Retry-clause-low
returns-in-Retry-clause-low c =
    let k = c.args.self.now in
    let is = c.requires.work.1 ∙ ap (λ p. works.Calls c.args.origin p c.requires.work.0) c.in-Retry.is in
    retry_low k c.args.origin c.requires.work.0 c.args.reply.now c.args.change.now is c.requires.sound c.requires.ends

pub end_line-requires-clause-own : goal.end_line-requires-clause-own
end_line-requires-clause-own c =
    let k = c.args.self.now in
    let is = c.requires.work.1 ∙ ap (λ p. works.Calls c.args.origin p c.requires.work.0) c.in-Line.is in
    let own = c.leave.ensures ∙ ap (λ q. left_by c.args.origin q c.args.change.now c.args.reply.now k.own) c.call.ensures in
    subst IsOwn (sym own) (own_new k c.args.origin purposes.Line c.requires.work.0 c.args.reply.now c.args.change.now is c.requires.sound c.requires.ends)

pub end_line-requires-clause-there : goal.end_line-requires-clause-there
end_line-requires-clause-there c =
    let is = c.requires.work.1 ∙ ap (λ p. works.Calls c.args.origin p c.requires.work.0) c.in-Line.is in
    there c.args.self.now c.args.origin c.requires.work.0 c.args.reply.now c.args.change.now is c.requires.sound c.requires.ends

pub end_line-requires-clause-events : goal.end_line-requires-clause-events
end_line-requires-clause-events c =
    let k = c.args.self.now in
    let is = c.requires.work.1 ∙ ap (λ p. works.Calls c.args.origin p c.requires.work.0) c.in-Line.is in
    let own = c.leave.ensures ∙ ap (λ q. left_by c.args.origin q c.args.change.now c.args.reply.now k.own) c.call.ensures in
    subst (λ (x : Own). x.counts.events < event_budget) (sym own) (few_events k c.args.origin c.requires.work.0 c.args.reply.now c.args.change.now is c.requires.sound c.requires.ends)

pub end_line-requires-clause-answers : goal.end_line-requires-clause-answers
end_line-requires-clause-answers c =
    let k = c.args.self.now in
    let is = c.requires.work.1 ∙ ap (λ p. works.Calls c.args.origin p c.requires.work.0) c.in-Line.is in
    let own = c.leave.ensures ∙ ap (λ q. left_by c.args.origin q c.args.change.now c.args.reply.now k.own) c.call.ensures in
    subst (λ (x : Own). x.counts.answers ≤ answer_budget) (sym own) (few_answers k c.args.origin c.requires.work.0 c.args.reply.now c.args.change.now is c.requires.sound c.requires.ends)

pub returns-in-Line-clause-goes : goal.returns-in-Line-clause-goes
returns-in-Line-clause-goes c =
    let k = c.args.self.now in
    let is = c.requires.work.1 ∙ ap (λ p. works.Calls c.args.origin p c.requires.work.0) c.in-Line.is in
    let own = c.leave.ensures ∙ ap (λ q. left_by c.args.origin q c.args.change.now c.args.reply.now k.own) c.call.ensures in
    line_goes_on k c.args.origin c.requires.work.0 c.args.reply.now c.args.change.now is c.requires.sound c.requires.ends c.end_line.new.self c.requires.over
    (subst (λ x. Leads (record k { own = x }) c.end_line.new.self (behind_line (record k { own = x }))) own c.end_line.ensures.leads)

pub returns-in-Line-clause-low : goal.returns-in-Line-clause-low
returns-in-Line-clause-low c =
    let is = c.requires.work.1 ∙ ap (λ p. works.Calls c.args.origin p c.requires.work.0) c.in-Line.is in
    line_low c.args.self.now c.args.origin c.requires.work.0 c.args.reply.now c.args.change.now is c.requires.sound c.requires.ends c.end_line.new.self c.end_line.ensures.lines c.end_line.ensures.at c.end_line.ensures.work
