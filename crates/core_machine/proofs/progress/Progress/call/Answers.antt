use Rattle.std.proofs.Common.{arith}
use Rattle.core_machine.specs.Kept.{answers_with}
use Rattle.core_machine.proofs.Begins.{call_sound, call_leads}
use Rattle.core_machine.proofs.Taking.{few_before}
use Rattle.core_machine.proofs.progress.Progress.call.Goals as goal

pub begin_again-requires-clause-answers : goal.begin_again-requires-clause-answers
begin_again-requires-clause-answers c = omega (arith, c.requires.within.answers, c.requires.begun.answers, (few_before c.args.purpose).1)

pub returns-clause-sound : goal.returns-clause-sound
returns-clause-sound c =
    call_sound c.args.self.now c.args.origin c.args.purpose c.args.call c.begin_again.new.self
    (record { tree = c.begin_again.ensures.tree; ends = c.begin_again.ensures.ends; found = c.begin_again.ensures.found; config = c.begin_again.ensures.config; call = c.begin_again.ensures.call; core = c.begin_again.ensures.core; mode = c.begin_again.ensures.mode })
    c.requires.own c.requires.script c.requires.begun c.requires.within

pub returns-clause-leads : goal.returns-clause-leads
returns-clause-leads c =
    call_leads c.args.self.now c.args.origin c.args.purpose c.args.call c.begin_again.new.self
    (record { tree = c.begin_again.ensures.tree; ends = c.begin_again.ensures.ends; found = c.begin_again.ensures.found; config = c.begin_again.ensures.config; call = c.begin_again.ensures.call; core = c.begin_again.ensures.core; mode = c.begin_again.ensures.mode })
