use Rattle.std.proofs.Common.{◌≡◌, ◌∙◌, ◌+◌, ◌<◌, ap, sym, subst, length, arith}
use Rattle.hist.specs.declared.event.Why.TheVariants as whys
use Rattle.core_machine.specs.Follows.{Stops}
use Rattle.core_machine.proofs.Carrying.{begins_room, over_sound, line_sound, stop_goes, end_goes, limit_stops, line_goes, retry_goes}
use Rattle.core_machine.proofs.progress.Progress.begin_line.Goals as goal

pub returns-then-self-len-clause-sound : goal.returns-then-self-len-clause-sound
returns-then-self-len-clause-sound c = over_sound c.args.self.now c.requires.work c.requires.sound

pub returns-then-self-len-clause-goes : goal.returns-then-self-len-clause-goes
returns-then-self-len-clause-goes c = end_goes c.args.self.now c.requires.work (omega (arith, c.len.ensures, c.if-self-len.true))

pub is_spent-requires-clause-events : goal.is_spent-requires-clause-events
is_spent-requires-clause-events c = omega (arith, (begins_room c.args.self.now c.requires.work c.requires.sound).0)

pub is_spent-requires-clause-answers : goal.is_spent-requires-clause-answers
is_spent-requires-clause-answers c = (begins_room c.args.self.now c.requires.work c.requires.sound).1

pub limit-requires-clause-events : goal.limit-requires-clause-events
limit-requires-clause-events c = (begins_room c.args.self.now c.requires.work c.requires.sound).0

pub limit-requires-clause-answers : goal.limit-requires-clause-answers
limit-requires-clause-answers c = (begins_room c.args.self.now c.requires.work c.requires.sound).1

pub returns-then-is_spent-clause-goes : goal.returns-then-is_spent-clause-goes
returns-then-is_spent-clause-goes c =
    let k = c.args.self.now in
    let there : k.at < length k.lines = omega (arith, c.requires.sound.script.at, c.len.ensures, c.if-self-len.false) in
    stop_goes k c.limit.new.self c.limit.result (k.at + 1) whys.Limit c.limit.ensures.step
    (subst (λ x. Stops k x (k.at + 1) whys.Limit) (sym c.limit.ensures.new) (limit_stops k c.requires.work there (sym c.is_spent.ensures ∙ c.if-is_spent.true)))

pub returns-in-None-clause-sound : goal.returns-in-None-clause-sound
returns-in-None-clause-sound c =
    let k = c.args.self.now in
    let there : k.at < length k.lines = omega (arith, c.requires.sound.script.at, c.len.ensures, c.if-self-len.false) in
    line_sound k c.requires.sound there (sym c.is_spent.ensures ∙ c.if-is_spent.false)

pub returns-in-None-clause-goes : goal.returns-in-None-clause-goes
returns-in-None-clause-goes c =
    let k = c.args.self.now in
    let there : k.at < length k.lines = omega (arith, c.requires.sound.script.at, c.len.ensures, c.if-self-len.false) in
    line_goes k c.requires.work there (sym c.is_spent.ensures ∙ c.if-is_spent.false) c.in-None.is

pub returns-in-Some-clause-goes : goal.returns-in-Some-clause-goes
returns-in-Some-clause-goes c =
    let k = c.args.self.now in
    let there : k.at < length k.lines = omega (arith, c.requires.sound.script.at, c.len.ensures, c.if-self-len.false) in
    retry_goes k c.requires.work c.exit.new.self c.in-Some.exit there (sym c.is_spent.ensures ∙ c.if-is_spent.false) c.in-Some.is c.exit.ensures.leads
