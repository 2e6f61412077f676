use Rattle.std.proofs.Common.{◌≡◌, ◌∙◌, true, Some, ap, sym, refl, subst, arith}
use Rattle.mon_types.specs.Shape.{is_shape}
use Rattle.core_machine.specs.Meaning.{due_at}
use Rattle.core_machine.specs.declared.own.Own.{Own}
use Rattle.core_machine.specs.Kept.{IsWithin, IsSound, work_stands}
use Rattle.core_machine.proofs.Efforts.{few_made, move_left}
use Rattle.core_machine.specs.Follows.{Follows, told}
use Rattle.core_behaviour.specs.Course.{first_of, left_of}
use Rattle.core_machine.proofs.Taking.{not_due, due_over, due_outcome, few_now, slots_now, sound_new, within_new, follows_new}
use Rattle.core_machine.proofs.progress.Progress.took.Goals as goal

pub next-requires : goal.next-requires
next-requires c =
    let d = subst (λ w. due_at c.args.self.now w ≡ Some c.requires.due.0) c.in-Calls.is c.requires.due.2 in
    due_over _ c.requires.due.0 d

pub count-requires-clause-slot : goal.count-requires-clause-slot
count-requires-clause-slot c = slots_now c.args.self.now c.in-Calls.origin c.in-Calls.purpose c.in-Calls.serial c.in-Calls.is c.requires.sound c.next.result c.next.ensures.first

pub count-requires-clause-events : goal.count-requires-clause-events
count-requires-clause-events c = (few_now c.args.self.now c.in-Calls.origin c.in-Calls.purpose c.in-Calls.serial c.in-Calls.is c.requires.sound).0

pub count-requires-clause-answers : goal.count-requires-clause-answers
count-requires-clause-answers c = (few_now c.args.self.now c.in-Calls.origin c.in-Calls.purpose c.in-Calls.serial c.in-Calls.is c.requires.sound).1

pub took-requires : goal.took-requires
took-requires c =
    let d = subst (λ w. due_at c.args.self.now w ≡ Some c.requires.due.0) c.in-Calls.is c.requires.due.2 in
    due_outcome _ c.args.outcome.now c.requires.due.0 c.requires.due.1 d c.requires.due.3

pub returns-clause-sound : goal.returns-clause-sound
returns-clause-sound c =
    let k = c.args.self.now in
    let d = subst (λ w. due_at k w ≡ Some c.requires.due.0) c.in-Calls.is c.requires.due.2 in
    let e = c.took.ensures in
    subst (λ x. IsSound (record k { own = x; call = c.took.new.self })) (sym c.count.ensures)
    (sound_new k c.in-Calls.origin c.in-Calls.purpose c.in-Calls.serial c.in-Calls.is c.requires.sound c.took.new.self c.next.result c.args.outcome.now c.next.ensures.first
    (due_outcome _ c.args.outcome.now c.requires.due.0 c.requires.due.1 d c.requires.due.3) e.tree e.ends e.found e.config e.call e.core e.mode)

pub returns-clause-within : goal.returns-clause-within
returns-clause-within c =
    let k = c.args.self.now in
    let d = subst (λ w. due_at k w ≡ Some c.requires.due.0) c.in-Calls.is c.requires.due.2 in
    let e = c.took.ensures in
    subst (λ x. IsWithin (record k { own = x; call = c.took.new.self }) 79 600) (sym c.count.ensures)
    (within_new k c.in-Calls.origin c.in-Calls.purpose c.in-Calls.serial c.in-Calls.is c.requires.sound c.took.new.self c.next.result c.args.outcome.now c.next.ensures.first
    (due_outcome _ c.args.outcome.now c.requires.due.0 c.requires.due.1 d c.requires.due.3) e.tree e.ends e.found e.config e.call e.core e.mode)

pub returns-clause-follows : goal.returns-clause-follows
returns-clause-follows c = λ course ms f.
    let k = c.args.self.now in
    let d = subst (λ w. due_at k w ≡ Some c.requires.due.0) c.in-Calls.is c.requires.due.2 in
    let e = c.took.ensures in
    subst (λ x. Follows (record k { own = x; call = c.took.new.self }) course (told (first_of (left_of course ms)) c.args.outcome.now ms)) (sym c.count.ensures)
    (follows_new k c.in-Calls.origin c.in-Calls.purpose c.in-Calls.serial c.in-Calls.is c.requires.sound c.took.new.self c.next.result c.args.outcome.now c.next.ensures.first
    (due_outcome _ c.args.outcome.now c.requires.due.0 c.requires.due.1 d c.requires.due.3) e.tree e.ends e.found e.config e.call e.core e.mode course ms f)

pub unreachable-requires : goal.unreachable-requires
unreachable-requires c = not_due c.args.self.now c.args.self.now.work c.requires.due.0 c.requires.due.2 c.in_default.not-Calls

pub returns-clause-number : goal.returns-clause-number
returns-clause-number c = ap (λ (own : Own). own.number) c.count.ensures

pub returns-clause-left : goal.returns-clause-left
unfolding work_stands
returns-clause-left c =
    let k = c.args.self.now in
    let stands = subst (work_stands k) c.in-Calls.is c.requires.sound.stands in
    let same = c.took.ensures.config ∙ stands.1.config in
    let few = few_made c.took.new.self.work.config (subst (λ shape. is_shape shape ≡ true) (sym same) c.requires.sound.own.valid) c.took.new.self.work.call in
    move_left k (record k { own = c.count.new.self; call = c.took.new.self }) refl c.took.ensures.made (omega (arith, few, c.made-made.ensures.made, c.made-made.ensures.most))
