use Rattle.std.proofs.Common.{◌≡◌, ◌∙◌, ◌<◌, ◌≤◌, Some, not, true, false, ap, sym, refl, subst, arith}
use Rattle.protocol.specs.Runs.{moves_of}
use Rattle.core_behaviour.specs.Runs.{course_of}
use Rattle.core_machine.specs.declared.progress.Progress.{Progress}
use Rattle.core_machine.specs.Effort.{effort, IsLeft}
use Rattle.lab.specs.Stands.{Goes}
use Rattle.lab.proofs.Ways.{Tells, at_begin, past_stop, stop_events, stop_answers, stop_done, may_make, step_moves, step_ends, step_rests, rest_left, step_left, end_left}
use Rattle.lab.proofs.lab_core.LabCore.step.Goals as goal

-- a core that had ended

pub returns-then-self-clause-takes : goal.returns-then-self-clause-takes
returns-then-self-clause-takes c = λ image script run g.
    subst (λ z. Goes image script c.args.number z c.args.self.now c.args.words.now)
    (sym (step_rests image script c.args.number run c.args.self.now c.args.words.now g c.if-self.true).0) g

pub returns-then-self-clause-answers : goal.returns-then-self-clause-answers
returns-then-self-clause-answers c = sym (ap not c.if-self.true)

pub returns-then-self-clause-ends : goal.returns-then-self-clause-ends
returns-then-self-clause-ends c = λ image script run g.
    c.if-self.true ∙ ap not (sym (step_rests image script c.args.number run c.args.self.now c.args.words.now g c.if-self.true).1)

pub returns-then-self-clause-left : goal.returns-then-self-clause-left
returns-then-self-clause-left c = rest_left c.args.self.now c.if-self.true

-- the way to the next move

pub work-init : goal.work-init
work-init c = record {
  way = at_begin c.args.number c.args.self.now c.args.words.now;
  goes = c.if-self.false;
  left = omega arith;
}

pub add-requires-clause-outcome : goal.add-requires-clause-outcome
add-requires-clause-outcome c = (0, stop_done c.in-Some-Stop.line c.in-Some-Stop.why)

pub add-requires-clause-events : goal.add-requires-clause-events
add-requires-clause-events c =
    let can = c.requires in
    let come = c.work.invariant.way can.image can.script can.run can.goes in
    stop_events can.image can.script c.args.number come.mid c.work.self c.work.words come.goes c.next.new.self c.in-Some-Stop.ensures.number c.in-Some-Stop.line c.in-Some-Stop.why
    ((subst (λ s. Tells c.work.self.machine (Some s) c.next.new.self) c.in-Some-Stop.field-0-is c.in-Some-Stop.ensures.gives) (course_of can.image can.script c.args.number) (moves_of c.args.number come.mid) come.goes.own.follows) c.in-Some-Stop.ensures.budget

pub add-requires-clause-answers : goal.add-requires-clause-answers
add-requires-clause-answers c =
    let can = c.requires in
    let come = c.work.invariant.way can.image can.script can.run can.goes in
    stop_answers can.image can.script c.args.number come.mid c.work.self c.work.words come.goes c.next.new.self c.in-Some-Stop.ensures.number c.in-Some-Stop.line c.in-Some-Stop.why
    ((subst (λ s. Tells c.work.self.machine (Some s) c.next.new.self) c.in-Some-Stop.field-0-is c.in-Some-Stop.ensures.gives) (course_of can.image can.script c.args.number) (moves_of c.args.number come.mid) come.goes.own.follows) c.in-Some-Stop.ensures.budget

pub work-smaller : goal.work-smaller
work-smaller c = subst (λ (m : Progress). effort m < effort c.work.self.machine) (sym c.add.ensures.machine) (subst (λ s. IsLeft (effort c.work.self.machine) (Some s) (effort c.next.new.self)) c.in-Some-Stop.field-0-is c.in-Some-Stop.ensures.left)

pub work-preserved : goal.work-preserved
work-preserved c = record {
  way = past_stop c.args.number c.args.self.now c.work.self c.add.new.self c.args.words.now c.work.words c.next.new.self c.in-Some-Stop.line c.in-Some-Stop.why c.work.invariant.way
      c.in-Some-Stop.ensures.number (subst (λ s. Tells c.work.self.machine (Some s) c.next.new.self) c.in-Some-Stop.field-0-is c.in-Some-Stop.ensures.gives) c.work.invariant.goes c.add.ensures;
  goes = c.add.ensures.ended ∙ c.work.invariant.goes;
  left = let same = ap effort c.add.ensures.machine in let less : effort c.next.new.self < effort c.work.self.machine = (subst (λ s. IsLeft (effort c.work.self.machine) (Some s) (effort c.next.new.self)) c.in-Some-Stop.field-0-is c.in-Some-Stop.ensures.left) in omega (arith, same, less, c.work.invariant.left);
}

-- its end

pub returns-in-None-clause-takes : goal.returns-in-None-clause-takes
returns-in-None-clause-takes c = λ image script run g.
    (step_ends c.args.number c.args.self.now c.work.self c.args.words.now c.work.words c.next.new.self c.work.invariant.way c.in-None.ensures.number c.in-None.ensures.gives image script run g).0

pub returns-in-None-clause-answers : goal.returns-in-None-clause-answers
returns-in-None-clause-answers c = sym (ap not c.if-self.false)

pub returns-in-None-clause-ends : goal.returns-in-None-clause-ends
returns-in-None-clause-ends c = λ image script run g.
    ap not (sym (step_ends c.args.number c.args.self.now c.work.self c.args.words.now c.work.words c.next.new.self c.work.invariant.way c.in-None.ensures.number c.in-None.ensures.gives image script run g).1)

pub returns-in-None-clause-left : goal.returns-in-None-clause-left
returns-in-None-clause-left c = end_left c.args.self.now (record c.work.self { machine = c.next.new.self; ended = true }) c.if-self.false refl

pub returns-in-None-clause-stays : goal.returns-in-None-clause-stays
returns-in-None-clause-stays c = λ t. absurd (let e : false ≡ true = sym c.if-self.false ∙ t in cc)

-- its move

pub make-requires-clause-can : goal.make-requires-clause-can
make-requires-clause-can c =
    may_make c.args.number c.args.self.now c.work.self c.args.words.now c.work.words c.next.new.self c.in-Some-Move.action c.requires c.work.invariant.way c.in-Some-Move.ensures.number (subst (λ s. Tells c.work.self.machine (Some s) c.next.new.self) c.in-Some-Move.field-0-is c.in-Some-Move.ensures.gives)

pub returns-in-Some-Move-clause-takes : goal.returns-in-Some-Move-clause-takes
returns-in-Some-Move-clause-takes c = λ image script run g.
    (step_moves c.args.number c.args.self.now c.work.self c.make.new.self c.args.words.now c.work.words c.make.new.words c.next.new.self c.in-Some-Move.action c.work.invariant.way
    c.in-Some-Move.ensures.number (subst (λ s. Tells c.work.self.machine (Some s) c.next.new.self) c.in-Some-Move.field-0-is c.in-Some-Move.ensures.gives) c.make.ensures.makes image script run g).0

pub returns-in-Some-Move-clause-answers : goal.returns-in-Some-Move-clause-answers
returns-in-Some-Move-clause-answers c = sym (ap not c.if-self.false)

pub returns-in-Some-Move-clause-ends : goal.returns-in-Some-Move-clause-ends
returns-in-Some-Move-clause-ends c = λ image script run g.
    c.make.ensures.goes
    ∙ sym (ap not (step_moves c.args.number c.args.self.now c.work.self c.make.new.self c.args.words.now c.work.words c.make.new.words c.next.new.self c.in-Some-Move.action c.work.invariant.way
    c.in-Some-Move.ensures.number (subst (λ s. Tells c.work.self.machine (Some s) c.next.new.self) c.in-Some-Move.field-0-is c.in-Some-Move.ensures.gives) c.make.ensures.makes image script run g).1)

pub returns-in-Some-Move-clause-left : goal.returns-in-Some-Move-clause-left
returns-in-Some-Move-clause-left c =
    step_left c.args.self.now c.make.new.self c.if-self.false c.make.ensures.goes (let less : effort c.next.new.self ≤ effort c.work.self.machine = (subst (λ s. IsLeft (effort c.work.self.machine) (Some s) (effort c.next.new.self)) c.in-Some-Move.field-0-is c.in-Some-Move.ensures.left) in omega (arith, c.make.ensures.left, less, c.work.invariant.left))

pub returns-in-Some-Move-clause-stays : goal.returns-in-Some-Move-clause-stays
returns-in-Some-Move-clause-stays c = λ t. absurd (let e : false ≡ true = sym c.if-self.false ∙ t in cc)
