use Rattle.std.proofs.Common.{◌≡◌, ◌∙◌, Option, Some, None, refl, sym, subst}
use Rattle.core_machine.specs.declared.step.Step.{Step}
use Rattle.core_machine.specs.Follows.{GoesBy}
use Rattle.core_machine.proofs.Following.{gone_on, begun_on, gives_move, gives_none, gives_step, step_due, step_number, step_left}
use Rattle.core_machine.proofs.progress.Progress.next.Goals as goal

pub returns-in-Some-clause-gives : goal.returns-in-Some-clause-gives
returns-in-Some-clause-gives c = gives_move c.args.self.now c.work.self c.in-Some.due c.work.invariant (sym c.due.ensures ∙ c.in-Some.is)

pub returns-in-Over-clause-gives : goal.returns-in-Over-clause-gives
returns-in-Over-clause-gives c = gives_none c.args.self.now c.work.self c.work.invariant c.in-Over.is

pub returns-in-Some-go_on : goal.returns-in-Some-go_on
returns-in-Some-go_on c =
    let old = c.args.self.now in
    let goes = subst (λ r. GoesBy c.work.self r c.go_on.new.self) c.in-Some-go_on.is c.go_on.ensures.goes in
    record {
      sound = c.go_on.ensures.sound;
      gives = gives_step old c.work.self c.go_on.new.self c.in-Some-go_on.stop c.work.invariant goes;
      due = step_due c.work.self c.go_on.new.self c.in-Some-go_on.stop goes;
      begun = begun_on old c.work.self c.go_on.new.self c.work.invariant c.go_on.ensures.begun;
      number = step_number c.work.self c.go_on.new.self c.in-Some-go_on.stop goes ∙ c.work.invariant.number;
      left = step_left old c.work.self c.go_on.new.self c.in-Some-go_on.stop c.work.invariant goes c.go_on.ensures.low;
    }

none_if : (r : Option Step) → ((x : Step) → r ≡ Some x → ⊥) → r ≡ None
none_if None h = refl
none_if (Some x) h = absurd (h x refl)

pub work-preserved : goal.work-preserved
work-preserved c =
    let goes = subst (λ r. GoesBy c.work.self r c.go_on.new.self) (none_if c.go_on.result c.in_default-go_on.not-Some) c.go_on.ensures.goes in
    gone_on c.args.self.now c.work.self c.go_on.new.self c.work.invariant c.go_on.ensures.sound goes c.go_on.ensures.begun c.go_on.ensures.low
