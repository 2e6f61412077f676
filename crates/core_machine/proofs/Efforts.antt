-- How much is left of a core, and what is known of it at every moment.
use Rattle.std.proofs.Common.{◌≡◌, ◌∙◌, ◌+◌, ◌-◌, ◌*◌, ◌<◌, ◌≤◌, ℕ, true, Option, Some, None, ap, sym, refl, subst, arith}
use Rattle.mon_types.specs.Shape.{Shape, is_shape}
use Rattle.std.proofs.lemmas.Bool.Decides.{nat_tests}
use Rattle.mon_types.specs.declared.call.Call.{Call}
use Rattle.mon_types.specs.declared.call.Call.TheVariants as calls
use Rattle.mon_types.specs.declared.reply.Reply.{Reply}
use Rattle.mon_types.specs.declared.object.ObjectId.{ObjectId}
use Rattle.core_context.specs.declared.after.After.{After}
use Rattle.protocol.specs.declared.action.Action.{Action}
use Rattle.protocol.specs.declared.action.Action.TheVariants as actions
use Rattle.protocol.specs.declared.action.Move.TheVariants as moves
use Rattle.protocol.specs.CallTree.{Tree, Over, Makes}
use Rattle.call_machine.specs.Count.{most_moves}
use Rattle.call_machine.specs.Meaning.{tree_of}
use Rattle.core_machine.specs.declared.step.Step.{Step}
use Rattle.core_machine.specs.declared.step.Step.TheVariants as steps
use Rattle.core_machine.specs.declared.work.Purpose.{Purpose}
use Rattle.core_machine.specs.declared.work.Purpose.TheVariants as purposes
use Rattle.core_machine.specs.declared.work.Work.{Work}
use Rattle.core_machine.specs.declared.work.Work.TheVariants as works
use Rattle.core_machine.specs.declared.progress.Progress.{Progress}
use Rattle.core_machine.specs.Remains.{IsEnding}
use Rattle.core_machine.specs.Meaning.{due_in, due_at, serial_in, calling_at}
use Rattle.core_machine.specs.Kept.{IsBegun, CallStands, work_stands, IsSound, weight}
use Rattle.core_machine.specs.Effort.{effort, IsLeft, AreInBudget, IsFresh}

-- ---- what is left

-- as LimitLaws of mon_types has it
pages_16 : (m : Shape) → is_shape m ≡ true → m.pages ≤ 16
pages_16 m h = grind (arith, nat_tests)

-- no call makes more moves
pub few_made : (shape : Shape) → is_shape shape ≡ true → (call : Call) → most_moves shape call ≤ 8392
few_made shape is (calls.Free r) = omega (arith, pages_16 shape is)
few_made shape is _ = omega arith

-- less private work is less left
pub less_left : (old new : Progress) → weight new < weight old → effort new < effort old
less_left old new low = by (weight old) (weight new) old.call.made new.call.made low
  where
    by : (a b x y : ℕ) → b < a → b * 8393 + (8392 - y) < a * 8393 + (8392 - x)
    by a b x y low = omega arith

-- one move more of a call is less left
pub move_left : (old new : Progress) → weight new ≡ weight old → new.call.made ≡ old.call.made + 1 → new.call.made ≤ 8392 → effort new < effort old
move_left old new same more few = by (weight old) (weight new) old.call.made new.call.made same more few
  where
    by : (a b x y : ℕ) → b ≡ a → y ≡ x + 1 → y ≤ 8392 → b * 8393 + (8392 - y) < a * 8393 + (8392 - x)
    by a b x y same more few = omega arith

-- ---- budgets

call_budget : (k : Progress) (purpose : Purpose) (serial : ℕ) (ends : Option (Reply × After)) → IsBegun k → CallStands k purpose serial ends → AreInBudget k.own.counts
unfolding CallStands
call_budget k purposes.Retry serial None b c = record { events = omega (arith, b.events, c.events); answers = omega (arith, b.answers, c.answers) }
call_budget k purposes.Retry serial (Some end) b c = record { events = omega (arith, b.events, c.events); answers = omega (arith, b.answers, c.answers) }
call_budget k purposes.Line serial None b c = record { events = omega (arith, b.events, c.events); answers = omega (arith, b.answers, c.answers) }
call_budget k purposes.Line serial (Some end) b c = record { events = omega (arith, b.events, c.events); answers = omega (arith, b.answers, c.answers) }

work_budget : (k : Progress) (w : Work) → work_stands k w → AreInBudget k.own.counts
unfolding work_stands
work_budget k works.Begins h = record { events = omega (arith, h.0); answers = h.1 }
work_budget k works.Line h = record { events = omega (arith, h.0.events, h.1.events); answers = omega (arith, h.0.answers, h.1.answers) }
work_budget k (works.Calls origin purpose serial) h = call_budget k purpose serial k.call.work.ends h.0 h.2
work_budget k works.Over h = record { events = h.0; answers = h.1 }

pub in_budget : (k : Progress) → IsSound k → AreInBudget k.own.counts
in_budget k s = work_budget k k.work s.stands

-- ---- a lock that is to be tried

call_fresh : (k : Progress) (purpose : Purpose) (serial : ℕ) (t : Tree) (ends : Option (Reply × After)) → tree_of k.call.work ≡ t → CallStands k purpose serial ends → (o : ObjectId) → due_in t ≡ Some (moves.InCall (actions.TryLock o))
    → serial_in t serial ≡ Some k.own.serial
unfolding CallStands IsEnding
call_fresh k purpose serial Over ends is c o e = absurd (cc)
call_fresh k purpose serial (Makes action next) None is c o e = ap (λ n. Some n) c.serial
call_fresh k purpose serial (Makes action next) (Some end) is c o e =
    let tries : action ≡ actions.TryLock o = cc in
    absurd (subst (λ a. IsEnding (Makes a next)) tries (subst IsEnding is c.ending))

work_fresh : (k : Progress) (w : Work) → work_stands k w → (o : ObjectId) → due_at k w ≡ Some (moves.InCall (actions.TryLock o)) → calling_at k w ≡ Some k.own.serial
unfolding work_stands
work_fresh k works.Begins h o e = absurd (cc)
work_fresh k works.Line h o e = absurd (cc)
work_fresh k (works.Calls origin purpose serial) h o e = call_fresh k purpose serial (tree_of k.call.work) k.call.work.ends refl h.2 o e
work_fresh k works.Over h o e = absurd (cc)

pub is_fresh : (k : Progress) → IsSound k → IsFresh k
is_fresh k s = λ o e. work_fresh k k.work s.stands o e
