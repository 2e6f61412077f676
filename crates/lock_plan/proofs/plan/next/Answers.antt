use Rattle.std.proofs.Common.{ℕ, Option, slice_get, IfSome, sym, ap, ◌∙◌, subst}
use Rattle.mon_types.specs.declared.object.ObjectId.{ObjectId}
use Rattle.lock_plan.specs.Plan.{plan_of}
use Rattle.lock_plan.specs.Records.{HasRoom}
use Rattle.lock_plan.specs.Objects.{HasObject}
use Rattle.lock_plan.specs.EveryPlan.{is_next}
use Rattle.lock_plan.proofs.Order.{planned_there}
use Rattle.lock_plan.proofs.Room.{leaves_room}
use Rattle.lock_plan.proofs.plan.next.Goals as goal

pub returns-clause-planned : goal.returns-clause-planned
returns-clause-planned c =
    c.nth_of_plan.ensures.object
    ∙ ap (λ (n : ℕ). slice_get (plan_of c.args.config.now c.args.core c.args.mode c.args.call.now c.args.held.now) n) c.count.ensures

pub returns-clause-next : goal.returns-clause-next
returns-clause-next c s front rest there in_mode h =
    returns-clause-planned c
    ∙ is_next c.args.config.now c.args.core c.args.mode c.args.call.now c.args.held.now c.requires s front rest there in_mode h

pub returns-clause-room : goal.returns-clause-room
returns-clause-room c s front rest there in_mode h =
    subst (λ (answer : Option ObjectId). IfSome answer (HasRoom c.args.held.now)) (sym (returns-clause-planned c))
    (leaves_room c.args.config.now c.args.core c.args.mode c.args.call.now c.args.held.now c.nth_of_plan.ensures.valid c.requires s front rest there in_mode h)

pub returns-clause-there : goal.returns-clause-there
returns-clause-there c caller =
    subst (λ (answer : Option ObjectId). IfSome answer (HasObject c.args.config.now)) (sym c.nth_of_plan.ensures.object)
    (planned_there c.args.config.now c.args.core c.args.mode c.args.call.now c.args.held.now c.count.result c.nth_of_plan.ensures.valid c.requires caller)
