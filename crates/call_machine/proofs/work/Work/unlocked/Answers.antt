use Rattle.std.proofs.Common.{refl, sym, ap, arith}
use Rattle.mon_types.specs.declared.object.ObjectId.TheVariants as objects
use Rattle.call_machine.specs.Meaning.{phase_tree, objects_in, after, ends_after}
use Rattle.call_machine.specs.Count.{phase_left}
use Rattle.call_machine.specs.Stands.{phase_stands}
use Rattle.call_machine.proofs.At.{at_from, objects_many}
use Rattle.call_machine.proofs.Steps.{unlocks_step}
use Rattle.call_machine.proofs.work.Work.unlocked.Goals as goal

pub overflow_sub-left : goal.overflow_sub-left
unfolding phase_stands
overflow_sub-left c = omega (arith, c.requires.stands.0)

pub unlock-requires-clause-few : goal.unlock-requires-clause-few
unfolding phase_stands
unlock-requires-clause-few c = omega (arith, c.requires.stands.1)

pub unlock-requires-clause-ends : goal.unlock-requires-clause-ends
unfolding phase_stands
unlock-requires-clause-ends c = c.requires.stands.2

pub returns : goal.returns
unfolding phase_stands phase_tree phase_left ends_after
returns c =
    let w = c.args.self.now in
    let step = unlocks_step (objects_in w) c.args.left (objects.Enclave 0) c.requires.stands.0 (omega (arith, objects_many w, c.requires.stands.1)) in
    at_from _ _ _ _ _ _ _ _ _ c.unlock.ensures
    (sym (ap (λ t. after t c.args.outcome.now) step)) (omega arith) (sym (ap (ends_after w) step)) refl refl refl refl
