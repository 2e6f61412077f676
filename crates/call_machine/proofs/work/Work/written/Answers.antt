use Rattle.std.proofs.Common.{◌∙◌, ◌<◌, ◌+◌, length, refl, sym, ap, arith}
use Rattle.mon_types.specs.declared.object.ObjectId.TheVariants as objects
use Rattle.call_machine.specs.Meaning.{phase_tree, objects_in, after, ends_after}
use Rattle.call_machine.specs.Rest.{places, writes_from, unlocks_of}
use Rattle.call_machine.specs.Count.{phase_left}
use Rattle.call_machine.specs.Stands.{phase_stands}
use Rattle.call_machine.proofs.At.{at_from}
use Rattle.call_machine.proofs.Steps.{places_many, writes_one}
use Rattle.call_machine.proofs.work.Work.written.Goals as goal

pub write-requires-clause-drawn : goal.write-requires-clause-drawn
unfolding phase_stands
write-requires-clause-drawn c = c.requires.stands.0

pub write-requires-clause-from : goal.write-requires-clause-from
unfolding phase_stands
write-requires-clause-from c = omega (arith, c.requires.stands.1, c.from.ensures)

pub returns : goal.returns
unfolding phase_stands phase_tree phase_left ends_after
returns c =
    let w = c.args.self.now in
    let ps = places (objects_in w) in
    let below : c.args.at < length ps = omega (arith, c.requires.stands.1, c.requires.stands.0.long, places_many (objects_in w)) in
    let step = writes_one ps w.stood.items w.wanted.items c.args.at (objects.Enclave 0, 0) (unlocks_of (objects_in w)) below c.requires.stands.2 in
    at_from _ _ _ _ _ _ _ _ _ c.write.ensures
    (ap (λ n. writes_from ps w.stood.items w.wanted.items (n + 1) (unlocks_of (objects_in w))) c.from.ensures ∙ sym (ap (λ t. after t c.args.outcome.now) step))
    (omega (arith, c.requires.stands.1, c.from.ensures)) (sym (ap (ends_after w) step)) refl refl refl refl
