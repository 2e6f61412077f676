use Rattle.std.proofs.Common.{◌∙◌, ◌<◌, length, refl, sym, ap, arith}
use Rattle.call_machine.specs.declared.phase.Phase.TheVariants as phases
use Rattle.call_machine.specs.Meaning.{phase_tree, objects_in}
use Rattle.call_machine.specs.Rest.{places, unlocks_of}
use Rattle.call_machine.specs.Count.{phase_left}
use Rattle.call_machine.specs.Stands.{phase_stands}
use Rattle.call_machine.proofs.At.{at_phase, at_from, drawn_phase, objects_many, take_whole}
use Rattle.call_machine.proofs.Steps.{places_many, writes_end}
use Rattle.call_machine.proofs.work.Work.write.Goals as goal

pub returns-then-at-len : goal.returns-then-at-len
unfolding phase_tree phase_left phase_stands
returns-then-at-len c =
    let w = c.args.self.now in
    let at = c.change_from-at.result in
    let here : at < length w.stood.items = omega (arith, c.if-at-len.true, c.len.ensures.value) in
    at_phase w (phases.Late at) _ _ c.requires.based
    (drawn_phase w (phases.Late at) c.requires.drawn, here, c.change_from-at.ensures.differs here)
    (sym (c.change_from-at.ensures.skips (places (objects_in w)) (unlocks_of (objects_in w)) (places_many (objects_in w) ∙ sym c.requires.drawn.long)))
    (omega (arith, c.change_from-at.ensures.on))

pub returns-else-at-len : goal.returns-else-at-len
returns-else-at-len c =
    let w = c.args.self.now in
    let at = c.change_from-at.result in
    at_from _ _ _ _ _ _ _ _ _ c.unlock.ensures
    (ap unlocks_of (take_whole (objects_in w) _ (omega (arith, objects_many w, c.len-left.ensures.value)))
    ∙ sym (writes_end (places (objects_in w)) w.stood.items w.wanted.items at (unlocks_of (objects_in w)) (omega (arith, places_many (objects_in w), c.requires.drawn.long, c.if-at-len.false, c.len.ensures.value)))
    ∙ sym (c.change_from-at.ensures.skips (places (objects_in w)) (unlocks_of (objects_in w)) (places_many (objects_in w) ∙ sym c.requires.drawn.long)))
    (omega (arith, c.len-left.ensures.value)) refl refl refl refl refl
