use Rattle.std.proofs.Common.{◌≡◌, ◌∙◌, ◌-◌, Some, None, length, sym, ap, arith}
use Rattle.std.specs.List.{slice_get}
use Rattle.sv39_pte.specs.Tables.{last_place}
use Rattle.protocol.specs.CallTree.{put_pte}
use Rattle.call_machine.specs.declared.phase.Phase.TheVariants as phases
use Rattle.call_machine.specs.Meaning.{phase_tree, draws, drawn}
use Rattle.call_machine.specs.Count.{phase_left}
use Rattle.call_machine.specs.Stands.{phase_stands}
use Rattle.call_machine.proofs.At.{at_phase, decided_other}
use Rattle.call_machine.proofs.work.Work.put.Goals as goal

pub returns-in-Some-clause-at : goal.returns-in-Some-clause-at
unfolding phase_tree phase_stands phase_left put_pte draws drawn
returns-in-Some-clause-at c =
    let w = c.args.self.now in
    let place = c.in-Some.field-0.now in
    let last : last_place w.places.items ≡ Some place = ap (λ l. slice_get l (length l - 1)) (sym c.deref.ensures.0) ∙ sym c.in-Some.ensures.value in
    at_phase w (phases.Puts place) _ _ c.requires.holding.based (decided_other w w.input w.page (phases.Puts place) c.requires)
    (sym (ap (λ o. put_pte o w.call (draws w w.input w.stood.items)) last)) (omega arith)

pub returns-in-None-clause-at : goal.returns-in-None-clause-at
unfolding phase_tree phase_stands phase_left put_pte draws drawn
returns-in-None-clause-at c =
    let w = c.args.self.now in
    let last : last_place w.places.items ≡ None = ap (λ l. slice_get l (length l - 1)) (sym c.deref.ensures.0) ∙ sym c.in-None.ensures.value in
    at_phase w phases.Draws _ _ c.requires.holding.based (decided_other w w.input w.page phases.Draws c.requires)
    (sym (ap (λ o. put_pte o w.call (draws w w.input w.stood.items)) last)) (omega arith)
