use Rattle.std.proofs.Common.{◌∙◌, ◌<◌, None, drop, length, sym, ap, arith}
use Rattle.call_machine.specs.declared.phase.Phase.TheVariants as phases
use Rattle.call_machine.specs.Rest.{early_rest}
use Rattle.call_machine.specs.Meaning.{phase_tree, objects_in, draws, drawn}
use Rattle.call_machine.specs.Count.{phase_left}
use Rattle.call_machine.specs.Stands.{phase_stands}
use Rattle.call_machine.proofs.At.{at_phase, decided_other}
use Rattle.call_machine.proofs.Steps.{early_end}
use Rattle.call_machine.proofs.work.Work.withdraw.Goals as goal

pub returns-then-at-len-clause-at : goal.returns-then-at-len-clause-at
unfolding phase_tree phase_stands phase_left draws drawn
returns-then-at-len-clause-at c =
    let w = c.args.self.now in
    let at = c.early_from-at.result in
    let d = c.requires.decided in
    let here : at < length w.held.regions.items = omega (arith, c.if-at-len.true, c.len.ensures.value) in
    at_phase w (phases.Early at) _ _ d.holding.based
    (decided_other w w.input w.page (phases.Early at) d, c.requires.input, here, c.early_from-at.ensures.found here)
    (ap (λ i. early_rest w.call (objects_in w) (drop at w.held.regions.items) w.stood.items (draws w i)) c.requires.input
    ∙ sym (c.early_from-at.ensures.skips (objects_in w) w.stood.items (draws w None)))
    (omega (arith, c.early_from-at.ensures.on))

pub returns-else-at-len-clause-at : goal.returns-else-at-len-clause-at
unfolding phase_tree phase_stands phase_left draws drawn
returns-else-at-len-clause-at c =
    let w = c.args.self.now in
    let at = c.early_from-at.result in
    let d = c.requires.decided in
    at_phase w phases.Draws _ _ d.holding.based
    (decided_other w w.input w.page phases.Draws d)
    (ap (λ i. draws w i w.stood.items) c.requires.input
    ∙ sym (early_end w.call (objects_in w) w.held.regions.items at w.stood.items (draws w None) (omega (arith, c.if-at-len.false, c.len.ensures.value)))
    ∙ sym (c.early_from-at.ensures.skips (objects_in w) w.stood.items (draws w None)))
    (omega arith)
