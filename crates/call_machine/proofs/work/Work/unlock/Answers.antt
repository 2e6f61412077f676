use Rattle.std.proofs.Common.{◌∙◌, sym, ap, refl, take, arith}
use Rattle.call_machine.specs.declared.phase.Phase.TheVariants as phases
use Rattle.call_machine.specs.Meaning.{phase_tree, objects_in}
use Rattle.call_machine.specs.Rest.{unlocks_of}
use Rattle.call_machine.specs.Count.{phase_left}
use Rattle.call_machine.specs.Stands.{phase_stands}
use Rattle.call_machine.proofs.At.{at_phase}
use Rattle.call_machine.proofs.Steps.{unlocks_end}
use Rattle.call_machine.proofs.work.Work.unlock.Goals as goal

pub returns-then-left-eq0 : goal.returns-then-left-eq0
unfolding phase_tree phase_left phase_stands
returns-then-left-eq0 c =
    let w = c.args.self.now in
    at_phase w phases.Over _ _ c.requires.based c.requires.ends
    (sym (ap (λ n. unlocks_of (take n (objects_in w))) c.if-left-eq0.true ∙ unlocks_end (objects_in w))) (omega arith)

pub returns-else-left-eq0 : goal.returns-else-left-eq0
unfolding phase_tree phase_left phase_stands
returns-else-left-eq0 c =
    at_phase c.args.self.now (phases.Unlocks c.args.left) _ _ c.requires.based
    (omega (arith, c.if-left-eq0.false), c.requires.few, c.requires.ends) refl (omega arith)
