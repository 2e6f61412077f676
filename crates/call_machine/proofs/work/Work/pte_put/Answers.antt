use Rattle.std.proofs.Common.{refl, arith}
use Rattle.call_machine.specs.declared.phase.Phase.TheVariants as phases
use Rattle.call_machine.specs.Meaning.{phase_tree, draws, drawn, ends_after}
use Rattle.call_machine.specs.Count.{phase_left}
use Rattle.call_machine.specs.Stands.{phase_stands}
use Rattle.call_machine.proofs.At.{at_phase, decided_other}
use Rattle.call_machine.proofs.work.Work.pte_put.Goals as goal

pub returns-clause-at : goal.returns-clause-at
unfolding phase_tree phase_stands phase_left draws drawn ends_after
returns-clause-at c =
    let w = c.args.self.now in
    at_phase w phases.Draws _ _ c.requires.holding.based (decided_other w w.input w.page phases.Draws c.requires) refl (omega arith)
