use Rattle.std.proofs.Common.{◌∙◌, ap, sym, refl, subst}
use Rattle.call_machine.specs.Kept.{Called}
use Rattle.call_machine.specs.Meaning.{tree_of}
use Rattle.call_machine.specs.Stands.{phase_stands}
use Rattle.call_machine.proofs.Ends.{over_tree, ends_over}
use Rattle.call_machine.proofs.machine.CallMachine.done.Goals as goal

pub returns-in-Over-clause-over : goal.returns-in-Over-clause-over
unfolding phase_stands
returns-in-Over-clause-over c = λ e.
    let w = c.self.inside.work in
    (ap (λ (m : Called). m.work.ends) c.self.view_is, subst (phase_stands w) c.in-Over.is c.self.invariant.stands)

pub returns-in-Over-clause-left : goal.returns-in-Over-clause-left
returns-in-Over-clause-left c = λ more. absurd (more (ap (λ (m : Called). tree_of m.work) (sym c.self.view_is) ∙ over_tree c.self.inside.work c.in-Over.is))

pub returns-in_default : goal.returns-in_default
returns-in_default c =
    let w = c.self.inside.work in
    record {
      over = λ e. absurd (c.in_default.not-Over (ends_over w w.phase c.self.invariant.stands (ap (λ (m : Called). tree_of m.work) c.self.view_is ∙ e)));
      left = λ e. refl;
    }
