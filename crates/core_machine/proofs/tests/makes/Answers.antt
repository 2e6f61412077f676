use Rattle.std.proofs.Common.{◌≡◌, ◌∙◌, Some, ap, subst}
use Rattle.protocol.specs.declared.action.Move.TheVariants as moves
use Rattle.core_machine.specs.declared.step.Step.TheVariants as steps
use Rattle.core_machine.specs.Follows.{IsDueStep}
use Rattle.core_machine.proofs.tests.makes.Goals as goal

pub took-requires : goal.took-requires
took-requires g c =
    let fit = c.fits.ensures c.if-fits.true in
    let m = c.in-Some-Move-InCall in
    let is : c.next.result ≡ Some (steps.Move (moves.InCall m.next)) = m.is ∙ ap (λ s. Some s) (m.field-0-is ∙ ap (λ x. steps.Move x) m.field-0-0-is) in
    (moves.InCall m.next, fit.0, subst (λ step. IsDueStep c.next.new.self step) is c.next.ensures.due, fit.1)
