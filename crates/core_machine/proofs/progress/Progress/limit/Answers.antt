use Rattle.std.proofs.Common.{sym, subst}
use Rattle.core_machine.specs.declared.work.Work.TheVariants as works
use Rattle.core_machine.specs.Kept.{IsSound}
use Rattle.core_machine.proofs.Carrying.{limit_sound}
use Rattle.core_machine.proofs.progress.Progress.limit.Goals as goal

pub returns-clause-sound : goal.returns-clause-sound
returns-clause-sound c =
    let k = c.args.self.now in
    subst (λ x. IsSound (record k { own = x; work = works.Over })) (sym c.limit.ensures) (limit_sound k c.requires.own c.requires.script c.requires.events c.requires.answers)
