use Rattle.std.proofs.Common.{◌∙◌, ap}
use Rattle.core_behaviour.specs.Core.{start_at}
use Rattle.core_machine.proofs.Starting.{start_sound, start_follows}
use Rattle.core_machine.proofs.progress.Progress.start.Goals as goal

pub returns-clause-sound : goal.returns-clause-sound
returns-clause-sound c = start_sound c.args.image.now c.args.number _ _ c.args.lines _ c.cores-cores.ensures.valid c.requires.core c.requires.lines

pub returns-clause-follows : goal.returns-clause-follows
returns-clause-follows c =
    start_follows c.args.image.now c.args.number c.start_of-start.result _ _ c.args.lines _
    (c.start_of-start.ensures ∙ ap (λ l. start_at l c.args.number) c.as_slice.ensures) c.begin.ensures c.new.ensures
