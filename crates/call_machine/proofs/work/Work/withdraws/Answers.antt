use Rattle.std.proofs.Common.{◌∙◌, ◌+◌, get_or, drop, sym, ap, subst}
use Rattle.mon_types.specs.declared.object.ObjectId.TheVariants as objects
use Rattle.mon_types.specs.declared.region.Region.TheVariants as regions
use Rattle.protocol.specs.declared.action.Action.TheVariants as actions
use Rattle.call_machine.specs.Rest.{early_rest, early_write}
use Rattle.call_machine.specs.Meaning.{phase_tree, objects_in, draws, Heads}
use Rattle.call_machine.specs.Stands.{phase_stands}
use Rattle.call_machine.proofs.Steps.{early_step}
use Rattle.call_machine.proofs.work.Work.withdraws.Goals as goal

pub returns : goal.returns
unfolding phase_tree phase_stands early_write
returns c =
    let w = c.args.self.now in
    let p = get_or w.held.regions.items c.args.at (0, regions.Free) in
    let step = early_step w.call (objects_in w) w.held.regions.items c.args.at (0, regions.Free) w.stood.items (draws w w.input) c.requires.2
    ∙ ap (λ o. early_write o (objects_in w) p.0 w.stood.items (λ now. early_rest w.call (objects_in w) (drop (c.args.at + 1) w.held.regions.items) now (draws w w.input))) c.own_word-r.ensures.word in
    subst (λ t. Heads t (actions.Write (objects.Region c.own_word-r.result.0) 0 c.own_word-r.result.1)) (sym step)
    (ap (λ r. actions.Write (objects.Region r) 0 c.own_word-r.result.1) c.own_word-r.ensures.region)
