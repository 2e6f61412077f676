use Rattle.std.proofs.Common.{◌∙◌, ◌+◌, ap}
use Rattle.mon_model.proofs.InRange.{not_refused}
use Rattle.dram_map.specs.Addresses.{first_word}
use Rattle.protocol.specs.declared.action.Action.TheVariants as actions
use Rattle.call_machine.specs.Meaning.{phase_tree, target_of}
use Rattle.call_machine.specs.Stands.{phase_stands}
use Rattle.call_machine.proofs.work.Work.stores.Goals as goal

pub pages_of-target-requires : goal.pages_of-target-requires
unfolding phase_stands
pages_of-target-requires c = not_refused c.args.self.now.config c.args.self.now.mode c.args.self.now.call c.requires.0.decided.holding.early

pub returns : goal.returns
unfolding phase_tree
returns c =
    let w = c.args.self.now in
    ap (λ n. actions.Store (n + c.from.result) c.args.value) (c.first_word.ensures ∙ ap first_word c.pages_of-target.ensures.target)
    ∙ ap (λ n. actions.Store (first_word (target_of w.call) + n) c.args.value) c.from.ensures
