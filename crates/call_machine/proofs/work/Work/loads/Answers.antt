use Rattle.std.proofs.Common.{◌∙◌, ◌+◌, ◌++◌, ℕ, List, sym, ap, subst}
use Rattle.mon_types.specs.Sizes.{page_words}
use Rattle.mon_model.proofs.InRange.{not_refused}
use Rattle.dram_map.specs.Addresses.{first_word}
use Rattle.mon_enclaves.specs.LoadReply.{source_of}
use Rattle.protocol.specs.declared.action.Action.TheVariants as actions
use Rattle.call_machine.specs.Meaning.{phase_tree, copies, copied, target_of, Heads}
use Rattle.call_machine.specs.Stands.{phase_stands}
use Rattle.call_machine.proofs.Heads.{copy_step}
use Rattle.call_machine.proofs.work.Work.loads.Goals as goal

pub pages_of-source-requires : goal.pages_of-source-requires
unfolding phase_stands
pages_of-source-requires c = not_refused c.args.self.now.config c.args.self.now.mode c.args.self.now.call c.requires.0.decided.holding.early

pub returns : goal.returns
unfolding phase_tree phase_stands copies
returns c =
    let w = c.args.self.now in
    let step = copy_step page_words c.args.at (source_of w.call) (target_of w.call) (λ (words : List ℕ). copied w (w.page.items ++ words)) c.requires.1 in
    subst (λ t. Heads t (actions.Load (c.first_word.result + c.from.result))) (sym step)
    (ap (λ n. actions.Load (n + c.from.result)) (c.first_word.ensures ∙ ap first_word c.pages_of-source.ensures.source) ∙ ap (λ n. actions.Load (first_word (source_of w.call) + n)) c.from.ensures)
