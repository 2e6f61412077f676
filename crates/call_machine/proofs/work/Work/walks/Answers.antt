use Rattle.std.proofs.Common.{◌∙◌, ◌++◌, ℕ, List, sym, ap, subst}
use Rattle.sv39_pte.specs.Tables.{pte_place}
use Rattle.mon_enclaves.specs.LoadReply.{va_of}
use Rattle.protocol.specs.declared.action.Action.TheVariants as actions
use Rattle.protocol.specs.CallTree.{loaded}
use Rattle.call_machine.specs.Meaning.{phase_tree, issuer, found, known, ptes_in, Heads}
use Rattle.call_machine.specs.Stands.{phase_stands}
use Rattle.call_machine.proofs.Heads.{walk_step}
use Rattle.call_machine.proofs.work.Work.walks.Goals as goal

pub pte_place-requires : goal.pte_place-requires
unfolding phase_stands
pte_place-requires c = c.requires.low

pub returns : goal.returns
unfolding phase_tree phase_stands
returns c =
    let w = c.args.self.now in
    let step = walk_step w.config (va_of w.call) c.args.level c.args.left c.args.page (λ (rest : List (ℕ × ℕ)). loaded (issuer w) w.call (known w) (found w) (ptes_in w ++ rest)) c.requires.some in
    subst (λ t. Heads t (actions.Load c.pte_place.result)) (sym step) (ap (λ n. actions.Load n) (c.pte_place.ensures ∙ ap (pte_place c.args.page c.args.level) c.address_of.ensures))
