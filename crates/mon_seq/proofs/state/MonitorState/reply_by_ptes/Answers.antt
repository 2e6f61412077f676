use Rattle.std.proofs.Common.{List, ℕ, sym, ap, ◌∙◌}
use Rattle.mon_types.specs.Replies.{done_if}
use Rattle.mon_model.specs.State.{State}
use Rattle.mon_enclaves.specs.ByWords.{words_fit}
use Rattle.mon_enclaves.specs.LoadReply.{path_length}
use Rattle.mon_seq.proofs.Decided.{ptes_decide}
use Rattle.mon_seq.proofs.state.MonitorState.reply_by_ptes.Goals as goal

pub returns-then-goes_on : goal.returns-then-goes_on
returns-then-goes_on c =
    let call = c.args.call.now in
    let fits = c.ptes_fit.ensures
    ∙ ap (λ (words : List ℕ). words_fit c.self.inside.config (path_length call) words) c.deref.ensures.0
    ∙ ap (λ (s : State). words_fit s.shape (path_length call) c.ptes_of-ptes.result.items) c.self.view_is in
    c.done_if.ensures ∙ ap done_if fits
    ∙ ptes_decide c.args.self.now c.args.core call c.ptes_of-ptes.result.items c.requires.tables (sym c.requires.ptes ∙ c.if-goes_on.true) c.ptes_of-ptes.ensures
