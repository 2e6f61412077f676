use Rattle.std.proofs.Common.{◌≡◌, sym, ap, ◌∙◌}
use Rattle.mon_types.specs.declared.thread.Mode.{Mode}
use Rattle.mon_model.specs.State.{State}
use Rattle.mon_model.specs.Early.{early}
use Rattle.mon_model.proofs.InRange.{not_refused}
use Rattle.mon_enclaves.specs.LoadReply.{reads_ptes}
use Rattle.mon_seq.proofs.Decided.{goes_on, records_decide}
use Rattle.mon_seq.proofs.state.MonitorState.begin_held.Goals as goal

pub reply_by_ptes-begun-requires-clause-arguments : goal.reply_by_ptes-begun-requires-clause-arguments
reply_by_ptes-begun-requires-clause-arguments c = not_refused c.args.self.now.shape c.args.mode c.args.call.now c.requires.early

pub reply_by_ptes-begun-requires-clause-ptes : goal.reply_by_ptes-begun-requires-clause-ptes
reply_by_ptes-begun-requires-clause-ptes c =
    let s : State = c.args.self.now in
    let machine = sym (ap (λ (x : State). x.shape) c.self.view_is) in
    let none = ap (λ (m : Mode). early s.shape m c.args.call.now) (sym c.requires.mode) ∙ c.requires.early in
    c.goes_on-begun.ensures
    ∙ goes_on s c.args.core c.args.mode c.args.call.now c.self.inside.config c.gather.new.held c.decide-by_records.result machine c.requires.mode none c.gather.ensures.held c.decide-by_records.ensures.by_records

pub reply_by_ptes-begun-requires-clause-records : goal.reply_by_ptes-begun-requires-clause-records
reply_by_ptes-begun-requires-clause-records c = λ refused.
    let s : State = c.args.self.now in
    let machine = sym (ap (λ (x : State). x.shape) c.self.view_is) in
    let none = ap (λ (m : Mode). early s.shape m c.args.call.now) (sym c.requires.mode) ∙ c.requires.early in
    records_decide s c.args.core c.args.mode c.args.call.now c.self.inside.config c.gather.new.held c.decide-by_records.result c.requires.tables machine c.requires.mode none c.gather.ensures.held c.decide-by_records.ensures.by_records
    (sym c.goes_on-begun.ensures ∙ refused)

pub returns : goal.returns
returns c =
    let s : State = c.args.self.now in
    let machine = sym (ap (λ (x : State). x.shape) c.self.view_is) in
    let none = ap (λ (m : Mode). early s.shape m c.args.call.now) (sym c.requires.mode) ∙ c.requires.early in
    let ptes : c.goes_on-begun.result ≡ reads_ptes s c.args.core c.args.call.now =
    c.goes_on-begun.ensures
    ∙ goes_on s c.args.core c.args.mode c.args.call.now c.self.inside.config c.gather.new.held c.decide-by_records.result machine c.requires.mode none c.gather.ensures.held c.decide-by_records.ensures.by_records in
    λ i. record { reply = c.reply_by_ptes-begun.ensures i; reads_ptes = ptes i; tried = c.gather.ensures.tried i; held = c.gather.ensures.held i }
