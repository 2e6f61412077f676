use Rattle.std.proofs.Common.{◌≡◌, true, false, Option, None, sym, ap, ◌∙◌}
use Rattle.std.specs.Prelude.{is_some}
use Rattle.std.proofs.lemmas.Bool.{true≢false}
use Rattle.mon_types.specs.Shape.{Shape}
use Rattle.mon_types.specs.declared.thread.Mode.{Mode}
use Rattle.mon_types.specs.declared.reply.Reply.{Reply}
use Rattle.mon_model.specs.State.{State, mode_of}
use Rattle.mon_model.specs.Early.{early}
use Rattle.mon_seq.proofs.Passed.{none_tried}
use Rattle.mon_seq.proofs.state.MonitorState.tries_up_to.Goals as goal

pub returns-then-is_some : goal.returns-then-is_some
returns-then-is_some c =
    let s : State = c.args.self.now in
    let machine : s.shape ≡ c.self.inside.config = sym (ap (λ (x : State). x.shape) c.self.view_is) in
    let refused : early s.shape (mode_of s c.args.core) c.args.call.now ≡ None → ⊥ = λ none.
    let was : c.refuse_early.result ≡ None =
    c.refuse_early.ensures.early ∙ ap (λ (x : Shape). early x c.mode-mode.result c.args.call.now) (sym machine)
    ∙ ap (λ (m : Mode). early s.shape m c.args.call.now) c.mode-mode.ensures ∙ none in
    true≢false (sym c.if-is_some.true ∙ c.is_some.ensures ∙ ap (λ (o : Option Reply). is_some o) was) in (
      λ yes. absurd (true≢false (sym yes)),
      λ front. absurd (none_tried s c.args.core c.args.call.now c.args.lock c.args.wanted.now refused front),
    )
