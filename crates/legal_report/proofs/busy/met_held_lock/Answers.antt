use Rattle.std.proofs.Common.{◌≡◌, ℕ, ◌<◌, true, false, take, ap, sym, subst, ◌∙◌, rules}
use Rattle.std.proofs.lemmas.Bool.{true≢false}
use Rattle.mon_types.specs.Shape.{Shape}
use Rattle.mon_model.specs.State.{State}
use Rattle.legal_report.specs.Counted.{tickets_of}
use Rattle.legal_report.specs.Kept.{calls_told}
use Rattle.legal_report.proofs.Lists.{list_of}
use Rattle.legal_report.proofs.Named.{of_shape}
use Rattle.legal_report.proofs.Took.{met_by, begun_tells, front_told, front_tells}
use Rattle.legal_report.proofs.busy.met_held_lock.Goals as goal

pub tries_up_to-requires : goal.tries_up_to-requires
tries_up_to-requires c =
    let config = c.args.calls.now.config.now in
    subst (λ (n : ℕ). c.args.entry.now.core < n) (sym (ap (λ (s : State). s.shape.cores) c.requires.state ∙ ap (λ (x : Shape). x.cores) (of_shape config (take c.args.k (calls_told c.args.calls.now))))) c.requires.core

pub returns-then-not-tries_up_to : goal.returns-then-not-tries_up_to
returns-then-not-tries_up_to c =
    let config = c.args.calls.now.config.now in
    let calls = calls_told c.args.calls.now in (
      λ yes. absurd (true≢false (sym yes)),
      λ met. absurd
          (true≢false
          (sym (c.tries_up_to.ensures.1 (front_tells config calls c.args.k c.args.entry.now c.args.met.lock c.args.monitor.now.state c.requires.ticket c.requires.state met.tried)) ∙ c.if-not-tries_up_to.true)),
    )

pub returns-then-had_begun : goal.returns-then-had_begun
returns-then-had_begun c =
    let config = c.args.calls.now.config.now in
    let calls = calls_told c.args.calls.now in
    let theirs : c.as_slice-theirs.result.now ≡ tickets_of calls c.args.met.holder = list_of config.cores calls c.args.lists.now c.args.met.holder c.index-lists-from.result c.as_slice-theirs.result.now c.requires.tickets c.requires.holder (search rules) (search rules) in
    let mine : c.as_slice-own.result.now ≡ tickets_of calls c.args.entry.now.core = list_of config.cores calls c.args.lists.now c.args.entry.now.core c.index-lists-from-2.result c.as_slice-own.result.now c.requires.tickets c.requires.core (search rules) (search rules) in
    let tried = front_told config calls c.args.k c.args.entry.now c.args.met.lock c.args.monitor.now.state c.requires.ticket c.requires.state (c.tries_up_to.ensures.0 c.if-not-tries_up_to.false) in
    let all = met_by config calls c.args.entry.now c.args.met.lock c.args.met.holder c.args.met.serial c.as_slice-theirs.result.now c.as_slice-own.result.now true c.was_not_over.result theirs mine
    c.requires.holder c.if-met-entry.false tried (c.has_taken.ensures.0 c.if-not-has_taken.false) (λ yes. c.had_begun.ensures.0 c.if-had_begun.true, λ begun. sym c.if-had_begun.true ∙ c.had_begun.ensures.1 begun) c.was_not_over.ensures in
    all

pub returns-else-had_begun : goal.returns-else-had_begun
returns-else-had_begun c =
    let config = c.args.calls.now.config.now in
    let calls = calls_told c.args.calls.now in
    let theirs : c.as_slice-theirs.result.now ≡ tickets_of calls c.args.met.holder = list_of config.cores calls c.args.lists.now c.args.met.holder c.index-lists-from.result c.as_slice-theirs.result.now c.requires.tickets c.requires.holder (search rules) (search rules) in (
      λ yes. absurd (true≢false (sym yes ∙ c.if-had_begun.false)),
      λ met. absurd (true≢false (sym (c.had_begun.ensures.1 (begun_tells calls c.args.met.holder c.args.met.serial c.args.entry.now c.as_slice-theirs.result.now theirs met.begun)) ∙ c.if-had_begun.false)),
    )
