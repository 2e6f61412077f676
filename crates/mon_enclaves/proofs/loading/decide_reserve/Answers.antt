use Rattle.std.proofs.Common.{rules, ◌≡◌, ℕ, List, ap, ◌∙◌}
use Rattle.mon_enclaves.specs.ByWords.{reserved_reply}
use Rattle.mon_enclaves.proofs.Alike.{reserved_reply-words}
use Rattle.mon_enclaves.proofs.loading.decide_reserve.Goals as goal

pub returns-clause-by_items : goal.returns-clause-by_items
returns-clause-by_items c = λ items perms stand same.
    let by_words : c.done_if.result ≡ reserved_reply c.args.config.now c.args.enclave.now c.args.va c.args.page c.args.entries.now = search rules in
    by_words
    ∙ ap (λ (words : List ℕ). reserved_reply c.args.config.now c.args.enclave.now c.args.va c.args.page words) same
    ∙ reserved_reply-words c.args.config.now c.args.enclave.now items c.args.va perms c.args.page c.owns_page-owned.ensures.valid stand
