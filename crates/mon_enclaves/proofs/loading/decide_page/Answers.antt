use Rattle.std.proofs.Common.{rules, ◌≡◌, ℕ, List, ap, ◌∙◌}
use Rattle.mon_enclaves.specs.ByWords.{page_reply}
use Rattle.mon_enclaves.proofs.Alike.{page_reply-words}
use Rattle.mon_enclaves.proofs.loading.decide_page.Goals as goal

pub returns-clause-by_items : goal.returns-clause-by_items
returns-clause-by_items c = λ items perms stand same.
    let by_words : c.done_if.result ≡ page_reply c.args.config.now c.args.enclave.now c.args.va c.args.page c.args.source.now c.args.entries.now = search rules in
    by_words
    ∙ ap (λ (words : List ℕ). page_reply c.args.config.now c.args.enclave.now c.args.va c.args.page c.args.source.now words) same
    ∙ page_reply-words c.args.config.now c.args.enclave.now items c.args.source.now c.args.va perms c.args.page c.owns_page-owned.ensures.valid stand
