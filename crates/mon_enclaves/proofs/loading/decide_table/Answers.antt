use Rattle.std.proofs.Common.{rules, ◌≡◌, ℕ, List, ap, ◌∙◌}
use Rattle.mon_enclaves.specs.ByWords.{table_reply}
use Rattle.mon_enclaves.proofs.Alike.{table_reply-words}
use Rattle.mon_enclaves.proofs.loading.decide_table.Goals as goal

pub returns-clause-by_items : goal.returns-clause-by_items
returns-clause-by_items c = λ items stand same.
    let by_words : c.done_if.result ≡ table_reply c.args.config.now c.args.enclave.now c.args.va c.args.level c.args.page c.args.entries.now = search rules in
    by_words
    ∙ ap (λ (words : List ℕ). table_reply c.args.config.now c.args.enclave.now c.args.va c.args.level c.args.page words) same
    ∙ table_reply-words c.args.config.now c.args.enclave.now items c.args.va c.args.level c.args.page c.owns_page-owned.ensures.valid stand
