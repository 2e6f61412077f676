use Rattle.std.proofs.Common.{ap, sym, ◌∙◌, ◌+◌, ℕ, rules}
use Rattle.legal_report.specs.Kept.{calls_told}
use Rattle.legal_report.proofs.Lists.{list_of}
use Rattle.legal_report.proofs.Decided.{numbered_by}
use Rattle.legal_report.proofs.calls.is_numbered.Goals as goal

pub returns-then-entry-ticket : goal.returns-then-entry-ticket
returns-then-entry-ticket c =
    let calls = calls_told c.args.calls.now in
    let tickets = list_of c.args.calls.now.config.now.cores calls c.args.lists.now c.args.entry.now.core c.index-lists-from.result c.as_slice-tickets.result.now c.requires.tickets c.requires.core (search rules) (search rules) in
    numbered_by calls c.args.k c.args.entry.now c.as_slice-tickets.result.now (c.args.k + 1) c.has_ticket.result c.requires.call tickets (search rules) c.if-entry-ticket.true c.has_ticket.ensures
