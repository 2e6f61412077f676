use Rattle.std.proofs.Common.{◌≡◌, ℕ, ◌+◌, ◌-◌, ◌<◌, ◌==◌, true, false, None, length, sym, subst, ◌∙◌, arith}
use Rattle.std.proofs.lemmas.Bool.{eq-eqb, ne_eqb}
use Rattle.legal_report.specs.Drawn.{call_with_ticket}
use Rattle.legal_report.specs.Kept.{calls_told}
use Rattle.legal_report.proofs.Finding.{no_such_ticket, no_ticket_zero, call_there, anothers_call}
use Rattle.legal_report.proofs.Placed.{all_calls}
use Rattle.legal_report.proofs.tickets.Calls.with_ticket.Goals as goal

pub returns-then-ticket-eq0 : goal.returns-then-ticket-eq0
returns-then-ticket-eq0 c =
    let calls = calls_told c.args.self.now in
    subst (λ (n : ℕ). call_with_ticket calls c.args.core n ≡ None) (sym c.if-ticket-eq0.true) (no_ticket_zero calls c.args.core)

pub returns-then-place-self : goal.returns-then-place-self
returns-then-place-self c =
    let self = c.args.self.now in
    no_such_ticket (calls_told self) c.args.core c.args.ticket (omega (arith, all_calls self.config.now self.bytes.now self.places.now))

pub returns-then-entry-core : goal.returns-then-entry-core
returns-then-entry-core c =
    call_there (calls_told c.args.self.now) c.args.core c.args.ticket (c.args.ticket - 1) c.at-entry.result (omega arith) c.at-entry.ensures.call (eq-eqb c.at-entry.result.core c.args.core c.if-entry-core.true)

pub returns-else-entry-core : goal.returns-else-entry-core
returns-else-entry-core c =
    anothers_call (calls_told c.args.self.now) c.args.core c.args.ticket (c.args.ticket - 1) c.at-entry.result (omega arith) c.at-entry.ensures.call (ne_eqb c.at-entry.result.core c.args.core c.if-entry-core.false)
