use Rattle.std.proofs.Common.{◌≡◌, ℕ, ◌<◌, ◌≤◌, List, Some, None, slice_get, length, ap, sym, ◌∙◌, rules, arith}
use Rattle.std.proofs.lemmas.Bool.{true≢false}
use Rattle.legal_report.specs.Counted.{tickets_of}
use Rattle.legal_report.specs.Kept.{calls_told}
use Rattle.legal_report.proofs.Lists.{list_of}
use Rattle.legal_report.proofs.Placed.{all_calls}
use Rattle.legal_report.proofs.Took.{not_taken, has_place, taken_at}
use Rattle.legal_report.proofs.busy.has_taken.Goals as goal

pub returns-in_default : goal.returns-in_default
returns-in_default c =
    let calls = calls_told c.args.calls.now in
    let tickets : c.as_slice-tickets.result.now ≡ tickets_of calls c.args.met.holder = list_of c.args.calls.now.config.now.cores calls c.args.lists.now c.args.met.holder c.index-lists-from.result c.as_slice-tickets.result.now c.requires.tickets c.requires.holder (search rules) (search rules) in
    let none : slice_get (tickets_of calls c.args.met.holder) c.args.met.serial ≡ None = ap (λ (ts : List ℕ). slice_get ts c.args.met.serial) (sym tickets) ∙ sym c.ticket_at.ensures ∙ c.in_default.is in
    (λ yes. absurd (true≢false (sym yes)), λ has. absurd (not_taken calls c.args.met.holder c.args.met.serial c.args.met.lock none has))

pub overflow_sub-ticket : goal.overflow_sub-ticket
overflow_sub-ticket c =
    let calls = calls_told c.args.calls.now in
    let tickets : c.as_slice-tickets.result.now ≡ tickets_of calls c.args.met.holder = list_of c.args.calls.now.config.now.cores calls c.args.lists.now c.args.met.holder c.index-lists-from.result c.as_slice-tickets.result.now c.requires.tickets c.requires.holder (search rules) (search rules) in
    let some : slice_get (tickets_of calls c.args.met.holder) c.args.met.serial ≡ Some c.in-Some.ticket = ap (λ (ts : List ℕ). slice_get ts c.args.met.serial) (sym tickets) ∙ sym c.ticket_at.ensures ∙ c.in-Some.is in
    (has_place calls c.args.met.holder c.args.met.serial c.in-Some.ticket some).some

pub at-entry-requires-clause-k : goal.at-entry-requires-clause-k
at-entry-requires-clause-k c =
    let calls = calls_told c.args.calls.now in
    let tickets : c.as_slice-tickets.result.now ≡ tickets_of calls c.args.met.holder = list_of c.args.calls.now.config.now.cores calls c.args.lists.now c.args.met.holder c.index-lists-from.result c.as_slice-tickets.result.now c.requires.tickets c.requires.holder (search rules) (search rules) in
    let some : slice_get (tickets_of calls c.args.met.holder) c.args.met.serial ≡ Some c.in-Some.ticket = ap (λ (ts : List ℕ). slice_get ts c.args.met.serial) (sym tickets) ∙ sym c.ticket_at.ensures ∙ c.in-Some.is in
    let inside = (has_place calls c.args.met.holder c.args.met.serial c.in-Some.ticket some).inside in
    omega (arith, inside, all_calls c.args.calls.now.config.now c.args.calls.now.bytes.now c.args.calls.now.places.now)

pub returns : goal.returns
returns c =
    let calls = calls_told c.args.calls.now in
    let tickets : c.as_slice-tickets.result.now ≡ tickets_of calls c.args.met.holder = list_of c.args.calls.now.config.now.cores calls c.args.lists.now c.args.met.holder c.index-lists-from.result c.as_slice-tickets.result.now c.requires.tickets c.requires.holder (search rules) (search rules) in
    let some : slice_get (tickets_of calls c.args.met.holder) c.args.met.serial ≡ Some c.in-Some.ticket = ap (λ (ts : List ℕ). slice_get ts c.args.met.serial) (sym tickets) ∙ sym c.ticket_at.ensures ∙ c.in-Some.is in
    taken_at calls c.args.met.holder c.args.met.serial c.in-Some.ticket c.args.met.lock c.at-entry.result c.took.result some c.at-entry.ensures.call c.took.ensures
