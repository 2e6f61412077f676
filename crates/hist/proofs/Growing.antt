-- A history with one more entry, and a history that stands in ticket order.
use Rattle.std.proofs.Common.{◌≡◌, ℕ, zero, suc, ◌+◌, ◌<◌, List, [], ◌∷◌, ◌++◌, length, refl, ap, ◌∙◌, arith, append-nil}
use Rattle.mon_model.specs.State.{State}
use Rattle.hist.specs.declared.event.Entry.{Entry}
use Rattle.hist.specs.declared.event.Event.{Event}
use Rattle.hist.specs.History.{entries_of, placed, in_ticket_order, history, after_entry, after_entries}
use Rattle.hist.specs.Legal.{AreTickets, AreOwn, AreOwnLogs, AreLegalEntries, IsLegalEntry}
use Rattle.hist.proofs.Ordered.{AreAbove, placed_first}

-- ---- one more entry behind others

pub tickets_more : (k : ℕ) (es : List Entry) (e : Entry) → AreTickets k es → e.ticket ≡ k + length es → AreTickets k (es ++ e ∷ [])
tickets_more k [] e tickets next = (omega (arith, next), tt)
tickets_more k (x ∷ es) e tickets next = (tickets.0, tickets_more (k + 1) es e tickets.1 (omega (arith, next)))

-- tickets that follow one another ascend
pub own_more : (core serial before k : ℕ) (es : List Entry) (e : Entry) → AreTickets k es → before < k → AreOwn core serial before es
    → e.core ≡ core → e.serial ≡ serial + length es → e.ticket ≡ k + length es → AreOwn core serial before (es ++ e ∷ [])
own_more core serial before k [] e tickets lt own same at next = (record { core = same; serial = omega (arith, at); ascends = omega (arith, next, lt) }, tt)
own_more core serial before k (x ∷ es) e tickets lt own same at next =
    (own.0, own_more core (serial + 1) x.ticket (k + 1) es e tickets.1 (omega (arith, tickets.0)) own.1 same (omega (arith, at)) (omega (arith, next)))

pub legal_more : (s : State) (es : List Entry) (e : Entry) → AreLegalEntries s es → IsLegalEntry (after_entries s es) e → AreLegalEntries s (es ++ e ∷ [])
legal_more s [] e legal here = (here, tt)
legal_more s (x ∷ es) e legal here = (legal.0, legal_more (after_entry s x) es e legal.1 here)

pub after_more : (s : State) (es : List Entry) (e : Entry) → after_entries s (es ++ e ∷ []) ≡ after_entry (after_entries s es) e
after_more s [] e = refl
after_more s (x ∷ es) e = after_more (after_entry s x) es e

-- ---- one list of entries in ticket order

tickets_above : (t k : ℕ) (es : List Entry) → t < k → AreTickets k es → AreAbove t es
tickets_above t k [] lt tickets = tt
tickets_above t k (e ∷ es) lt tickets = (omega (arith, tickets.0), tickets_above t (k + 1) es (omega arith) tickets.1)

pub ordered : (k : ℕ) (es : List Entry) → AreTickets k es → in_ticket_order es ≡ es
ordered k [] tickets = refl
ordered k (e ∷ es) tickets =
    ap (placed e) (ordered (k + 1) es tickets.1) ∙ placed_first e es (tickets_above e.ticket (k + 1) es (omega (arith, tickets.0)) tickets.1)

-- a machine of one core has the entries of its log as its history
pub history_of_one : (log : List Event) → AreTickets 1 (entries_of log) → history (log ∷ []) ≡ entries_of log
history_of_one log t = ap in_ticket_order (append-nil (entries_of log)) ∙ ordered 1 (entries_of log) t

-- and is the one core that owns a log
pub own_of_one : (log : List Event) → AreOwn 0 0 0 (entries_of log) → AreOwnLogs (log ∷ [])
own_of_one log own zero lt = own
own_of_one log own (suc core) lt = absurd (omega arith)
