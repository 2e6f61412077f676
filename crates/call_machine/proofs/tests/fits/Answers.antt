use Rattle.std.proofs.Common.{◌≡◌, ◌∙◌, ◌+◌, ◌*◌, ◌/◌, ◌%◌, ◌-◌, ◌<◌, ℕ, suc, ap, sym, arith}
use Rattle.std.proofs.lemmas.Bool.{ltb-true}
use Rattle.protocol.specs.declared.action.Outcome.TheVariants as outcomes
use Rattle.protocol.specs.Moves.{action_outcome, try_outcome}
use Rattle.call_machine.proofs.tests.fits.Goals as goal

-- the lock word of a call
held : (core serial : ℕ) → core < 16 → try_outcome (suc (2 * core + 32 * serial)) ≡ outcomes.HeldBy core serial
unfolding try_outcome
held core serial few =
    let a : suc (2 * core + 32 * serial) / 2 % 16 ≡ core = omega (arith, few) in
    let b : suc (2 * core + 32 * serial) / 32 ≡ serial = omega (arith, few) in
    ap (λ x. outcomes.HeldBy x (suc (2 * core + 32 * serial) / 32)) a ∙ ap (λ y. outcomes.HeldBy core y) b

pub returns-in-Taken : goal.returns-in-Taken
unfolding action_outcome try_outcome
returns-in-Taken c = λ e. (0, c.in-Taken.is ∙ sym (ap (λ a. action_outcome a 0) c.in-TryLock.is))

pub returns-in-HeldBy : goal.returns-in-HeldBy
unfolding action_outcome
returns-in-HeldBy c = λ e.
    let core = c.in-HeldBy.core in
    let serial = c.in-HeldBy.serial in (
      suc (2 * core + 32 * serial),
      c.in-HeldBy.is ∙ sym (held core serial (ltb-true core 16 e)) ∙ sym (ap (λ a. action_outcome a (suc (2 * core + 32 * serial))) c.in-TryLock.is),
    )

pub returns-in-Word : goal.returns-in-Word
unfolding action_outcome
returns-in-Word c = λ e. (c.in-Word.field-0, c.in-Word.is ∙ sym (ap (λ a. action_outcome a c.in-Word.field-0) c.in-Read.is))

pub returns-in-Ticket : goal.returns-in-Ticket
unfolding action_outcome
returns-in-Ticket c = λ e.
    let ticket = c.in-Ticket.ticket in
    let some : 0 < ticket = ltb-true 0 ticket e in
    let is : suc (ticket - 1) ≡ ticket = omega (arith, some) in
    (ticket - 1, c.in-Ticket.is ∙ sym (ap (λ t. outcomes.Ticket t) is) ∙ sym (ap (λ a. action_outcome a (ticket - 1)) c.in-Draw.is))

pub returns-in-Done : goal.returns-in-Done
unfolding action_outcome
returns-in-Done c = λ e. (0, c.in-Done.is ∙ sym (ap (λ a. action_outcome a 0) c.in-Write.is))

pub returns-in-Word-outcome : goal.returns-in-Word-outcome
unfolding action_outcome
returns-in-Word-outcome c = λ e. (c.in-Word-outcome.field-0, c.in-Word-outcome.is ∙ sym (ap (λ a. action_outcome a c.in-Word-outcome.field-0) c.in-Load.is))

pub returns-in-Done-outcome : goal.returns-in-Done-outcome
unfolding action_outcome
returns-in-Done-outcome c = λ e. (0, c.in-Done-outcome.is ∙ sym (ap (λ a. action_outcome a 0) c.in-Unlock.is))

pub returns-in-Done-outcome-2 : goal.returns-in-Done-outcome-2
unfolding action_outcome
returns-in-Done-outcome-2 c = λ e. (0, c.in-Done-outcome-2.is ∙ sym (ap (λ a. action_outcome a 0) c.in-Store.is))
