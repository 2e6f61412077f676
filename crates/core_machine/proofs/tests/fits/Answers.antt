use Rattle.std.proofs.Common.{◌≡◌, ◌∙◌, ◌+◌, ◌*◌, ◌/◌, ◌%◌, ◌-◌, ◌<◌, ℕ, suc, ap, sym, arith}
use Rattle.std.proofs.lemmas.Bool.{ltb-true}
use Rattle.protocol.specs.declared.action.Move.TheVariants as moves
use Rattle.protocol.specs.declared.action.Outcome.TheVariants as outcomes
use Rattle.protocol.specs.Moves.{action_outcome, outcome_of, try_outcome}
use Rattle.core_machine.proofs.tests.fits.Goals as goal

-- the lock word of a call
held : (core serial : ℕ) → core < 16 → try_outcome (suc (2 * core + 32 * serial)) ≡ outcomes.HeldBy core serial
unfolding try_outcome
held core serial few =
    let a : suc (2 * core + 32 * serial) / 2 % 16 ≡ core = omega (arith, few) in
    let b : suc (2 * core + 32 * serial) / 32 ≡ serial = omega (arith, few) in
    ap (λ x. outcomes.HeldBy x (suc (2 * core + 32 * serial) / 32)) a ∙ ap (λ y. outcomes.HeldBy core y) b

pub returns-in-Taken : goal.returns-in-Taken
unfolding outcome_of action_outcome try_outcome
returns-in-Taken c = λ e. (0, c.in-Taken.is ∙ sym (ap (λ a. outcome_of (moves.InCall a) 0) c.in-TryLock.is))

pub returns-in-HeldBy : goal.returns-in-HeldBy
unfolding outcome_of action_outcome
returns-in-HeldBy c = λ e.
    let core = c.in-HeldBy.core in
    let serial = c.in-HeldBy.serial in (
      suc (2 * core + 32 * serial),
      c.in-HeldBy.is ∙ sym (held core serial (ltb-true core 16 e)) ∙ sym (ap (λ a. outcome_of (moves.InCall a) (suc (2 * core + 32 * serial))) c.in-TryLock.is),
    )

pub returns-in-Word : goal.returns-in-Word
unfolding outcome_of action_outcome
returns-in-Word c = λ e. (c.in-Word.field-0, c.in-Word.is ∙ sym (ap (λ a. outcome_of (moves.InCall a) c.in-Word.field-0) c.in-Read.is))

pub returns-in-Ticket : goal.returns-in-Ticket
unfolding outcome_of action_outcome
returns-in-Ticket c = λ e.
    let ticket = c.in-Ticket.ticket in
    let some : 0 < ticket = ltb-true 0 ticket e in
    let is : suc (ticket - 1) ≡ ticket = omega (arith, some) in
    (ticket - 1, c.in-Ticket.is ∙ sym (ap (λ t. outcomes.Ticket t) is) ∙ sym (ap (λ a. outcome_of (moves.InCall a) (ticket - 1)) c.in-Draw.is))

pub returns-in-Done : goal.returns-in-Done
unfolding outcome_of action_outcome
returns-in-Done c = λ e. (0, c.in-Done.is ∙ sym (ap (λ a. outcome_of (moves.InCall a) 0) c.in-Write.is))

pub returns-in-Done-outcome : goal.returns-in-Done-outcome
unfolding outcome_of action_outcome
returns-in-Done-outcome c = λ e. (0, c.in-Done-outcome.is ∙ sym (ap (λ a. outcome_of (moves.InCall a) 0) c.in-Unlock.is))
