use Rattle.std.proofs.Common.{ℕ, subst}
use Rattle.protocol.specs.declared.action.Move.TheVariants as moves
use Rattle.protocol.specs.Views.{Moves, next_serial}
use Rattle.protocol.specs.Permitted.{HasSerial, Permitted}
use Rattle.call_machine.specs.Kept.{Called}
use Rattle.call_machine.specs.Meaning.{tree_of, LedTo}
use Rattle.call_machine.proofs.Permits.{first_is_permitted}
use Rattle.call_machine.proofs.machine.CallMachine.next.Goals as goal

pub returns-clause-permitted : goal.returns-clause-permitted
returns-clause-permitted c =
    let w = c.self.inside.work in
    let inside : (core : ℕ) (ms : Moves) → LedTo w core ms → HasSerial (next_serial core ms) c.next.result → Permitted w.config core ms (moves.InCall c.next.result) = λ core ms led serial.
    first_is_permitted w.config core ms w.call c.self.invariant.based.is_call (tree_of w) c.next.result led c.next.ensures serial in
    subst (λ (m : Called). (core : ℕ) (ms : Moves) → LedTo m.work core ms → HasSerial (next_serial core ms) c.next.result → Permitted m.work.config core ms (moves.InCall c.next.result)) c.self.view_is inside
