-- What a core has left of its call under way: the first move is permitted.
use Rattle.std.proofs.Common.{ℕ, sym, subst}
use Rattle.mon_types.specs.Shape.{Shape}
use Rattle.mon_types.specs.declared.call.Call.{Call}
use Rattle.mon_records.specs.Ranges.{IsCall}
use Rattle.protocol.specs.declared.action.Action.{Action}
use Rattle.protocol.specs.CallTree.{Tree, Over, Makes, call_tree}
use Rattle.protocol.specs.Views.{Moves, next_serial, call_moves, issuer_of}
use Rattle.protocol.specs.Permitted.{Follows, HasSerial, MayGoOn}
use Rattle.call_machine.specs.Meaning.{Heads}

module _ (shape : Shape) (core : ℕ) (ms : Moves) (call : Call) (is_call : IsCall call) where
  pub first_is_permitted : (tree : Tree) (action : Action) → Follows (call_tree shape (issuer_of core ms) call) (call_moves ms) tree → Heads tree action → HasSerial (next_serial core ms) action → MayGoOn shape core ms action
  first_is_permitted Over action led first serial = absurd first
  first_is_permitted (Makes a next) action led first serial = record {
    call = call;
    next = next;
    is_call = is_call;
    follows = subst (λ z. Follows (call_tree shape (issuer_of core ms) call) (call_moves ms) (Makes z next)) (sym first) led;
    serial = serial;
  }
