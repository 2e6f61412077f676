-- The next move of the call under way, by any moves of a core: it has drawn no ticket before a Draw, and so it is permitted.
use Rattle.std.proofs.Common.{◌≡◌, ◌<◌, ℕ, false, List, length, ap, subst}
use Rattle.mon_types.specs.Shape.{Shape}
use Rattle.mon_types.specs.declared.call.Call.{Call}
use Rattle.protocol.specs.declared.action.Action.{Action}
use Rattle.protocol.specs.declared.action.Action.TheVariants as actions
use Rattle.protocol.specs.declared.action.Draft.{Draft}
use Rattle.protocol.specs.declared.action.Outcome.{Outcome}
use Rattle.protocol.specs.CallTree.{Tree, Makes, Issuer, call_tree}
use Rattle.protocol.specs.Views.{Moves, next_serial, call_moves, issuer_of, has_drawn}
use Rattle.protocol.specs.Permitted.{Follows, most_entries, HasSerial}
use Rattle.protocol_steps.specs.Stages.{Stage, Locking, Met, Drawn, Astray, stage_of, MayMake}
use Rattle.protocol_steps.specs.Laws.{LeftIsPermitted}
use Rattle.protocol_steps.proofs.Views.{entries_before, IsOver, undrawn}
use Rattle.protocol_steps.proofs.Goes.{goes_now}

draw_first : (shape : Shape) (call : Call) (draft : Draft) (stage : Stage) → MayMake shape call stage (actions.Draw draft) → IsOver stage → ⊥
draw_first shape call draft (Locking os) may over = over
draw_first shape call draft (Met lock holder serial os) may over = over
draw_first shape call draft (Drawn other) may over = may
draw_first shape call draft Astray may over = may

-- a call that draws next has no ticket
pub none_drawn : (shape : Shape) (by : Issuer) (call : Call) (ms : List (Action × Outcome)) (draft : Draft) (next : Outcome → Tree) → Follows (call_tree shape by call) ms (Makes (actions.Draw draft) next) → has_drawn ms ≡ false
none_drawn shape by call ms draft next h =
    undrawn ms (draw_first shape call draft (stage_of ms) (goes_now shape by call ms (Makes (actions.Draw draft) next) h).0)

-- a call that has no ticket has the serial of the next entry
pub serial_next : (core : ℕ) (ms : Moves) → has_drawn (call_moves ms) ≡ false → (issuer_of core ms).serial ≡ next_serial core ms
unfolding issuer_of
serial_next core ms e = ap (λ es. length es) (entries_before core ms e)

has_serial : (shape : Shape) (core : ℕ) (ms : Moves) (call : Call) (action : Action) (next : Outcome → Tree) → (issuer_of core ms).serial < most_entries → Follows (call_tree shape (issuer_of core ms) call) (call_moves ms) (Makes action next) → HasSerial (next_serial core ms) action
has_serial shape core ms call (actions.Draw draft) next low h =
    subst (λ n. n < most_entries) (serial_next core ms (none_drawn shape (issuer_of core ms) call (call_moves ms) draft next h)) low
has_serial shape core ms call (actions.TryLock o) next low h = tt
has_serial shape core ms call (actions.Read o i) next low h = tt
has_serial shape core ms call (actions.Write o i word) next low h = tt
has_serial shape core ms call (actions.Unlock o) next low h = tt
has_serial shape core ms call (actions.Load i) next low h = tt
has_serial shape core ms call (actions.Store i word) next low h = tt

pub left_is_permitted : LeftIsPermitted
left_is_permitted shape core ms call action next is_call low h = record {
  call = call;
  next = next;
  is_call = is_call;
  follows = h;
  serial = has_serial shape core ms call action next low h;
}
