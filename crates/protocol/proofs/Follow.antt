-- A tree leads to one tree alone by the same moves and outcomes.
use Rattle.std.proofs.Common.{◌≡◌, List, [], ◌∷◌, ap, sym, ◌∙◌}
use Rattle.protocol.specs.declared.action.Action.{Action}
use Rattle.protocol.specs.declared.action.Action.TheVariants as actions
use Rattle.protocol.specs.declared.action.Draft.{Draft}
use Rattle.protocol.specs.declared.action.Outcome.{Outcome}
use Rattle.mon_types.specs.declared.call.Call.{Call}
use Rattle.protocol.specs.CallTree.{Tree, Makes, call_tree}
use Rattle.protocol.specs.Views.{Moves, call_moves, issuer_of}
use Rattle.protocol.specs.Permitted.{Follows}
use Rattle.protocol.specs.Alone.{two}
use Rattle.protocol.specs.Permits.{GoesOn}

-- the parts of a move
pub action_same : {a b : Action} {k l : Outcome → Tree} → Makes a k ≡ Makes b l → a ≡ b
action_same e = cc (e)

next_same : {a b : Action} {k l : Outcome → Tree} → Makes a k ≡ Makes b l → k ≡ l
next_same e = cc (e)

pub one_tree : (t : Tree) (ms : List (Action × Outcome)) (u v : Tree) → Follows t ms u → Follows t ms v → u ≡ v
one_tree t [] u v f g = sym f ∙ g
one_tree t (m ∷ ms) u v f g =
    sym f.2 ∙ ap (λ (k : Outcome → Tree). k m.1) (next_same (one_tree t ms (Makes m.0 f.0) (Makes m.0 g.0) f.1 g.1)) ∙ g.2

-- so behind these moves a call goes on by one action
pub one_action : (call : Call) (ms : Moves) (a b : Action) → GoesOn call ms a → GoesOn call ms b → a ≡ b
one_action call ms a b f g =
    action_same (one_tree (call_tree two (issuer_of 0 ms) call) (call_moves ms) (Makes a f.0) (Makes b g.0) f.1 g.1)

-- the draft of a Draw
pub draft_same : {d f : Draft} → actions.Draw d ≡ actions.Draw f → d ≡ f
draft_same e = cc (e)
