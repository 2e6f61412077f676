-- The form of the laws of every world that a list of permitted moves gives, and the start. This project's own.
use Rattle.std.specs.Prelude.{◌≡◌, ℕ, ◌<◌, true, List, [], ◌∷◌}
use Rattle.mon_types.specs.Shape.{Shape, is_shape}
use Rattle.mon_types.specs.declared.call.Call.{Call}
use Rattle.mon_records.specs.Ranges.{IsCall}
use Rattle.protocol.specs.declared.action.Action.{Action}
use Rattle.protocol.specs.declared.action.Move.TheVariants as moves
use Rattle.protocol.specs.declared.action.Outcome.{Outcome}
use Rattle.protocol.specs.Places.{first_memory}
use Rattle.protocol.specs.CallTree.{Tree, Over, Makes, call_tree}
use Rattle.protocol.specs.Views.{Moves, call_moves, is_calling, issuer_of}
use Rattle.protocol.specs.Permitted.{Follows, most_entries, MayGoOn, Permitted}
use Rattle.protocol.specs.Worlds.{World, made_now}
use Rattle.protocol.specs.Passes.{first_pass, IsGiven}
use Rattle.protocol.specs.Invariant.{Invariant}

-- it holds of every such world, of each machine within the limits and from any words of DRAM
abbrev pub Always : (Shape → World → Type 0) → Type 0
Always P =
    (shape : Shape) → is_shape shape ≡ true → (dram : List ℕ) (count : ℕ) (w : World) → IsGiven shape dram count w
    → P shape w

-- the world at the start, where DRAM holds these words and no core has made a move
abbrev pub first_world : Shape → List ℕ → World
first_world shape dram = record { memory = first_memory shape dram; moves = λ core. [] }

-- there the one pass is core 0's, and all ten items hold
abbrev pub InvariantAtStart : Type 0
InvariantAtStart =
    (shape : Shape) → is_shape shape ≡ true → (dram : List ℕ)
    → Invariant shape dram 1 (first_pass ∷ []) (first_world shape dram)

-- ---- of any view

-- The moves that a call has made lead to what is left of it: its next move is permitted. The call's numbers are words,
-- and its serial is below 16,384.
abbrev pub LeftIsPermitted : Type 0
LeftIsPermitted =
    (shape : Shape) (core : ℕ) (ms : Moves) (call : Call) (action : Action) (next : Outcome → Tree) → IsCall call
    → (issuer_of core ms).serial < most_entries
    → Follows (call_tree shape (issuer_of core ms) call) (call_moves ms) (Makes action next)
    → Permitted shape core ms (moves.InCall action)

-- ---- of each such world

-- this is what a core that has made these moves has left of a call, and a call is under way exactly where it is something
pub record IsLeftWith (shape : Shape) (core : ℕ) (ms : Moves) (call : Call) (rest : Tree) : Type 0 where
  pub over : rest ≡ Over → call_moves ms ≡ []
  pub more : (rest ≡ Over → ⊥) → is_calling ms ≡ true
  pub follows : (rest ≡ Over → ⊥) → Follows (call_tree shape (issuer_of core ms) call) (call_moves ms) rest

-- a permitted move of a call leaves what follows its outcome
abbrev pub CallsGoOn : Shape → World → Type 0
CallsGoOn shape w =
    (core : ℕ) (action : Action) → core < shape.cores → (may : MayGoOn shape core (w.moves core) action)
    → let outcome = (made_now w core (moves.InCall action)).outcome in
    IsLeftWith shape core ((moves.InCall action, outcome) ∷ w.moves core) may.call (may.next outcome)
