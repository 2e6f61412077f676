-- The shared words and what each core has made, at one moment, and what they tell together. This project's own.
use Rattle.std.specs.Prelude.{◌≡◌, ◌⊎◌, ℕ, ◌<◌, List, map, Contains}
use Rattle.std.specs.List.{range_with_len}
use Rattle.mon_types.specs.Shape.{Shape}
use Rattle.mon_types.specs.declared.call.Call.{Call}
use Rattle.mon_types.specs.declared.object.ObjectId.{ObjectId}
use Rattle.mon_model.specs.State.{State}
use Rattle.hist.specs.declared.event.Entry.{Entry}
use Rattle.hist.specs.declared.event.Event.{Event}
use Rattle.hist.specs.History.{history, last_state}
use Rattle.protocol.specs.declared.action.Action.{Action}
use Rattle.protocol.specs.declared.action.Move.{Move}
use Rattle.protocol.specs.declared.action.Outcome.{Outcome}
use Rattle.protocol.specs.Places.{Memory}
use Rattle.protocol.specs.Moves.{place_of, word_found, outcome_of, memory_after_move}
use Rattle.protocol.specs.CallTree.{Tree, Over, Makes, call_tree}
use Rattle.protocol.specs.Views.{Moves, core_log, answers_of, held_of, call_moves, issuer_of, own_lock_word}
use Rattle.protocol.specs.Permitted.{Follows}
use Rattle.protocol.specs.Runs.{Made, moves_with}

-- the shared words, and the moves of each core
pub record World : Type 0 where
  pub memory : Memory
  pub moves : ℕ → Moves

-- the log of each core, one after the other
abbrev pub logs : Shape → World → List (List Event)
logs shape w = map (λ core. core_log core (w.moves core)) (range_with_len 0 shape.cores)

-- the answers of each core
abbrev pub answers : Shape → World → List (List ℕ)
answers shape w = map (λ core. answers_of (w.moves core)) (range_with_len 0 shape.cores)

-- all entries, in ticket order
abbrev pub entries : Shape → World → List Entry
entries shape w = history (logs shape w)

-- S: the state of the monitor after all tickets drawn so far
abbrev pub state_now : Shape → World → State
state_now shape w = last_state shape (logs shape w)

-- a core of the machine holds the object
pub record IsHeldBy (shape : Shape) (w : World) (core : ℕ) (o : ObjectId) : Type 0 where
  pub of_machine : core < shape.cores
  pub held : Contains (held_of (w.moves core)) o

-- no core does
abbrev pub IsNotHeld : Shape → World → ObjectId → Type 0
IsNotHeld shape w o = (core : ℕ) → IsHeldBy shape w core o → ⊥

-- the core's call under way may be this one, and then this is what it has still to do
pub record IsDoing (shape : Shape) (w : World) (core : ℕ) (call : Call) (rest : Tree) : Type 0 where
  pub follows : Follows (call_tree shape (issuer_of core (w.moves core)) call) (call_moves (w.moves core)) rest

-- whatever the outcomes are, this action comes in what a call has still to do
abbrev pub WillDo : Action → Tree → Type 0
WillDo action Over = ⊥
WillDo action (Makes a next) = (a ≡ action) ⊎ ((outcome : Outcome) → WillDo action (next outcome))

-- some call fits what the core has made of its call under way
pub record IsDoingSome (shape : Shape) (w : World) (core : ℕ) : Type 0 where
  pub call : Call
  pub rest : Tree
  pub doing : IsDoing shape w core call rest

-- ---- one more move

-- a move that a core makes at this moment, with its outcome
abbrev pub made_now : World → ℕ → Move → Made
made_now w core move =
    record { core = core; move = move; outcome = outcome_of move (word_found w.memory (place_of move)) }

-- the moment after it: one word may be another, and the core's view has the move in front
unfoldable pub world_after : World → ℕ → Move → World
world_after w core move =
    record {
      memory = memory_after_move (own_lock_word core (w.moves core)) w.memory move;
      moves = λ c. moves_with c (made_now w core move) (w.moves c);
    }
