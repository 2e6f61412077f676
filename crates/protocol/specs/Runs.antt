-- One list of moves of all cores, the newest first, the words that it leaves, and each core's part of it. This
-- project's own.
use Rattle.std.specs.Prelude.{◌≡◌, ℕ, ◌<◌, ⊤, ◌==◌, if◌then◌else◌, List, [], ◌∷◌}
use Rattle.mon_types.specs.Shape.{Shape}
use Rattle.protocol.specs.declared.action.Move.{Move}
use Rattle.protocol.specs.declared.action.Outcome.{Outcome}
use Rattle.protocol.specs.Places.{Memory, first_memory}
use Rattle.protocol.specs.Moves.{place_of, word_found, outcome_of, memory_after_move}
use Rattle.protocol.specs.Views.{Moves, own_lock_word}
use Rattle.protocol.specs.Permitted.{Permitted}

-- a move that a core has made
pub record Made : Type 0 where
  pub core : ℕ
  pub move : Move
  pub outcome : Outcome

-- the moves of one core, with this one where it is the core's
unfoldable pub moves_with : ℕ → Made → Moves → Moves
moves_with core made ms = if made.core == core then (made.move, made.outcome) ∷ ms else ms

-- the moves of one core among these
unfoldable pub moves_of : ℕ → List Made → Moves
moves_of core [] = []
moves_of core (made ∷ run) = moves_with core made (moves_of core run)

-- The words after these moves, where DRAM held these at the start. Each move acts on one word, and finds what the moves
-- before it have left there.
unfoldable pub memory_after : Shape → List ℕ → List Made → Memory
memory_after shape dram [] = first_memory shape dram
memory_after shape dram (made ∷ run) =
    memory_after_move (own_lock_word made.core (moves_of made.core run)) (memory_after shape dram run) made.move

-- what a move answers after these
abbrev pub outcome_after : Shape → List ℕ → List Made → Move → Outcome
outcome_after shape dram run move = outcome_of move (word_found (memory_after shape dram run) (place_of move))

-- one more move: a core of the machine makes it, the core's view permits it, and it answers by the word that it finds
pub record IsNext (shape : Shape) (dram : List ℕ) (run : List Made) (made : Made) : Type 0 where
  pub core : made.core < shape.cores
  pub permitted : Permitted shape made.core (moves_of made.core run) made.move
  pub outcome : made.outcome ≡ outcome_after shape dram run made.move

-- a list of permitted moves from the start
abbrev pub IsRun : Shape → List ℕ → List Made → Type 0
IsRun shape dram [] = ⊤
IsRun shape dram (made ∷ run) = IsNext shape dram run made × IsRun shape dram run

-- the list where these cores make these moves, the newest first, with the outcomes that they get
unfoldable pub run_of : Shape → List ℕ → List (ℕ × Move) → List Made
run_of shape dram [] = []
run_of shape dram (x ∷ xs) =
    let run = run_of shape dram xs in
    record { core = x.0; move = x.1; outcome = outcome_after shape dram run x.1 } ∷ run
