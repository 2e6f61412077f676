-- Two cores that each store one byte into the same word. This project's own; what the instruction is, is said by
-- rv_decode.
use Rattle.std.specs.Prelude.{ℕ, List, [], ◌∷◌}
use Rattle.mon_types.specs.declared.image.Image.{Image}
use Rattle.mon_types.specs.declared.region.Owner.TheVariants as owners
use Rattle.mon_types.specs.declared.script.Line.{Line}
use Rattle.mon_types.specs.declared.script.Line.TheVariants as lines
use Rattle.hist.specs.declared.event.Event.{Event}
use Rattle.hist.specs.declared.event.Event.TheVariants as events
use Rattle.protocol.specs.declared.action.Move.{Move}
use Rattle.protocol.specs.declared.action.Move.TheVariants as moves
use Rattle.protocol.specs.declared.action.Outcome.{Outcome}
use Rattle.protocol.specs.declared.action.Outcome.TheVariants as outcomes
use Rattle.protocol.specs.Places.{Memory}
use Rattle.protocol.specs.Runs.{Made, memory_after}
use Rattle.core_behaviour.specs.Runs.{run_by, start_words}
use Rattle.core_behaviour_runs.specs.Machines.{small}

-- sb x11, 0(x12)
abbrev pub narrow_store : ℕ
narrow_store = 0x00b6_0023

-- it stands at the start of DRAM
abbrev pub storing : Image
storing = small 2 (record { address = 0x8000_0000; words = narrow_store ∷ [] } ∷ [])

-- core 0 stores 1 into byte 0 of region 1, and core 1 stores 2 into byte 1, for which it has two turns
abbrev pub both_store : List (List Line)
both_store =
    (lines.SetReg 11 1 ∷ lines.SetReg 12 0x8000_1000 ∷ lines.Run 1 ∷ [])
    ∷ (lines.SetReg 11 2 ∷ lines.SetReg 12 0x8000_1001 ∷ lines.Run 2 ∷ [])
    ∷ []

-- each makes four moves, then core 0 its Swap, then core 1 its own; then three rounds
abbrev pub race : List Made
race = run_by storing both_store (0 ∷ 0 ∷ 0 ∷ 0 ∷ 1 ∷ 1 ∷ 1 ∷ 1 ∷ 0 ∷ 1 ∷ []) 3

-- the moves of core 0, the first one first
abbrev pub winner_moves : List (Move × Outcome)
winner_moves =
    (moves.Look 0 owners.Os, outcomes.Word 1)
    ∷ (moves.Load 0, outcomes.Word narrow_store)
    ∷ (moves.Look 1 owners.Os, outcomes.Word 1)
    ∷ (moves.Load 512, outcomes.Word 0)
    ∷ (moves.Swap 512 0 1, outcomes.Done)
    ∷ []

-- those of core 1, whose first Swap finds another word, so that its first turn is spent; the second finds both pages in
-- the translation cache
abbrev pub loser_moves : List (Move × Outcome)
loser_moves =
    (moves.Look 0 owners.Os, outcomes.Word 1)
    ∷ (moves.Load 0, outcomes.Word narrow_store)
    ∷ (moves.Look 1 owners.Os, outcomes.Word 1)
    ∷ (moves.Load 512, outcomes.Word 0)
    ∷ (moves.Swap 512 0 512, outcomes.Again 0 1)
    ∷ (moves.Load 0, outcomes.Word narrow_store)
    ∷ (moves.Load 512, outcomes.Word 1)
    ∷ (moves.Swap 512 1 513, outcomes.Done)
    ∷ []

-- the log of each
abbrev pub both_touch : List Event
both_touch = events.Touch 0 0 ∷ events.Touch 1 0 ∷ []

-- the words at the end
abbrev pub raced_words : Memory
raced_words = memory_after storing.config (start_words storing) race
