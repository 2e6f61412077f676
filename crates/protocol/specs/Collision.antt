-- Two cores that block the same region, one of which finds the other's lock. This project's own.
use Rattle.std.specs.Prelude.{ℕ, List, [], ◌∷◌, reverse, map, None}
use Rattle.mon_types.specs.Replies.{done}
use Rattle.mon_types.specs.declared.region.Owner.TheVariants as owners
use Rattle.mon_types.specs.declared.call.Call.TheVariants as calls
use Rattle.mon_types.specs.declared.reply.Reply.{Reply}
use Rattle.mon_types.specs.declared.reply.Reply.TheVariants as replies
use Rattle.mon_model.specs.Tries.{tried_set}
use Rattle.hist.specs.declared.event.Event.{Event}
use Rattle.hist.specs.declared.event.Event.TheVariants as events
use Rattle.protocol.specs.declared.action.Action.{Action}
use Rattle.protocol.specs.declared.action.Action.TheVariants as actions
use Rattle.protocol.specs.declared.action.Draft.{Draft}
use Rattle.protocol.specs.declared.action.Move.{Move}
use Rattle.protocol.specs.declared.action.Move.TheVariants as moves
use Rattle.protocol.specs.declared.action.Outcome.{Outcome}
use Rattle.protocol.specs.declared.action.Outcome.TheVariants as outcomes
use Rattle.protocol.specs.Places.{Memory}
use Rattle.protocol.specs.Views.{Moves, entry_of}
use Rattle.protocol.specs.Runs.{Made, moves_of, memory_after, run_of}
use Rattle.mon_model.specs.Examples.{r1}
use Rattle.protocol.specs.Alone.{two}

-- the draft of a core's first call, a block of region 1 that has tried it, with this reply
abbrev pub block_draft : Reply → Draft
block_draft reply = record { serial = 0; call = calls.Block 1; page = None; reply = reply; tried = tried_set (r1 ∷ []) }

-- that of the call that finds the lock of core 0's call 0
abbrev pub met : Draft
met = block_draft (replies.ConcurrentCall r1 0 0)

-- a move of a core's call
abbrev pub calls_move : ℕ → Action → ℕ × Move
calls_move core a = (core, moves.InCall a)

-- The moves, the first one first. Core 0 takes the lock; core 1 finds it held, and draws; core 0 reads the row, writes
-- the own-word and draws; meanwhile core 1 looks at the region. Then core 1 looks at region 2, loads its first word,
-- swaps it for 5, and swaps again from the word that it had loaded.
abbrev pub both_block : List (ℕ × Move)
both_block =
    calls_move 0 (actions.TryLock r1)
    ∷ calls_move 1 (actions.TryLock r1)
    ∷ calls_move 1 (actions.Draw met)
    ∷ calls_move 0 (actions.Read r1 0)
    ∷ calls_move 0 (actions.Read r1 1)
    ∷ calls_move 0 (actions.Write r1 0 2)
    ∷ (1, moves.Look 1 owners.Os)
    ∷ calls_move 0 (actions.Draw (block_draft done))
    ∷ calls_move 0 (actions.Write r1 1 2)
    ∷ calls_move 0 (actions.Unlock r1)
    ∷ (1, moves.Look 2 owners.Os)
    ∷ (1, moves.Look 2 owners.Os)
    ∷ (1, moves.Load 1024)
    ∷ (1, moves.Swap 1024 0 5)
    ∷ (1, moves.Swap 1024 0 6)
    ∷ []

-- the list of moves that this is, the newest first
abbrev pub collision : List Made
collision = run_of two [] (reverse both_block)

-- its outcomes, the first one first
abbrev pub collision_outcomes : List Outcome
collision_outcomes = map (λ made. made.outcome) (reverse collision)

-- they are these
abbrev pub expected_outcomes : List Outcome
expected_outcomes =
    outcomes.Taken
    ∷ outcomes.HeldBy 0 0
    ∷ outcomes.Ticket 1
    ∷ outcomes.Word 1
    ∷ outcomes.Word 0
    ∷ outcomes.Done
    ∷ outcomes.Word 2
    ∷ outcomes.Ticket 2
    ∷ outcomes.Done
    ∷ outcomes.Done
    ∷ outcomes.Word 1
    ∷ outcomes.Word 1
    ∷ outcomes.Word 0
    ∷ outcomes.Done
    ∷ outcomes.Again 0 5
    ∷ []

-- the words at the end
abbrev pub last_words : Memory
last_words = memory_after two [] collision

-- the moves of a core
abbrev pub part : ℕ → Moves
part core = moves_of core collision

-- core 0 logs its block
abbrev pub first_log : List Event
first_log = events.Entry (entry_of 0 (block_draft done) 2) ∷ []

-- Core 1 logs its refusal. The look at a Blocked region is no touch, and the second look at region 2 is none either.
abbrev pub second_log : List Event
second_log = events.Entry (entry_of 1 met 1) ∷ events.Touch 2 0 ∷ []
