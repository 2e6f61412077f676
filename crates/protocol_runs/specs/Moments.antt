-- Moments at which the items of the invariant hold, and moments at which they do not. This project's own.
use Rattle.std.specs.Prelude.{ℕ, ◌+◌, ◌==◌, if◌then◌else◌, List, [], ◌∷◌, Some, None}
use Rattle.mon_types.specs.Shape.{Shape, plain}
use Rattle.mon_types.specs.Replies.{done}
use Rattle.mon_types.specs.declared.region.Owner.TheVariants as owners
use Rattle.mon_types.specs.declared.call.Call.{Call}
use Rattle.mon_types.specs.declared.call.Call.TheVariants as calls
use Rattle.mon_types.specs.declared.object.ObjectId.{ObjectId}
use Rattle.mon_model.specs.Tries.{tried_set}
use Rattle.protocol.specs.declared.action.Action.{Action}
use Rattle.protocol.specs.declared.action.Action.TheVariants as actions
use Rattle.protocol.specs.declared.action.Move.{Move}
use Rattle.protocol.specs.declared.action.Move.TheVariants as moves
use Rattle.protocol.specs.declared.action.Outcome.{Outcome}
use Rattle.protocol.specs.declared.action.Outcome.TheVariants as outcomes
use Rattle.protocol.specs.Places.{Place, Counter, Lock, Row, Dram, first_memory, with_word}
use Rattle.protocol.specs.CallTree.{Tree, call_tree}
use Rattle.protocol.specs.Views.{Moves, call_moves, issuer_of}
use Rattle.protocol.specs.Permitted.{Follows}
use Rattle.protocol.specs.Worlds.{World, WillDo}
use Rattle.protocol.specs.Passes.{Pass, first_pass}
use Rattle.mon_model.specs.Examples.{r1, c0}
use Rattle.protocol.specs.Alone.{two, e3}
use Rattle.protocol.specs.Collision.{block_draft}
use Rattle.protocol.specs.Permits.{has_lock, has_written, has_looked}

-- ---- the start

-- no core has moved
abbrev pub begun : World
begun = record { memory = first_memory two []; moves = λ core. [] }

-- the same with another word at a place
abbrev pub begun_with : Place → ℕ → World
begun_with place word = record begun { memory = with_word (first_memory two []) place word }

-- the words of the start, where core 0 has made these moves and core 1 none
abbrev pub alone_with : Moves → World
alone_with ms = record { memory = first_memory two []; moves = λ core. if core == 0 then ms else [] }

-- the same, with another word at a place
abbrev pub alone_with_word : Moves → Place → ℕ → World
alone_with_word ms place word =
    record { memory = with_word (first_memory two []) place word; moves = λ core. if core == 0 then ms else [] }

-- ---- 1

-- two passes, both of core 0
abbrev pub twice : List Pass
twice = first_pass ∷ first_pass ∷ []

-- ---- 2

-- a ticket was drawn, and there is no entry
abbrev pub lost_entry : World
lost_entry = begun_with Counter 1

-- ---- 3

-- a lock is held by nobody
abbrev pub lock_of_nobody : World
lock_of_nobody = begun_with (Lock r1) 1

-- core 0 has the lock, and its word says so
abbrev pub locked : World
locked = alone_with_word has_lock (Lock r1) 1

-- core 0 has the lock, and its word is 0
abbrev pub held_unlocked : World
held_unlocked = alone_with has_lock

-- ---- 4 and 5

-- the own-word of region 1 is 0, and no core holds the region
abbrev pub other_row : World
other_row = begun_with (Row r1 0) 0

-- core 0 holds region 1, whose own-word reads Blocked though core 0 has written nothing
abbrev pub written_by_nobody : World
written_by_nobody = alone_with_word has_lock (Row r1 0) 2

-- a block of region 1 has drawn ticket 1
abbrev pub has_drawn_block : Moves
has_drawn_block = (moves.InCall (actions.Draw (block_draft done)), outcomes.Ticket 1) ∷ has_written

-- and has written it
abbrev pub has_written_late : Moves
has_written_late = (moves.InCall (actions.Write r1 1 1), outcomes.Done) ∷ has_drawn_block

-- core 0 has the lock, and its block has written the own-word, Blocked, before the Draw
abbrev pub written_early : World
written_early = record {
  memory = with_word (with_word (first_memory two []) (Lock r1) 1) (Row r1 0) 2;
  moves = λ core. if core == 0 then has_written else [];
}

-- and has drawn ticket 1, which it has still to write
abbrev pub drawn_early : World
drawn_early = record written_early { moves = λ core. if core == 0 then has_drawn_block else [] }

-- ---- 6

-- the own-word of region 1 reads Owned by the enclave in slot 3 since ticket 7
abbrev pub other_owner : World
other_owner = begun_with (Row r1 0) 465

-- ---- 7

-- core 0 has touched region 2 since 0
abbrev pub touched_since_0 : World
touched_since_0 = alone_with (has_looked 2)

-- core 0 has found region 1 Owned by the OS since ticket 5: 1 + 64 * 5
abbrev pub touched_since_5 : World
touched_since_5 = alone_with ((moves.Look 1 owners.Os, outcomes.Word 321) ∷ [])

-- ---- 8 and 9: one core, whose calls have drawn their tickets and hold nothing

-- the machine
abbrev pub one : Shape
one = plain 1

-- a call that was Ok, with this serial, one ticket above it, and these tried objects
abbrev pub drawn : ℕ → Call → List ObjectId → Move × Outcome
drawn serial call tried = (
  moves.InCall (actions.Draw (record {
    serial = serial;
    call = call;
    page = None;
    reply = done;
    tried = tried_set tried;
  })),
  outcomes.Ticket (serial + 1),
)

-- region 1 was blocked, the core has flushed, and the region was freed
abbrev pub freed_moves : Moves
freed_moves =
    drawn 2 (calls.Free 1) (r1 ∷ c0 ∷ []) ∷ drawn 1 calls.Flush (c0 ∷ []) ∷ drawn 0 (calls.Block 1) (r1 ∷ []) ∷ []

-- then an enclave was begun in slot 3, and has the region
abbrev pub loading_moves : Moves
loading_moves = drawn 4 (calls.Assign 1 3) (e3 ∷ r1 ∷ []) ∷ drawn 3 (calls.Create 3 0 4096) (e3 ∷ []) ∷ freed_moves

-- then a call holds the enclave, and has stored 7 in word 512, the first of region 1
abbrev pub storing_moves : Moves
storing_moves =
    (moves.InCall (actions.Store 512 7), outcomes.Done)
    ∷ (moves.InCall (actions.TryLock e3), outcomes.Taken)
    ∷ loading_moves

-- a page was loaded of which no word was given
abbrev pub unread_moves : Moves
unread_moves = (
  moves.InCall (actions.Draw (record {
    serial = 0;
    call = calls.LoadPage 3 0 2 3 1;
    page = Some record { digest = []; at = 0 };
    reply = done;
    tried = tried_set [];
  })),
  outcomes.Ticket 1,
)
    ∷ []

-- DRAM of zeros, but for this in word 512, the first of region 1
abbrev pub with_first_word : Moves → ℕ → World
with_first_word ms word = record { memory = with_word (first_memory one []) (Dram 512) word; moves = λ core. ms }

-- DRAM of zeros
abbrev pub with_zeros : Moves → World
with_zeros ms = record { memory = first_memory one []; moves = λ core. ms }

-- ---- 10

-- core 1 has found the lock of region 1 held by core 0's call 0, and core 0 has made no move
abbrev pub found_of_nobody : World
found_of_nobody = record {
  memory = with_word (first_memory two []) (Lock r1) 1;
  moves = λ core. if core == 1 then (moves.InCall (actions.TryLock r1), outcomes.HeldBy 0 0) ∷ [] else [];
}

-- ---- what is under way

-- core 0 has read a row, and holds nothing: no call begins so
abbrev pub read_first : World
read_first = alone_with ((moves.InCall (actions.Read r1 0), outcomes.Word 1) ∷ [])

-- behind these moves of core 0 this call still makes this action, whatever the outcomes are
abbrev pub StillMakes : Call → Moves → Action → Type 0
StillMakes call ms action =
    (rest : Tree) × Follows (call_tree two (issuer_of 0 ms) call) (call_moves ms) rest × WillDo action rest
