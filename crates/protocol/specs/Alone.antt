-- A call that a core makes while no other core moves, and how its moves are written down. This project's own.
use Rattle.std.specs.Prelude.{ℕ, zero, suc, List, [], ◌∷◌, None}
use Rattle.mon_types.specs.Shape.{Shape, plain}
use Rattle.mon_types.specs.Locks.{lock_word}
use Rattle.mon_types.specs.declared.thread.Mode.TheVariants as modes
use Rattle.mon_types.specs.declared.call.Call.{Call}
use Rattle.mon_types.specs.declared.reply.Reply.{Reply}
use Rattle.mon_types.specs.declared.object.ObjectId.{ObjectId}
use Rattle.mon_types.specs.declared.object.ObjectId.TheVariants as objects
use Rattle.mon_model.specs.State.{State, start}
use Rattle.mon_model.specs.Tries.{tried_set}
use Rattle.protocol.specs.declared.action.Action.{Action}
use Rattle.protocol.specs.declared.action.Action.TheVariants as actions
use Rattle.protocol.specs.declared.action.Outcome.{Outcome}
use Rattle.protocol.specs.declared.action.Outcome.TheVariants as outcomes
use Rattle.protocol.specs.Places.{Place, Memory, with_word, memory_of}
use Rattle.protocol.specs.Moves.{action_place, action_outcome, action_leaves}
use Rattle.protocol.specs.CallTree.{Tree, Over, Makes, Issuer, call_tree}

-- ---- the run

-- the moves of a tree, at most so many, with the outcomes that they get, where no other core moves
unfoldable pub alone : ℕ → ℕ → Memory → Tree → List (Action × Outcome)
alone zero mine memory tree = []
alone (suc count) mine memory Over = []
alone (suc count) mine memory (Makes a next) =
    let place = action_place a in
    let found = memory place in
    let outcome = action_outcome a found in
    (a, outcome) ∷ alone count mine (with_word memory place (action_leaves mine a found)) (next outcome)

-- two cores, and 8 regions of one page
abbrev pub two : Shape
two = plain 2

-- its start
abbrev pub begin : State
begin = start two

-- core 1 makes its call 3, for the OS, where it has 10 answers
abbrev pub by_os : Issuer
by_os = record { core = 1; serial = 3; mode = modes.Os; answers = 10 }

-- the same for the enclave in slot 3, by thread 2
abbrev pub by_enclave : Issuer
by_enclave = record { core = 1; serial = 3; mode = modes.Inside 3 2; answers = 10 }

-- the first moves of a call, at most so many, where 20 tickets were drawn, the rows hold the records of s, and DRAM
-- these words
abbrev pub first_moves : ℕ → State → List ℕ → Issuer → Call → List (Action × Outcome)
first_moves count s dram by call =
    alone count (lock_word by.core by.serial) (memory_of 20 s dram) (call_tree two by call)

-- all of them, where they are fewer than 2,000
abbrev pub all_moves : State → Issuer → Call → List (Action × Outcome)
all_moves s by call = first_moves 2000 s [] by call

-- all of them where a word of a row is another than the record's
abbrev pub odd_moves : State → List ℕ → Place → ℕ → Issuer → Call → List (Action × Outcome)
odd_moves s dram place word by call =
    alone 2000 (lock_word by.core by.serial) (with_word (memory_of 20 s dram) place word) (call_tree two by call)

-- ---- moves as they are written down here

-- reads of the words of a row, from place i on
abbrev pub row_reads : ObjectId → ℕ → List ℕ → List (Action × Outcome)
row_reads o i [] = []
row_reads o i (word ∷ words) = (actions.Read o i, outcomes.Word word) ∷ row_reads o (suc i) words

-- the lock is taken, and the words of the row are read
abbrev pub takes : ObjectId → List ℕ → List (Action × Outcome)
takes o words = (actions.TryLock o, outcomes.Taken) ∷ row_reads o 0 words

-- a word of a row is written
abbrev pub writes : ObjectId → ℕ → ℕ → Action × Outcome
writes o i word = (actions.Write o i word, outcomes.Done)

-- ticket 21 is drawn, with this reply, by call 3, which has tried these objects and read no page
abbrev pub draws : Call → Reply → List ObjectId → Action × Outcome
draws call reply tried = (
  actions.Draw (record { serial = 3; call = call; page = None; reply = reply; tried = tried_set tried }),
  outcomes.Ticket 21,
)

-- the lock is given back
abbrev pub gives : ObjectId → Action × Outcome
gives o = (actions.Unlock o, outcomes.Done)

-- a word of DRAM is loaded
abbrev pub loads : ℕ → ℕ → Action × Outcome
loads i word = (actions.Load i, outcomes.Word word)

-- a word of DRAM is stored
abbrev pub stores : ℕ → ℕ → Action × Outcome
stores i word = (actions.Store i word, outcomes.Done)

-- ---- objects

-- enclave slots 3 and 5
abbrev pub e3 : ObjectId
e3 = objects.Enclave 3

-- the other
abbrev pub e5 : ObjectId
e5 = objects.Enclave 5

-- thread slot 2
abbrev pub t2 : ObjectId
t2 = objects.Thread 2
