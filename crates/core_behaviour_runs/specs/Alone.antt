-- A core that is alone on the machine, from some moment on: all its moves, told in short. This project's own.
use Rattle.std.specs.Prelude.{ℕ, zero, suc, false, List, [], ◌∷◌}
use Rattle.mon_types.specs.Threads.{empty_thread}
use Rattle.mon_types.specs.Replies.{done}
use Rattle.mon_types.specs.declared.thread.Thread.{Thread}
use Rattle.mon_types.specs.declared.thread.ThreadState.TheVariants as states
use Rattle.mon_types.specs.declared.region.Owner.TheVariants as owners
use Rattle.mon_types.specs.declared.call.Call.TheVariants as calls
use Rattle.mon_types.specs.declared.script.Line.{Line}
use Rattle.mon_model.specs.State.{start, with_thread}
use Rattle.hist.specs.declared.event.Why.TheVariants as whys
use Rattle.core_context.specs.Registers.{saved_context}
use Rattle.protocol.specs.declared.action.Action.{Action}
use Rattle.protocol.specs.declared.action.Action.TheVariants as actions
use Rattle.protocol.specs.declared.action.Move.{Move}
use Rattle.protocol.specs.declared.action.Move.TheVariants as moves
use Rattle.protocol.specs.Places.{Memory, memory_of}
use Rattle.protocol.specs.Moves.{place_of, word_found, outcome_of, leaves, left_at}
use Rattle.core_behaviour.specs.Course.{Course, Ends, Acts}
use Rattle.core_behaviour.specs.Core.{Core}
use Rattle.core_behaviour_runs.specs.Machines.{draft, t0}
use Rattle.core_behaviour_runs.specs.Parts.{one, begun, aex_meets, left_after}

-- ---- the run

-- a move of a call that is told: its Draw alone
abbrev pub told_of : Action → List Move → List Move
told_of (actions.Draw draft) later = moves.InCall (actions.Draw draft) ∷ later
told_of _ later = later

-- a move that is told: one outside calls, a stop, or the Draw of a call
abbrev pub told : Move → List Move → List Move
told (moves.InCall action) later = told_of action later
told move later = move ∷ later

-- the moves that are told of a course, on these words, which no other core changes; at most so many are made. The lock
-- word of the core's calls is 1.
unfoldable pub alone : ℕ → Memory → Course → List Move
alone zero memory course = []
alone (suc count) memory Ends = []
alone (suc count) memory (Acts move next) =
    let found = word_found memory (place_of move) in
    told move
    (alone count (left_at memory (place_of move) (leaves 1 move found)) (next (outcome_of move found)))

-- thread 0 runs in enclave 0
abbrev pub running : Thread
running = record empty_thread { state = states.Running 0; entry = 64; sp = 128 }

-- the words while it does; DRAM is zeros, so each word is an illegal instruction
abbrev pub running_words : Memory
running_words = memory_of 1 (with_thread (start one) 0 running) []

-- what is told of a course there
abbrev pub told_there : Course → List Move
told_there course = alone 200 running_words course

-- what is told of these lines, from line 1 on, of a core inside enclave 0
abbrev pub told_from : Core → List Line → List Move
told_from c script = told_there (left_after c script [])

-- the same, where the first aex has found its lock held
abbrev pub told_behind_refusal : Core → List Line → List Move
told_behind_refusal c script = told_there (left_after c script (aex_meets 1))

-- ---- the cores

-- inside enclave 0, entered by guest code
abbrev pub inside_by_guest : Core → Core
inside_by_guest c = record c { by_line = false }

-- ---- what is told

-- the Draw of an Ok aex with this serial, which saves this cause
abbrev pub exits : ℕ → ℕ → Move
exits serial cause =
    moves.InCall (actions.Draw
    (draft serial (calls.Aex (saved_context begun.contexts.current cause)) done (t0 ∷ [])))

-- the first word of DRAM is loaded, for the OS: a fetch there, or a line `load`
abbrev pub loads_there : List Move
loads_there = moves.Look 0 owners.Os ∷ moves.Load 0 ∷ []

-- a turn of the OS there: the fetch, and the trap of an illegal instruction, logged at line 1
abbrev pub os_turn : List Move
os_turn = moves.Look 0 owners.Os ∷ moves.Load 0 ∷ moves.Stop 1 (whys.Trap 2 0) ∷ []
