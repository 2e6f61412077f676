-- An enclave that is entered, left and gone back to, by a core that is alone. This project's own.
use Rattle.std.specs.Prelude.{ℕ, List, [], ◌∷◌, ◌++◌, replicate, slice_set, Some}
use Rattle.mon_types.specs.Replies.{done, ok_with_word}
use Rattle.mon_types.specs.Budgets.{tick_cause}
use Rattle.mon_types.specs.Enclaves.{empty_enclave}
use Rattle.mon_types.specs.Threads.{empty_thread}
use Rattle.mon_types.specs.declared.region.Owner.TheVariants as owners
use Rattle.mon_types.specs.declared.region.Region.TheVariants as regions
use Rattle.mon_types.specs.declared.enclave.Enclave.{Enclave}
use Rattle.mon_types.specs.declared.enclave.Stage.TheVariants as stages
use Rattle.mon_types.specs.declared.thread.ThreadState.{ThreadState}
use Rattle.mon_types.specs.declared.thread.ThreadState.TheVariants as states
use Rattle.mon_types.specs.declared.thread.Thread.{Thread}
use Rattle.mon_types.specs.declared.call.Call.{Call}
use Rattle.mon_types.specs.declared.call.Call.TheVariants as calls
use Rattle.mon_types.specs.declared.reply.Reply.{Reply}
use Rattle.mon_types.specs.declared.object.ObjectId.{ObjectId}
use Rattle.mon_types.specs.declared.script.Line.TheVariants as lines
use Rattle.mon_model.specs.State.{State, start}
use Rattle.hist.specs.declared.event.Why.TheVariants as whys
use Rattle.protocol.specs.declared.action.Action.TheVariants as actions
use Rattle.protocol.specs.declared.action.Move.{Move}
use Rattle.protocol.specs.declared.action.Move.TheVariants as moves
use Rattle.protocol.specs.Places.{Memory, memory_of}
use Rattle.core_behaviour.specs.Turns.{set_register}
use Rattle.core_behaviour.specs.Lines.{lined}
use Rattle.core_behaviour_runs.specs.Machines.{draft, e0, t0}
use Rattle.core_behaviour_runs.specs.Parts.{one, begun, inside}
use Rattle.core_behaviour_runs.specs.Alone.{alone, loads_there, os_turn}
use Rattle.core_behaviour_runs.specs.Shown.{with_placed, ecall, told_on, shown, four_shown}

-- ---- the enclave

-- its range is 0x10000 to 0x14000, and its region is 1, which holds its tables too
abbrev pub an_enclave : Enclave
an_enclave = record empty_enclave {
  stage = stages.Initialized;
  base = 0x10000;
  size = 0x4000;
  regions = 2;
  root = Some 1;
  next_page = 2;
  threads = 1;
}

-- its thread, at 0x10008, with nothing saved
abbrev pub its_thread : ThreadState → Thread
its_thread state = record empty_thread { state = state; entry = 0x10008; sp = 0x12000 }

-- the monitor's state, where its thread is in this state, and region 1 is its own since ticket 5
abbrev pub with_enclave_in : ThreadState → State
with_enclave_in state = record (start one) {
  regions = regions.Owned owners.Os 0 ∷ regions.Owned (owners.Enclave 0) 5 ∷ [];
  enclaves = slice_set (start one).enclaves 0 an_enclave;
  threads = slice_set (start one).threads 0 (its_thread state);
}

-- The words, where six tickets were drawn. The OS's code is an ECALL. Page 1 is all three tables, whose entry 0 leads to page 1
-- again, and whose entry 16 is a leaf on page 1 for every access of an enclave; so 0x10000 stands for page 1.
abbrev pub enclave_words : ThreadState → Memory
enclave_words state =
    with_placed (memory_of 6 (with_enclave_in state) []) ((0, ecall) ∷ (512, 0x2000_0401) ∷ (528, 0x2000_04DF) ∷ [])

-- an access to its second word, for which each entry is looked at and loaded, and at last the page
abbrev pub walked_inside : List Move
walked_inside =
    moves.Look 1 (owners.Enclave 0)
    ∷ moves.Load 512
    ∷ moves.Look 1 (owners.Enclave 0)
    ∷ moves.Load 512
    ∷ moves.Look 1 (owners.Enclave 0)
    ∷ moves.Load 528
    ∷ moves.Look 1 (owners.Enclave 0)
    ∷ moves.Load 513
    ∷ []

-- the Draw of a call
abbrev pub drawn : ℕ → Call → Reply → List ObjectId → Move
drawn serial call reply tried = moves.InCall (actions.Draw (draft serial call reply tried))

-- ---- by a line

-- a line enters, a load is by the enclave's tables, a line leaves, and the same address is none of the OS's
abbrev pub entered_by_line : List Move
entered_by_line =
    told_on (enclave_words (states.Ready 0)) begun
    (lines.Make (calls.Enter 0 0)
    ∷ lines.LoadWord 0x10008
    ∷ lines.Make calls.Exit
    ∷ lines.LoadWord 0x10008
    ∷ [])

-- what is told
abbrev pub line_told : List Move
line_told =
    drawn 0 (calls.Enter 0 0) done (e0 ∷ t0 ∷ [])
    ∷ walked_inside
    ++ drawn 1 calls.Exit done (t0 ∷ [])
    ∷ moves.Stop 4 (whys.Trap 5 0x10008)
    ∷ []

-- ---- by guest code

-- three turns: the OS's ECALL enters; where the thread begins there is no instruction; and behind the ECALL neither
abbrev pub entered_by_guest : List Move
entered_by_guest =
    alone 400 (enclave_words (states.Ready 0))
    (lined one 1 (lines.Run 3) (shown (10 ∷ 11 ∷ 12 ∷ 13 ∷ [])) (set_register begun 17 13))

-- what is told: the exit saves what the thread began with; the OS gets its cause and value
abbrev pub guest_told : List Move
guest_told =
    loads_there
    ++ drawn 0 (calls.Enter 0 0) done (e0 ∷ t0 ∷ [])
    ∷ walked_inside
    ++ drawn 1 (calls.Aex (0x10008 ∷ 0 ∷ 0x12000 ∷ replicate 29 0 ++ 2 ∷ [])) done (t0 ∷ [])
    ∷ os_turn
    ++ four_shown 0 1 2 0 0x8000_0004

-- ---- back again

-- what a tick saves, in an enclave with 7 in x5: the pc, x1 to x31, the cause
abbrev pub saved_with_7 : List ℕ
saved_with_7 = 0x8000_0000 ∷ replicate 4 0 ++ 7 ∷ replicate 26 0 ++ tick_cause ∷ []

-- what it saves of a thread that is begun where something is saved: 1 is in x10
abbrev pub saved_at_entry : List ℕ
saved_at_entry = 0x10008 ∷ 0 ∷ 0x12000 ∷ replicate 7 0 ++ 1 ∷ replicate 21 0 ++ tick_cause ∷ []

-- a tick leaves the enclave, a line enters it again, and another tick leaves it
abbrev pub entered_again : List Move
entered_again =
    told_on (enclave_words (states.Running 0)) (set_register inside 5 7)
    (lines.Tick ∷ lines.Make (calls.Enter 0 0) ∷ lines.Tick ∷ [])

-- the same, where the enclave goes back to what was saved
abbrev pub gone_back : List Move
gone_back =
    told_on (enclave_words (states.Running 0)) (set_register inside 5 7)
    (lines.Tick ∷ lines.Make (calls.Enter 0 0) ∷ lines.Make calls.Restore ∷ lines.Tick ∷ [])

-- what is told of both before
abbrev pub left_and_entered : List Move
left_and_entered =
    drawn 1 (calls.Aex saved_with_7) done (t0 ∷ []) ∷ drawn 2 (calls.Enter 0 0) done (e0 ∷ t0 ∷ []) ∷ []

-- the last exit saves the thread's entry
abbrev pub again_told : List Move
again_told = left_and_entered ++ drawn 3 (calls.Aex saved_at_entry) done (t0 ∷ []) ∷ []

-- restore answers the ticket of the first exit, the first behind six, and the last exit saves the same
abbrev pub back_told : List Move
back_told =
    left_and_entered
    ++ drawn 3 calls.Restore (ok_with_word 7) (t0 ∷ [])
    ∷ drawn 4 (calls.Aex saved_with_7) done (t0 ∷ [])
    ∷ []
