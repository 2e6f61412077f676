-- The moves of the calls on threads but load_thread, written down by hand. This project's own.
use Rattle.std.specs.Prelude.{ℕ, ◌+◌, List, [], ◌∷◌, ◌++◌, map}
use Rattle.std.specs.List.{range_with_len}
use Rattle.mon_types.specs.Replies.{done, ok_with_word}
use Rattle.mon_types.specs.Enclaves.{enclave_row}
use Rattle.mon_types.specs.Threads.{empty_thread, thread_row}
use Rattle.mon_types.specs.declared.thread.Thread.{Thread}
use Rattle.mon_types.specs.declared.thread.ThreadState.TheVariants as states
use Rattle.mon_types.specs.declared.call.Call.TheVariants as calls
use Rattle.mon_types.specs.declared.reply.Reply.TheVariants as replies
use Rattle.mon_model.specs.State.{State, with_thread}
use Rattle.protocol.specs.declared.action.Action.{Action}
use Rattle.protocol.specs.declared.action.Outcome.{Outcome}
use Rattle.protocol.specs.Alone.{takes, writes, draws, gives, e3, t2}
use Rattle.protocol_runs.specs.EnclaveRuns.{running, with_e3}

-- ---- states

-- a thread of enclave 3 that waits
abbrev pub ready : Thread
ready = record empty_thread { state = states.Ready 3; entry = 64; sp = 128 }

-- the same while a core runs it
abbrev pub entered : Thread
entered = record ready { state = states.Running 3 }

-- the same with the words 100 to 132 saved at ticket 9
abbrev pub saved_words : List ℕ
saved_words = range_with_len 100 33

-- of the thread
abbrev pub with_saved : Thread
with_saved = record entered { saved_at = 9; saved = saved_words }

-- slot 3 has an initialized enclave and thread slot 2 has this thread
abbrev pub with_t2 : Thread → State
with_t2 thread = with_thread (with_e3 running) 2 thread

-- the same word in each of 33 places of the row from place 4 on
abbrev pub saves : (ℕ → ℕ) → List (Action × Outcome)
saves word = map (λ i. writes t2 (4 + i) (word i)) (range_with_len 0 33)

-- ---- delete_thread

-- the count falls, and the slot is empty
abbrev pub delete_thread_ok : List (Action × Outcome)
delete_thread_ok =
    takes e3 (enclave_row running)
    ++ takes t2 (thread_row ready)
    ++ draws (calls.DeleteThread 3 2) done (e3 ∷ t2 ∷ [])
    ∷ writes e3 6 0
    ∷ writes t2 0 0
    ∷ writes t2 1 0
    ∷ writes t2 2 0
    ∷ gives t2
    ∷ gives e3
    ∷ []

-- it runs
abbrev pub delete_thread_refused : List (Action × Outcome)
delete_thread_refused =
    takes e3 (enclave_row running)
    ++ takes t2 (thread_row entered)
    ++ draws (calls.DeleteThread 3 2) replies.InvalidState (e3 ∷ t2 ∷ [])
    ∷ gives t2
    ∷ gives e3
    ∷ []

-- ---- enter

-- Ready in 3, 1 + 3, becomes Running, 9 + 3
abbrev pub enter_ok : List (Action × Outcome)
enter_ok =
    takes e3 (enclave_row running)
    ++ takes t2 (thread_row ready)
    ++ draws (calls.Enter 3 2) done (e3 ∷ t2 ∷ [])
    ∷ writes t2 0 12
    ∷ gives t2
    ∷ gives e3
    ∷ []

-- it runs already
abbrev pub enter_refused : List (Action × Outcome)
enter_refused =
    takes e3 (enclave_row running)
    ++ takes t2 (thread_row entered)
    ++ draws (calls.Enter 3 2) replies.InvalidState (e3 ∷ t2 ∷ [])
    ∷ gives t2
    ∷ gives e3
    ∷ []

-- ---- exit

-- Ready again
abbrev pub exit_ok : List (Action × Outcome)
exit_ok = takes t2 (thread_row entered) ++ draws calls.Exit done (t2 ∷ []) ∷ writes t2 0 4 ∷ gives t2 ∷ []

-- the OS may not
abbrev pub exit_refused : List (Action × Outcome)
exit_refused = draws calls.Exit replies.AccessDenied [] ∷ []

-- ---- aex

-- Ready again, with the words and the ticket of the save
abbrev pub aex_ok : List (Action × Outcome)
aex_ok =
    takes t2 (thread_row entered)
    ++ draws (calls.Aex saved_words) done (t2 ∷ [])
    ∷ writes t2 0 4
    ∷ writes t2 3 21
    ∷ saves (λ i. 100 + i)
    ++ gives t2
    ∷ []

-- the OS may not
abbrev pub aex_refused : List (Action × Outcome)
aex_refused = draws (calls.Aex saved_words) replies.AccessDenied [] ∷ []

-- ---- restore

-- nothing is saved any more
abbrev pub restore_ok : List (Action × Outcome)
restore_ok =
    takes t2 (thread_row with_saved)
    ++ draws calls.Restore (ok_with_word 9) (t2 ∷ [])
    ∷ writes t2 3 0
    ∷ saves (λ i. 0)
    ++ gives t2
    ∷ []

-- nothing is saved
abbrev pub restore_refused : List (Action × Outcome)
restore_refused =
    takes t2 (thread_row entered) ++ draws calls.Restore replies.InvalidState (t2 ∷ []) ∷ gives t2 ∷ []
