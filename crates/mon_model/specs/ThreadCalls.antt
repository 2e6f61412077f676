-- Calls on threads: load_thread, delete_thread, enter, exit, aex and restore. This project's own.
use Rattle.std.specs.Prelude.{ℕ, ◌+◌, ◌-◌, Bool, true, false, ◌==◌, ◌&&◌, if◌then◌else◌, List, replicate}
use Rattle.mon_types.specs.Threads.{empty_thread}
use Rattle.mon_types.specs.declared.enclave.Enclave.{Enclave}
use Rattle.mon_types.specs.declared.thread.ThreadState.{ThreadState}
use Rattle.mon_types.specs.declared.thread.ThreadState.TheVariants as states
use Rattle.mon_types.specs.declared.thread.Thread.{Thread}
use Rattle.mon_types.specs.declared.reply.Reply.{Reply}
use Rattle.mon_types.specs.declared.reply.Reply.TheVariants as replies
use Rattle.mon_types.specs.Replies.{ok_with_word, done_if}
use Rattle.mon_model.specs.RegionCalls.{is_loading, is_initialized}
use Rattle.mon_model.specs.Measure.{Thread as ThreadItem}
use Rattle.mon_model.specs.EnclaveCalls.{measured}

-- the slot holds no thread
abbrev pub is_no_state : ThreadState → Bool
is_no_state states.Empty = true
is_no_state (states.Ready e) = false
is_no_state (states.Running e) = false

-- ready in this enclave
abbrev pub is_ready_in : ℕ → ThreadState → Bool
is_ready_in e states.Empty = false
is_ready_in e (states.Ready f) = e == f
is_ready_in e (states.Running f) = false

-- ---- load_thread

-- an enclave that is being loaded takes a thread into a slot that holds none
abbrev pub load_thread_reply : Enclave → Thread → Reply
load_thread_reply enclave thread = done_if (is_loading enclave.stage && is_no_state thread.state)

-- the thread's record: ready in slot e, with its entry and its stack pointer, and nothing saved
abbrev pub ready : ℕ → ℕ → ℕ → Thread
ready e entry sp = record empty_thread { state = states.Ready e; entry = entry; sp = sp }

-- a count stands still at the end of its range, which never comes
abbrev pub one_more : ℕ → ℕ
one_more threads = if threads == 255 then 255 else threads + 1

-- the enclave with one more thread, which is measured
abbrev pub with_thread_loaded : Enclave → ℕ → ℕ → Enclave
with_thread_loaded enclave entry sp =
    record (measured enclave (ThreadItem entry sp)) { threads = one_more enclave.threads }

-- ---- delete_thread

-- a thread that is ready in this enclave may be deleted
abbrev pub delete_thread_reply : ℕ → Thread → Reply
delete_thread_reply e thread = done_if (is_ready_in e thread.state)

-- the enclave with one thread less
abbrev pub without_thread : Enclave → Enclave
without_thread enclave = record enclave { threads = enclave.threads - 1 }

-- ---- enter, exit, aex

-- an enclave that is whole is entered by a thread that is ready in it
abbrev pub enter_reply : ℕ → Enclave → Thread → Reply
enter_reply e enclave thread = done_if (is_initialized enclave.stage && is_ready_in e thread.state)

-- the thread running in the enclave of slot e
abbrev pub running : ℕ → Thread → Thread
running e thread = record thread { state = states.Running e }

-- a thread that is left is ready again; one that does not run, which never comes, stays
abbrev pub stopped : ThreadState → ThreadState
stopped states.Empty = states.Empty
stopped (states.Ready e) = states.Ready e
stopped (states.Running e) = states.Ready e

-- the thread that exit leaves
abbrev pub left : Thread → Thread
left thread = record thread { state = stopped thread.state }

-- at ticket k with these 33 words
abbrev pub left_saving : Thread → List ℕ → ℕ → Thread
left_saving thread saved k = record thread { state = stopped thread.state; saved_at = k; saved = saved }

-- ---- restore

-- what was saved is given back, with the ticket of the save, where something was saved
abbrev pub restore_reply : Thread → Reply
restore_reply thread = if thread.saved_at == 0 then replies.InvalidState else ok_with_word thread.saved_at

-- the thread with nothing saved
abbrev pub restored : Thread → Thread
restored thread = record thread { saved_at = 0; saved = replicate 33 0 }
