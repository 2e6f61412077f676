-- What a monitor call does to the core that made it. This project's own.
use Rattle.std.specs.Prelude.{ℕ, ◌==◌, not, if◌then◌else◌, unwrap_or}
use Rattle.mon_types.specs.Replies.{is_done}
use Rattle.mon_types.specs.Modes.{own_thread}
use Rattle.mon_types.specs.declared.image.Start.{Start}
use Rattle.mon_types.specs.declared.enclave.Enclave.{Enclave}
use Rattle.mon_types.specs.declared.thread.Thread.{Thread}
use Rattle.mon_types.specs.declared.call.Call.{Call}
use Rattle.mon_types.specs.declared.call.Call.TheVariants as calls
use Rattle.mon_model.specs.State.{State, enclave_at, thread_at, mode_of}
use Rattle.mon_model.specs.Step.{reply_of}
use Rattle.core_context.specs.declared.after.After.{After}
use Rattle.core_context.specs.declared.after.After.TheVariants as afters
use Rattle.core_context.specs.declared.context.Context.{Context}
use Rattle.core_context.specs.declared.contexts.Contexts.{Contexts}
use Rattle.core_context.specs.declared.contexts.Leaving.{Leaving}
use Rattle.core_context.specs.declared.contexts.Leaving.TheVariants as leavings
use Rattle.core_context.specs.Registers.{begun, entered, returned, restored_context}

-- Ok of enter, for the records of the enclave and the thread; the root is 0 where there is none, which never comes
abbrev pub entering : Enclave → Thread → After
entering enclave thread =
    let root = unwrap_or enclave.root 0 in
    afters.Entered thread.entry thread.sp enclave.base enclave.size root (not (thread.saved_at == 0))

-- what Ok of the call does to its core
abbrev pub ok_change : State → ℕ → Call → After
ok_change s core calls.Flush = afters.Cleared
ok_change s core (calls.SetSatp v) = afters.Cleared
ok_change s core (calls.Enter e t) = entering (enclave_at s e) (thread_at s t)
ok_change s core calls.Exit = afters.Left
ok_change s core (calls.Aex saved) = afters.Left
ok_change s core calls.Restore = afters.Restored (thread_at s (own_thread (mode_of s core))).saved
ok_change s core _ = afters.Nothing

-- what the call does to its core: a refusal nothing
abbrev pub change_after : State → ℕ → Call → After
change_after s core call = if is_done (reply_of s core call) then ok_change s core call else afters.Nothing

-- ---- the contexts of a core

-- at the start both are those of the OS
abbrev pub begun_contexts : ℕ → Start → Contexts
begun_contexts core start = record { current = begun core start; os = begun core start }

-- the OS's pc and registers, where an enclave is left so
abbrev pub os_given_back : Leaving → Context → Context
os_given_back leavings.Exit os = returned os 0 0 0
os_given_back (leavings.Aex cause value) os = returned os 1 cause value

-- The contexts after a call: enter keeps the OS's and begins the thread, exit and aex give the OS's back, restore
-- takes what was saved, and no other call changes any.
abbrev pub contexts_after : Contexts → After → Leaving → Contexts
contexts_after c afters.Nothing leaving = c
contexts_after c afters.Cleared leaving = c
contexts_after c (afters.Entered entry sp base size root saved) leaving =
    record { current = entered entry sp saved; os = c.current }
contexts_after c afters.Left leaving = record c { current = os_given_back leaving c.os }
contexts_after c (afters.Restored saved) leaving = record c { current = restored_context saved }
