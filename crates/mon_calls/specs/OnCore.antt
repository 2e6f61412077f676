-- What a call does to the core that makes it, by the records that it holds. This project's own.
use Rattle.std.specs.Prelude.{◌≡◌, ℕ, None}
use Rattle.mon_types.specs.declared.call.Call.{Call}
use Rattle.mon_types.specs.declared.call.Call.TheVariants as calls
use Rattle.mon_model.specs.State.{State, mode_of}
use Rattle.mon_model.specs.Early.{early}
use Rattle.mon_model.specs.Tries.{tries}
use Rattle.core_context.specs.declared.after.After.{After}
use Rattle.core_context.specs.declared.after.After.TheVariants as afters
use Rattle.core_context.specs.Changes.{entering, ok_change}
use Rattle.lock_plan.specs.declared.held.Held.{Held}
use Rattle.lock_plan.specs.Plan.{first_enclave, first_thread}
use Rattle.lock_plan.specs.Records.{records_of}

-- what Ok does to the core, where the records of all that the call tries are held
abbrev pub core_change : Call → Held → After
core_change calls.Flush h = afters.Cleared
core_change (calls.SetSatp v) h = afters.Cleared
core_change (calls.Enter e t) h = entering (first_enclave h) (first_thread h)
core_change calls.Exit h = afters.Left
core_change (calls.Aex saved) h = afters.Left
core_change calls.Restore h = afters.Restored (first_thread h).saved
core_change _ h = afters.Nothing

-- in every state that has these records, where the call is not refused early, the answer is what Ok does to the core
abbrev pub IsChange : Call → Held → After → Type 0
IsChange call held answer =
    (s : State) (core : ℕ) → early s.shape (mode_of s core) call ≡ None → held ≡ records_of s (tries s core call)
    → answer ≡ ok_change s core call
