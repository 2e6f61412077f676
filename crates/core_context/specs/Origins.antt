-- By whom a monitor call is made, and what that decides: how an enclave is left, and whether the reply is told. This
-- project's own.
use Rattle.std.specs.Prelude.{ℕ, Bool, true, false, slice_index}
use Rattle.mon_types.specs.declared.call.Call.{Call}
use Rattle.mon_types.specs.declared.call.Call.TheVariants as calls
use Rattle.mon_types.specs.declared.reply.Reply.{Reply}
use Rattle.core_context.specs.declared.after.After.{After}
use Rattle.core_context.specs.declared.contexts.Contexts.{Contexts}
use Rattle.core_context.specs.declared.contexts.Leaving.{Leaving}
use Rattle.core_context.specs.declared.contexts.Leaving.TheVariants as leavings
use Rattle.core_context.specs.declared.origin.Origin.{Origin}
use Rattle.core_context.specs.declared.origin.Origin.TheVariants as origins
use Rattle.core_context.specs.Changes.{contexts_after}
use Rattle.core_context.specs.GuestCalls.{answered}

-- whether a line of the script makes the call
abbrev pub is_by_line : Origin → Bool
is_by_line origins.Line = true
is_by_line origins.Guest = false
is_by_line (origins.Machine value) = false

-- the value that goes with the cause of an exit that the machine makes
abbrev pub exit_value : Origin → ℕ
exit_value origins.Line = 0
exit_value origins.Guest = 0
exit_value (origins.Machine value) = value

-- how the call leaves an enclave, if it leaves one: an aex with the cause that it saves
abbrev pub leaving_of : Origin → Call → Leaving
leaving_of origin (calls.Aex saved) = leavings.Aex (slice_index saved 32) (exit_value origin)
leaving_of origin _ = leavings.Exit

-- the contexts, where guest code is told what its call did and the reply; who else calls is told nothing
abbrev pub told : Origin → After → Reply → Contexts → Contexts
told origins.Line change reply contexts = contexts
told origins.Guest change reply contexts = answered contexts change reply
told (origins.Machine value) change reply contexts = contexts

-- the contexts after a call that did this to its core, and its reply
abbrev pub contexts_by : Origin → Call → After → Reply → Contexts → Contexts
contexts_by origin call change reply contexts =
    told origin change reply (contexts_after contexts change (leaving_of origin call))
