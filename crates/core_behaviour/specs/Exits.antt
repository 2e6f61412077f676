-- Enclaves that are left by the machine, at a trap or a tick: exits that are pending, and tried. This project's own.
use Rattle.std.specs.Prelude.{Option, Some, None}
use Rattle.mon_types.specs.Shape.{Shape}
use Rattle.mon_types.specs.Budgets.{tick_cause}
use Rattle.mon_types.specs.declared.thread.Mode.{Mode}
use Rattle.mon_types.specs.declared.thread.Mode.TheVariants as modes
use Rattle.mon_types.specs.declared.call.Call.TheVariants as calls
use Rattle.core_context.specs.declared.origin.Origin.TheVariants as origins
use Rattle.core_context.specs.Registers.{saved_context}
use Rattle.core_behaviour.specs.Course.{Course}
use Rattle.core_behaviour.specs.Core.{Core, Exit}
use Rattle.core_behaviour.specs.Called.{called}

-- an exit is tried by the call aex, which saves the pc and the registers of now; where aex meets a held lock the exit
-- stays pending
abbrev pub tried : Shape → Exit → Core → (Core → Course) → Course
tried shape exit c next =
    called shape (origins.Machine exit.value) (calls.Aex (saved_context c.contexts.current exit.cause)) c next

-- the exit that is pending, if one is, is tried again
abbrev pub retried : Shape → Option Exit → Core → (Core → Course) → Course
retried shape None c next = next c
retried shape (Some exit) c next = tried shape exit c next

-- an exit becomes pending, and is tried at once, unless one is pending already, which stays
abbrev pub exits : Shape → Option Exit → Exit → Core → (Core → Course) → Course
exits shape None exit c next = tried shape exit (record c { pending = Some exit }) next
exits shape (Some earlier) exit c next = next c

-- a tick in an enclave is an exit; for the OS it does nothing
abbrev pub ticks : Shape → Mode → Core → (Core → Course) → Course
ticks shape modes.Os c next = next c
ticks shape (modes.Inside e t) c next = exits shape c.pending (record { cause = tick_cause; value = 0 }) c next
