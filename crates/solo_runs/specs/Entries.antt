-- Events that the runs log. This project's own.
use Rattle.std.specs.Prelude.{ℕ, List, [], ◌∷◌, ◌++◌, replicate}
use Rattle.mon_types.specs.declared.call.Call.TheVariants as calls
use Rattle.mon_types.specs.declared.object.ObjectId.TheVariants as objects
use Rattle.mon_types.specs.Replies.{done}
use Rattle.hist.specs.declared.event.Event.{Event}
use Rattle.hist.specs.declared.event.Event.TheVariants as events
use Rattle.hist.specs.declared.event.Why.TheVariants as whys
use Rattle.hist.specs.Rows.{entry}

-- what an exit of the enclave saves, with 7 in x7: the pc, x1 to x31, the cause
abbrev pub saved_at : ℕ → ℕ → List ℕ
saved_at pc cause = pc ∷ replicate 6 0 ++ 7 ∷ replicate 24 0 ++ cause ∷ []

-- an exit by the machine, which is the first call of the core
abbrev pub exit_entry : ℕ → ℕ → Event
exit_entry pc cause = events.Entry (entry 1 0 0 (calls.Aex (saved_at pc cause)) done (objects.Thread 0 ∷ []))

-- a trap of a line, with its cause and value
abbrev pub trap : ℕ → ℕ → ℕ → Event
trap line cause value = events.Stop line (whys.Trap cause value)

-- the touches of a walk of three levels by the tables of the OS, but for that of the page
abbrev pub tables_touched : List Event
tables_touched = events.Touch 7 0 ∷ events.Touch 6 0 ∷ events.Touch 1 0 ∷ []

-- the same by the tables of the enclave
abbrev pub own_touched : List Event
own_touched = events.Touch 2 11 ∷ events.Touch 3 12 ∷ events.Touch 4 13 ∷ []
