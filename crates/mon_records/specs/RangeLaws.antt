-- Laws of the ranges of records.
use Rattle.std.specs.Prelude.{◌≡◌, ℕ, ◌^◌, ◌<◌, true, List}
use Rattle.mon_types.specs.Shape.{Shape, is_shape}
use Rattle.mon_types.specs.declared.call.Call.{Call}
use Rattle.mon_model.specs.State.{State, start, mode_of}
use Rattle.mon_model.specs.Step.{after}
use Rattle.lock_plan.specs.Objects.{IsCaller}
use Rattle.mon_records.specs.Ranges.{AreInRange, IsCall}

-- the records are in range at the start
abbrev pub StartIsInRange : Type 0
StartIsInRange = (shape : Shape) → AreInRange (start shape)

-- and they stay so after every call of a core of the machine at a ticket of 32 bits
abbrev pub RecordsStayInRange : Type 0
RecordsStayInRange =
    (s : State) (core : ℕ) (call : Call) (digest : List ℕ) (ticket : ℕ)
    → is_shape s.shape ≡ true → IsCaller s.shape core (mode_of s core) → IsCall call → ticket < 2 ^ 32
    → AreInRange s → AreInRange (after s core call digest ticket)
