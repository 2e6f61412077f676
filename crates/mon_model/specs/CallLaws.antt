-- Laws of what any call that answers Ok does to any one region, to its core, and to the stages of enclave
-- slots. This project's own.
use Rattle.std.specs.Prelude.{◌≡◌, ℕ, ◌<◌, Bool, true, List, slice_set}
use Rattle.mon_types.specs.declared.call.Call.{Call}
use Rattle.mon_types.specs.declared.object.Tried.{Tried}
use Rattle.mon_model.specs.State.{State, IsWhole, region_at, flushed_at, mode_of}
use Rattle.mon_types.specs.Replies.{is_done}
use Rattle.mon_model.specs.Step.{effect, reply_of}
use Rattle.mon_model.specs.Tries.{tries, tried_set}
use Rattle.mon_model.specs.OnCore.{mode_by, cell_by}
use Rattle.mon_model.specs.OnRegion.{withdraws, frees, owner_made, initialized_by}
use Rattle.mon_model.specs.RegionStep.{RegionStep, FlagsStages, AreInsideSlots}

-- the step that the call tells of region r is the one that the region makes
abbrev pub StepsAsTold : State → ℕ → Call → List ℕ → ℕ → (ℕ → Bool) → ℕ → Type 0
StepsAsTold s core call digest k flags r =
    let tried : Tried = tried_set (tries s core call) in
    RegionStep k s.flushed (withdraws r call tried) (frees r call) (owner_made r flags call tried)
    (region_at s r) (region_at (effect s core call digest k) r)

-- a call that answers Ok makes at each region of the machine one of the six steps
abbrev pub AnyCallOnARegion : Type 0
AnyCallOnARegion = (s : State) (core k : ℕ) (flags : ℕ → Bool) → IsWhole s → FlagsStages flags s → AreInsideSlots s
    → (call : Call) (digest : List ℕ) → is_done (reply_of s core call) ≡ true
    → (r : ℕ) → r < s.shape.regions → StepsAsTold s core call digest k flags r

-- it changes no other core's mode than its own, and this as the call tells
abbrev pub AnyCallOnModes : Type 0
AnyCallOnModes = (s : State) (core : ℕ) (call : Call) (digest : List ℕ) (k : ℕ)
    → (effect s core call digest k).modes ≡ slice_set s.modes core (mode_by call (mode_of s core))

-- and likewise flush tickets
abbrev pub AnyCallOnCells : Type 0
AnyCallOnCells = (s : State) (core : ℕ) (call : Call) (digest : List ℕ) (k : ℕ)
    → (effect s core call digest k).flushed ≡ slice_set s.flushed core (cell_by call (flushed_at s core) k)

-- flags that are right about the stages are right afterwards, as the call changes them
abbrev pub AnyCallOnStages : Type 0
AnyCallOnStages = (s : State) (core : ℕ) (call : Call) (digest : List ℕ) (k : ℕ) (flags : ℕ → Bool)
    → FlagsStages flags s → FlagsStages (λ e. initialized_by e call (flags e)) (effect s core call digest k)

-- no core gets inside a slot past the last
abbrev pub AnyCallOnInside : Type 0
AnyCallOnInside = (s : State) (core : ℕ) (call : Call) (digest : List ℕ) (k : ℕ) → AreInsideSlots s
    → is_done (reply_of s core call) ≡ true → AreInsideSlots (effect s core call digest k)
