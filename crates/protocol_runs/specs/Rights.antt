-- Cores that reach words of DRAM, each by a right of its own. This project's own.
use Rattle.std.specs.Prelude.{ℕ, [], ◌∷◌}
use Rattle.mon_types.specs.declared.region.Region.TheVariants as regions
use Rattle.mon_types.specs.declared.call.Call.TheVariants as calls
use Rattle.mon_model.specs.State.{State}
use Rattle.protocol.specs.declared.action.Action.TheVariants as actions
use Rattle.protocol.specs.declared.action.Move.{Move}
use Rattle.protocol.specs.declared.action.Move.TheVariants as moves
use Rattle.protocol.specs.declared.action.Outcome.TheVariants as outcomes
use Rattle.protocol.specs.Views.{Moves}
use Rattle.mon_model.specs.Examples.{r1, c0}
use Rattle.protocol.specs.Alone.{e3}
use Rattle.protocol.specs.RegionRuns.{with_r1}
use Rattle.protocol_runs.specs.EnclaveRuns.{loading_with, with_e3}
use Rattle.protocol_runs.specs.Moments.{drawn}

-- a load of a word by a call
abbrev pub call_loads : ℕ → Move
call_loads i = moves.InCall (actions.Load i)

-- a store by a call
abbrev pub call_stores : ℕ → ℕ → Move
call_stores i value = moves.InCall (actions.Store i value)

-- it has the lock of enclave slot 3
abbrev pub has_e3 : Moves
has_e3 = (moves.InCall (actions.TryLock e3), outcomes.Taken) ∷ []

-- slot 3 has a Loading enclave with regions 1 and 2
abbrev pub e3_loads : State
e3_loads = with_e3 (loading_with 0)

-- region 1 is Free
abbrev pub r1_is_free : State
r1_is_free = with_r1 regions.Free

-- it has the lock of region 1, and its free of that region has its ticket
abbrev pub has_freed : Moves
has_freed = drawn 0 (calls.Free 1) (r1 ∷ c0 ∷ []) ∷ (moves.InCall (actions.TryLock r1), outcomes.Taken) ∷ []
