-- Records whose numbers are in the ranges of their words, and calls whose numbers are words. This project's own.
use Rattle.std.specs.Prelude.{◌≡◌, ℕ, ◌^◌, ◌<◌, ⊤, length}
use Rattle.std.specs.List.{AllByRecursion}
use Rattle.mon_types.specs.Owns.{IsRegion}
use Rattle.mon_types.specs.Enclaves.{IsEnclave}
use Rattle.mon_types.specs.Threads.{IsThread}
use Rattle.mon_types.specs.Calls.{call_args}
use Rattle.mon_types.specs.declared.call.Call.{Call}
use Rattle.mon_types.specs.declared.call.Call.TheVariants as calls
use Rattle.mon_model.specs.State.{State, region_at, enclave_at, thread_at, flushed_at}

-- each record of the state is in range, and each flush ticket has 32 bits
pub record AreInRange (s : State) : Type 0 where
  pub region : (r : ℕ) → IsRegion (region_at s r)
  pub enclave : (e : ℕ) → IsEnclave (enclave_at s e)
  pub thread : (t : ℕ) → IsThread (thread_at s t)
  pub cell : (c : ℕ) → flushed_at s c < 2 ^ 32

-- an aex saves 33 words, and a call of no known number has six
abbrev pub HasAllArguments : Call → Type 0
HasAllArguments (calls.Aex saved) = length saved ≡ 33
HasAllArguments (calls.Unknown number args) = length args ≡ 6
HasAllArguments _ = ⊤

-- the call is a value of its type: its numbers are words, and it has all of them
pub record IsCall (call : Call) : Type 0 where
  pub words : AllByRecursion (λ w. w < 2 ^ 64) (call_args call)
  pub all : HasAllArguments call
