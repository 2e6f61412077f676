-- What a call on a region names, and what an assign makes of a region. This project's own.
use Rattle.std.specs.Prelude.{◌≡◌, ℕ, ◌<◌, Option, Some, None}
use Rattle.mon_types.specs.declared.call.Call.{Call}
use Rattle.mon_types.specs.declared.call.Call.TheVariants as calls
use Rattle.mon_types.specs.declared.enclave.Enclave.{Enclave}
use Rattle.mon_types.specs.declared.region.Owner.TheVariants as owners
use Rattle.mon_types.specs.declared.region.Region.{Region}
use Rattle.mon_types.specs.declared.region.Region.TheVariants as regions
use Rattle.mon_types.specs.Owns.{os_word}
use Rattle.mon_model.specs.RegionCalls.{assigned}

-- the region that a block, an assign or an accept_region names
abbrev pub named_region : Call → ℕ
named_region (calls.Block r) = r
named_region (calls.Assign r to) = r
named_region (calls.AcceptRegion r) = r
named_region _ = 0

-- whom an assign names
abbrev pub named_owner : Call → ℕ
named_owner (calls.Assign r to) = to
named_owner _ = 0

-- a block of a region with a number below 64
abbrev pub IsBlock : Call → Type 0
IsBlock (calls.Block r) = r < 64
IsBlock _ = ⊥

-- an assign of such a region: to the OS where no record is given, else to an enclave slot
abbrev pub IsAssign : Call → Option Enclave → Type 0
IsAssign (calls.Assign r to) None = (r < 64) × (to ≡ os_word)
IsAssign (calls.Assign r to) (Some enclave) = (r < 64) × (to < 8)
IsAssign _ _ = ⊥

-- an accept_region of such a region
abbrev pub IsAcceptRegion : Call → Type 0
IsAcceptRegion (calls.AcceptRegion r) = r < 64
IsAcceptRegion _ = ⊥

-- the region after an assign at ticket k: to the OS, or to the enclave in slot e with this record
abbrev pub given_to : Option Enclave → ℕ → ℕ → Region
given_to None e k = regions.Owned owners.Os k
given_to (Some enclave) e k = assigned enclave.stage e k
