-- What a call that answers Ok does to a region, as the call, the objects that it tried and the calls before
-- it tell. This project's own.
use Rattle.std.specs.Prelude.{ℕ, Bool, true, false, ◌==◌, if◌then◌else◌, find, Option, Some, None, unwrap_or}
use Rattle.std.specs.List.{range_with_len}
use Rattle.mon_types.specs.declared.region.Owner.{Owner}
use Rattle.mon_types.specs.declared.region.Owner.TheVariants as owners
use Rattle.mon_types.specs.declared.call.Call.{Call}
use Rattle.mon_types.specs.declared.call.Call.TheVariants as calls
use Rattle.mon_types.specs.declared.object.Tried.{Tried}
use Rattle.mon_types.specs.Bits.{has_bit}
use Rattle.mon_types.specs.Owns.{os_word}

-- whether an enclave slot is initialized after the call: an init of it makes it so, a create of it no longer
abbrev pub initialized_by : ℕ → Call → Bool → Bool
initialized_by slot (calls.Create e base size) before = if e == slot then false else before
initialized_by slot (calls.Init e) before = if e == slot then true else before
initialized_by slot _ before = before

-- the slot in a set of one enclave slot
abbrev pub sole_slot : ℕ → ℕ
sole_slot set = unwrap_or (find (has_bit set) (range_with_len 0 8)) 0

-- Whom the call makes the owner of region r: an assign of it names the OS, or an enclave slot that is not
-- initialized; an accept_region of it tried its enclave.
abbrev pub owner_made : ℕ → (ℕ → Bool) → Call → Tried → Option Owner
owner_made r initialized (calls.Assign q to) tried =
    if q == r
    then (if to == os_word then Some owners.Os else if initialized to then None else Some (owners.Enclave to))
    else None
owner_made r initialized (calls.AcceptRegion q) tried =
    if q == r then Some (owners.Enclave (sole_slot tried.enclaves)) else None
owner_made r initialized _ tried = None

-- a block of r, or a delete that has r among its tried objects
abbrev pub withdraws : ℕ → Call → Tried → Bool
withdraws r (calls.Block q) tried = q == r
withdraws r (calls.Delete e) tried = has_bit tried.regions r
withdraws r _ tried = false

-- a free of r
abbrev pub frees : ℕ → Call → Bool
frees r (calls.Free q) = q == r
frees r _ = false
