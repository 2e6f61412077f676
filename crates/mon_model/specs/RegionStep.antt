-- The six small steps of a region: each call that answers Ok makes one of them at each region.
-- This project's own.
use Rattle.std.specs.Prelude.{◌≡◌, ℕ, ◌<◌, Bool, true, false, ◌&&◌, nat_le, List, Option, Some, None}
use Rattle.std.specs.List.{list_all}
use Rattle.mon_types.specs.declared.region.Owner.{Owner}
use Rattle.mon_types.specs.declared.region.Owner.TheVariants as owners
use Rattle.mon_types.specs.declared.region.Region.{Region}
use Rattle.mon_types.specs.declared.region.Region.TheVariants as regions
use Rattle.mon_types.specs.declared.thread.Mode.TheVariants as modes
use Rattle.mon_types.specs.declared.enclave.Stage.{Stage}
use Rattle.mon_model.specs.State.{State, enclave_at, mode_of}
use Rattle.mon_model.specs.RegionCalls.{is_loading, is_initialized}

-- owned, and not yet blocked
abbrev pub is_owned : Region → Bool
is_owned regions.Free = false
is_owned (regions.Owned owner since) = true
is_owned (regions.Blocked owner since at) = false
is_owned (regions.Offered to at) = false

-- without an owner: free, or only offered
abbrev pub is_idle : Region → Bool
is_idle regions.Free = true
is_idle (regions.Owned owner since) = false
is_idle (regions.Blocked owner since at) = false
is_idle (regions.Offered to at) = true

-- who may become the owner: of a free region anybody, of one that is offered the enclave to which it was offered
abbrev pub MayBecome : Owner → Region → Type 0
MayBecome owner regions.Free = Unit {0}
MayBecome owner (regions.Owned other since) = ⊥
MayBecome owner (regions.Blocked other since at) = ⊥
MayBecome owner (regions.Offered to at) = owner ≡ owners.Enclave to

-- Region x becomes y at ticket k, where the cells stand at `flushed`. `ended`, `freed` and `made` are what the
-- call tells of the region: that it takes it from its owner, that it frees it, whom it makes its owner.
pub data RegionStep (k : ℕ) (flushed : List ℕ) (ended freed : Bool) (made : Option Owner) (x y : Region) : Type 0 where
  -- it stays: a call that would take it from its owner finds none
  Stays : y ≡ x → (ended && is_owned x) ≡ false → freed ≡ false → made ≡ None
      → RegionStep k flushed ended freed made x y
  -- its owner's time ends
  Ends : (owner : Owner) (a : ℕ) → x ≡ regions.Owned owner a → y ≡ regions.Blocked owner a k
      → ended ≡ true → freed ≡ false → made ≡ None → RegionStep k flushed ended freed made x y
  -- an offer is withdrawn
  Withdrawn : (to a : ℕ) → x ≡ regions.Offered to a → y ≡ regions.Blocked (owners.Enclave to) a k
      → ended ≡ true → freed ≡ false → made ≡ None → RegionStep k flushed ended freed made x y
  -- it is freed: each core has flushed since it was blocked
  Frees : (owner : Owner) (a b : ℕ) → x ≡ regions.Blocked owner a b → y ≡ regions.Free
      → list_all (λ ticket. nat_le b ticket) flushed ≡ true
      → ended ≡ false → freed ≡ true → made ≡ None → RegionStep k flushed ended freed made x y
  -- an owner's time begins
  Begins : (owner : Owner) → MayBecome owner x → y ≡ regions.Owned owner k
      → ended ≡ false → freed ≡ false → made ≡ Some owner → RegionStep k flushed ended freed made x y
  -- it is offered
  Offers : (to : ℕ) → x ≡ regions.Free → y ≡ regions.Offered to k
      → ended ≡ false → freed ≡ false → made ≡ None → RegionStep k flushed ended freed made x y

-- A flag that says whether a slot is initialized is right about this stage. Of Empty it says nothing: a delete
-- does not take back an init.
pub record FlagsStage (flag : Bool) (stage : Stage) : Type 0 where
  pub loading : is_loading stage ≡ true → flag ≡ false
  pub initialized : is_initialized stage ≡ true → flag ≡ true

-- the flags are right about each enclave slot
abbrev pub FlagsStages : (ℕ → Bool) → State → Type 0
FlagsStages flags s = (e : ℕ) → FlagsStage (flags e) (enclave_at s e).stage

-- a core is inside no slot past the last
abbrev pub AreInsideSlots : State → Type 0
AreInsideSlots s = (core e t : ℕ) → mode_of s core ≡ modes.Inside e t → e < 8
