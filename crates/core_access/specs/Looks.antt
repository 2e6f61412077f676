-- Looks at the own-word of a region: for whom they are good, and since when the region is his. This project's own.
use Rattle.std.specs.Prelude.{◌≡◌, ℕ, Bool, true, false, ◌==◌, if◌then◌else◌, [], ◌∷◌, Option, Some, None, is_some}
use Rattle.mon_types.specs.declared.region.Owner.{Owner}
use Rattle.mon_types.specs.declared.region.Owner.TheVariants as owners
use Rattle.mon_types.specs.declared.region.Region.{Region}
use Rattle.mon_types.specs.declared.region.Region.TheVariants as regions
use Rattle.mon_types.specs.Owns.{IsRegion, own_word, region_from}

-- whether two owners are one
abbrev pub is_owner : Owner → Owner → Bool
is_owner owners.Os owners.Os = true
is_owner owners.Os (owners.Enclave f) = false
is_owner (owners.Enclave e) owners.Os = false
is_owner (owners.Enclave e) (owners.Enclave f) = e == f

-- since when a region is Owned by the permitted owner; None where it is not, as where it is Blocked, Offered or Free
abbrev pub owned_since : Owner → Region → Option ℕ
owned_since permitted regions.Free = None
owned_since permitted (regions.Owned owner since) = if is_owner permitted owner then Some since else None
owned_since permitted (regions.Blocked owner since at) = None
owned_since permitted (regions.Offered to at) = None

-- whether a look is good: the region is Owned by the permitted owner
abbrev pub is_good : Owner → Region → Bool
is_good permitted region = is_some (owned_since permitted region)

-- the same of the own-word, which is all that a look gives: since when it reads Owned by the permitted owner
abbrev pub since_in_word : Owner → ℕ → Option ℕ
since_in_word permitted word = owned_since permitted (region_from (word ∷ 0 ∷ []))

-- the own-word of a region tells what its record does
abbrev pub WordsTell : Type 0
WordsTell = (permitted : Owner) (region : Region) → IsRegion region
    → since_in_word permitted (own_word region) ≡ owned_since permitted region
