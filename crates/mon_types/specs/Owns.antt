-- A region that is withdrawn, and the two words of a region's row, the own-word and the ticket of its blocking. This
-- project's own.
use Rattle.std.specs.Prelude.{◌≡◌, ℕ, ◌+◌, ◌-◌, ◌*◌, ◌/◌, ◌%◌, ◌^◌, ◌<◌, ⊤, ◌==◌, nat_lt, if◌then◌else◌, List, [], ◌∷◌, slice_index, Option, Some, None}
use Rattle.mon_types.specs.declared.region.Owner.{Owner}
use Rattle.mon_types.specs.declared.region.Owner.TheVariants as owners
use Rattle.mon_types.specs.declared.region.Region.{Region}
use Rattle.mon_types.specs.declared.region.Region.TheVariants as regions
use Rattle.mon_types.specs.Words.{fitting, same_words}

-- the word that names the OS in arguments and replies
abbrev pub os_word : ℕ
os_word = 18446744073709551615

-- the OS, or an enclave slot below 8
abbrev pub IsOwner : Owner → Type 0
IsOwner owners.Os = ⊤
IsOwner (owners.Enclave e) = e < 8

-- the enclave slot that it names, if any, is below 8
abbrev pub RegionNamesSlot : Region → Type 0
RegionNamesSlot regions.Free = ⊤
RegionNamesSlot (regions.Owned owner since) = IsOwner owner
RegionNamesSlot (regions.Blocked owner since at) = IsOwner owner
RegionNamesSlot (regions.Offered to at) = to < 8

-- a record of a region: a slot below 8, and tickets of 32 bits
abbrev pub IsRegion : Region → Type 0
IsRegion regions.Free = ⊤
IsRegion (regions.Owned owner since) = IsOwner owner × (since < 2 ^ 32)
IsRegion (regions.Blocked owner since at) = IsOwner owner × (since < 2 ^ 32) × (at < 2 ^ 32)
IsRegion (regions.Offered to at) = (to < 8) × (at < 2 ^ 32)

-- a region that is withdrawn from its owner at ticket k; one that is not Owned stays
abbrev pub withdrawn : Region → ℕ → Region
withdrawn regions.Free k = regions.Free
withdrawn (regions.Owned owner since) k = regions.Blocked owner since k
withdrawn (regions.Blocked owner since at) k = regions.Blocked owner since at
withdrawn (regions.Offered to at) k = regions.Offered to at

-- 0 for the OS, else one more than the enclave's slot
abbrev pub owner_code : Owner → ℕ
owner_code owners.Os = 0
owner_code (owners.Enclave e) = 1 + e

-- state + 4 * owner + 64 * since; an offer has its ticket in the place of since
abbrev pub own_word : Region → ℕ
own_word regions.Free = 0
own_word (regions.Owned owner since) = 1 + 4 * owner_code owner + 64 * since
own_word (regions.Blocked owner since at) = 2 + 4 * owner_code owner + 64 * since
own_word (regions.Offered to at) = 3 + 4 * (1 + to) + 64 * at

-- the ticket of the blocking, or 0 where the region is not Blocked
abbrev pub at_word : Region → ℕ
at_word regions.Free = 0
at_word (regions.Owned owner since) = 0
at_word (regions.Blocked owner since at) = at
at_word (regions.Offered to at) = 0

-- the two words are the row of this record
pub record IsRegionRow (word at : ℕ) (region : Region) : Type 0 where
  pub valid : IsRegion region
  pub first : own_word region ≡ word
  pub second : at_word region ≡ at

-- the two words of a region's row
abbrev pub region_row : Region → List ℕ
region_row region = own_word region ∷ at_word region ∷ []

-- whom a code names: 1 to 8 the enclave slots from 0 on, and the OS for any other code
unfoldable pub owner_from : ℕ → Owner
owner_from code = if code == 0 then owners.Os else if nat_lt code 9 then owners.Enclave (code - 1) else owners.Os

-- a region that is offered to the enclave in this slot; Free where no slot is named
abbrev pub offered_to : Owner → ℕ → Region
offered_to owners.Os at = regions.Free
offered_to (owners.Enclave to) at = regions.Offered to at

-- the record of a state (1 Owned, 2 Blocked, 3 Offered, else Free), whom it names, a ticket in the place of since, and
-- one of a blocking
unfoldable pub region_by : ℕ → Owner → ℕ → ℕ → Region
region_by state owner since at =
    if state == 1 then regions.Owned owner since else
    if state == 2 then regions.Blocked owner since at else
    if state == 3 then offered_to owner since else
    regions.Free

-- the parts of two words, each read as what stands there in a row
unfoldable pub region_parts : List ℕ → Region
region_parts words =
    let own = slice_index words 0 in
    let at = slice_index words 1 in
    region_by (own % 4) (owner_from (own / 4 % 16)) (fitting (2 ^ 32) (own / 64)) (fitting (2 ^ 32) at)

-- the record whose row these words are; Free where they are no region's row
unfoldable pub region_from : List ℕ → Region
region_from words = if same_words (region_row (region_parts words)) words then region_parts words else regions.Free

-- the region, or Free where there is none
abbrev pub region_or_free : Option Region → Region
region_or_free None = regions.Free
region_or_free (Some region) = region
