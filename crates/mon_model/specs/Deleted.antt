-- Regions of a deleted enclave. This project's own.
use Rattle.std.specs.Prelude.{ℕ, List, [], ◌∷◌, slice_set}
use Rattle.std.specs.List.{slice_index_or}
use Rattle.mon_types.specs.declared.region.Region.{Region}
use Rattle.mon_types.specs.declared.region.Region.TheVariants as regions
use Rattle.mon_model.specs.EnclaveCalls.{deleted}

-- the table of regions after those with these numbers were blocked at ticket k, one after the other
abbrev pub deleted_in : List Region → List ℕ → ℕ → List Region
deleted_in table [] k = table
deleted_in table (r ∷ rs) k = deleted_in (slice_set table r (deleted (slice_index_or table r regions.Free) k)) rs k
