-- What the runs that are written out by hand need again and again.
use Rattle.std.proofs.Common.{◌≡◌, ◌≤◌, ◌⊎◌, List, [], ◌∷◌, ◌++◌, inl, inr, ap, arith}
use Rattle.std.specs.Prelude.{Contains}
use Rattle.mon_types.specs.declared.object.ObjectId.{ObjectId}
use Rattle.mon_types.specs.declared.object.ObjectId.TheVariants as objects
use Rattle.mon_types.specs.declared.object.Tried.{Tried}
use Rattle.mon_model.specs.Tries.{tried_set}
use Rattle.hist.specs.Busy.{TriedUpTo}
use Rattle.mon_model.specs.Examples.{r3}

-- ---- locks

-- a core that has taken nothing holds no lock, unless an entry of its tells so
pub not_held : (P Q : Type 0) (lock : ObjectId) → (P → ⊥) → P ⊎ (Q × Contains [] lock) → ⊥
not_held P Q lock none (inl entry) = none entry
not_held P Q lock none (inr alive) = omega (arith, alive.1.1)

-- the set of tried objects up to region 3 has its bit
some_region : (before : List ObjectId) → 8 ≤ (tried_set (before ++ r3 ∷ [])).regions
some_region [] = omega arith
some_region (objects.Enclave e ∷ before) = some_region before
some_region (objects.Thread t ∷ before) = some_region before
some_region (objects.Region r ∷ before) = omega (arith, some_region before)
some_region (objects.Cell c ∷ before) = some_region before

pub nothing_tried : (planned : List ObjectId) → TriedUpTo r3 planned (tried_set []) → ⊥
nothing_tried planned upto =
    let is : 0 ≡ (tried_set (upto.before ++ r3 ∷ [])).regions = ap (λ (t : Tried). t.regions) upto.tried_are in
    omega (arith, some_region upto.before)
