-- The objects that a call tries, up to one of them. This project's own.
use Rattle.std.specs.Prelude.{◌≡◌, List, [], ◌∷◌, ◌++◌}
use Rattle.mon_types.specs.declared.object.ObjectId.{ObjectId}
use Rattle.mon_types.specs.declared.object.Tried.{Tried}
use Rattle.mon_model.specs.Tries.{tried_set}

-- the planned objects up to this lock, one of them, are those in the sets
pub record IsFrontTo (lock : ObjectId) (planned : List ObjectId) (tried : Tried) : Type 0 where
  pub before : List ObjectId
  pub behind : List ObjectId
  pub planned_are : planned ≡ before ++ lock ∷ behind
  pub tried_are : tried ≡ tried_set (before ++ lock ∷ [])
