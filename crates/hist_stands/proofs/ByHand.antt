-- What the runs that are written out by hand need again and again.
use Rattle.std.proofs.Common.{◌≡◌, ℕ, zero, suc, ◌<◌, ◌⊎◌, [], ◌∷◌, inl, inr, arith}
use Rattle.mon_types.specs.Shape.{plain}
use Rattle.mon_types.specs.declared.region.Owner.TheVariants as owners
use Rattle.mon_types.specs.declared.region.Region.TheVariants as regions
use Rattle.mon_model.specs.State.{region_at, flushed_at}
use Rattle.hist.specs.declared.event.Event.TheVariants as events
use Rattle.hist.specs.Rows.{flushed, logged}
use Rattle.hist_stands.specs.States.{state_now}
use Rattle.hist_stands.specs.Stamp.{Stamp, IsStamped}
use Rattle.hist_stands.specs.Runs.{blocked_and_flushed, moved_history}

-- ---- touches without a stamp

-- none of a period from ticket 5 on, where nothing is logged
pub none_from_five : IsStamped (plain 1) [] 0 [] (events.Touch 3 5) [] → ⊥
none_from_five (owner, zero, stamp) = let is = stamp.owned in cc
none_from_five (owner, suc k, stamp) = omega (arith, stamp.drawn)

-- none behind the flush, where the region is blocked before it and freed behind it
pub none_behind_flush : IsStamped (plain 2) moved_history 1 (logged (flushed 4 1 0 ∷ [])) (events.Touch 3 0) [] → ⊥
none_behind_flush (owner, k, stamp) = at k stamp
  where
    at : (k : ℕ) → Stamp (plain 2) moved_history 1 (logged (flushed 4 1 0 ∷ [])) [] 3 0 owner k → ⊥
    at zero stamp = omega (arith, stamp.earlier.0)
    at (suc zero) stamp = omega (arith, stamp.earlier.0)
    at (suc (suc zero)) stamp = omega (arith, stamp.earlier.0)
    at (suc (suc (suc zero))) stamp = omega (arith, stamp.earlier.0)
    at (suc (suc (suc (suc zero)))) stamp = let is = stamp.owned in cc
    at (suc (suc (suc (suc (suc zero))))) stamp = let is = stamp.owned in cc
    at (suc (suc (suc (suc (suc (suc k)))))) stamp = omega (arith, stamp.drawn)

-- ---- a region that is not held

-- the core has flushed since the block
pub not_below : (region_at (state_now (plain 1) blocked_and_flushed) 3 ≡ regions.Owned owners.Os 0)
    ⊎ ((b : ℕ) × (region_at (state_now (plain 1) blocked_and_flushed) 3 ≡ regions.Blocked owners.Os 0 b)
    × (flushed_at (state_now (plain 1) blocked_and_flushed) 0 < b)) → ⊥
not_below (inl is) = cc
not_below (inr (b, is, lt)) = by is
  where
    by : regions.Blocked owners.Os 0 1 ≡ regions.Blocked owners.Os 0 b → ⊥
    by is = let at : 1 ≡ b = cc in omega (arith, at, lt)
