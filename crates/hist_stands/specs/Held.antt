-- What holds now of a period that a core has touched since its last clearing entry. This project's own.
use Rattle.std.specs.Prelude.{◌≡◌, ℕ, ◌<◌, ◌⊎◌, List, None, IsSomeAnd}
use Rattle.mon_types.specs.declared.region.Owner.{Owner}
use Rattle.mon_types.specs.declared.region.Region.TheVariants as regions
use Rattle.mon_model.specs.State.{State, region_at, mode_of, flushed_at}
use Rattle.hist.specs.declared.event.Entry.{Entry}
use Rattle.hist.specs.Period.{period_in}
use Rattle.hist.specs.SafeLog.{IsOpenTo}

-- The core holds the period (r, a) in the state s after the history h: the region is Owned since a, or Blocked since
-- a at a ticket that the core's cell is below; its owner is the OS or the enclave that the core is inside; and the
-- period is this owner's and not freed.
pub record IsHeld (h : List Entry) (s : State) (core r a : ℕ) : Type 0 where
  pub owner : Owner
  pub region : (region_at s r ≡ regions.Owned owner a)
      ⊎ ((b : ℕ) × (region_at s r ≡ regions.Blocked owner a b) × (flushed_at s core < b))
  pub opens : IsOpenTo (mode_of s core) owner
  pub alive : IsSomeAnd (period_in h r a) (λ p. (p.owner ≡ owner) × (p.freed ≡ None))
