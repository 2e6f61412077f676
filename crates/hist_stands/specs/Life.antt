-- How a period goes on: it lasts, it is ended, it is freed. This project's own.
use Rattle.std.specs.Prelude.{◌≡◌, ℕ, ◌<◌, ◌≤◌, ◌⊎◌, List, length, Any, Some, None}
use Rattle.mon_types.specs.Shape.{Shape}
use Rattle.mon_types.specs.declared.region.Owner.{Owner}
use Rattle.mon_types.specs.declared.region.Region.TheVariants as regions
use Rattle.mon_model.specs.State.{State, region_at, flushed_at}
use Rattle.hist.specs.declared.event.Entry.{Entry}
use Rattle.hist.specs.Period.{is_end, is_freeing, ticket_after}
use Rattle.hist.specs.SafeLog.{IsFlush}

-- an Ok flush of this core, above ticket b
pub record FlushedAfter (core b : ℕ) (e : Entry) : Type 0 where
  pub of_core : e.core ≡ core
  pub flush : IsFlush e
  pub above : b < e.ticket

-- The period (r, a) of this owner, of which it is known that it lasted after k entries, in the state s after the
-- entries `gone`.
pub data Life (shape : Shape) (gone : List Entry) (s : State) (k r : ℕ) (owner : Owner) (a : ℕ) : Type 0 where
  -- it lasts: the region is Owned since a
  Lasts : region_at s r ≡ regions.Owned owner a → ticket_after gone a (is_end r) ≡ None
      → Life shape gone s k r owner a
  -- it was ended at b: each core whose cell is not below b has flushed since
  Ended : (b : ℕ) → k < b → b ≤ length gone → region_at s r ≡ regions.Blocked owner a b
      → ticket_after gone a (is_end r) ≡ Some b → ticket_after gone b (is_freeing r) ≡ None
      → ((core : ℕ) → core < shape.cores → (flushed_at s core < b) ⊎ Any (FlushedAfter core b) gone)
      → Life shape gone s k r owner a
  -- it was ended at b and freed at z: each core has flushed between
  Freed : (b z : ℕ) → k < b → ticket_after gone a (is_end r) ≡ Some b
      → ticket_after gone b (is_freeing r) ≡ Some z
      → ((core : ℕ) → core < shape.cores → Any (λ e. FlushedAfter core b e × (e.ticket < z)) gone)
      → Life shape gone s k r owner a
