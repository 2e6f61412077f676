-- What the entries of a legal history tell of the state that they lead to. This project's own.
use Rattle.std.specs.Prelude.{◌≡◌, ℕ, ◌<◌, ◌≤◌, ◌&&◌, if◌then◌else◌, List, length, fold, Some, None}
use Rattle.std.specs.List.{AllByRecursion}
use Rattle.mon_types.specs.Shape.{Shape}
use Rattle.mon_types.specs.declared.region.Owner.{Owner}
use Rattle.mon_types.specs.declared.region.Region.TheVariants as regions
use Rattle.mon_types.specs.Replies.{is_done}
use Rattle.mon_model.specs.OnCore.{is_flush}
use Rattle.mon_model.specs.State.{State, IsWhole, region_at, mode_of, flushed_at}
use Rattle.mon_model.specs.RegionStep.{FlagsStages, AreInsideSlots}
use Rattle.hist.specs.declared.event.Entry.{Entry}
use Rattle.hist.specs.Period.{is_end, ticket_after, owner_of_period, was_initialized}
use Rattle.hist.specs.SafeLog.{mode_after}
use Rattle.hist.specs.Busy.{own}

-- the ticket of the last Ok flush among these entries, 0 where there is none
abbrev pub last_flush : List Entry → ℕ
last_flush es = fold (λ before e. if is_done e.reply && is_flush e.call then e.ticket else before) 0 es

-- region r has had this owner since ticket a: the period (r, a) is the owner's, and no entry has ended it
pub record OwnedSince (gone : List Entry) (r : ℕ) (owner : Owner) (a : ℕ) : Type 0 where
  pub since : a ≤ length gone
  pub made : owner_of_period gone r a ≡ Some owner
  pub lasts : ticket_after gone a (is_end r) ≡ None

-- The state s after the entries `gone`: its tables are as long as the machine's shape says, no ticket is above the
-- number of entries, no core is inside a slot past the last, and the entries tell which slots are initialized, for
-- whom each core runs, when it flushed last, and of each owned region whose it is and since when.
pub record Known (shape : Shape) (gone : List Entry) (s : State) : Type 0 where
  pub whole : IsWhole s
  pub shaped : s.shape ≡ shape
  pub drawn : AllByRecursion (λ e. e.ticket ≤ length gone) gone
  pub inside : AreInsideSlots s
  pub stages : FlagsStages (was_initialized gone) s
  pub modes : (core : ℕ) → core < shape.cores → mode_of s core ≡ mode_after (own core gone)
  pub cells : (core : ℕ) → core < shape.cores → flushed_at s core ≡ last_flush (own core gone)
  pub owned : (r : ℕ) → r < shape.regions → (owner : Owner) (a : ℕ) → region_at s r ≡ regions.Owned owner a
      → OwnedSince gone r owner a
