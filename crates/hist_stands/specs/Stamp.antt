-- What is known of a touch at the moment at which a core logs it. This project's own.
use Rattle.std.specs.Prelude.{◌≡◌, ℕ, ◌<◌, ◌≤◌, ⊤, false, List, [], ◌∷◌, ◌++◌, length}
use Rattle.std.specs.List.{AllByRecursion}
use Rattle.mon_types.specs.Shape.{Shape}
use Rattle.mon_types.specs.declared.region.Owner.{Owner}
use Rattle.mon_types.specs.declared.region.Region.TheVariants as regions
use Rattle.mon_model.specs.State.{region_at, mode_of}
use Rattle.hist.specs.declared.event.Entry.{Entry}
use Rattle.hist.specs.declared.event.Event.{Event}
use Rattle.hist.specs.declared.event.Event.TheVariants as events
use Rattle.hist.specs.History.{entries_of}
use Rattle.hist.specs.SafeLog.{IsOpenTo}
use Rattle.hist.specs.Touched.{is_touched}
use Rattle.hist_stands.specs.States.{state_at}

-- The stamp of a touch of (r, a), which the core has logged behind these events, and before those, when k tickets of
-- the history h were drawn. The entries before it have tickets up to k, and those behind it above k; in S(k) the
-- region is Owned since a, by the OS or the enclave that the core is inside; and the core had not touched (r, a)
-- since its last clearing entry.
pub record Stamp (shape : Shape) (h : List Entry) (core : ℕ) (before behind : List Event) (r a : ℕ)
    (owner : Owner) (k : ℕ) : Type 0 where
  pub drawn : k ≤ length h
  pub earlier : AllByRecursion (λ e. e.ticket ≤ k) (entries_of before)
  pub later : AllByRecursion (λ e. k < e.ticket) (entries_of behind)
  pub owned : region_at (state_at shape h k) r ≡ regions.Owned owner a
  pub opens : IsOpenTo (mode_of (state_at shape h k) core) owner
  pub fresh : is_touched r a before ≡ false

-- an event of a core's log: where it is a touch, it has a stamp
abbrev pub IsStamped : Shape → List Entry → ℕ → List Event → Event → List Event → Type 0
IsStamped shape h core before (events.Entry e) behind = ⊤
IsStamped shape h core before (events.Touch r a) behind =
    (owner : Owner) × (k : ℕ) × Stamp shape h core before behind r a owner k
IsStamped shape h core before (events.Stop line why) behind = ⊤

-- the events of a core's log behind these
abbrev pub AreStamped : Shape → List Entry → ℕ → List Event → List Event → Type 0
AreStamped shape h core before [] = ⊤
AreStamped shape h core before (event ∷ behind) =
    IsStamped shape h core before event behind × AreStamped shape h core (before ++ event ∷ []) behind
