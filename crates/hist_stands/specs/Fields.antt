-- The definitions of what stands field by field, where one field is to fail and all others hold: what a run shows that
-- this field alone refuses. Each record has the fields of its definition in their order, and where no field is to fail
-- it is the definition, both ways (`ButNoneIs`, `IsButNone`). This project's own.
use Rattle.std.specs.Prelude.{◌≡◌, ◌≢◌, ℕ, ◌+◌, ◌<◌, ◌≤◌, ◌⊎◌, false, List, [], length, take, None, IsSomeAnd}
use Rattle.std.specs.List.{AllByRecursion}
use Rattle.mon_types.specs.Shape.{Shape}
use Rattle.mon_types.specs.declared.object.ObjectId.{ObjectId}
use Rattle.mon_types.specs.declared.region.Owner.{Owner}
use Rattle.mon_types.specs.declared.region.Region.TheVariants as regions
use Rattle.mon_model.specs.State.{State, start, region_at, mode_of, flushed_at}
use Rattle.hist.specs.declared.event.Entry.{Entry}
use Rattle.hist.specs.declared.event.Event.{Event}
use Rattle.hist.specs.History.{entries_of}
use Rattle.hist.specs.Legal.{AreTickets, AreOwn, AreLegalEntries}
use Rattle.hist.specs.Period.{period_in}
use Rattle.hist.specs.SafeLog.{IsOpenTo}
use Rattle.hist.specs.Touched.{is_touched}
use Rattle.hist.specs.Busy.{own, UnderWay, CallHasTaken}
use Rattle.hist.specs.Fields.{Field, none}
use Rattle.hist_stands.specs.States.{state_at, IsHistory}
use Rattle.hist_stands.specs.Stamp.{Stamp, AreStamped}
use Rattle.hist_stands.specs.Stands.{Stands}
use Rattle.hist_stands.specs.Held.{IsHeld}
use Rattle.hist_stands.specs.Found.{Found}

-- `IsHistory`, but for this field
pub record HistoryBut (failing : ℕ) (shape : Shape) (h : List Entry) : Type 0 where
  pub tickets : Field failing 0 (AreTickets 1 h)
  pub entries : Field failing 1 (AreLegalEntries (start shape) h)

-- `Stamp`, but for this field
pub record StampBut (failing : ℕ) (shape : Shape) (h : List Entry) (core : ℕ) (before behind : List Event) (r a : ℕ)
    (owner : Owner) (k : ℕ) : Type 0 where
  pub drawn : Field failing 0 (k ≤ length h)
  pub earlier : Field failing 1 (AllByRecursion (λ e. e.ticket ≤ k) (entries_of before))
  pub later : Field failing 2 (AllByRecursion (λ e. k < e.ticket) (entries_of behind))
  pub owned : Field failing 3 (region_at (state_at shape h k) r ≡ regions.Owned owner a)
  pub opens : Field failing 4 (IsOpenTo (mode_of (state_at shape h k) core) owner)
  pub fresh : Field failing 5 (is_touched r a before ≡ false)

-- `Stands`, but for this field
pub record StandsBut (failing : ℕ) (shape : Shape) (h : List Entry) (log : ℕ → List Event) : Type 0 where
  pub legal : Field failing 0 (IsHistory shape h)
  pub cores : Field failing 1 (AllByRecursion (λ e. e.core < shape.cores) h)
  pub serials : Field failing 2 ((core : ℕ) → core < shape.cores → AreOwn core 0 0 (entries_of (log core)))
  pub mine : Field failing 3 ((core : ℕ) → core < shape.cores → entries_of (log core) ≡ own core h)
  pub stamped : Field failing 4 ((core : ℕ) → core < shape.cores → AreStamped shape h core [] (log core))

-- `IsHeld`, but for this field, with its owner
pub record HeldBut (failing : ℕ) (h : List Entry) (s : State) (core r a : ℕ) (owner : Owner) : Type 0 where
  pub region : Field failing 0 ((region_at s r ≡ regions.Owned owner a)
      ⊎ ((b : ℕ) × (region_at s r ≡ regions.Blocked owner a b) × (flushed_at s core < b)))
  pub opens : Field failing 1 (IsOpenTo (mode_of s core) owner)
  pub alive : Field failing 2 (IsSomeAnd (period_in h r a) (λ p. (p.owner ≡ owner) × (p.freed ≡ None)))

-- `Found`, but for this field
pub record FoundBut (failing : ℕ) (shape : Shape) (h : List Entry) (now : ℕ → UnderWay) (core mine : ℕ)
    (lock : ObjectId) (holder serial k : ℕ) : Type 0 where
  pub is_core : Field failing 0 (holder < shape.cores)
  pub other : Field failing 1 (holder ≢ core)
  pub drawn : Field failing 2 (k ≤ length h)
  pub before : Field failing 3 (AllByRecursion (λ e. e.serial < mine → e.ticket ≤ k) (own core h))
  pub begun : Field failing 4 (serial ≤ length (own holder (take k h)))
  pub under_way : Field failing 5 (length (own holder (take k h)) ≤ serial + 1)
  pub held : Field failing 6 (CallHasTaken h now holder serial lock)

-- ---- where no field is to fail

-- A definition field by field with none that fails gives the definition,
pub record ButNoneIs : Type 0 where
  pub history : (shape : Shape) (h : List Entry) → HistoryBut none shape h → IsHistory shape h
  pub stamp : (shape : Shape) (h : List Entry) (core : ℕ) (before behind : List Event) (r a : ℕ) (owner : Owner) (k : ℕ)
      → StampBut none shape h core before behind r a owner k → Stamp shape h core before behind r a owner k
  pub stands : (shape : Shape) (h : List Entry) (log : ℕ → List Event) → StandsBut none shape h log → Stands shape h log
  pub held : (h : List Entry) (s : State) (core r a : ℕ) (owner : Owner) → HeldBut none h s core r a owner
      → IsHeld h s core r a
  pub found : (shape : Shape) (h : List Entry) (now : ℕ → UnderWay) (core mine : ℕ) (lock : ObjectId)
      (holder serial k : ℕ) → FoundBut none shape h now core mine lock holder serial k
      → Found shape h now core mine lock holder serial k

-- and the definition gives it back: so where a run fails this field alone, it fails the definition's field.
pub record IsButNone : Type 0 where
  pub history : (shape : Shape) (h : List Entry) → IsHistory shape h → HistoryBut none shape h
  pub stamp : (shape : Shape) (h : List Entry) (core : ℕ) (before behind : List Event) (r a : ℕ) (owner : Owner) (k : ℕ)
      → Stamp shape h core before behind r a owner k → StampBut none shape h core before behind r a owner k
  pub stands : (shape : Shape) (h : List Entry) (log : ℕ → List Event) → Stands shape h log → StandsBut none shape h log
  pub held : (h : List Entry) (s : State) (core r a : ℕ) (is : IsHeld h s core r a) → HeldBut none h s core r a is.owner
  pub found : (shape : Shape) (h : List Entry) (now : ℕ → UnderWay) (core mine : ℕ) (lock : ObjectId)
      (holder serial k : ℕ) → Found shape h now core mine lock holder serial k
      → FoundBut none shape h now core mine lock holder serial k
