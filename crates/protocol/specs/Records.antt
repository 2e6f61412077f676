-- Items 3 to 7 of the invariant: locks, rows, own-words and touches. This project's own.
use Rattle.std.specs.Prelude.{◌≡◌, ◌≢◌, ◌⊎◌, ℕ, ◌<◌, ◌%◌, Bool, true, false, IsTrue, Contains, Some, None}
use Rattle.mon_types.specs.Shape.{Shape}
use Rattle.mon_types.specs.Objects.{width}
use Rattle.mon_types.specs.declared.region.Owner.{Owner}
use Rattle.mon_types.specs.declared.region.Region.{Region}
use Rattle.mon_types.specs.declared.region.Region.TheVariants as regions
use Rattle.mon_types.specs.declared.call.Call.{Call}
use Rattle.mon_types.specs.declared.call.Call.TheVariants as calls
use Rattle.mon_types.specs.declared.object.ObjectId.{ObjectId}
use Rattle.mon_types.specs.declared.object.ObjectId.TheVariants as objects
use Rattle.mon_model.specs.State.{region_at, flushed_at}
use Rattle.lock_plan.specs.Objects.{HasObject}
use Rattle.core_access.specs.Looks.{since_in_word}
use Rattle.protocol.specs.declared.action.Action.TheVariants as actions
use Rattle.protocol.specs.declared.action.Outcome.TheVariants as outcomes
use Rattle.protocol.specs.Places.{Lock, Row, row_word}
use Rattle.protocol.specs.CallTree.{Tree}
use Rattle.protocol.specs.Views.{call_moves, is_calling, has_drawn, has_touched, own_lock_word}
use Rattle.protocol.specs.Worlds.{World, state_now, IsHeldBy, IsNotHeld, IsDoing, WillDo}

-- ---- 3. A lock word that is not 0 names a core and the serial of that core's call under way, and that core holds the
-- ---- object. No object is held without its lock word.

-- the lock word of an object names this core's call under way, and the core holds the object
pub record IsLockedBy (shape : Shape) (w : World) (o : ObjectId) (core : ℕ) : Type 0 where
  pub held : IsHeldBy shape w core o
  pub calling : is_calling (w.moves core) ≡ true
  pub word : w.memory (Lock o) ≡ own_lock_word core (w.moves core)

-- both sentences
pub record LocksNameHolders (shape : Shape) (w : World) : Type 0 where
  pub named : (o : ObjectId) → HasObject shape o → w.memory (Lock o) ≢ 0 → (core : ℕ) × IsLockedBy shape w o core
  pub locked : (o : ObjectId) (core : ℕ) → IsHeldBy shape w core o → IsLockedBy shape w o core

-- ---- 4. The row of an object that is not held is S's record.

-- each word of a row that nobody holds is that of the state's record
abbrev pub FreeRowsStand : Shape → World → Type 0
FreeRowsStand shape w =
    (o : ObjectId) (i : ℕ) → HasObject shape o → i < width o → IsNotHeld shape w o
    → w.memory (Row o i) ≡ row_word (state_now shape w) o i

-- ---- 5. The row of a held object is S's record, except for own-words already written Blocked before the Draw of a
-- ---- block or delete, and words that the holder's late moves have still to write. An own-word that is still to be
-- ---- written after an accept_region reads Offered.

-- a call that withdraws regions from their owners
abbrev pub withdraws_any : Call → Bool
withdraws_any (calls.Block r) = true
withdraws_any (calls.Delete e) = true
withdraws_any _ = false

-- an accept_region
abbrev pub is_accept_region : Call → Bool
is_accept_region (calls.AcceptRegion r) = true
is_accept_region _ = false

-- an own-word that reads Blocked
abbrev pub ReadsBlocked : ℕ → Type 0
ReadsBlocked word = word % 4 ≡ 2

-- one that reads Offered
abbrev pub ReadsOffered : ℕ → Type 0
ReadsOffered word = word % 4 ≡ 3

-- the own-word of a region, which stands at place 0 of its row
abbrev pub IsOwnWord : ObjectId → ℕ → Type 0
IsOwnWord (objects.Region r) i = i ≡ 0
IsOwnWord _ i = ⊥

-- the core's block or delete has written this own-word, Blocked, and has not drawn its ticket
pub record IsWrittenEarly (shape : Shape) (w : World) (core : ℕ) (o : ObjectId) (i : ℕ) : Type 0 where
  pub own : IsOwnWord o i
  pub word : ℕ
  pub written : Contains (call_moves (w.moves core)) (actions.Write o i word, outcomes.Done)
  pub stands : w.memory (Row o i) ≡ word
  pub blocked : ReadsBlocked word
  pub before_draw : has_drawn (call_moves (w.moves core)) ≡ false
  pub withdraws : (call : Call) (rest : Tree) → IsDoing shape w core call rest → IsTrue (withdraws_any call)

-- The core has drawn its ticket, and whatever its call is, it has still to write the word of S there. Where the call is
-- an accept_region and the word an own-word, Offered is what reads there.
pub record IsToBeWritten (shape : Shape) (w : World) (core : ℕ) (o : ObjectId) (i : ℕ) : Type 0 where
  pub drawn : has_drawn (call_moves (w.moves core)) ≡ true
  pub to_do : (call : Call) (rest : Tree) → IsDoing shape w core call rest
      → WillDo (actions.Write o i (row_word (state_now shape w) o i)) rest
  pub offered : IsOwnWord o i → (call : Call) (rest : Tree) → IsDoing shape w core call rest
      → is_accept_region call ≡ true → ReadsOffered (w.memory (Row o i))

-- the sentence
abbrev pub HeldRowsStand : Shape → World → Type 0
HeldRowsStand shape w =
    (core : ℕ) (o : ObjectId) (i : ℕ) → HasObject shape o → i < width o → IsHeldBy shape w core o
    → (w.memory (Row o i) ≡ row_word (state_now shape w) o i)
    ⊎ (IsWrittenEarly shape w core o i ⊎ IsToBeWritten shape w core o i)

-- ---- 6. An own-word that reads Owned by d since a means that S has the region Owned by d since a. An own-word that
-- ---- reads Offered says nothing of an owner, and no look at it is good.

-- an own-word that reads Owned says what the state has, and one that reads Offered is nobody's
pub record OwnWordsAreTrue (shape : Shape) (w : World) : Type 0 where
  pub owned : (r a : ℕ) (owner : Owner) → r < shape.regions
      → since_in_word owner (w.memory (Row (objects.Region r) 0)) ≡ Some a
      → region_at (state_now shape w) r ≡ regions.Owned owner a
  pub offered : (r : ℕ) (owner : Owner) → r < shape.regions → ReadsOffered (w.memory (Row (objects.Region r) 0))
      → since_in_word owner (w.memory (Row (objects.Region r) 0)) ≡ None

-- ---- 7. A touched (r, a) means that S has r Owned or Blocked since a, and where it is Blocked at b, S's flush ticket
-- ---- of that core is below b.

-- a region that a core has touched in the period since a, where its cell has this ticket
abbrev pub IsTouched : Region → ℕ → ℕ → Type 0
IsTouched regions.Free a cell = ⊥
IsTouched (regions.Owned owner since) a cell = since ≡ a
IsTouched (regions.Blocked owner since at) a cell = (since ≡ a) × (cell < at)
IsTouched (regions.Offered to at) a cell = ⊥

-- the sentence
abbrev pub TouchesHold : Shape → World → Type 0
TouchesHold shape w =
    (core r a : ℕ) → core < shape.cores → has_touched core (w.moves core) r a ≡ true
    → IsTouched (region_at (state_now shape w) r) a (flushed_at (state_now shape w) core)
