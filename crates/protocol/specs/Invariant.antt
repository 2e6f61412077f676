-- What holds over the shared words and all views at every moment: the ten items together. This project's own.
use Rattle.std.specs.Prelude.{◌≡◌, ℕ, ◌+◌, ◌<◌, true, List, map}
use Rattle.mon_types.specs.Shape.{Shape, is_shape}
use Rattle.protocol.specs.declared.action.Move.{Move}
use Rattle.protocol.specs.Moves.{place_of}
use Rattle.protocol.specs.Words.{IsPlaced}
use Rattle.protocol.specs.Views.{is_calling}
use Rattle.protocol.specs.Right.{Right}
use Rattle.protocol.specs.Permitted.{Permitted}
use Rattle.protocol.specs.Worlds.{World, state_now, IsDoingSome, made_now, world_after}
use Rattle.protocol.specs.Passes.{Pass, PassesAreGiven, IsGiven, pass_after, IsLive, IsSplit, IsJoin}
use Rattle.protocol.specs.Logs.{EntriesAreLegal, LogsAreSafe}
use Rattle.protocol.specs.Records.{LocksNameHolders, FreeRowsStand, HeldRowsStand, OwnWordsAreTrue, TouchesHold}
use Rattle.protocol.specs.Contents.{LoadingHold, IdleHoldZeros}

-- each core whose call is under way does some call; without that, items 5, 9 and 10 would say nothing of it
abbrev pub CallingDoes : Shape → World → Type 0
CallingDoes shape w =
    (core : ℕ) → core < shape.cores → is_calling (w.moves core) ≡ true → IsDoingSome shape w core

-- items 2 to 10
pub record Stand (shape : Shape) (w : World) : Type 0 where
  pub calling : CallingDoes shape w
  pub item_2 : EntriesAreLegal shape w
  pub item_3 : LocksNameHolders shape w
  pub item_4 : FreeRowsStand shape w
  pub item_5 : HeldRowsStand shape w
  pub item_6 : OwnWordsAreTrue shape w
  pub item_7 : TouchesHold shape w
  pub item_8 : LoadingHold shape w
  pub item_9 : IdleHoldZeros shape w
  pub item_10 : LogsAreSafe shape w

-- all ten, where DRAM held these words at the start and so many passes were made
pub record Invariant (shape : Shape) (dram : List ℕ) (count : ℕ) (passes : List Pass) (w : World) : Type 0 where
  pub item_1 : PassesAreGiven shape dram count passes w
  pub others : Stand shape w

-- ---- the laws that stand on these definitions

-- every state of item 1 meets items 2 to 10
abbrev pub GivenStands : Type 0
GivenStands =
    (shape : Shape) → is_shape shape ≡ true → (dram : List ℕ) (count : ℕ) (w : World)
    → IsGiven shape dram count w → Stand shape w

-- each permitted move of a core with a live pass keeps all ten
abbrev pub MoveKeeps : Type 0
MoveKeeps =
    (shape : Shape) → is_shape shape ≡ true → (dram : List ℕ) (count : ℕ) (passes : List Pass) (w : World)
    → Invariant shape dram count passes w → (core : ℕ) (move : Move)
    → IsLive core passes → Permitted shape core (w.moves core) move
    → Invariant shape dram count (map (pass_after (made_now w core move)) passes) (world_after w core move)

-- a split keeps all ten, with one pass more
abbrev pub SplitKeepsAll : Type 0
SplitKeepsAll =
    (shape : Shape) (dram : List ℕ) (count : ℕ) (passes later : List Pass) (w : World)
    → Invariant shape dram count passes w → IsSplit shape count passes later
    → Invariant shape dram (count + 1) later w

-- a join keeps them too
abbrev pub JoinKeepsAll : Type 0
JoinKeepsAll =
    (shape : Shape) (dram : List ℕ) (count : ℕ) (passes later : List Pass) (w : World)
    → Invariant shape dram count passes w → IsJoin passes later → Invariant shape dram count later w

-- each permitted move on DRAM of a core of the machine has its right
abbrev pub PermittedHasRight : Type 0
PermittedHasRight =
    (shape : Shape) → is_shape shape ≡ true → (dram : List ℕ) (count : ℕ) (w : World)
    → IsGiven shape dram count w → (core : ℕ) (move : Move) → core < shape.cores
    → Permitted shape core (w.moves core) move → Right (state_now shape w) core (w.moves core) move

-- and each permitted move that acts on a word acts on one of the machine
abbrev pub PermittedIsPlaced : Type 0
PermittedIsPlaced =
    (shape : Shape) → is_shape shape ≡ true → (dram : List ℕ) (count : ℕ) (w : World)
    → IsGiven shape dram count w → (core : ℕ) (move : Move) → core < shape.cores
    → Permitted shape core (w.moves core) move → IsPlaced shape (place_of move)
