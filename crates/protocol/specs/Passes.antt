-- Item 1 of the invariant: views that are live, kept or spent, how they split and join, and one list of permitted moves
-- that gives the words and the views. This project's own.
use Rattle.std.specs.Prelude.{◌≡◌, ◌⊎◌, ℕ, ◌+◌, ◌<◌, ◌≤◌, ⊤, ◌==◌, if◌then◌else◌, List, [], ◌∷◌, ◌++◌, length, filter, map}
use Rattle.std.specs.List.{AllByRecursion, flat_map}
use Rattle.mon_types.specs.Shape.{Shape}
use Rattle.protocol.specs.declared.action.Move.{Move}
use Rattle.protocol.specs.Places.{Place, HasWord}
use Rattle.protocol.specs.Moves.{place_of}
use Rattle.protocol.specs.Words.{IsPlaced}
use Rattle.protocol.specs.Views.{View, call_moves}
use Rattle.protocol.specs.Permitted.{Permitted}
use Rattle.protocol.specs.Runs.{Made, moves_with, moves_of, memory_after, IsRun}
use Rattle.protocol.specs.Worlds.{World, made_now, world_after}

-- ---- passes

-- A pass is spent, or live: it has its own core's view, how many passes there were with those split off from it, which
-- core 0's alone counts, and the views that it keeps of cores that have ended.
pub data Pass : Type 0 where
  Spent : Pass
  Live : (own : View) (pass_count : ℕ) (kept : List View) → Pass

-- the view of a core that has made no move
abbrev pub new_view : ℕ → View
new_view core = record { core = core; moves = [] }

-- the first pass, of core 0
abbrev pub first_pass : Pass
first_pass = Live (new_view 0) 1 []

-- split leaves core 0's pass, which counts one more
unfoldable pub counted : Pass → Pass
counted Spent = Spent
counted (Live own pass_count kept) = Live own (pass_count + 1) kept

-- and makes that of the next core, with no moves
unfoldable pub split_off : Pass → Pass
split_off Spent = Spent
split_off (Live own pass_count kept) = Live (new_view pass_count) 0 []

-- the views that a pass has, live and kept
unfoldable pub views_of : Pass → List View
views_of Spent = []
views_of (Live own pass_count kept) = own ∷ kept

-- join keeps these views in a pass; the other pass is spent
unfoldable pub keeps : List View → Pass → Pass
keeps views Spent = Spent
keeps views (Live own pass_count kept) = Live own pass_count (kept ++ views)

-- a pass that takes another in
abbrev pub joined : Pass → Pass → Pass
joined into other = keeps (views_of other) into

-- the views of all passes
abbrev pub all_views : List Pass → List View
all_views passes = flat_map views_of passes

-- ---- 1. Each core number below the count of passes made (under `lab`, below the core count) stands in exactly one
-- ---- view, live or kept, and every other view is spent. The words and these views are what one list of permitted
-- ---- moves, each core's in its order, gives from the start by `Moves`.

-- how many of these views are of this core
abbrev pub view_count : ℕ → List View → ℕ
view_count core views = length (filter (λ v. v.core == core) views)

-- each core number below this count stands in exactly one of these views, and no other does
pub record StandOnce (count : ℕ) (views : List View) : Type 0 where
  pub once : (core : ℕ) → core < count → view_count core views ≡ 1
  pub others : AllByRecursion (λ v. v.core < count) views

-- the words and the moves of each core are what this list gives, from the start with these words of DRAM; it is a list
-- of permitted moves of cores below this count
pub record IsGivenBy (shape : Shape) (dram : List ℕ) (count : ℕ) (w : World) (run : List Made) : Type 0 where
  pub permitted : IsRun shape dram run
  pub cores : AllByRecursion (λ made. made.core < count) run
  pub words : (p : Place) → HasWord shape p → w.memory p ≡ memory_after shape dram run p
  pub moves : (core : ℕ) → w.moves core ≡ moves_of core run

-- some list does
abbrev pub IsGiven : Shape → List ℕ → ℕ → World → Type 0
IsGiven shape dram count w = (run : List Made) × IsGivenBy shape dram count w run

-- core 0's pass says how many were made, and no other counts
abbrev pub IsCounted : ℕ → Pass → Type 0
IsCounted count Spent = ⊤
IsCounted count (Live own pass_count kept) = pass_count ≡ (if own.core == 0 then count else 0)

-- the views of these passes, of which so many were made, are those of the world, and it is given
pub record PassesAreGiven (shape : Shape) (dram : List ℕ) (count : ℕ) (passes : List Pass) (w : World) : Type 0 where
  pub few : count ≤ shape.cores
  pub counted : AllByRecursion (IsCounted count) passes
  pub once : StandOnce count (all_views passes)
  pub views : AllByRecursion (λ v. v.moves ≡ w.moves v.core) (all_views passes)
  pub given : IsGiven shape dram count w

-- ---- one more move of a live pass

-- the pass of its core gets the move in front
unfoldable pub pass_after : Made → Pass → Pass
pass_after made Spent = Spent
pass_after made (Live own count kept) =
    Live (record { core = own.core; moves = moves_with own.core made own.moves }) count kept

-- a live pass is this core's
abbrev pub IsOfCore : ℕ → Pass → Type 0
IsOfCore core Spent = ⊥
IsOfCore core (Live own pass_count kept) = own.core ≡ core

-- one of these is
abbrev pub IsLive : ℕ → List Pass → Type 0
IsLive core [] = ⊥
IsLive core (pass ∷ passes) = IsOfCore core pass ⊎ IsLive core passes

-- ---- split and join: they load word 0, change no word, and change two passes. They are parts of the passes alone, and
-- ---- no moves.

-- Core 0's pass, which counts the passes that were made, splits off that of the next core, which has made no move and
-- stands behind all others. There is a next core.
pub record IsSplit (shape : Shape) (count : ℕ) (passes later : List Pass) : Type 0 where
  pub front : List Pass
  pub own : View
  pub kept : List View
  pub behind : List Pass
  pub passes_are : passes ≡ front ++ Live own count kept ∷ behind
  pub of_first : own.core ≡ 0
  pub few : count < shape.cores
  pub later_are :
      later ≡ front ++ (counted (Live own count kept) ∷ behind ++ split_off (Live own count kept) ∷ [])

-- a live pass is at rest: no call of its core is under way
abbrev pub IsAtRest : Pass → Type 0
IsAtRest Spent = ⊥
IsAtRest (Live own pass_count kept) = call_moves own.moves ≡ []

-- a pass is not spent
abbrev pub IsOpen : Pass → Type 0
IsOpen Spent = ⊥
IsOpen (Live own pass_count kept) = ⊤

-- A pass takes in one that is at rest, which is then spent: that one stands behind it or before it among the passes.
pub data IsJoin (passes later : List Pass) : Type 0 where
  Behind : (front between behind : List Pass) (into other : Pass) → IsOpen into → IsAtRest other
      → passes ≡ front ++ (into ∷ between ++ other ∷ behind)
      → later ≡ front ++ (joined into other ∷ between ++ Spent ∷ behind) → IsJoin passes later
  Before : (front between behind : List Pass) (into other : Pass) → IsOpen into → IsAtRest other
      → passes ≡ front ++ (other ∷ between ++ into ∷ behind)
      → later ≡ front ++ (Spent ∷ between ++ joined into other ∷ behind) → IsJoin passes later

-- ---- that steps keep item 1

-- a split, with one pass more
abbrev pub SplitKeeps : Type 0
SplitKeeps =
    (shape : Shape) (dram : List ℕ) (count : ℕ) (passes later : List Pass) (w : World)
    → PassesAreGiven shape dram count passes w → IsSplit shape count passes later
    → PassesAreGiven shape dram (count + 1) later w

-- a join
abbrev pub JoinKeeps : Type 0
JoinKeeps =
    (shape : Shape) (dram : List ℕ) (count : ℕ) (passes later : List Pass) (w : World)
    → PassesAreGiven shape dram count passes w → IsJoin passes later → PassesAreGiven shape dram count later w

-- and a permitted move of a live pass, which acts on a word of the machine
abbrev pub MoveIsGiven : Type 0
MoveIsGiven =
    (shape : Shape) (dram : List ℕ) (count : ℕ) (passes : List Pass) (w : World) (core : ℕ) (move : Move)
    → PassesAreGiven shape dram count passes w → IsLive core passes
    → Permitted shape core (w.moves core) move → IsPlaced shape (place_of move)
    → PassesAreGiven shape dram count (map (pass_after (made_now w core move)) passes) (world_after w core move)
