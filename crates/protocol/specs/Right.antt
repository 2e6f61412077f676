-- Why a move on a word of DRAM is allowed. This project's own.
use Rattle.std.specs.Prelude.{◌≡◌, ℕ, true, List, [], ◌∷◌, Contains, Option, Some, None, IsSomeAnd}
use Rattle.mon_types.specs.Bits.{has_bit}
use Rattle.mon_types.specs.declared.region.Owner.TheVariants as owners
use Rattle.mon_types.specs.declared.region.Region.{Region}
use Rattle.mon_types.specs.declared.region.Region.TheVariants as regions
use Rattle.mon_types.specs.declared.object.ObjectId.TheVariants as objects
use Rattle.mon_model.specs.State.{State, region_at, enclave_at}
use Rattle.mon_model.specs.RegionCalls.{is_loading}
use Rattle.mon_records.specs.Answers.{freed}
use Rattle.dram_map.specs.Addresses.{region_of_word}
use Rattle.hist.specs.declared.event.Entry.{Entry}
use Rattle.protocol.specs.declared.action.Action.{Action}
use Rattle.protocol.specs.declared.action.Action.TheVariants as actions
use Rattle.protocol.specs.declared.action.Move.{Move}
use Rattle.protocol.specs.declared.action.Move.TheVariants as moves
use Rattle.protocol.specs.Views.{Moves, entries_in, has_touched, held_of}

-- ---- the move

-- what a move does to a word of DRAM
pub data Reach : Type 0 where
  Loads : Reach
  Stores : (value : ℕ) → Reach
  Swaps : (value : ℕ) → Reach

-- that of a call's move, with its word
unfoldable pub action_reach : Action → Option (ℕ × Reach)
action_reach (actions.TryLock o) = None
action_reach (actions.Read o i) = None
action_reach (actions.Write o i value) = None
action_reach (actions.Draw draft) = None
action_reach (actions.Unlock o) = None
action_reach (actions.Load i) = Some (i, Loads)
action_reach (actions.Store i value) = Some (i, Stores value)

-- that of any move; None where it is no move on DRAM
unfoldable pub reach_of : Move → Option (ℕ × Reach)
reach_of (moves.InCall a) = action_reach a
reach_of (moves.Look r owner) = None
reach_of (moves.Load i) = Some (i, Loads)
reach_of (moves.Store i value) = Some (i, Stores value)
reach_of (moves.Swap i loaded value) = Some (i, Swaps value)
reach_of (moves.Stop line why) = None

-- ---- its right

-- the region is Owned or Blocked since ticket a
abbrev pub IsSince : Region → ℕ → Type 0
IsSince regions.Free a = ⊥
IsSince (regions.Owned owner since) a = since ≡ a
IsSince (regions.Blocked owner since at) a = since ≡ a
IsSince (regions.Offered to at) a = ⊥

-- the last of these entries, if there is one
abbrev pub last_entry : List Entry → Option Entry
last_entry [] = None
last_entry (e ∷ []) = Some e
last_entry (e ∷ next ∷ es) = last_entry (next ∷ es)

-- the last ticket that a core with these moves has drawn freed region r
abbrev pub LastFreed : ℕ → Moves → ℕ → Type 0
LastFreed core ms r = IsSomeAnd (last_entry (entries_in core ms)) (λ e. freed e.reply e.call ≡ Some r)

-- A core that has made these moves reaches a word of region r, in the state s after all tickets drawn so far.
pub data RightTo (s : State) (core : ℕ) (ms : Moves) (r : ℕ) (reach : Reach) : Type 0 where
  -- 1. The region is Owned or Blocked since a, and (r, a) is in the core's touches.
  OfTouch : (a : ℕ) → IsSince (region_at s r) a → has_touched core ms r a ≡ true → RightTo s core ms r reach
  -- 2. It is a Load, and its region is held by this core and Owned by the OS.
  OfSource : (a : ℕ) → reach ≡ Loads → Contains (held_of ms) (objects.Region r)
      → region_at s r ≡ regions.Owned owners.Os a → RightTo s core ms r reach
  -- 3. Its page lies in a region of a Loading enclave that this core holds.
  OfLoading : (e : ℕ) → Contains (held_of ms) (objects.Enclave e) → is_loading (enclave_at s e).stage ≡ true
      → has_bit (enclave_at s e).regions r ≡ true → RightTo s core ms r reach
  -- 4. It stores 0, its region is Free and held by this core, and this core's last Draw freed it.
  OfFreeing : reach ≡ Stores 0 → region_at s r ≡ regions.Free → Contains (held_of ms) (objects.Region r)
      → LastFreed core ms r → RightTo s core ms r reach

-- a move has its right where it is a move on DRAM
abbrev pub HasRight : State → ℕ → Moves → Option (ℕ × Reach) → Type 0
HasRight s core ms None = Unit {0}
HasRight s core ms (Some p) = RightTo s core ms (region_of_word s.shape p.0) p.1

-- the same of a move
abbrev pub Right : State → ℕ → Moves → Move → Type 0
Right s core ms move = HasRight s core ms (reach_of move)
