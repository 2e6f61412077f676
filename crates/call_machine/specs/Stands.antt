-- What holds of all that a call keeps, by its phase. This project's own.
use Rattle.std.specs.Prelude.{◌≡◌, ℕ, ◌+◌, ◌-◌, ◌<◌, ◌≤◌, ◌^◌, ◌==◌, true, false, List, [], ◌∷◌, ◌++◌, length, slice_index, slice_index_or, Option, None}
use Rattle.std.specs.List.{AllByRecursion}
use Rattle.mon_types.specs.Shape.{is_shape}
use Rattle.mon_types.specs.Sizes.{page_words}
use Rattle.mon_types.specs.Budgets.{answer_budget}
use Rattle.mon_types.specs.Objects.{width}
use Rattle.mon_types.specs.Replies.{is_done}
use Rattle.mon_types.specs.declared.region.Region.TheVariants as regions
use Rattle.mon_types.specs.declared.reply.Reply.{Reply}
use Rattle.mon_types.specs.declared.object.ObjectId.{ObjectId}
use Rattle.mon_model.specs.State.{State, IsWhole, mode_of}
use Rattle.mon_model.specs.Early.{early}
use Rattle.mon_model.specs.Tries.{tried_set, freed_by}
use Rattle.mon_model.specs.OnCore.{is_load_page}
use Rattle.core_context.specs.declared.after.After.{After}
use Rattle.core_context.specs.Changes.{ok_change}
use Rattle.dram_map.specs.Addresses.{word_total, region_of_word}
use Rattle.mon_enclaves.specs.LoadReply.{is_load}
use Rattle.lock_plan.specs.Objects.{IsCaller}
use Rattle.lock_plan.specs.Records.{HoldsFront, nothing_held}
use Rattle.mon_records.specs.Ranges.{AreInRange, IsCall}
use Rattle.call_machine.specs.declared.phase.Phase.{Phase}
use Rattle.call_machine.specs.declared.phase.Phase.TheVariants as phases
use Rattle.call_machine.specs.declared.work.Work.{Work}
use Rattle.call_machine.specs.Found.{widths}
use Rattle.call_machine.specs.Rest.{early_own}
use Rattle.call_machine.specs.Meaning.{objects_in, known, phase_tree, tree_of, after, ends_after}
use Rattle.call_machine.specs.Count.{left, phase_left}
use Rattle.protocol.specs.declared.action.Outcome.{Outcome}
use Rattle.protocol.specs.CallTree.{Tree}

-- a core of the machine makes a call whose numbers are words
pub record IsBased (w : Work) : Type 0 where
  pub valid : is_shape w.config ≡ true
  pub caller : IsCaller w.config w.core w.mode
  pub is_call : IsCall w.call
  pub few : w.answers ≤ answer_budget

-- in state s it tries the objects that it holds and then these others, and it holds their records
pub record IsHolding (w : Work) (s : State) (others : List ObjectId) : Type 0 where
  pub based : IsBased w
  pub early : early w.config w.mode w.call ≡ None
  pub machine : s.shape ≡ w.config
  pub mode : mode_of s w.core ≡ w.mode
  pub whole : IsWhole s
  pub ranges : AreInRange s
  pub front : HoldsFront s w.core w.call w.held (objects_in w) others

-- it holds objects, by the state that it rebuilds; nothing is decided yet
pub record IsLocking (w : Work) (others : List ObjectId) (part : ℕ) : Type 0 where
  pub holding : IsHolding w (known w) others
  pub long : length w.stood.items ≡ widths (objects_in w) + part
  pub fit : AllByRecursion (λ word. word < 2 ^ 64) w.stood.items
  pub input : w.input ≡ None
  pub ends : w.ends ≡ None
  pub page : w.page.items ≡ []

-- no page-table entry is loaded
pub record IsUnloaded (w : Work) : Type 0 where
  pub places : w.places.items ≡ []
  pub ptes : w.ptes.items ≡ []

-- the next object is to be tried, or it is held and its row is read from this place on
pub record IsTrying (w : Work) (o : ObjectId) (part : ℕ) : Type 0 where
  pub others : List ObjectId
  pub locking : IsLocking w (o ∷ others) part
  pub tried : w.tried ≡ tried_set (objects_in w ++ o ∷ [])
  pub unloaded : IsUnloaded w
  pub at : part < width o

-- the whole row of this object was read
pub record IsRowRead (w : Work) (o : ObjectId) : Type 0 where
  pub others : List ObjectId
  pub locking : IsLocking w (o ∷ others) (width o)
  pub tried : w.tried ≡ tried_set (objects_in w ++ o ∷ [])
  pub unloaded : IsUnloaded w

-- all rows that are held were read
pub record IsBetween (w : Work) : Type 0 where
  pub others : List ObjectId
  pub locking : IsLocking w others 0
  pub tried : w.tried ≡ tried_set (objects_in w)
  pub unloaded : IsUnloaded w

-- all objects are held
pub record IsLocked (w : Work) : Type 0 where
  pub locking : IsLocking w [] 0
  pub tried : w.tried ≡ tried_set (objects_in w)

-- so many page-table entries are left at most, from a table of this level down
pub record IsWalking (w : Work) (level count : ℕ) : Type 0 where
  pub locked : IsLocked w
  pub load : is_load w.call ≡ true
  pub some : 0 < count
  pub above : count ≤ level + 1
  pub low : level ≤ 2
  pub few : length w.ptes.items + count ≤ 3
  pub same : length w.places.items ≡ length w.ptes.items

-- the reply is Ok: a state has the records that are held, and does to the core what the rebuilt one did
pub record IsDecided (w : Work) : Type 0 where
  pub state : State
  pub holding : IsHolding w state []
  pub long : length w.stood.items ≡ widths (objects_in w)
  pub is_ok : is_done w.reply ≡ true
  pub change : ok_change state w.core w.call ≡ ok_change (known w) w.core w.call
  pub ends : w.ends ≡ None

-- a page is copied, and so many words of it were loaded
pub record IsCopying (w : Work) (count : ℕ) : Type 0 where
  pub decided : IsDecided w
  pub copies : is_load_page w.call ≡ true
  pub many : length w.page.items ≡ count
  pub few : length w.ptes.items ≤ 3
  pub same : length w.places.items ≡ length w.ptes.items

-- the ticket is drawn, and the rows that are to stand are known
pub record IsDrawn (w : Work) : Type 0 where
  pub long : length w.stood.items ≡ widths (objects_in w)
  pub wanted : length w.wanted.items ≡ length w.stood.items
  pub ends : w.ends ≡ None → ⊥

-- by the phase
unfoldable pub phase_stands : Work → Phase → Type 0
phase_stands w (phases.Tries o) = IsTrying w o 0
phase_stands w (phases.Reads o at) = IsTrying w o at
phase_stands w (phases.Walks page level count) = IsWalking w level count
phase_stands w (phases.Loads at) = IsCopying w at × (at < page_words)
phase_stands w (phases.Stores at word) = IsCopying w (at + 1) × (at < page_words)
phase_stands w (phases.Puts place) = IsDecided w
phase_stands w (phases.Early at) =
    IsDecided w × (w.input ≡ None) × (at < length w.held.regions.items)
    × (early_own w.call (slice_index_or w.held.regions.items at (0, regions.Free)).1 ≡ None → ⊥)
phase_stands w phases.Refuses = is_done w.reply ≡ false
phase_stands w phases.Draws = IsDecided w
phase_stands w (phases.Zeros word) =
    IsDrawn w × (word < word_total w.config) × (region_of_word w.config word ≡ freed_by w.call)
phase_stands w (phases.Late at) =
    IsDrawn w × (at < length w.stood.items)
    × ((slice_index w.stood.items at == slice_index w.wanted.items at) ≡ false)
phase_stands w (phases.Unlocks count) =
    (0 < count) × (count ≤ length w.locks.items) × (w.ends ≡ None → ⊥)
phase_stands w phases.Over = w.ends ≡ None → ⊥

-- nothing is found, and nothing is decided
pub record IsFresh (w : Work) : Type 0 where
  pub based : IsBased w
  pub locks : w.locks.items ≡ []
  pub stood : w.stood.items ≡ []
  pub held : w.held ≡ nothing_held
  pub tried : w.tried ≡ tried_set []
  pub input : w.input ≡ None
  pub ends : w.ends ≡ None
  pub places : w.places.items ≡ []
  pub ptes : w.ptes.items ≡ []
  pub page : w.page.items ≡ []

-- what it keeps now stands for this tree, with so many moves left at most, and it ends so; what a call never changes is
-- as it was
pub record IsAt (old w : Work) (ends : Option (Reply × After)) (tree : Tree) (most : ℕ) : Type 0 where
  pub based : IsBased w
  pub stands : phase_stands w w.phase
  pub meaning : tree_of w ≡ tree
  pub count : left w ≤ most
  pub end : w.ends ≡ ends
  pub config : w.config ≡ old.config
  pub call : w.call ≡ old.call
  pub core : w.core ≡ old.core
  pub mode : w.mode ≡ old.mode

-- it has taken the outcome of its move in this phase
abbrev pub HasTaken : Work → Work → Phase → Outcome → Type 0
HasTaken old w p outcome =
    IsAt old w (ends_after old (phase_tree old p)) (after (phase_tree old p) outcome) (phase_left old p - 1)
