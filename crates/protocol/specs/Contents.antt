-- Items 8 and 9 of the invariant: what the words of DRAM hold where the monitor answers for them. This project's own.
use Rattle.std.specs.Prelude.{◌≡◌, ◌⊎◌, ℕ, ◌<◌, ◌==◌, true, if◌then◌else◌, List, [], ◌∷◌, length}
use Rattle.mon_types.specs.Shape.{Shape}
use Rattle.mon_types.specs.Bits.{has_bit}
use Rattle.mon_types.specs.declared.region.Region.TheVariants as regions
use Rattle.mon_types.specs.declared.call.Call.{Call}
use Rattle.mon_types.specs.declared.object.ObjectId.TheVariants as objects
use Rattle.mon_model.specs.State.{region_at, enclave_at}
use Rattle.mon_model.specs.RegionCalls.{is_loading}
use Rattle.mon_model.specs.RegionStep.{is_idle}
use Rattle.dram_map.specs.Addresses.{word_total, region_of_word}
use Rattle.loaded_pages.specs.History.{content_at, HaveReadPages}
use Rattle.protocol.specs.declared.action.Action.{Action}
use Rattle.protocol.specs.declared.action.Action.TheVariants as actions
use Rattle.protocol.specs.declared.action.Outcome.{Outcome}
use Rattle.protocol.specs.Places.{Dram}
use Rattle.protocol.specs.CallTree.{Tree}
use Rattle.protocol.specs.Views.{call_moves, has_drawn}
use Rattle.protocol.specs.Right.{LastFreed}
use Rattle.protocol.specs.Worlds.{World, logs, answers, entries, state_now, IsHeldBy, IsNotHeld, IsDoing, WillDo}

-- what `LoadedPages` says of a word after all entries so far
abbrev pub loaded_word : Shape → World → ℕ → ℕ
loaded_word shape w i = content_at shape (logs shape w) (answers shape w) (length (entries shape w)) i

-- the word at place i after one more action of a call, where `before` was there
abbrev pub stored_by : Action → ℕ → ℕ → ℕ
stored_by (actions.Store place value) i before = if place == i then value else before
stored_by _ i before = before

-- after the actions of a call, the newest first
unfoldable pub stored_so_far : List (Action × Outcome) → ℕ → ℕ → ℕ
stored_so_far [] i before = before
stored_so_far (m ∷ ms) i before = stored_by m.0 i (stored_so_far ms i before)

-- ---- 8. A Loading enclave's regions hold what `LoadedPages` says, changed by what an unfinished call of the core that
-- ---- holds the enclave has stored.

-- a word of a region of the enclave in slot e, which is Loading
pub record IsOfLoading (shape : Shape) (w : World) (e i : ℕ) : Type 0 where
  pub word : i < word_total shape
  pub loading : is_loading (enclave_at (state_now shape w) e).stage ≡ true
  pub region : has_bit (enclave_at (state_now shape w) e).regions (region_of_word shape i) ≡ true

-- the sentence, where no core holds the enclave and where one does; and each page that was read has its 512 words in
-- its core's answers, with their digest
pub record LoadingHold (shape : Shape) (w : World) : Type 0 where
  pub free : (e i : ℕ) → IsOfLoading shape w e i → IsNotHeld shape w (objects.Enclave e)
      → w.memory (Dram i) ≡ loaded_word shape w i
  pub held : (e i core : ℕ) → IsOfLoading shape w e i → IsHeldBy shape w core (objects.Enclave e)
      → w.memory (Dram i) ≡ stored_so_far (call_moves (w.moves core)) i (loaded_word shape w i)
  pub read : HaveReadPages (answers shape w) (entries shape w)

-- ---- 9. A Free or Offered region holds zeros, except for the words of a Free region that the core which freed it has
-- ---- still to store in that call, which is under way.

-- the core has freed the region by its call under way, which has still to store 0 in the word
pub record IsToBeZero (shape : Shape) (w : World) (core r i : ℕ) : Type 0 where
  pub freed : region_at (state_now shape w) r ≡ regions.Free
  pub held : IsHeldBy shape w core (objects.Region r)
  pub by : LastFreed core (w.moves core) r
  pub drawn : has_drawn (call_moves (w.moves core)) ≡ true
  pub to_do : (call : Call) (rest : Tree) → IsDoing shape w core call rest → WillDo (actions.Store i 0) rest

-- the sentence
abbrev pub IdleHoldZeros : Shape → World → Type 0
IdleHoldZeros shape w =
    (i : ℕ) → i < word_total shape
    → is_idle (region_at (state_now shape w) (region_of_word shape i)) ≡ true
    → (w.memory (Dram i) ≡ 0) ⊎ ((core : ℕ) × IsToBeZero shape w core (region_of_word shape i) i)
