-- A moment at which no call is under way, as when all cores have ended. This project's own.
use Rattle.std.specs.Prelude.{◌≡◌, ℕ, ◌<◌, true, List, []}
use Rattle.mon_types.specs.Shape.{Shape, is_shape}
use Rattle.mon_types.specs.Objects.{width}
use Rattle.mon_types.specs.declared.object.ObjectId.{ObjectId}
use Rattle.mon_model.specs.State.{region_at}
use Rattle.mon_model.specs.RegionStep.{is_idle}
use Rattle.lock_plan.specs.Objects.{HasObject}
use Rattle.dram_map.specs.Addresses.{word_total, region_of_word}
use Rattle.hist.specs.Busy.{idle, Busy}
use Rattle.protocol.specs.Places.{Lock, Row, Dram, row_word}
use Rattle.protocol.specs.Views.{call_moves}
use Rattle.protocol.specs.Worlds.{World, logs, state_now}
use Rattle.protocol.specs.Contents.{loaded_word, IsOfLoading}
use Rattle.protocol.specs.Passes.{IsGiven}

-- no core of the machine has a call under way
abbrev pub AllRest : Shape → World → Type 0
AllRest shape w = (core : ℕ) → core < shape.cores → call_moves (w.moves core) ≡ []

-- No lock is held; each row is S's record; a Loading enclave's regions hold what `LoadedPages` says, and Free and
-- Offered regions zeros; and each refusal named a call that had taken the lock, with nothing under way.
pub record Rests (shape : Shape) (w : World) : Type 0 where
  pub locks : (o : ObjectId) → HasObject shape o → w.memory (Lock o) ≡ 0
  pub rows : (o : ObjectId) (i : ℕ) → HasObject shape o → i < width o
      → w.memory (Row o i) ≡ row_word (state_now shape w) o i
  pub loading : (e i : ℕ) → IsOfLoading shape w e i → w.memory (Dram i) ≡ loaded_word shape w i
  pub zeros : (i : ℕ) → i < word_total shape
      → is_idle (region_at (state_now shape w) (region_of_word shape i)) ≡ true → w.memory (Dram i) ≡ 0
  pub busy : Busy shape (logs shape w) idle

-- so it is in every world that a list of permitted moves gives, where no call is under way
abbrev pub RestsWhereNoCallIs : Type 0
RestsWhereNoCallIs =
    (shape : Shape) → is_shape shape ≡ true → (dram : List ℕ) (count : ℕ) (w : World) → IsGiven shape dram count w
    → AllRest shape w → Rests shape w
