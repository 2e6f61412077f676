-- That a finished run is one legal history, and what its tables and words are then. This project's own.
use Rattle.std.specs.Prelude.{◌≡◌, ℕ, ◌<◌, true, length, slice_index}
use Rattle.mon_types.specs.Bits.{has_bit}
use Rattle.mon_model.specs.State.{State, region_at, enclave_at}
use Rattle.mon_model.specs.RegionCalls.{is_loading}
use Rattle.mon_model.specs.RegionStep.{is_idle}
use Rattle.dram_map.specs.Addresses.{word_total, region_of_word}
use Rattle.hist.specs.declared.finished.Finished.{Finished}
use Rattle.hist.specs.Logged.{events_of}
use Rattle.hist.specs.History.{history, last_state}
use Rattle.hist.specs.Legal.{Legal, HasLastTables}
use Rattle.hist.specs.Busy.{idle, Busy}
use Rattle.hist.specs.SafeLog.{SafeLog}
use Rattle.loaded_pages.specs.History.{content_at, HaveReadPages}

-- S(n): the state after all entries of the finished run
abbrev pub state_at_end : Finished → State
state_at_end f = last_state f.config (events_of f.logs)

-- a word of a region of the enclave in slot e, which is Loading at the end
pub record IsLoadingAtEnd (f : Finished) (e i : ℕ) : Type 0 where
  pub word : i < word_total f.config
  pub loading : is_loading (enclave_at (state_at_end f) e).stage ≡ true
  pub region : has_bit (enclave_at (state_at_end f) e).regions (region_of_word f.config i) ≡ true

-- its entries are one legal history
abbrev pub IsLegal : Finished → Type 0
IsLegal f = Legal f.config (events_of f.logs)

-- each refusal named a call that had taken the lock, and nothing is under way
abbrev pub IsBusy : Finished → Type 0
IsBusy f = Busy f.config (events_of f.logs) idle

-- its touches are safe
abbrev pub IsSafe : Finished → Type 0
IsSafe f = SafeLog f.config (events_of f.logs)

-- Free and Offered regions hold zeros
abbrev pub HasZeros : Finished → Type 0
HasZeros f =
    (i : ℕ) → i < word_total f.config
    → is_idle (region_at (state_at_end f) (region_of_word f.config i)) ≡ true → slice_index f.words i ≡ 0

-- the regions of Loading enclaves hold what `LoadedPages` says
abbrev pub HasLoadedPages : Finished → Type 0
HasLoadedPages f =
    (e i : ℕ) → IsLoadingAtEnd f e i
    → slice_index f.words i ≡ content_at f.config (events_of f.logs) f.answers (length (history (events_of f.logs))) i

-- each page that was read stands in its core's answers, with its digest
abbrev pub HasReadPages : Finished → Type 0
HasReadPages f = HaveReadPages f.answers (history (events_of f.logs))

-- all of it, and its tables are the last state
pub record IsOneHistory (f : Finished) : Type 0 where
  pub legal : IsLegal f
  pub tables : HasLastTables f
  pub busy : IsBusy f
  pub safe : IsSafe f
  pub zeros : HasZeros f
  pub loading : HasLoadedPages f
  pub read : HasReadPages f
