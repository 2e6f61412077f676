-- The records of thread slots, and the rows of words that hold them, all this project's own.
use Rattle.std.specs.Prelude.{ℕ, ◌+◌, ◌-◌, ◌^◌, ◌<◌, ⊤, ◌==◌, nat_lt, if◌then◌else◌, List, ◌∷◌, replicate, take, drop, slice_index}
use Rattle.mon_types.specs.declared.thread.ThreadState.{ThreadState}
use Rattle.mon_types.specs.declared.thread.ThreadState.TheVariants as states
use Rattle.mon_types.specs.declared.thread.Thread.{Thread}
use Rattle.mon_types.specs.Words.{AreWords, fitting, same_words}

-- the record of a slot that holds no thread: all numbers 0
abbrev pub empty_thread : Thread
empty_thread = record {
  state = states.Empty;
  entry = 0;
  sp = 0;
  saved_at = 0;
  saved = replicate 33 0;
}

-- the enclave's slot, if there is one, is below 8
abbrev pub StateNamesSlot : ThreadState → Type 0
StateNamesSlot states.Empty = ⊤
StateNamesSlot (states.Ready enclave) = enclave < 8
StateNamesSlot (states.Running enclave) = enclave < 8

-- a record of a thread slot: numbers in the ranges of their types, and 33 saved words
pub record IsThread (t : Thread) : Type 0 where
  pub state : StateNamesSlot t.state
  pub entry : t.entry < 2 ^ 64
  pub sp : t.sp < 2 ^ 64
  pub saved_at : t.saved_at < 2 ^ 32
  pub saved : AreWords 33 t.saved

-- 0 Empty, 1 + e Ready, 9 + e Running
abbrev pub state_code : ThreadState → ℕ
state_code states.Empty = 0
state_code (states.Ready enclave) = 1 + enclave
state_code (states.Running enclave) = 9 + enclave

-- the 37 words of a slot: state, entry, stack pointer, the ticket of the save, and the 33 saved words
abbrev pub thread_row : Thread → List ℕ
thread_row t = state_code t.state ∷ t.entry ∷ t.sp ∷ t.saved_at ∷ t.saved

-- the state that a word names: 1 to 8 Ready, 9 to 16 Running, and Empty for any other word
unfoldable pub state_from : ℕ → ThreadState
state_from word =
    if word == 0 then states.Empty else
    if nat_lt word 9 then states.Ready (word - 1) else
    if nat_lt word 17 then states.Running (word - 9) else
    states.Empty

-- the parts of 37 words, each read as what stands there in a row
unfoldable pub thread_parts : List ℕ → Thread
thread_parts words = record {
  state = state_from (slice_index words 0);
  entry = slice_index words 1;
  sp = slice_index words 2;
  saved_at = fitting (2 ^ 32) (slice_index words 3);
  saved = take 33 (drop 4 words);
}

-- the record whose row these words are; an empty slot where they are no thread's row
unfoldable pub thread_from : List ℕ → Thread
thread_from words = if same_words (thread_row (thread_parts words)) words then thread_parts words else empty_thread
