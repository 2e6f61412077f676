-- The words that all cores share, by their places: the ticket counter, a lock word and a row of words for each object,
-- and the words of DRAM. This project's own.
use Rattle.std.specs.Prelude.{ℕ, ◌<◌, Bool, true, false, ⊤, ◌==◌, ◌&&◌, if◌then◌else◌, List, slice_index}
use Rattle.mon_types.specs.Shape.{Shape}
use Rattle.mon_types.specs.Objects.{width}
use Rattle.mon_types.specs.declared.object.ObjectId.{ObjectId}
use Rattle.mon_model.specs.State.{State, start}
use Rattle.dram_map.specs.Addresses.{word_total}
use Rattle.lock_plan.specs.Objects.{HasObject}
use Rattle.mon_records.specs.Rows.{row_words, same_object}

-- the ticket counter; an object's lock word; a word of its row, by its place in the row; a word of DRAM, by its number
pub data Place : Type 0 where
  Counter : Place
  Lock : (object : ObjectId) → Place
  Row : (object : ObjectId) (at : ℕ) → Place
  Dram : (word : ℕ) → Place

-- the machine has a word there
abbrev pub HasWord : Shape → Place → Type 0
HasWord shape Counter = ⊤
HasWord shape (Lock o) = HasObject shape o
HasWord shape (Row o i) = HasObject shape o × (i < width o)
HasWord shape (Dram i) = i < word_total shape

-- whether two places are one
unfoldable pub same_place : Place → Place → Bool
same_place Counter Counter = true
same_place (Lock a) (Lock b) = same_object a b
same_place (Row a i) (Row b j) = same_object a b && i == j
same_place (Dram i) (Dram j) = i == j
same_place _ _ = false

-- what stands at each place
abbrev pub Memory : Type 0
Memory = Place → ℕ

-- the same with this word at one place
unfoldable pub with_word : Memory → Place → ℕ → Memory
with_word memory place word p = if same_place place p then word else memory p

-- the word at a place of an object's row in a state of the monitor
abbrev pub row_word : State → ObjectId → ℕ → ℕ
row_word s o i = slice_index (row_words s o) i

-- the words where so many tickets were drawn, no lock is held, the rows hold the records of s, and DRAM these words
unfoldable pub memory_of : ℕ → State → List ℕ → Memory
memory_of tickets s dram Counter = tickets
memory_of tickets s dram (Lock o) = 0
memory_of tickets s dram (Row o i) = row_word s o i
memory_of tickets s dram (Dram i) = slice_index dram i

-- the words at the start, where DRAM holds these
abbrev pub first_memory : Shape → List ℕ → Memory
first_memory shape dram = memory_of 0 (start shape) dram
