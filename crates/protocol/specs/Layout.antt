-- The one list of words that holds what stands at the places: first the ticket counter, then the lock words, then the
-- rows, then DRAM; objects in the order in which they are tried. This project's own.
use Rattle.std.specs.Prelude.{◌≡◌, ℕ, ◌+◌, ◌*◌, ◌<◌, List, ◌∷◌, ◌++◌, map, length, slice_index, slice_set}
use Rattle.std.specs.List.{range_with_len, flat_map}
use Rattle.mon_types.specs.Shape.{Shape}
use Rattle.mon_types.specs.Sizes.{slot_count, thread_count}
use Rattle.mon_types.specs.Objects.{width}
use Rattle.mon_types.specs.declared.object.ObjectId.{ObjectId}
use Rattle.mon_types.specs.declared.object.ObjectId.TheVariants as objects
use Rattle.dram_map.specs.Addresses.{word_total}
use Rattle.protocol.specs.Places.{Place, Counter, Lock, Row, Dram, HasWord, Memory, with_word}

-- how many objects the machine has
abbrev pub object_count : Shape → ℕ
object_count shape = slot_count + thread_count + shape.regions + shape.cores

-- the place of an object among them
unfoldable pub object_index : Shape → ObjectId → ℕ
object_index shape (objects.Enclave e) = e
object_index shape (objects.Thread t) = slot_count + t
object_index shape (objects.Region r) = slot_count + thread_count + r
object_index shape (objects.Cell c) = slot_count + thread_count + shape.regions + c

-- how many words stand before the rows of each kind of object: the counter, the lock words, and the rows before
abbrev pub enclaves_from : Shape → ℕ
enclaves_from shape = 1 + object_count shape

-- those of thread slots come behind those of enclave slots
abbrev pub threads_from : Shape → ℕ
threads_from shape = enclaves_from shape + 29 * slot_count

-- then those of regions
abbrev pub regions_from : Shape → ℕ
regions_from shape = threads_from shape + 37 * thread_count

-- then those of cells
abbrev pub cells_from : Shape → ℕ
cells_from shape = regions_from shape + 2 * shape.regions

-- and then DRAM
abbrev pub dram_from : Shape → ℕ
dram_from shape = cells_from shape + shape.cores

-- how many words the list has
abbrev pub word_count : Shape → ℕ
word_count shape = dram_from shape + word_total shape

-- where a row begins
unfoldable pub row_index : Shape → ObjectId → ℕ
row_index shape (objects.Enclave e) = enclaves_from shape + 29 * e
row_index shape (objects.Thread t) = threads_from shape + 37 * t
row_index shape (objects.Region r) = regions_from shape + 2 * r
row_index shape (objects.Cell c) = cells_from shape + c

-- where a place stands in the list
unfoldable pub place_index : Shape → Place → ℕ
place_index shape Counter = 0
place_index shape (Lock o) = 1 + object_index shape o
place_index shape (Row o i) = row_index shape o + i
place_index shape (Dram i) = dram_from shape + i

-- all objects, in their order
abbrev pub all_objects : Shape → List ObjectId
all_objects shape =
    map (λ e. objects.Enclave e) (range_with_len 0 slot_count)
    ++ map (λ t. objects.Thread t) (range_with_len 0 thread_count)
    ++ map (λ r. objects.Region r) (range_with_len 0 shape.regions)
    ++ map (λ c. objects.Cell c) (range_with_len 0 shape.cores)

-- the places of an object's row
abbrev pub row_places : ObjectId → List Place
row_places o = map (λ i. Row o i) (range_with_len 0 (width o))

-- all places, in the order of the list
abbrev pub all_places : Shape → List Place
all_places shape =
    (Counter ∷ map (λ o. Lock o) (all_objects shape))
    ++ flat_map row_places (all_objects shape)
    ++ map (λ i. Dram i) (range_with_len 0 (word_total shape))

-- the list that holds what stands in memory
abbrev pub words_of_memory : Shape → Memory → List ℕ
words_of_memory shape memory = map memory (all_places shape)

-- a list holds what stands at each place of the machine
pub record Holds (shape : Shape) (words : List ℕ) (memory : Memory) : Type 0 where
  pub count : length words ≡ word_count shape
  pub each : (p : Place) → HasWord shape p → slice_index words (place_index shape p) ≡ memory p

-- ---- that the list behaves as the places do: the laws of this crate's layout

-- each place of the machine has a place in the list
abbrev pub IndexIsThere : Type 0
IndexIsThere = (shape : Shape) (p : Place) → HasWord shape p → place_index shape p < word_count shape

-- and no two have the same
abbrev pub IndexIsApart : Type 0
IndexIsApart =
    (shape : Shape) (p q : Place) → HasWord shape p → HasWord shape q
    → place_index shape p ≡ place_index shape q → p ≡ q

-- so one word that is changed at a place is one word that is set in the list
abbrev pub SetIsAtPlace : Type 0
SetIsAtPlace =
    (shape : Shape) (words : List ℕ) (memory : Memory) (p : Place) (word : ℕ) → HasWord shape p
    → Holds shape words memory → Holds shape (slice_set words (place_index shape p) word) (with_word memory p word)
