-- What DRAM holds at the start of an image. This project's own.
use Rattle.std.specs.Prelude.{◌≡◌, ℕ, ◌-◌, ◌/◌, ◌<◌, Bool, nat_le, nat_lt, ◌&&◌, if◌then◌else◌, List, [], ◌∷◌, length, map, slice_index}
use Rattle.std.specs.List.{range_with_len}
use Rattle.mon_types.specs.Shape.{Shape}
use Rattle.mon_types.specs.declared.image.Segment.{Segment}
use Rattle.dram_map.specs.Addresses.{word_start, word_total}
use Rattle.dram_map.specs.Words.{word_at, zero_words}
use Rattle.image_read.specs.Image.{segment_end}

-- whether a physical address lies in a segment
abbrev pub lies_in : Segment → ℕ → Bool
lies_in s address = nat_le s.address address && nat_lt address (segment_end s)

-- the word at a physical address: that of the segment in which the address lies, and `otherwise` where it lies in none
abbrev pub word_among : List Segment → ℕ → ℕ → ℕ
word_among [] address otherwise = otherwise
word_among (s ∷ ss) address otherwise =
    if lies_in s address then slice_index s.words ((address - s.address) / 8) else word_among ss address otherwise

-- the words of DRAM at the start: at each address the word of the segment that lies there, and 0 where none does
unfoldable pub start_memory : Shape → List Segment → List ℕ
start_memory shape segments = map (λ i. word_among segments (word_start i) 0) (range_with_len 0 (word_total shape))

-- the words of a segment were stored, and no others
abbrev pub IsStored : Segment → List ℕ → List ℕ → Type 0
IsStored s before after =
    (i : ℕ) → i < length before → word_at after i ≡ word_among (s ∷ []) (word_start i) (word_at before i)

-- ---- laws

-- a machine has as many words at its start as ever
abbrev pub HasItsWords : Type 0
HasItsWords = (shape : Shape) (segments : List Segment) → length (start_memory shape segments) ≡ word_total shape

-- without segments all of them are 0
abbrev pub ZerosWithoutSegments : Type 0
ZerosWithoutSegments = (shape : Shape) → start_memory shape [] ≡ zero_words shape

-- the word at a place of DRAM is that of the segment that lies there
abbrev pub EachWord : Type 0
EachWord = (shape : Shape) (segments : List Segment) (i : ℕ) → i < word_total shape
    → word_at (start_memory shape segments) i ≡ word_among segments (word_start i) 0
