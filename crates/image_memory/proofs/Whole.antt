-- Storing segment after segment, and the words of the whole.
use Rattle.std.proofs.Common.{◌≡◌, ℕ, ◌-◌, ◌/◌, ◌<◌, ◌≤◌, Bool, true, false, cond, nat_le, nat_lt, List, [], ◌∷◌, length, refl, sym, ap, ◌∙◌, arith}
use Rattle.std.specs.Prelude.{slice_index}
use Rattle.std.proofs.lemmas.Bool.{lt-leb, ltb-true, and_left, and_parts}
use Rattle.std.proofs.lemmas.List.{get_or-replicate, length-replicate}
use Rattle.std.proofs.lemmas.List.FromFn.{length-map-range_with_len, get_or-map-range_with_len, fill_by_all}
use Rattle.mon_types.specs.Shape.{Shape}
use Rattle.mon_types.specs.declared.image.Segment.{Segment}
use Rattle.dram_map.specs.Addresses.{word_start, word_total}
use Rattle.dram_map.specs.Words.{zero_words}
use Rattle.image_read.specs.Image.{segment_end, AreSegments}
use Rattle.image_memory.specs.StartMemory.{lies_in, word_among, start_memory, IsStored, HasItsWords, ZerosWithoutSegments, EachWord}

-- segments that ascend from a place on ascend from a lower one on
pub from_lower : (shape : Shape) (place lower : ℕ) (ss : List Segment) → lower ≤ place → AreSegments shape place ss → AreSegments shape lower ss
from_lower shape place lower [] le are = tt
from_lower shape place lower (s ∷ ss) le are =
    (record { some = are.0.some; aligned = are.0.aligned; from = omega (arith, le, are.0.from); within = are.0.within }, are.1)

-- an address below the place from which segments ascend lies in none
pub none_lower : (shape : Shape) (place address other : ℕ) (ss : List Segment) → address < place → AreSegments shape place ss → word_among ss address other ≡ other
none_lower shape place address other [] below are = refl
none_lower shape place address other (s ∷ ss) below are =
    let outside : lies_in s address ≡ false = and_left (nat_le s.address address) (nat_lt address (segment_end s)) (lt-leb s.address address (omega (arith, are.0.from))) in
    ap (λ (b : Bool). cond b (slice_index s.words ((address - s.address) / 8)) (word_among ss address other)) outside
    ∙ none_lower shape (segment_end s) address other ss (omega (arith, are.0.from)) are.1

-- a word in a segment is in none of those behind it
pub one_segment : (shape : Shape) (place address value : ℕ) (s : Segment) (ss : List Segment) → AreSegments shape place (s ∷ ss) → word_among ss address (word_among (s ∷ []) address value) ≡ word_among (s ∷ ss) address value
one_segment shape place address value s ss are = by (lies_in s address) refl
  where
    word : ℕ
    word = slice_index s.words ((address - s.address) / 8)

    by : (b : Bool) → lies_in s address ≡ b → word_among ss address (cond b word value) ≡ cond b word (word_among ss address value)
    by true is = none_lower shape (segment_end s) address word ss (ltb-true address (segment_end s) (and_parts (nat_le s.address address) (nat_lt address (segment_end s)) is).1) are.1
    by false is = refl

-- what has been stored of a machine's words: what is left makes of them what all segments make of zeros
abbrev pub IsLeft : Shape → List Segment → List ℕ → List Segment → Type 0
IsLeft shape all words left = (i : ℕ) → i < word_total shape → word_among left (word_start i) (slice_index words i) ≡ word_among all (word_start i) 0

-- at the begin all of them are left
pub all_left : (shape : Shape) (all : List Segment) → IsLeft shape all (zero_words shape) all
all_left shape all i within = ap (word_among all (word_start i)) (get_or-replicate (word_total shape) i 0 0 within)

-- one segment more is stored
pub one_less : (shape : Shape) (all : List Segment) (before after : List ℕ) (place : ℕ) (s : Segment) (ss : List Segment) → length before ≡ word_total shape → AreSegments shape place (s ∷ ss)
    → IsStored s before after → IsLeft shape all before (s ∷ ss) → IsLeft shape all after ss
one_less shape all before after place s ss size are stored left i within =
    ap (word_among ss (word_start i)) (stored i (omega (arith, size))) ∙ one_segment shape place (word_start i) (slice_index before i) s ss are ∙ left i within

-- at the end none is left
pub none_left : (shape : Shape) (all : List Segment) (words : List ℕ) → length words ≡ word_total shape → IsLeft shape all words [] → words ≡ start_memory shape all
unfolding start_memory
none_left shape all words size left = fill_by_all (λ i. word_among all (word_start i) 0) words (word_total shape) 0 size left

-- ---- the laws

pub has_its_words : HasItsWords
unfolding start_memory
has_its_words shape segments = length-map-range_with_len (λ i. word_among segments (word_start i) 0) 0 (word_total shape)

pub each_word : EachWord
unfolding start_memory
each_word shape segments i within = get_or-map-range_with_len (λ k. word_among segments (word_start k) 0) 0 (word_total shape) i i 0 within (omega arith)

pub zeros_without_segments : ZerosWithoutSegments
zeros_without_segments shape = sym (none_left shape [] (zero_words shape) (length-replicate (word_total shape) 0) (all_left shape []))
