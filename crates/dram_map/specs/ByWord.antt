-- Laws: what stores in DRAM make of each word, for crates that speak of DRAM word by word.
use Rattle.std.specs.Prelude.{◌≡◌, ℕ, ◌+◌, ◌%◌, ◌<◌, ◌≤◌, ◌==◌, if◌then◌else◌, List, length, Some}
use Rattle.mon_types.specs.Shape.{Shape}
use Rattle.mon_types.specs.Sizes.{page_words}
use Rattle.dram_map.specs.Addresses.{first_word, word_total, page_of_word, region_of_word}
use Rattle.dram_map.specs.Words.{word_at, word_put, page_copied, page_cleared, region_cleared}

-- one word is stored, and no other changes
abbrev pub PutByWord : Type 0
PutByWord = (words : List ℕ) (place value i : ℕ) → place < length words
    → word_at (word_put words (Some place) value) i ≡ (if place == i then value else word_at words i)

-- a page that is copied to has the words of the other, each at its place
abbrev pub CopiedByWord : Type 0
CopiedByWord = (words : List ℕ) (src page i : ℕ)
    → first_word src + page_words ≤ length words → first_word page + page_words ≤ length words
    → word_at (page_copied words src page) i
    ≡ (if page_of_word i == page then word_at words (first_word src + i % page_words) else word_at words i)

-- a page that is cleared has zeros
abbrev pub ClearedByWord : Type 0
ClearedByWord = (words : List ℕ) (page i : ℕ) → first_word page + page_words ≤ length words
    → word_at (page_cleared words page) i ≡ (if page_of_word i == page then 0 else word_at words i)

-- a region that is cleared has zeros, and no other region changes
abbrev pub RegionClearedByWord : Type 0
RegionClearedByWord = (shape : Shape) (r : ℕ) (words : List ℕ) (i : ℕ)
    → length words ≡ word_total shape → i < word_total shape
    → word_at (region_cleared shape r words) i ≡ (if region_of_word shape i == r then 0 else word_at words i)
