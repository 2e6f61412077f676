-- DRAM as one list of words, page after page: what stands in a page, and what stores in pages make of the
-- list. This project's own.
use Rattle.std.specs.Prelude.{ℕ, zero, suc, ◌+◌, ◌==◌, if◌then◌else◌, List, ◌++◌, replicate, take, drop, slice_index, slice_set, Option, Some, None}
use Rattle.std.specs.List.{copy_within}
use Rattle.mon_types.specs.Shape.{Shape, page_total, region_of_page}
use Rattle.mon_types.specs.Sizes.{page_words}
use Rattle.dram_map.specs.Addresses.{first_word, word_total}

-- word i; no call asks past the end, where 0 is named for completeness alone
abbrev pub word_at : List ℕ → ℕ → ℕ
word_at words i = slice_index words i

-- the words after one was stored at place i, if one is named; past the end nothing is stored
abbrev pub word_put : List ℕ → Option ℕ → ℕ → List ℕ
word_put words None value = words
word_put words (Some i) value = slice_set words i value

-- a page of zeros
abbrev pub zero_page : List ℕ
zero_page = replicate page_words 0

-- DRAM of zeros
abbrev pub zero_words : Shape → List ℕ
zero_words shape = replicate (word_total shape) 0

-- the words of a page
abbrev pub words_of_page : List ℕ → ℕ → List ℕ
words_of_page words page = take page_words (drop (first_word page) words)

-- the words after those of page src were stored in a page
abbrev pub page_copied : List ℕ → ℕ → ℕ → List ℕ
page_copied words src page = copy_within words (first_word src) (first_word src + page_words) (first_word page)

-- the words after zeros were stored in a page
abbrev pub page_cleared : List ℕ → ℕ → List ℕ
page_cleared words page = take (first_word page) words ++ (zero_page ++ drop (first_word page + page_words) words)

-- the words after zeros were stored in each page of region r, of the pages below this number
abbrev pub pages_cleared : Shape → ℕ → List ℕ → ℕ → List ℕ
pages_cleared shape r words zero = words
pages_cleared shape r words (suc page) =
    if region_of_page shape page == r
    then page_cleared (pages_cleared shape r words page) page
    else pages_cleared shape r words page

-- the words after zeros were stored in all pages of region r
abbrev pub region_cleared : Shape → ℕ → List ℕ → List ℕ
region_cleared shape r words = pages_cleared shape r words (page_total shape)
