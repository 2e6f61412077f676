-- What the pages of a Loading enclave hold after so many entries of the history. This project's own.
use Rattle.std.specs.Prelude.{◌≡◌, ℕ, ◌+◌, Bool, ◌&&◌, nat_lt, if◌then◌else◌, List, [], ◌∷◌, length, map, take, drop, Option, Some, None}
use Rattle.std.specs.List.{range_with_len, slice_index_or, AllByRecursion}
use Rattle.mon_types.specs.Bits.{has_bit}
use Rattle.mon_types.specs.Shape.{Shape, page_total, region_of_page}
use Rattle.mon_model.specs.State.{State, start, enclave_at}
use Rattle.mon_model.specs.RegionCalls.{is_loading}
use Rattle.mon_model.specs.Measure.{page_digest}
use Rattle.hist.specs.declared.event.PageInput.{PageInput}
use Rattle.hist.specs.declared.event.Entry.{Entry}
use Rattle.hist.specs.declared.event.Event.{Event}
use Rattle.hist.specs.History.{history, after_entry, state_after}
use Rattle.mon_types.specs.Sizes.{page_words}
use Rattle.dram_map.specs.Addresses.{first_word}
use Rattle.loaded_pages.specs.Content.{Content, zero_content, content_after}

-- the words of the page that an entry read: those that stand in its core's answers from `at` on
abbrev pub words_read : Option PageInput → List ℕ → List ℕ
words_read None answers = []
words_read (Some page) answers = take page_words (drop page.at answers)

-- the same, where each core's answers are given
abbrev pub entry_words : List (List ℕ) → Entry → List ℕ
entry_words answers e = words_read e.page (slice_index_or answers e.core [])

-- after an entry in state s
abbrev pub after_one : List (List ℕ) → State → Entry → Content → Content
after_one answers s e content = content_after s e.reply e.call (entry_words answers e) content

-- after these entries, the first of them in state s
abbrev pub content_from : List (List ℕ) → State → List Entry → Content → Content
content_from answers s [] content = content
content_from answers s (e ∷ es) content = content_from answers (after_entry s e) es (after_one answers s e content)

-- after the first k entries of the history
abbrev pub content_at : Shape → List (List Event) → List (List ℕ) → ℕ → Content
content_at shape logs answers k = content_from answers (start shape) (take k (history logs)) zero_content

-- the words of a page
abbrev pub page_words_of : Content → ℕ → List ℕ
page_words_of content page = map (λ j. content (first_word page + j)) (range_with_len 0 page_words)

-- whether the page is one of DRAM, and slot e has a Loading enclave to whose set its region belongs
abbrev pub is_page_of : State → ℕ → ℕ → Bool
is_page_of s e page =
    nat_lt page (page_total s.shape) && is_loading (enclave_at s e).stage
    && has_bit (enclave_at s e).regions (region_of_page s.shape page)

-- LoadedPages: for the Loading enclave in slot e after k entries, the 512 words of each page of its regions, and None
-- for any other page
abbrev pub loaded_page : Shape → List (List Event) → List (List ℕ) → ℕ → ℕ → ℕ → Option (List ℕ)
loaded_page shape logs answers k e page =
    if is_page_of (state_after shape logs k) e page
    then Some (page_words_of (content_at shape logs answers k) page)
    else None

-- the words of a page that was read stand in its core's answers, and its digest is theirs
pub record IsPageRead (page : PageInput) (words : List ℕ) : Type 0 where
  pub count : length words ≡ page_words
  pub digest : page.digest ≡ page_digest words

-- an entry that read a page
abbrev pub HasReadPage : List (List ℕ) → Entry → Option PageInput → Type 0
HasReadPage answers e None = Unit {0}
HasReadPage answers e (Some page) = IsPageRead page (entry_words answers e)

-- the same of each of these entries
abbrev pub HaveReadPages : List (List ℕ) → List Entry → Type 0
HaveReadPages answers es = AllByRecursion (λ e. HasReadPage answers e e.page) es
