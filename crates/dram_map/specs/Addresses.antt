-- Where DRAM stands among physical addresses, and how its words and pages are numbered. This project's own.
use Rattle.std.specs.Prelude.{ℕ, ◌+◌, ◌-◌, ◌*◌, ◌/◌, ◌<◌, ◌≤◌, Bool, nat_lt, nat_le, ◌&&◌, if◌then◌else◌, Option, Some, None}
use Rattle.mon_types.specs.Shape.{Shape, page_total, region_of_page}
use Rattle.mon_types.specs.Sizes.{page_bytes, page_words}

-- the physical address of DRAM's first byte
abbrev pub dram_start : ℕ
dram_start = 0x8000_0000

-- the page frame number of DRAM's first page, which its address gives
abbrev pub first_frame : ℕ
first_frame = 0x80000

-- the physical address at which a page begins
abbrev pub page_start : ℕ → ℕ
page_start page = dram_start + page_bytes * page

-- the physical address behind DRAM
abbrev pub dram_end : Shape → ℕ
dram_end shape = page_start (page_total shape)

-- a physical address lies in a page
pub record LiesIn (page address : ℕ) : Type 0 where
  pub from : page_start page ≤ address
  pub to : address < page_start page + page_bytes

-- whether a physical address is in DRAM, that is, in one of its pages
abbrev pub is_in_dram : Shape → ℕ → Bool
is_in_dram shape address = nat_le dram_start address && nat_lt address (dram_end shape)

-- the page of a physical address, None outside DRAM
abbrev pub page_of : Shape → ℕ → Option ℕ
page_of shape address = if is_in_dram shape address then Some ((address - dram_start) / page_bytes) else None

-- ---- words

-- how many words DRAM has
abbrev pub word_total : Shape → ℕ
word_total shape = page_words * page_total shape

-- the physical address of word i, which holds the 8 bytes from there on
abbrev pub word_start : ℕ → ℕ
word_start i = dram_start + 8 * i

-- the number of the word that holds the byte at a physical address, None outside DRAM
abbrev pub word_of : Shape → ℕ → Option ℕ
word_of shape address = if is_in_dram shape address then Some ((address - dram_start) / 8) else None

-- the number of a page's first word
abbrev pub first_word : ℕ → ℕ
first_word page = page_words * page

-- the page of a word
abbrev pub page_of_word : ℕ → ℕ
page_of_word i = i / page_words

-- the region of a word
abbrev pub region_of_word : Shape → ℕ → ℕ
region_of_word shape i = region_of_page shape (page_of_word i)

-- ---- frames

-- the page frame number of a page
abbrev pub frame_of : ℕ → ℕ
frame_of page = first_frame + page

-- whether a page frame number is that of a page of DRAM
abbrev pub is_dram_frame : Shape → ℕ → Bool
is_dram_frame shape frame = nat_le first_frame frame && nat_lt frame (first_frame + page_total shape)

-- the page of a frame of DRAM
abbrev pub page_in_frame : ℕ → ℕ
page_in_frame frame = frame - first_frame

-- the same, None where the frame is none of DRAM's
abbrev pub page_of_frame : Shape → ℕ → Option ℕ
page_of_frame shape frame = if is_dram_frame shape frame then Some (page_in_frame frame) else None
