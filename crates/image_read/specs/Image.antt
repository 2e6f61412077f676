-- The text of an image in its versions 1 and 2, and which images have one. The format is this project's
-- own. Numbers of several bytes have their lowest byte first.
use Rattle.std.specs.Prelude.{◌≡◌, ℕ, ◌+◌, ◌*◌, ◌%◌, ◌^◌, ◌<◌, ◌≤◌, List, [], ◌∷◌, ◌++◌, length, true, ◌==◌, if◌then◌else◌, ⊤, codes}
use Rattle.std.specs.List.{flat_map, AllByRecursion}
use Rattle.std.specs.Int.{w16, w32, w64, to_le_bytes}
use Rattle.sha2.specs.Sha256.{sha256}
use Rattle.mon_types.specs.Shape.{Shape, is_shape}
use Rattle.dram_map.specs.Addresses.{dram_start, dram_end}
use Rattle.mon_types.specs.declared.image.Image.{Image}
use Rattle.mon_types.specs.declared.image.Segment.{Segment}
use Rattle.mon_types.specs.declared.image.Start.{Start}

-- ---- the text

-- the base-two logarithm of a number of regions or pages; 0 for 1 and for what is no such number
abbrev pub log2_of : ℕ → ℕ
log2_of n =
    if n == 2 then 1 else if n == 4 then 2 else if n == 8 then 3 else if n == 16 then 4
    else if n == 32 then 5 else if n == 64 then 6 else 0

-- how every image starts
unfoldable pub magic : List ℕ
magic = codes "SANCTUM"

-- the first 16 bytes: the version, the cores, the logarithms of the regions and of the pages in a
-- region, the shift, and in 2 bytes the number of segments; the last 2 bytes are zero
abbrev pub head_text : ℕ → Shape → ℕ → List ℕ
head_text version shape segments =
    magic
    ++ version ∷ shape.cores ∷ log2_of shape.regions ∷ log2_of shape.pages ∷ shape.shift ∷ to_le_bytes w16 segments
    ++ 0 ∷ 0 ∷ []

-- where a core starts: its pc, then its stack pointer, in 8 bytes each
abbrev pub start_text : Start → List ℕ
start_text s = to_le_bytes w64 s.pc ++ to_le_bytes w64 s.sp

-- words in 8 bytes each
abbrev pub words_text : List ℕ → List ℕ
words_text words = flat_map (to_le_bytes w64) words

-- before a segment's words: its address in 8 bytes, how many bytes its words have in 4, and 4 zeros
abbrev pub segment_head : Segment → List ℕ
segment_head s = to_le_bytes w64 s.address ++ to_le_bytes w32 (8 * length s.words) ++ 0 ∷ 0 ∷ 0 ∷ 0 ∷ []

-- a segment: its head, and its words
abbrev pub segment_text : Segment → List ℕ
segment_text s = segment_head s ++ words_text s.words

-- all but the digest
abbrev pub body_text : ℕ → Image → List ℕ
body_text version image =
    head_text version image.config (length image.segments)
    ++ flat_map start_text image.starts
    ++ flat_map segment_text image.segments

-- what stands behind the body: in version 2 its SHA-256 (FIPS 180-4), in version 1 nothing
abbrev pub digest_text : ℕ → List ℕ → List ℕ
digest_text version body = if version == 2 then sha256 body else []

-- the one text of an image in a version, 1 or 2
abbrev pub image_text : ℕ → Image → List ℕ
image_text version image = body_text version image ++ digest_text version (body_text version image)

-- ---- which images have one

-- how many cores an image of a version may have
abbrev pub most_cores : ℕ → ℕ
most_cores version = if version == 1 then 8 else 16

-- the physical address behind a segment
abbrev pub segment_end : Segment → ℕ
segment_end s = s.address + 8 * length s.words

-- a segment has a word, stands at a multiple of 8 from `place` on, and ends within DRAM
pub record IsSegment (shape : Shape) (place : ℕ) (s : Segment) : Type 0 where
  pub some : 1 ≤ length s.words
  pub aligned : s.address % 8 ≡ 0
  pub from : place ≤ s.address
  pub within : segment_end s ≤ dram_end shape

-- segments that ascend from `place` on without overlap: each begins at or behind the end of the one before
abbrev pub AreSegments : Shape → ℕ → List Segment → Type 0
AreSegments shape place [] = ⊤
AreSegments shape place (s ∷ ss) = IsSegment shape place s × AreSegments shape (segment_end s) ss

-- the words of a segment have a number of bytes that 4 bytes hold
abbrev pub IsShort : Segment → Type 0
IsShort s = 8 * length s.words < 2 ^ 32

-- an image that has a text in a version, 1 or 2: its configuration is within the limits, each core has a
-- start, whose pc is a multiple of 4, and at most 64 segments lie in DRAM
pub record IsImage (version : ℕ) (image : Image) : Type 0 where
  pub shape : is_shape image.config ≡ true
  pub cores : image.config.cores ≤ most_cores version
  pub starts : length image.starts ≡ image.config.cores
  pub aligned : AllByRecursion (λ s. s.pc % 4 ≡ 0) image.starts
  pub few : length image.segments ≤ 64
  pub segments : AreSegments image.config dram_start image.segments
