-- Reading an image field by field, in the order of the file, with the first fault that is met. A field has
-- its offset in the file, in bytes. All of it is this project's own.
use Rattle.std.specs.Prelude.{ℕ, zero, suc, ◌+◌, ◌*◌, ◌/◌, ◌%◌, ◌^◌, nat_le, nat_lt, Bool, ◌==◌, ◌||◌, ◌&&◌, if◌then◌else◌, List, [], ◌∷◌, length, take, drop, slice_index, Result, Ok, Err}
use Rattle.std.specs.Int.{Width, w16, w32, w64, byte_len, from_le_bytes}
use Rattle.std.specs.Str.{bytes_eq}
use Rattle.sha2.specs.Sha256.{sha256}
use Rattle.mon_types.specs.Shape.{Shape, shape_of}
use Rattle.mon_types.specs.declared.image.Image.{Image}
use Rattle.mon_types.specs.declared.image.Segment.{Segment}
use Rattle.mon_types.specs.declared.image.Start.{Start}
use Rattle.dram_map.specs.Addresses.{dram_start, dram_end}
use Rattle.reader_answers.specs.Steps.{◌>>=◌}
use Rattle.image_read.specs.declared.fault.ImageFault.{ImageFault}
use Rattle.image_read.specs.declared.fault.ImageFault.TheVariants as faults
use Rattle.image_read.specs.declared.head.Head.{Head}
use Rattle.image_read.specs.Image.{magic, most_cores, segment_end}

-- the most bytes of an image
abbrev pub limit : ℕ
limit = 4195632

-- ---- fields

-- what was read up to the place `end`, or that the file is cut off before it
abbrev pub read_to : {A : Type 0} → ℕ → List ℕ → A → Result A ImageFault
read_to end bytes x = if nat_lt (length bytes) end then Err (faults.Short (length bytes)) else Ok x

-- the byte at a place
abbrev pub byte_at : List ℕ → ℕ → Result ℕ ImageFault
byte_at bytes at = read_to (at + 1) bytes (slice_index bytes at)

-- the number in the bytes of a width from a place on, the lowest byte first
abbrev pub number_at : Width → List ℕ → ℕ → Result ℕ ImageFault
number_at w bytes at = read_to (at + byte_len w) bytes (from_le_bytes w (take (byte_len w) (drop at bytes)))

-- a field's number where it may stand there, and else that the field at this place is bad
abbrev pub checked : (ℕ → Bool) → ℕ → ℕ → Result ℕ ImageFault
checked allowed at n = if allowed n then Ok n else Err (faults.BadField at)

-- a byte within limits, at a place
abbrev pub byte_in : ℕ → ℕ → List ℕ → ℕ → Result ℕ ImageFault
byte_in least most bytes at = byte_at bytes at >>= checked (λ n. nat_le least n && nat_le n most) at

-- a number of a width that may stand there, at a place
abbrev pub field_at : Width → (ℕ → Bool) → List ℕ → ℕ → Result ℕ ImageFault
field_at w allowed bytes at = number_at w bytes at >>= checked allowed at

-- a number of segments: at most 64
abbrev pub is_few : ℕ → Bool
is_few n = nat_le n 64

-- the number 0
abbrev pub is_zero : ℕ → Bool
is_zero n = n == 0

-- a pc at which a core may start: a multiple of 4
abbrev pub is_start : ℕ → Bool
is_start n = n % 4 == 0

-- an address at which a segment may begin: a multiple of 8
abbrev pub is_place : ℕ → Bool
is_place n = n % 8 == 0

-- how many bytes a segment may have: a multiple of 8, and at least 8
abbrev pub is_size : ℕ → Bool
is_size n = n % 8 == 0 && nat_le 8 n

-- ---- the first 16 bytes

-- the version at place 7, 1 or 2, behind the bytes with which every image begins
unfoldable pub version_of : List ℕ → Result ℕ ImageFault
version_of bytes =
    if nat_lt (length bytes) 7 then Err (faults.Short (length bytes))
    else if bytes_eq (take 7 bytes) magic then
    (byte_at bytes 7 >>= λ n. if n == 1 || n == 2 then Ok n else Err faults.BadVersion)
    else Err faults.BadMagic

-- the cores at place 8, the logarithms of the regions and of the pages in a region, and the shift
unfoldable pub shape_at : ℕ → List ℕ → Result Shape ImageFault
shape_at version bytes = do
  cores ← byte_in 1 (most_cores version) bytes 8
  regions ← byte_in 1 6 bytes 9
  pages ← byte_in 0 4 bytes 10
  shift ← byte_in 0 pages bytes 11
  Ok (shape_of cores (2 ^ regions) (2 ^ pages) shift)

-- the version, the configuration, and at place 12 the number of segments, with zero behind it
unfoldable pub head_of : List ℕ → Result Head ImageFault
head_of bytes = do
  version ← version_of bytes
  shape ← shape_at version bytes
  segments ← field_at w16 is_few bytes 12
  none ← field_at w16 is_zero bytes 14
  Ok (record { version = version; config = shape; segments = segments })

-- ---- the starts

-- the start of a core, at this place
unfoldable pub start_at : List ℕ → ℕ → Result Start ImageFault
start_at bytes at = do
  pc ← field_at w64 is_start bytes at
  sp ← number_at w64 bytes (at + 8)
  Ok (record { pc = pc; sp = sp })

-- the starts of this many cores, from this place on
unfoldable pub starts_from : List ℕ → ℕ → ℕ → Result (List Start) ImageFault
starts_from bytes at zero = Ok []
starts_from bytes at (suc cores) = do
  first ← start_at bytes at
  others ← starts_from bytes (at + 16) cores
  Ok (first ∷ others)

-- ---- the segments

-- so many words from the begin of the bytes on, 8 bytes each
unfoldable pub words_of : ℕ → List ℕ → List ℕ
words_of zero bytes = []
words_of (suc count) bytes = from_le_bytes w64 (take 8 bytes) ∷ words_of count (drop 8 bytes)

-- so many bytes from an address on lie in DRAM
abbrev pub is_inside : Shape → ℕ → ℕ → Bool
is_inside shape address size = nat_le dram_start address && nat_le (address + size) (dram_end shape)

-- the address of the segment of this number, where so many bytes from it on lie in DRAM, and then where it is
-- not below `place`, at which the segment before ends
abbrev pub placed_at : Shape → ℕ → ℕ → ℕ → ℕ → Result ℕ ImageFault
placed_at shape number place size address =
    if is_inside shape address size then (if nat_lt address place then Err (faults.Overlap number) else Ok address)
    else Err (faults.OutOfRange number)

-- the segment of this number, which stands at `at`: its address, its size and zero, then whether it may lie there,
-- and behind these its bytes
unfoldable pub segment_at : Shape → List ℕ → ℕ → ℕ → ℕ → Result Segment ImageFault
segment_at shape bytes number place at = do
  address ← field_at w64 is_place bytes at
  size ← field_at w32 is_size bytes (at + 8)
  none ← field_at w32 is_zero bytes (at + 12)
  placed ← placed_at shape number place size address
  read_to (at + 16 + size) bytes (record { address = placed; words = words_of (size / 8) (drop (at + 16) bytes) })

-- so many segments, the first of which has this number and stands at `at`, and the place behind them
unfoldable pub segments_from : Shape → List ℕ → ℕ → ℕ → ℕ → ℕ → Result (List Segment × ℕ) ImageFault
segments_from shape bytes number place at zero = Ok ([], at)
segments_from shape bytes number place at (suc count) = do
  first ← segment_at shape bytes number place at
  others ← segments_from shape bytes (number + 1) (segment_end first) (at + 16 + 8 * length first.words) count
  Ok (first ∷ others.0, others.1)

-- ---- the whole file

-- the place behind the digest, which stands at `at` in version 2 alone: the SHA-256 of all bytes before it
unfoldable pub digest_from : ℕ → List ℕ → ℕ → Result ℕ ImageFault
digest_from version bytes at =
    if version == 2 then
    (if nat_lt (length bytes) (at + 32) then Err (faults.Short (length bytes))
    else if bytes_eq (take 32 (drop at bytes)) (sha256 (take at bytes)) then Ok (at + 32)
    else Err (faults.BadDigest at))
    else Ok at

-- the image of the bytes, with nothing behind its last part
unfoldable pub all_of : List ℕ → Result Image ImageFault
all_of bytes = do
  head ← head_of bytes
  starts ← starts_from bytes 16 head.config.cores
  segments ← segments_from head.config bytes 0 dram_start (16 + 16 * head.config.cores) head.segments
  end ← digest_from head.version bytes segments.1
  if nat_lt end (length bytes) then Err (faults.Trailing end) else
      Ok (record { config = head.config; starts = starts; segments = segments.0 })

-- the image of a file's bytes
unfoldable pub image_of : List ℕ → Result Image ImageFault
image_of bytes = if nat_lt limit (length bytes) then Err faults.TooLong else all_of bytes
