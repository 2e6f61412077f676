-- Which bytes are an image, apart from the way in which they are read. This project's own.
use Rattle.std.specs.Prelude.{◌≡◌, ℕ, ◌^◌, ◌<◌, ◌⊎◌, List}
use Rattle.std.specs.List.{AllByRecursion}
use Rattle.mon_types.specs.declared.image.Image.{Image}
use Rattle.mon_types.specs.declared.image.Segment.{Segment}
use Rattle.mon_types.specs.declared.image.Start.{Start}
use Rattle.image_read.specs.Image.{image_text, IsImage}

-- the numbers of a start have 64 bits
abbrev pub IsWideStart : Start → Type 0
IsWideStart s = (s.pc < 2 ^ 64) × (s.sp < 2 ^ 64)

-- the words of a segment have 64 bits
abbrev pub IsWideSegment : Segment → Type 0
IsWideSegment s = AllByRecursion (λ w. w < 2 ^ 64) s.words

-- the bytes are the text of this image in one of the two versions; its numbers are values of their types
pub record IsImageText (bytes : List ℕ) (image : Image) : Type 0 where
  pub version : ℕ
  pub is_version : (version ≡ 1) ⊎ (version ≡ 2)
  pub is_image : IsImage version image
  pub wide_starts : AllByRecursion IsWideStart image.starts
  pub wide_segments : AllByRecursion IsWideSegment image.segments
  pub text_is : bytes ≡ image_text version image
