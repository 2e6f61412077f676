-- The image that the words of an assembler text make, and what is wrong with the bytes of a text. This project's own.
use Rattle.std.specs.Prelude.{◌≡◌, ℕ, ◌+◌, ◌*◌, ◌^◌, nat_le, if◌then◌else◌, List, [], ◌∷◌, replicate, Option, Err, IfSome}
use Rattle.mon_types.specs.Shape.{Shape, page_total}
use Rattle.mon_types.specs.declared.image.Image.{Image}
use Rattle.mon_types.specs.declared.image.Segment.{Segment}
use Rattle.mon_types.specs.declared.image.Start.{Start}
use Rattle.dram_map.specs.Addresses.{dram_start}
use Rattle.image_read.specs.Image.{image_text}
use Rattle.rv_asm.specs.Grammar.{IsText}
use Rattle.rv_asm.specs.Reading.{statements_of}
use Rattle.rv_asm.specs.declared.fault.AsmFault.{AsmFault}

-- the most words of a text: as many words of four bytes as DRAM holds, 1,024 in a page
abbrev pub word_limit : Shape → ℕ
word_limit shape = 1024 * page_total shape

-- the words of eight bytes: two words of four bytes each, the low one first, and a zero word behind an odd count
unfoldable pub paired : List ℕ → List ℕ
paired [] = []
paired (low ∷ []) = low ∷ []
paired (low ∷ high ∷ more) = (low + 2 ^ 32 * high) ∷ paired more

-- every core starts at the start of DRAM
abbrev pub packed_start : Start
packed_start = record { pc = dram_start; sp = 0 }

-- the words stand at the start of DRAM; where there is none, there is no segment
abbrev pub packed_segments : List ℕ → List Segment
packed_segments [] = []
packed_segments (word ∷ words) = record { address = dram_start; words = paired (word ∷ words) } ∷ []

-- the image of a machine of this size with these words
abbrev pub packed_image : Shape → List ℕ → Image
packed_image shape words = record {
  config = shape;
  starts = replicate shape.cores packed_start;
  segments = packed_segments words;
}

-- the version in which it is written: 1 up to 8 cores, and 2 above
abbrev pub version_for : Shape → ℕ
version_for shape = if nat_le shape.cores 8 then 1 else 2

-- The text is that of the image of a machine of this size with the words that the assembler text has, in that version.
pub record IsPacked (shape : Shape) (told : Option (List ℕ)) (text : List ℕ) : Type 0 where
  pub words : List ℕ
  pub read : IfSome told (λ bytes. IsText (word_limit shape) bytes words)
  pub packed : text ≡ image_text (version_for shape) (packed_image shape words)

-- The bytes are outside the grammar of assembler texts or pass a limit, and this is their first fault.
pub record HasFirstAsmFault (limit : ℕ) (bytes : List ℕ) (fault : AsmFault) : Type 0 where
  pub first : statements_of limit bytes ≡ Err fault
  pub outside : (words : List ℕ) → IsText limit bytes words → ⊥
