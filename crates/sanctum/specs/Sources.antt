-- The image that a word names, and what is wrong with the bytes of its file. This project's own.
use Rattle.std.specs.Prelude.{◌≡◌, ℕ, List, [], Option, Err, IfSome}
use Rattle.mon_types.specs.Shape.{plain}
use Rattle.mon_types.specs.declared.image.Image.{Image}
use Rattle.image_read.specs.Grammar.{IsImageText}
use Rattle.image_read.specs.Reading.{image_of}
use Rattle.image_read.specs.declared.fault.ImageFault.{ImageFault}
use Rattle.sanctum.specs.Commands.{Origin, Plain, File}
use Rattle.sanctum.specs.Packing.{packed_image}

-- what a depot tells of the file of each name
abbrev pub Files : Type 0
Files = List ℕ → Option (List ℕ)

-- the plain machine with so many cores: all words are zero
abbrev pub plain_image : ℕ → Image
plain_image cores = packed_image (plain cores) []

-- The image that is named: that of the plain machine with this many cores, or the one that the file's bytes are, where
-- the depot tells them.
abbrev pub IsImageOf : Files → ℕ → Origin → Image → Type 0
IsImageOf files cores Plain image = image ≡ plain_image cores
IsImageOf files cores (File name) image = IfSome (files name) (λ bytes. IsImageText bytes image)

-- the bytes are outside the grammar of images or pass its limit, and this is their first fault
pub record HasFirstImageFault (bytes : List ℕ) (fault : ImageFault) : Type 0 where
  pub first : image_of bytes ≡ Err fault
  pub outside : (image : Image) → IsImageText bytes image → ⊥

-- a file is named, and this is the first fault of its bytes, where the depot tells them
abbrev pub IsOriginFault : Files → Origin → ImageFault → Type 0
IsOriginFault files Plain fault = ⊥
IsOriginFault files (File name) fault = IfSome (files name) (λ bytes. HasFirstImageFault bytes fault)
