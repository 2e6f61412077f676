-- An image and the core at its start. This project's own.
use Rattle.std.specs.Prelude.{[], ◌∷◌}
use Rattle.mon_types.specs.Shape.{plain}
use Rattle.mon_types.specs.declared.image.Image.{Image}
use Rattle.mon_types.specs.declared.image.Segment.{Segment}
use Rattle.mon_types.specs.declared.image.Start.{Start}
use Rattle.solo.specs.Core.{Core, core_start}

-- where the core starts
abbrev pub begin : Start
begin = record { pc = 0x8000_0100; sp = 0x8000_7000 }

-- two words of page 1
abbrev pub two_words : Segment
two_words = record { address = 0x8000_1008; words = 5 ∷ 6 ∷ [] }

-- the plain machine of one core with these
abbrev pub image : Image
image = record { config = plain 1; starts = begin ∷ []; segments = two_words ∷ [] }

-- its core at the start
abbrev pub at_start : Core
at_start = core_start image
