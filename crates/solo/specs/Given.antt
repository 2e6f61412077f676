-- Which images and scripts a machine of one core carries out: those of their grammars that have one core. This
-- project's own.
use Rattle.std.specs.Prelude.{◌≡◌, ◌≤◌, List, [], ◌∷◌, length}
use Rattle.mon_types.specs.declared.script.Line.{Line}
use Rattle.mon_types.specs.declared.image.Start.{Start}
use Rattle.mon_types.specs.declared.image.Image.{Image}
use Rattle.dram_map.specs.Addresses.{dram_start}
use Rattle.image_read.specs.Image.{AreSegments}

-- the lines of core 0
abbrev pub lines_of_core_0 : List (List Line) → List Line
lines_of_core_0 [] = []
lines_of_core_0 (lines ∷ others) = lines

-- lines for one core, no more than a file can hold
pub record IsOneScript (cores : List (List Line)) : Type 0 where
  pub one : length cores ≡ 1
  pub few : length (lines_of_core_0 cores) ≤ 1048576

-- where the first core starts; an image has a start for each core
abbrev pub first_start : List Start → Start
first_start [] = record { pc = 0; sp = 0 }
first_start (first ∷ others) = first

-- a machine with one core, whose segments are those of an image's grammar
pub record IsOneImage (image : Image) : Type 0 where
  pub one : image.config.cores ≡ 1
  pub starts : length image.starts ≡ 1
  pub segments : AreSegments image.config dram_start image.segments
