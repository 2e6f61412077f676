-- A small machine, whose places are counted one by one. This project's own.
use Rattle.mon_types.specs.Shape.{Shape, shape_of}

-- one core, and two regions of one page
abbrev pub tiny : Shape
tiny = shape_of 1 2 1 0
