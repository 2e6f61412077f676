-- Images and scripts whose numbers are values of their types, as those that are read from files are. This project's own.
use Rattle.std.specs.Prelude.{◌≡◌, ⊤, true, List}
use Rattle.std.specs.List.{AllByRecursion}
use Rattle.mon_types.specs.Shape.{is_shape}
use Rattle.mon_types.specs.declared.image.Image.{Image}
use Rattle.mon_types.specs.declared.script.Line.{Line}
use Rattle.mon_types.specs.declared.script.Line.TheVariants as lines
use Rattle.mon_records.specs.Ranges.{IsCall}
use Rattle.image_read.specs.Grammar.{IsWideStart, IsWideSegment}
use Rattle.core_laws.specs.Outcomes.{IsWord}

-- an image of a machine within the limits, whose starts and segments have words of 64 bits
pub record IsMachine (image : Image) : Type 0 where
  pub shape : is_shape image.config ≡ true
  pub starts : AllByRecursion IsWideStart image.starts
  pub segments : AllByRecursion IsWideSegment image.segments

-- a line's numbers have 64 bits
abbrev pub IsWide : Line → Type 0
IsWide (lines.Make call) = IsCall call
IsWide (lines.Run count) = ⊤
IsWide lines.Tick = ⊤
IsWide (lines.LoadWord va) = IsWord va
IsWide (lines.StoreWord va value) = IsWord va × IsWord value
IsWide (lines.SetPc pc) = IsWord pc
IsWide (lines.SetReg x value) = IsWord value

-- those of all lines do
abbrev pub AreWide : List (List Line) → Type 0
AreWide script = AllByRecursion (AllByRecursion IsWide) script
