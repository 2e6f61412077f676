-- The machine of an image before its first step. This project's own.
use Rattle.std.specs.Prelude.{◌≡◌, ℕ, ◌+◌, ◌≤◌, ⊤, List, [], ◌∷◌, length}
use Rattle.std.specs.List.{AllByRecursion}
use Rattle.mon_types.specs.declared.image.Image.{Image}
use Rattle.mon_types.specs.declared.script.Line.{Line}
use Rattle.dram_map.specs.Addresses.{dram_start}
use Rattle.image_read.specs.Image.{AreSegments}
use Rattle.core_behaviour.specs.Runs.{course_of}
use Rattle.core_machine.specs.declared.progress.Progress.{Progress}
use Rattle.core_machine.specs.Scripted.{AreScripted}
use Rattle.core_machine.specs.Follows.{Follows}

-- the lines of a core, no more than a file can hold
pub record AreLines (lines : List Line) : Type 0 where
  pub few : length lines ≤ 1048576
  pub scripted : AreScripted lines

-- an image with a start for each core, and scripts for as many cores
pub record IsGiven (image : Image) (script : List (List Line)) : Type 0 where
  pub segments : AreSegments image.config dram_start image.segments
  pub starts : length image.starts ≡ image.config.cores
  pub scripts : length script ≡ image.config.cores
  pub lines : AllByRecursion AreLines script

-- the core of this number, which has made no move of its course
pub record IsAtStart (image : Image) (script : List (List Line)) (core : ℕ) (k : Progress) : Type 0 where
  pub number : k.own.number ≡ core
  pub follows : Follows k (course_of image script core) []

-- these are such cores, from this number on
abbrev pub AreAtStart : Image → List (List Line) → ℕ → List Progress → Type 0
AreAtStart image script number [] = ⊤
AreAtStart image script number (k ∷ ks) =
    IsAtStart image script number k × AreAtStart image script (number + 1) ks
