-- What a step of one core does to it and to the words, whatever it stands for. This project's own.
use Rattle.std.specs.Prelude.{◌≡◌, ℕ, not, List, ◌∷◌, Some}
use Rattle.mon_types.specs.declared.image.Image.{Image}
use Rattle.mon_types.specs.declared.script.Line.{Line}
use Rattle.protocol.specs.declared.action.Move.{Move}
use Rattle.protocol.specs.Runs.{Made, moves_of}
use Rattle.core_behaviour.specs.Course.{Course, first_of, left_of}
use Rattle.core_behaviour.specs.Runs.{course_of, move_made, stepped}
use Rattle.word_list.specs.Listed.{Listed}
use Rattle.lab.specs.declared.lab_core.LabCore.{LabCore}
use Rattle.lab.specs.Cores.{makes_move}
use Rattle.lab.specs.Stands.{Goes}

-- what a core has still to do, where the cores have made these moves
abbrev pub course_left : Image → List (List Line) → ℕ → List Made → Course
course_left image script core run = left_of (course_of image script core) (moves_of core run)

-- the core and the words stand for some moves of some image and script
pub record CanStep (core : ℕ) (k : LabCore) (words : Listed) : Type 0 where
  pub image : Image
  pub script : List (List Line)
  pub run : List Made
  pub goes : Goes image script core run k words

-- and this is the next move of the core
pub record CanMake (core : ℕ) (move : Move) (k : LabCore) (words : Listed) : Type 0 where
  pub image : Image
  pub script : List (List Line)
  pub run : List Made
  pub goes : Goes image script core run k words
  pub first : first_of (course_left image script core run) ≡ Some move

-- wherever they stood for some moves of which this was the next, they stand for these and this move
abbrev pub MakesMove : ℕ → Move → LabCore → Listed → LabCore → Listed → Type 0
MakesMove core move old words new later =
    (image : Image) (script : List (List Line)) (run : List Made) → Goes image script core run old words
    → first_of (course_left image script core run) ≡ Some move
    → Goes image script core (move_made image core move run ∷ run) new later

-- wherever they stood for some moves, they stand for those after a step
abbrev pub TakesStep : ℕ → LabCore → Listed → LabCore → Listed → Type 0
TakesStep core old words new later =
    (image : Image) (script : List (List Line)) (run : List Made) → Goes image script core run old words
    → Goes image script core (stepped image script run core) new later

-- the core has ended exactly where no move was left
abbrev pub EndsAtLast : ℕ → LabCore → Listed → LabCore → Type 0
EndsAtLast core old words new =
    (image : Image) (script : List (List Line)) (run : List Made) → Goes image script core run old words
    → new.ended ≡ not (makes_move (course_left image script core run))
