-- For which list of moves of all cores a machine under lab stands. This project's own.
use Rattle.std.specs.Prelude.{◌≡◌, ℕ, ◌≤◌, ◌<◌, List, [], length, vec_capacity, Some}
use Rattle.std.specs.List.{slice_get}
use Rattle.mon_types.specs.declared.image.Image.{Image}
use Rattle.mon_types.specs.declared.script.Line.{Line}
use Rattle.protocol.specs.Runs.{Made, moves_of, memory_after}
use Rattle.core_behaviour.specs.Runs.{start_words}
use Rattle.core_behaviour.specs.RunLaw.{AreGiven}
use Rattle.core_machine.specs.declared.start.Machine.{Machine}
use Rattle.core_machine.specs.Start.{IsGiven, AreAtStart}
use Rattle.core_laws.specs.Laws.{IsSaid, AreOfLines}
use Rattle.word_list.specs.Listed.{Listed, StandsFor}
use Rattle.lab.specs.declared.lab_core.LabCore.{LabCore}
use Rattle.lab.specs.declared.room.Room.{Room}
use Rattle.lab.specs.declared.bench.Bench.{Bench}
use Rattle.lab.specs.Cores.{CoreStands}

-- the image and the script can be read; these moves are given from the start, the newest first, and each core's are those
-- with which its lines begin
pub record IsRunOf (image : Image) (script : List (List Line)) (run : List Made) : Type 0 where
  pub said : IsSaid image script
  pub given : AreGiven image run
  pub lines : AreOfLines image script run

-- the words are those that these moves leave
pub record WordsStand (image : Image) (run : List Made) (words : Listed) : Type 0 where
  pub shape : words.shape ≡ image.config
  pub holds : StandsFor words (memory_after image.config (start_words image) run)

-- one core of the machine and the words, where the cores have made these moves
pub record Goes (image : Image) (script : List (List Line)) (core : ℕ) (run : List Made) (k : LabCore) (words : Listed)
    : Type 0 where
  pub low : core < image.config.cores
  pub made : IsRunOf image script run
  pub own : CoreStands image script core (moves_of core run) k
  pub listed : WordsStand image run words

-- the lists are empty, and have room for what each core leaves
pub record HasRoom (cores : ℕ) (room : Room) : Type 0 where
  pub no_logs : room.logs.items ≡ []
  pub logs : cores ≤ vec_capacity room.logs
  pub no_answers : room.answers.items ≡ []
  pub answers : cores ≤ vec_capacity room.answers
  pub no_modes : room.modes.items ≡ []
  pub modes : cores ≤ vec_capacity room.modes

-- The machine stands for these moves: its words are those that the moves leave, and each core has made its own.
pub record Stands (image : Image) (script : List (List Line)) (run : List Made) (b : Bench) : Type 0 where
  pub config : b.config ≡ image.config
  pub made : IsRunOf image script run
  pub words : WordsStand image run b.words
  pub count : length b.cores.items ≡ image.config.cores
  pub each : (core : ℕ) (k : LabCore) → slice_get b.cores.items core ≡ Some k
      → CoreStands image script core (moves_of core run) k
  pub room : HasRoom image.config.cores b.room

-- it does so for some image, script and moves
pub record IsReached (b : Bench) : Type 0 where
  pub image : Image
  pub script : List (List Line)
  pub run : List Made
  pub stands : Stands image script run b

-- ---- the start

-- the machine of this image, whose cores have these lines and have made no move; both can be read
pub record IsMade (image : Image) (script : List (List Line)) (m : Machine) : Type 0 where
  pub said : IsSaid image script
  pub config : m.config ≡ image.config
  pub dram : m.dram ≡ start_words image
  pub count : length m.cores ≡ image.config.cores
  pub cores : AreAtStart image script 0 m.cores

-- it is the machine of some image and script
pub record IsNew (m : Machine) : Type 0 where
  pub image : Image
  pub script : List (List Line)
  pub made : IsMade image script m
