-- The laws of what cores do by their lines, and of finished runs. This project's own.
use Rattle.std.specs.Prelude.{◌≡◌, ℕ, ◌<◌, List, [], Option, Some, None}
use Rattle.std.specs.List.{AllByRecursion}
use Rattle.mon_types.specs.declared.image.Image.{Image}
use Rattle.mon_types.specs.declared.script.Line.{Line}
use Rattle.hist.specs.declared.finished.Finished.{Finished}
use Rattle.protocol.specs.declared.action.Move.{Move}
use Rattle.protocol.specs.Places.{Place}
use Rattle.protocol.specs.Views.{Moves, call_moves}
use Rattle.protocol.specs.Permitted.{Permitted}
use Rattle.protocol.specs.Runs.{Made, moves_of, memory_after, IsRun}
use Rattle.core_behaviour.specs.Course.{first_of, left_of, IsBegun}
use Rattle.core_behaviour.specs.Runs.{course_of, start_words, run_by, IsFinishedBy}
use Rattle.core_behaviour.specs.RunLaw.{AreGiven}
use Rattle.image_read.specs.Grammar.{IsImageText}
use Rattle.script_read.specs.Grammar.{IsScript}
use Rattle.core_laws.specs.Outcomes.{IsWord, AreAnswered}
use Rattle.core_laws.specs.Given.{IsMachine, AreWide}

-- an image that is read from bytes is one of a machine within the limits, with words of 64 bits
abbrev pub ImagesAreMachines : Type 0
ImagesAreMachines = (bytes : List ℕ) (image : Image) → IsImageText bytes image → IsMachine image

-- a script that is read has numbers of 64 bits
abbrev pub ScriptsAreWide : Type 0
ScriptsAreWide = (cores : Option ℕ) (bytes : List ℕ) (script : List (List Line)) → IsScript cores bytes script → AreWide script

-- an image and a script of which these laws speak
pub record IsSaid (image : Image) (script : List (List Line)) : Type 0 where
  pub machine : IsMachine image
  pub wide : AreWide script

-- a core of the machine has begun its lines with these moves, which have outcomes that they may have
pub record HasBegun (image : Image) (script : List (List Line)) (core : ℕ) (ms : Moves) : Type 0 where
  pub there : core < image.config.cores
  pub begun : IsBegun (course_of image script core) ms
  pub answered : AreAnswered ms

-- what it does next is permitted
abbrev pub NextIsPermitted : Type 0
NextIsPermitted =
    (image : Image) (script : List (List Line)) → IsSaid image script → (core : ℕ) (ms : Moves)
    → HasBegun image script core ms → (move : Move) → first_of (left_of (course_of image script core) ms) ≡ Some move
    → Permitted image.config core ms move

-- at its end no call is under way
abbrev pub EndIsAtRest : Type 0
EndIsAtRest =
    (image : Image) (script : List (List Line)) → IsSaid image script → (core : ℕ) (ms : Moves)
    → HasBegun image script core ms → first_of (left_of (course_of image script core) ms) ≡ None → call_moves ms ≡ []

-- each core's moves among these are those with which its lines begin
abbrev pub AreOfLines : Image → List (List Line) → List Made → Type 0
AreOfLines image script run =
    (core : ℕ) → core < image.config.cores → IsBegun (course_of image script core) (moves_of core run)

-- a list of moves that are given from the start, each core's by its lines, is a list of permitted moves
abbrev pub GivenIsRun : Type 0
GivenIsRun =
    (image : Image) (script : List (List Line)) (run : List Made) → IsSaid image script → AreGiven image run
    → AreOfLines image script run → IsRun image.config (start_words image) run

-- behind it each shared word has 64 bits
abbrev pub WordsStayWords : Type 0
WordsStayWords =
    (image : Image) (script : List (List Line)) (run : List Made) → IsSaid image script → AreGiven image run
    → AreOfLines image script run → (p : Place) → IsWord (memory_after image.config (start_words image) run p)

-- and each move among them has an outcome that it may have
abbrev pub GivenAreAnswered : Type 0
GivenAreAnswered =
    (image : Image) (script : List (List Line)) (run : List Made) → IsSaid image script → AreGiven image run
    → AreOfLines image script run → (core : ℕ) → core < image.config.cores → AreAnswered (moves_of core run)

-- the moves that a list of cores of the machine gives, with so many rounds behind it, are given from the start
abbrev pub SchedulesAreGiven : Type 0
SchedulesAreGiven =
    (image : Image) (script : List (List Line)) (q : List ℕ) (count : ℕ)
    → AllByRecursion (λ core. core < image.config.cores) q → AreGiven image (run_by image script q count)

-- and they are those with which each core's lines begin
abbrev pub SchedulesAreOfLines : Type 0
SchedulesAreOfLines =
    (image : Image) (script : List (List Line)) (q : List ℕ) (count : ℕ)
    → AllByRecursion (λ core. core < image.config.cores) q → AreOfLines image script (run_by image script q count)

-- it holds of every finished run of a list of cores of the machine
abbrev pub EverySchedule : (Finished → Type 0) → Type 0
EverySchedule P =
    (image : Image) (script : List (List Line)) (q : List ℕ) (f : Finished) → IsSaid image script
    → AllByRecursion (λ core. core < image.config.cores) q → IsFinishedBy image script q f → P f
