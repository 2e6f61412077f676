-- The law that a list of moves is the run of its own cores. This project's own.
use Rattle.std.specs.Prelude.{◌≡◌, ℕ, ◌<◌, ⊤, List, [], ◌∷◌, ◌++◌}
use Rattle.mon_types.specs.declared.image.Image.{Image}
use Rattle.mon_types.specs.declared.script.Line.{Line}
use Rattle.protocol.specs.declared.action.Move.{Move}
use Rattle.protocol.specs.declared.action.Move.TheVariants as moves
use Rattle.protocol.specs.Runs.{Made, moves_of, outcome_after}
use Rattle.core_behaviour.specs.Course.{IsWhole}
use Rattle.core_behaviour.specs.Runs.{course_of, start_words, finished_run, IsFinishedBy}

-- these moves are given by `Moves` from the start, the newest first: each is one of a core of the machine, and answers
-- by the word that it finds
abbrev pub AreGiven : Image → List Made → Type 0
AreGiven image [] = ⊤
AreGiven image (made ∷ run) =
    (made.core < image.config.cores) × (made.outcome ≡ outcome_after image.config (start_words image) run made.move)
    × AreGiven image run

-- the moves of each core, with its stops in their places, are those of its own lines, up to its end
abbrev pub AreTheirs : Image → List (List Line) → List Made → Type 0
AreTheirs image script run =
    (core : ℕ) → core < image.config.cores → IsWhole (course_of image script core) (moves_of core run)

-- the core of a move; a stop is no move, and so has no place in the list
abbrev pub core_in : Move → ℕ → List ℕ
core_in (moves.Stop line why) core = []
core_in _ core = core ∷ []

-- the cores of these moves, the first one first
unfoldable pub cores_of : List Made → List ℕ
cores_of [] = []
cores_of (made ∷ run) = cores_of run ++ core_in made.move made.core

-- moves that are given, and each core's own up to its end, leave the finished run of the list of their cores
abbrev pub RunLaw : Type 0
RunLaw = (image : Image) (script : List (List Line)) (run : List Made)
    → AreGiven image run → AreTheirs image script run
    → IsFinishedBy image script (cores_of run) (finished_run image run)
