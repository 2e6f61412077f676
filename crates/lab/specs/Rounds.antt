-- Steps of all cores of a machine under lab: by a schedule, and in rounds until all have ended. This project's own.
use Rattle.std.specs.Prelude.{◌≡◌, ℕ, ◌+◌, ◌<◌, ◌≤◌, Bool, true, false, not, if◌then◌else◌, List, [], ◌∷◌, ◌++◌, length, replicate, sum_by, Some}
use Rattle.std.specs.List.{AllByRecursion, slice_get}
use Rattle.mon_types.specs.declared.image.Image.{Image}
use Rattle.mon_types.specs.declared.script.Line.{Line}
use Rattle.mon_types.specs.declared.script.StepItem.{StepItem}
use Rattle.protocol.specs.Runs.{Made}
use Rattle.core_behaviour.specs.Runs.{stepped, run_under, rounds}
use Rattle.lab.specs.declared.lab_core.LabCore.{LabCore}
use Rattle.lab.specs.declared.bench.Bench.{Bench}
use Rattle.lab.specs.Cores.{makes_move, work_left}
use Rattle.lab.specs.Stands.{Stands}
use Rattle.lab.specs.Steps.{course_left}

-- the cores that a schedule names, each as often as its item says
unfoldable pub cores_by : List StepItem → List ℕ
cores_by [] = []
cores_by (item ∷ items) = replicate item.count item.core ++ cores_by items

-- each core that it names is one of so many
abbrev pub NamesCores : ℕ → List StepItem → Type 0
NamesCores cores items = AllByRecursion (λ item. item.core < cores) items

-- a core has ended
abbrev pub HasEnded : Bench → ℕ → Type 0
HasEnded b core = (k : LabCore) → slice_get b.cores.items core ≡ Some k → k.ended ≡ true

-- every core has
abbrev pub HaveAllEnded : Bench → Type 0
HaveAllEnded b = (core : ℕ) → HasEnded b core

-- how much the cores have still to do at most
abbrev pub all_left : Bench → ℕ
all_left b = sum_by work_left b.cores.items

-- ---- what steps do, whatever the machine stands for

-- by these steps it stands for the moves that they give
abbrev pub GoesUnder : (Image → List ℕ) → Bench → Bench → Type 0
GoesUnder cores old new =
    (image : Image) (script : List (List Line)) (run : List Made) → Stands image script run old
    → Stands image script (run_under image script (cores image) run) new

-- a step of this core answers whether it had not ended
abbrev pub AnswersStep : ℕ → Bench → Bool → Type 0
AnswersStep core old result =
    (k : LabCore) → slice_get old.cores.items core ≡ Some k → result ≡ not k.ended

-- and the core has ended after it exactly where no move was left
abbrev pub EndsWithStep : ℕ → Bench → Bench → Type 0
EndsWithStep core old new =
    (image : Image) (script : List (List Line)) (run : List Made) → Stands image script run old
    → (k : LabCore) → slice_get new.cores.items core ≡ Some k
    → k.ended ≡ not (makes_move (course_left image script core run))

-- after these steps and so many rounds it stands for the moves that they give
pub record RunsOut (image : Image) (script : List (List Line)) (q : List ℕ) (run : List Made) (b : Bench)
    : Type 0 where
  pub count : ℕ
  pub stands : Stands image script (run_under image script (q ++ rounds image.config.cores count) run) b
