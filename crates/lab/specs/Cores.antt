-- For which moves of its own a core under lab stands, and what one move more adds. This project's own.
use Rattle.std.specs.Prelude.{◌≡◌, ℕ, ◌+◌, Bool, true, false, if◌then◌else◌, List, ◌++◌, length, None}
use Rattle.mon_types.specs.Budgets.{event_budget}
use Rattle.mon_types.specs.declared.image.Image.{Image}
use Rattle.mon_types.specs.declared.script.Line.{Line}
use Rattle.protocol.specs.declared.action.Move.{Move}
use Rattle.protocol.specs.declared.action.Move.TheVariants as moves
use Rattle.protocol.specs.declared.action.Outcome.{Outcome}
use Rattle.protocol.specs.declared.action.Outcome.TheVariants as outcomes
use Rattle.protocol.specs.Views.{Moves, core_log, answers_of, logged, answered}
use Rattle.core_behaviour.specs.Course.{Course, Ends, Acts, first_of, left_of}
use Rattle.core_behaviour.specs.Runs.{course_of}
use Rattle.core_machine.specs.Follows.{Follows}
use Rattle.core_machine.specs.Effort.{effort}
use Rattle.lab.specs.declared.lab_core.LabCore.{LabCore}

-- The core stands for these moves and stops of its own, the newest first: it follows its course, its log and its answers
-- are read off them, there is room for as many events as the budget leaves, and it is ended only where its script is over.
pub record CoreStands (image : Image) (script : List (List Line)) (core : ℕ) (ms : Moves) (k : LabCore) : Type 0 where
  pub number : k.machine.own.number ≡ core
  pub follows : Follows k.machine (course_of image script core) ms
  pub log : k.log.events ≡ core_log core ms
  pub room : length k.log.events + k.log.spare ≡ event_budget
  pub answers : k.answers ≡ answers_of ms
  pub ended : k.ended ≡ true → first_of (left_of (course_of image script core) ms) ≡ None

-- what a move of a core adds: to its log, and to its answers
pub record Adds (core : ℕ) (move : Move) (outcome : Outcome) (old new : LabCore) : Type 0 where
  pub log : new.log.events ≡ old.log.events ++ logged core old.log.events move outcome
  pub room : length new.log.events + new.log.spare ≡ length old.log.events + old.log.spare
  pub answers : new.answers ≡ old.answers ++ answered move outcome
  pub machine : new.machine ≡ old.machine
  pub ended : new.ended ≡ old.ended

-- whether a move is left of a course, behind the stops that come first
unfoldable pub makes_move : Course → Bool
makes_move Ends = false
makes_move (Acts (moves.Stop line why) next) = makes_move (next outcomes.Done)
makes_move (Acts move next) = true

-- how much a core has still to do at most: of one that has not ended, at least the step that finds its end
abbrev pub work_left : LabCore → ℕ
work_left k = if k.ended then 0 else effort k.machine + 1
