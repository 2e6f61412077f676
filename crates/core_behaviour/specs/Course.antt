-- What a core has still to do, as a tree, and where it stands after some of its moves. This project's own.
use Rattle.std.specs.Prelude.{◌≡◌, ⊤, [], ◌∷◌, Option, Some, None}
use Rattle.protocol.specs.declared.action.Move.{Move}
use Rattle.protocol.specs.declared.action.Outcome.{Outcome}
use Rattle.protocol.specs.Views.{Moves}

-- Its script is over; or it makes a move, and goes on by the outcome. A stop stands among the moves, as in a view: it
-- acts on no word, and nothing depends on its outcome.
pub data Course : Type 0 where
  Ends : Course
  Acts : (move : Move) (next : Outcome → Course) → Course

-- what comes first: a move or a stop, or none where the script is over
unfoldable pub first_of : Course → Option Move
first_of Ends = None
first_of (Acts move next) = Some move

-- what is left behind the first, whose outcome this was
unfoldable pub behind : Course → Outcome → Course
behind Ends outcome = Ends
behind (Acts move next) outcome = next outcome

-- what is left after these moves and stops of the core, the newest first
unfoldable pub left_of : Course → Moves → Course
left_of course [] = course
left_of course (m ∷ ms) = behind (left_of course ms) m.1

-- these moves and stops of the core, the newest first, are those with which the course begins
abbrev pub IsBegun : Course → Moves → Type 0
IsBegun course [] = ⊤
IsBegun course (m ∷ ms) = IsBegun course ms × (first_of (left_of course ms) ≡ Some m.0)

-- these are all: the script is over behind them
pub record IsWhole (course : Course) (ms : Moves) : Type 0 where
  pub begun : IsBegun course ms
  pub over : first_of (left_of course ms) ≡ None
