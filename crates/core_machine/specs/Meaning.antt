-- What a core has still to do, by all that the machine keeps of it. This project's own.
use Rattle.std.specs.Prelude.{◌≡◌, ◌⊎◌, ℕ, ◌+◌, List, ◌∷◌, drop, Option, Some, None}
use Rattle.std.specs.List.{slice_index_or}
use Rattle.mon_types.specs.Replies.{is_done}
use Rattle.mon_types.specs.declared.script.Line.{Line}
use Rattle.mon_types.specs.declared.script.Line.TheVariants as lines
use Rattle.mon_types.specs.declared.reply.Reply.{Reply}
use Rattle.core_context.specs.declared.after.After.{After}
use Rattle.core_context.specs.declared.origin.Origin.{Origin}
use Rattle.mon_records.specs.Rebuilt.{state_of}
use Rattle.protocol.specs.declared.action.Action.{Action}
use Rattle.protocol.specs.declared.action.Move.{Move}
use Rattle.protocol.specs.declared.action.Move.TheVariants as moves
use Rattle.protocol.specs.declared.action.Outcome.{Outcome}
use Rattle.protocol.specs.CallTree.{Tree, Over, Makes}
use Rattle.core_behaviour.specs.Course.{Course, Ends}
use Rattle.core_behaviour.specs.Core.{Core}
use Rattle.core_behaviour.specs.Called.{in_call, reply_in, found_in, change_by, left_if}
use Rattle.core_behaviour.specs.Lines.{lined, lines_from}
use Rattle.call_machine.specs.declared.work.Work.{Work as CallWork}
use Rattle.call_machine.specs.Meaning.{tree_of, so_far}
use Rattle.core_machine.specs.declared.work.Purpose.{Purpose}
use Rattle.core_machine.specs.declared.work.Purpose.TheVariants as purposes
use Rattle.core_machine.specs.declared.work.Work.{Work}
use Rattle.core_machine.specs.declared.work.Work.TheVariants as works
use Rattle.core_machine.specs.declared.progress.Progress.{Progress}
use Rattle.core_machine.specs.Remains.{IsSettled}

-- ---- lines

-- the present line
abbrev pub line_now : Progress → Line
line_now k = slice_index_or k.lines k.at lines.Tick

-- from the begin of the present line on
abbrev pub from_line : Progress → Core → Course
from_line k c = lines_from k.own.config (k.at + 1) (drop k.at k.lines) c

-- the lines behind it
abbrev pub behind_line : Progress → Core → Course
behind_line k c = lines_from k.own.config (k.at + 1 + 1) (drop (k.at + 1) k.lines) c

-- the line itself, once a pending exit was tried, and those behind it
abbrev pub in_line : Progress → Core → Course
in_line k c = lined k.own.config (k.at + 1) (line_now k) (behind_line k) c

-- ---- calls

-- what follows a call: of a retry the line, and of a line's own call the next lines
abbrev pub after_call : Progress → Purpose → Core → Course
after_call k purposes.Retry c = in_line k c
after_call k purposes.Line c = behind_line k c

-- the rest of a call that has made these moves, the newest first, and what follows it
abbrev pub call_course : Progress → Origin → Purpose → List (Action × Outcome) → Core → Course
call_course k origin purpose before c =
    let w = k.call.work in
    in_call (tree_of w) before c (λ d ms.
    after_call k purpose (left_if origin w.call (state_of w.config w.mode (found_in ms)) (reply_in ms) d))

-- What the call keeps tells what its moves have told: before the Draw what was found, if what Ok does to the core
-- depends on that; and from the Draw on the reply, and what it does to the core.
unfoldable pub IsTold : CallWork → List (Action × Outcome) → Option (Reply × After) → Type 0
IsTold w before None =
    (reply_in before ≡ None) × ((so_far w ≡ found_in before) ⊎ IsSettled w.call)
IsTold w before (Some end) =
    (reply_in before ≡ Some end.0)
    × (end.1 ≡ change_by (is_done end.0) (state_of w.config w.mode (found_in before)) w.core w.call)

-- ---- a core

-- where the core is this, it has still to do this
unfoldable pub Stands : Progress → Work → Core → Course → Type 0
Stands k works.Begins c course = course ≡ from_line k c
Stands k works.Line c course = course ≡ in_line k c
Stands k (works.Calls origin purpose serial) c course =
    (before : List (Action × Outcome)) × (course ≡ call_course k origin purpose before c)
    × IsTold k.call.work before k.call.work.ends
Stands k works.Over c course = course ≡ Ends

-- ---- the move that is due

-- the first move of a call
abbrev pub due_in : Tree → Option Move
due_in Over = None
due_in (Makes action next) = Some (moves.InCall action)

-- by what the core is at
abbrev pub due_at : Progress → Work → Option Move
due_at k works.Begins = None
due_at k works.Line = None
due_at k (works.Calls origin purpose serial) = due_in (tree_of k.call.work)
due_at k works.Over = None

-- the move whose outcome is to be told; None where there is none
abbrev pub due : Progress → Option Move
due k = due_at k k.work

-- ---- the call under way

-- its serial, while moves of it are left
abbrev pub serial_in : Tree → ℕ → Option ℕ
serial_in Over serial = None
serial_in (Makes action next) serial = Some serial

-- by what the core is at
abbrev pub calling_at : Progress → Work → Option ℕ
calling_at k works.Begins = None
calling_at k works.Line = None
calling_at k (works.Calls origin purpose serial) = serial_in (tree_of k.call.work) serial
calling_at k works.Over = None

-- the serial of the monitor call of which a move is due; None where no move of a call is
abbrev pub calling_of : Progress → Option ℕ
calling_of k = calling_at k k.work
