-- The form of a report: which lines come where, and the first line that fails it. This project's own.
use Rattle.std.specs.Prelude.{ℕ, zero, suc, ◌+◌, if◌then◌else◌, List, [], ◌∷◌, length, Option, Some, None, Result, Ok, Err}
use Rattle.std.specs.Option.{ok_or}
use Rattle.std.specs.Str.{bytes_eq}
use Rattle.mon_types.specs.Shape.{Shape}
use Rattle.hist.specs.declared.event.Entry.{Entry}
use Rattle.report.specs.Events.{log_line}
use Rattle.report.specs.Report.{title_line}
use Rattle.report_lines.specs.declared.event.EventLine.{EventLine}
use Rattle.report_lines.specs.Reading.{call_in, event_in, machine_in}

-- what the lines of a report tell: the machine, the calls, the events of each core's log, and the lines behind the
-- logs, which have no form to fail
pub record Parsed : Type 0 where
  pub shape : Shape
  pub calls : List Entry
  pub logs : List (List EventLine)
  pub rest : List (List ℕ)

-- goes on with what was read, or keeps the number of the line that fails
infixl 10 ◌>>=◌
abbrev pub ◌>>=◌ : {A B : Type 0} → Result A ℕ → (A → Result B ℕ) → Result B ℕ
(Ok x) >>= f = f x
(Err n) >>= f = Err n

-- ---- call lines

-- The calls of these lines, the first of which is line n, up to the line that begins the first log, and the lines from
-- there on. Each line before that is a call line; where no log begins, the line behind the last is missing.
unfoldable pub calls_from : Shape → ℕ → List (List ℕ) → Result (List Entry × List (List ℕ)) ℕ
calls_from shape n [] = Err n
calls_from shape n (line ∷ lines) =
    if bytes_eq line (log_line 0) then Ok ([], line ∷ lines)
    else do
      e ← ok_or (call_in shape line) n
      later ← calls_from shape (n + 1) lines
      Ok (e ∷ later.0, later.1)

-- ---- event lines

-- the first of these lines, if it is an event line, before what the lines behind it have
abbrev pub with_event : Option EventLine → List (List ℕ) → List EventLine × List (List ℕ)
    → List EventLine × List (List ℕ)
with_event None lines later = ([], lines)
with_event (Some event) lines later = (event ∷ later.0, later.1)

-- the event lines up to the first line that is none, and the lines from there on
unfoldable pub events_at : Shape → List (List ℕ) → List EventLine × List (List ℕ)
events_at shape [] = ([], [])
events_at shape (line ∷ lines) = with_event (event_in shape line) (line ∷ lines) (events_at shape lines)

-- a log before those that are read behind it
abbrev pub with_log : List EventLine → Result (List (List EventLine) × List (List ℕ)) ℕ
    → Result (List (List EventLine) × List (List ℕ)) ℕ
with_log log (Ok later) = Ok (log ∷ later.0, later.1)
with_log log (Err n) = Err n

-- The logs of so many cores, the first of which is this one, in these lines, the first of which is line n, and the
-- lines behind them: for each core the line that begins its log, and then its event lines. A line that is none of
-- these fails before the last log has begun, and ends it then.
unfoldable pub logs_from : Shape → ℕ → ℕ → ℕ → List (List ℕ) → Result (List (List EventLine) × List (List ℕ)) ℕ
logs_from shape zero core n lines = Ok ([], lines)
logs_from shape (suc left) core n [] = Err n
logs_from shape (suc left) core n (line ∷ lines) =
    if bytes_eq line (log_line core) then
    with_log (events_at shape lines).0
    (logs_from shape left (core + 1) (n + 1 + length (events_at shape lines).0) (events_at shape lines).1)
    else Err n

-- ---- all lines

-- the lines behind the first: the machine, the calls and the logs
abbrev pub form_behind : List (List ℕ) → Result Parsed ℕ
form_behind [] = Err 2
form_behind (line ∷ lines) = do
  shape ← ok_or (machine_in line) 2
  calls ← calls_from shape 3 lines
  logs ← logs_from shape shape.cores 0 (3 + length calls.0) calls.1
  Ok (record { shape = shape; calls = calls.0; logs = logs.0; rest = logs.1 })

-- what the lines of a report tell, or the number of the first line that fails its form; lines are counted from 1, and
-- one that is wanted and missing has the number behind the last
abbrev pub form_of : List (List ℕ) → Result Parsed ℕ
form_of [] = Err 1
form_of (title ∷ lines) = if bytes_eq title title_line then form_behind lines else Err 1
