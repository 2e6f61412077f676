-- Where the parts of a report stand in its bytes. This project's own.
use Rattle.std.specs.Prelude.{◌≡◌, ℕ, ◌<◌, ◌≤◌, ⊤, Bool, true, false, if◌then◌else◌, List, [], ◌∷◌, length, map, drop, Option, Some, is_some, Result, Ok, Err}
use Rattle.std.specs.Option.{unwrap_or}
use Rattle.std.specs.List.{AllByRecursion}
use Rattle.std.specs.Str.{bytes_eq}
use Rattle.std.specs.Borrow.{Bor}
use Rattle.report_lines.specs.declared.event.EventLine.{EventLine}
use Rattle.legal_report.specs.Form.{Parsed, events_at}
use Rattle.report.specs.Report.{title_line}
use Rattle.report.specs.Events.{log_line}
use Rattle.mon_types.specs.Shape.{Shape}
use Rattle.hist.specs.declared.event.Entry.{Entry}
use Rattle.report_lines.specs.Lines.{ended_lines}
use Rattle.report_lines.specs.Reading.{call_in, machine_in}
use Rattle.legal_report.specs.declared.fault.ReportFault.{ReportFault}
use Rattle.legal_report.specs.declared.fault.ReportFault.TheVariants as faults
use Rattle.legal_report.specs.declared.fault.CheckError.{CheckError}
use Rattle.legal_report.specs.declared.fault.CheckError.TheVariants as errors
use Rattle.legal_report.specs.Counted.{nothing_done}

-- the most bytes of a report
abbrev pub limit : ℕ
limit = 67108864

-- the first of these lines, or nothing
abbrev pub first_line : List (List ℕ) → List ℕ
first_line [] = []
first_line (line ∷ lines) = line

-- the call whose line begins at a place of the bytes
abbrev pub call_at : Shape → List ℕ → ℕ → Option Entry
call_at shape bytes at = call_in shape (first_line (ended_lines (drop at bytes)))

-- the calls whose lines begin at these places
abbrev pub calls_at : Shape → List ℕ → List ℕ → List Entry
calls_at shape bytes places = map (λ at. unwrap_or (call_at shape bytes at) (nothing_done 0 0)) places

-- the line of a call begins at each of these places
abbrev pub AreCalls : Shape → List ℕ → List ℕ → Type 0
AreCalls shape bytes places = AllByRecursion (λ at. (at < length bytes) × (is_some (call_at shape bytes at) ≡ true)) places

-- whether a line, which has this number, begins the first log; else it is the line of a call, or fails
abbrev pub log_or_call : Shape → ℕ → List ℕ → Result Bool ReportFault
log_or_call shape n line =
    if bytes_eq line (log_line 0) then Ok true
    else if is_some (call_in shape line) then Ok false
    else Err (faults.Illegal n)

-- the fault is the line at which reading fails, unless memory ran out
abbrev pub FailsWith : {A : Type 0} → CheckError → Result A ℕ → Type 0
FailsWith errors.Memory read = ⊤
FailsWith (errors.Fault faults.TooLong) read = ⊥
FailsWith (errors.Fault (faults.Illegal n)) read = read ≡ Err n

-- the fault is that of the line with this number, at which reading fails
abbrev pub FailsLine : {A : Type 0} → ReportFault → Result A ℕ → Type 0
FailsLine faults.TooLong read = ⊥
FailsLine (faults.Illegal n) read = read ≡ Err n

-- what the texts of the logs tell: the event lines with which each begins
abbrev pub logs_at : Shape → List (Bor (List ℕ)) → List (List EventLine)
logs_at shape texts = map (λ text. (events_at shape (ended_lines text.now)).0) texts

-- no line comes first that begins the log of this core
abbrev pub BeginsNoLog : ℕ → List (List ℕ) → Type 0
BeginsNoLog core [] = ⊤
BeginsNoLog core (line ∷ lines) = bytes_eq line (log_line core) ≡ false

-- the first two lines, the second of which is that of this machine, end at this place
pub record HasHead (bytes : List ℕ) (shape : Shape) (at : ℕ) : Type 0 where
  pub line : List ℕ
  pub lines : ended_lines bytes ≡ title_line ∷ line ∷ ended_lines (drop at bytes)
  pub machine : machine_in line ≡ Some shape

-- what a report tells, of which the parts stand there
abbrev pub parsed_at : List ℕ → Shape → List ℕ → List (Bor (List ℕ)) → List ℕ → Parsed
parsed_at bytes shape places logs rest =
    record { shape = shape; calls = calls_at shape bytes places; logs = logs_at shape logs; rest = ended_lines rest }

-- the texts of the logs: one for each core, none longer than a report
pub record LogsLaid (cores : ℕ) (texts : List (Bor (List ℕ))) : Type 0 where
  pub count : length texts ≡ cores
  pub sizes : AllByRecursion (λ text. length text.now ≤ limit) texts
