-- What the check of a core's log finds. This project's own.
use Rattle.std.specs.Prelude.{◌≡◌, ℕ, List, [], length, Option, Some}
use Rattle.mon_types.specs.Shape.{Shape}
use Rattle.report_lines.specs.Lines.{ended_lines}
use Rattle.report_lines.specs.declared.event.EventLine.{EventLine}
use Rattle.legal_report.specs.Form.{Parsed, events_at}
use Rattle.legal_report.specs.Checks.{event_checks}
use Rattle.legal_report.specs.Drawn.{tickets_in}
use Rattle.legal_report.specs.FirstFailing.{FirstFailing}
use Rattle.legal_report.specs.declared.tickets.Calls.{Calls}
use Rattle.legal_report.specs.declared.fault.ReportFault.TheVariants as faults
use Rattle.legal_report.specs.declared.fault.CheckError.{CheckError}
use Rattle.legal_report.specs.declared.fault.CheckError.TheVariants as errors
use Rattle.report_check.specs.Known.{HasCalls}
use Rattle.report_check.specs.declared.log.Passed.{Passed}

-- the event lines with which a text begins
abbrev pub events_in : Shape → List ℕ → List EventLine
events_in shape text = (events_at shape (ended_lines text)).0

-- in each report with these calls, all event lines of a core's log pass, the first of which is line n, or the first
-- that does not is this one
abbrev pub FirstWrongEvent : Calls → ℕ → ℕ → List EventLine → Option ℕ → Type 0
FirstWrongEvent calls core n log found =
    (p : Parsed) → HasCalls calls p → FirstFailing p n (event_checks core [] log) found

-- the fault is the first event line that does not pass, unless memory ran out
abbrev pub FailsByEvent : Calls → ℕ → ℕ → List EventLine → CheckError → Type 0
FailsByEvent calls core n log errors.Memory = Unit {0}
FailsByEvent calls core n log (errors.Fault faults.TooLong) = ⊥
FailsByEvent calls core n log (errors.Fault (faults.Illegal line)) = FirstWrongEvent calls core n log (Some line)

-- so many event lines and entry lines
pub record IsCounted (log : List EventLine) (passed : Passed) : Type 0 where
  pub events : passed.events ≡ length log
  pub entries : passed.entries ≡ length (tickets_in log)
