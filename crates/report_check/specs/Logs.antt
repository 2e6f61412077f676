-- What the check of all logs finds. This project's own.
use Rattle.std.specs.Prelude.{◌≡◌, ℕ, ◌+◌, ◌-◌, ◌⊎◌, true, false, List, length, Some, None}
use Rattle.std.specs.Bool.{Decides}
use Rattle.std.specs.Borrow.{Bor}
use Rattle.std.specs.List.{AllByRecursion}
use Rattle.legal_report.specs.Form.{Parsed}
use Rattle.legal_report.specs.Counted.{next_ticket}
use Rattle.legal_report.specs.Checks.{log_checks, HasEnded, Passes}
use Rattle.legal_report.specs.FirstFailing.{FirstFailing}
use Rattle.legal_report.specs.Kept.{calls_told}
use Rattle.legal_report.specs.Laid.{logs_at}
use Rattle.legal_report.specs.declared.tickets.Calls.{Calls}
use Rattle.legal_report.specs.declared.fault.ReportFault.TheVariants as faults
use Rattle.legal_report.specs.declared.fault.CheckError.{CheckError}
use Rattle.legal_report.specs.declared.fault.CheckError.TheVariants as errors
use Rattle.report_check.specs.Known.{HasCalls}
use Rattle.report_check.specs.Log.{events_in, FirstWrongEvent}
use Rattle.report_check.specs.declared.logs.Ended.{Ended}

-- ---- one log

-- the log before this one has ended, its events pass, and it ends there
pub record LogPasses (calls : Calls) (core : ℕ) (text : List ℕ) (before after : Ended) : Type 0 where
  pub was_over : before.over ≡ true
  pub passes : FirstWrongEvent calls core (before.line + 1) (events_in calls.config.now text) None
  pub line : after.line ≡ before.line + 1 + length (events_in calls.config.now text)
  pub over : Decides after.over (next_ticket (calls_told calls) core (events_in calls.config.now text) ≡ None)

-- the log before this one has not ended, or the line is the first event line that does not pass
abbrev pub FailsByLog : Calls → ℕ → List ℕ → Ended → CheckError → Type 0
FailsByLog calls core text before errors.Memory = Unit {0}
FailsByLog calls core text before (errors.Fault faults.TooLong) = ⊥
FailsByLog calls core text before (errors.Fault (faults.Illegal line)) =
    ((before.over ≡ false) × (line ≡ before.line))
    ⊎ ((before.over ≡ true)
    × FirstWrongEvent calls core (before.line + 1) (events_in calls.config.now text) (Some line))

-- ---- all of them

-- a report with these calls and logs
pub record HasLogs (kept : Calls) (texts : List (Bor (List ℕ))) (p : Parsed) : Type 0 where
  pub calls : HasCalls kept p
  pub logs : p.logs ≡ logs_at kept.config.now texts

-- the lines of its logs pass, the first of which is line n, and they end there
pub record LogsPassOf (p : Parsed) (n : ℕ) (after : Ended) : Type 0 where
  pub passes : AllByRecursion (Passes p) (log_checks None 0 p.logs)
  pub line : after.line ≡ n + length (log_checks None 0 p.logs)
  pub over : Decides after.over (HasEnded p (Some (p.shape.cores - 1)))

-- the same of each such report
abbrev pub LogsPass : Calls → List (Bor (List ℕ)) → ℕ → Ended → Type 0
LogsPass calls texts n after = (p : Parsed) → HasLogs calls texts p → LogsPassOf p n after

-- the fault is the first line of the logs of each such report that does not pass, unless memory ran out
abbrev pub FailsByLogs : Calls → List (Bor (List ℕ)) → ℕ → CheckError → Type 0
FailsByLogs calls texts n errors.Memory = Unit {0}
FailsByLogs calls texts n (errors.Fault faults.TooLong) = ⊥
FailsByLogs calls texts n (errors.Fault (faults.Illegal line)) =
    (p : Parsed) → HasLogs calls texts p → FirstFailing p n (log_checks None 0 p.logs) (Some line)
