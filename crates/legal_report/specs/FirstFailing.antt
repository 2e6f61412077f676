-- The first of some checks that does not pass, if there is one. This project's own.
use Rattle.std.specs.Prelude.{◌≡◌, ℕ, List, [], Option, Some, None}
use Rattle.std.specs.List.{AllByRecursion}
use Rattle.mon_types.specs.Shape.{Shape}
use Rattle.hist.specs.declared.event.Entry.{Entry}
use Rattle.legal_report.specs.Form.{Parsed}
use Rattle.legal_report.specs.Checks.{Check, Passes, call_checks}
use Rattle.legal_report.specs.LegalReport.{FailsFirst}
use Rattle.legal_report.specs.declared.fault.ReportFault.{ReportFault}
use Rattle.legal_report.specs.declared.fault.ReportFault.TheVariants as faults
use Rattle.legal_report.specs.declared.fault.CheckError.{CheckError}
use Rattle.legal_report.specs.declared.fault.CheckError.TheVariants as errors

-- of these checks, the first of which is that of line n, all pass, or the first that does not is that of this line
abbrev pub FirstFailing : Parsed → ℕ → List Check → Option ℕ → Type 0
FirstFailing p n checks None = AllByRecursion (Passes p) checks
FirstFailing p n checks (Some line) = FailsFirst p n checks line

-- in each report with these calls, all call lines pass, or the first that does not is this one
abbrev pub FirstWrongCall : Shape → List Entry → Option ℕ → Type 0
FirstWrongCall shape calls found =
    (p : Parsed) → p.shape ≡ shape → p.calls ≡ calls → FirstFailing p 3 (call_checks [] calls) found

-- the fault is the first call line that does not pass, unless memory ran out
abbrev pub FailsByCall : Shape → List Entry → CheckError → Type 0
FailsByCall shape calls errors.Memory = Unit {0}
FailsByCall shape calls (errors.Fault faults.TooLong) = ⊥
FailsByCall shape calls (errors.Fault (faults.Illegal line)) = FirstWrongCall shape calls (Some line)
