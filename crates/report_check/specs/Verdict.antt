-- The verdict on the bytes of a report. This project's own.
use Rattle.std.specs.Prelude.{ℕ, ◌≤◌, ◌<◌, ⊤, List, length, Result, Ok, Err}
use Rattle.reader_answers.specs.declared.errors.FileError.{FileError}
use Rattle.reader_answers.specs.declared.errors.FileError.TheVariants as outer
use Rattle.legal_report.specs.LegalReport.{IsLegalReport, ReportFailsAt}
use Rattle.legal_report.specs.Laid.{limit}
use Rattle.legal_report.specs.declared.fault.ReportFault.{ReportFault}
use Rattle.legal_report.specs.declared.fault.ReportFault.TheVariants as faults
use Rattle.legal_report.specs.declared.fault.CheckError.{CheckError}
use Rattle.legal_report.specs.declared.fault.CheckError.TheVariants as errors

-- too long, before all else; or legal, with so many calls; or illegal, with the line at which it fails
abbrev pub IsVerdict : List ℕ → Result ℕ ReportFault → Type 0
IsVerdict bytes (Ok count) = (length bytes ≤ limit) × IsLegalReport bytes count
IsVerdict bytes (Err faults.TooLong) = limit < length bytes
IsVerdict bytes (Err (faults.Illegal line)) = (length bytes ≤ limit) × ReportFailsAt bytes line

-- the error of a check of bytes is the line at which they fail, unless memory ran out
abbrev pub FailsAt : List ℕ → CheckError → Type 0
FailsAt bytes errors.Memory = ⊤
FailsAt bytes (errors.Fault faults.TooLong) = ⊥
FailsAt bytes (errors.Fault (faults.Illegal line)) = ReportFailsAt bytes line

-- the answer of a check of a file is the verdict, unless memory ran out or the depot failed
abbrev pub IsAnswer : List ℕ → Result ℕ (FileError ReportFault) → Type 0
IsAnswer bytes (Ok count) = IsVerdict bytes (Ok count)
IsAnswer bytes (Err (outer.Fault fault)) = IsVerdict bytes (Err fault)
IsAnswer bytes (Err (outer.Read failed)) = ⊤
IsAnswer bytes (Err outer.Memory) = ⊤
