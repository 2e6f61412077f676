-- A report has one verdict. This project's own.
use Rattle.std.specs.Prelude.{◌≡◌, ℕ, List}
use Rattle.legal_report.specs.LegalReport.{IsLegalReport, ReportFailsAt}

-- no report is legal and has a line that fails
abbrev pub LegalNeverFails : Type 0
LegalNeverFails = (bytes : List ℕ) (count line : ℕ) → IsLegalReport bytes count → ReportFailsAt bytes line → ⊥

-- at most one line is the first that fails
abbrev pub OneLineFails : Type 0
OneLineFails = (bytes : List ℕ) (a b : ℕ) → ReportFailsAt bytes a → ReportFailsAt bytes b → a ≡ b

-- a legal report has one count of calls
abbrev pub OneCount : Type 0
OneCount = (bytes : List ℕ) (m n : ℕ) → IsLegalReport bytes m → IsLegalReport bytes n → m ≡ n
