-- When a report is legal, and else the first line at which it fails. This project's own.
use Rattle.std.specs.Prelude.{◌≡◌, ℕ, ◌+◌, ◌⊎◌, List, [], ◌∷◌, length, Result, Ok, Err}
use Rattle.std.specs.List.{AllByRecursion}
use Rattle.report_lines.specs.Lines.{ended_lines}
use Rattle.legal_report.specs.Form.{Parsed, form_of}
use Rattle.legal_report.specs.Checks.{Check, checks_of, Passes}

-- no line of these bytes fails: each has its form, and passes what is asked of it; and there are so many calls
pub record IsLegalReport (bytes : List ℕ) (count : ℕ) : Type 0 where
  pub parsed : Parsed
  pub form : form_of (ended_lines bytes) ≡ Ok parsed
  pub passes : AllByRecursion (Passes parsed) (checks_of parsed)
  pub calls : count ≡ length parsed.calls

-- of these checks, the first of which is that of line n, the first that fails is that of this line
abbrev pub FailsFirst : Parsed → ℕ → List Check → ℕ → Type 0
FailsFirst p n [] line = ⊥
FailsFirst p n (check ∷ checks) line =
    ((line ≡ n) × ¬ Passes p check) ⊎ (Passes p check × FailsFirst p (n + 1) checks line)

-- the first line that fails its form, or where there is none, the first that does not pass
abbrev pub FailsFormOrCheck : Result Parsed ℕ → ℕ → Type 0
FailsFormOrCheck (Ok p) line = FailsFirst p 3 (checks_of p) line
FailsFormOrCheck (Err n) line = line ≡ n

-- the line at which these bytes fail; lines are counted from 1
abbrev pub ReportFailsAt : List ℕ → ℕ → Type 0
ReportFailsAt bytes line = FailsFormOrCheck (form_of (ended_lines bytes)) line
