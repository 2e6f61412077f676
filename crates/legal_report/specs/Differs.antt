-- Where two texts differ, line by line. This project's own.
use Rattle.std.specs.Prelude.{ℕ, ◌+◌, if◌then◌else◌, List, [], ◌∷◌, Option, Some, None}
use Rattle.std.specs.List.{AllByRecursion}
use Rattle.std.specs.Str.{bytes_eq}
use Rattle.legal_report.specs.Form.{Parsed}
use Rattle.legal_report.specs.Checks.{HasEnded, Passes, table_checks}
use Rattle.legal_report.specs.LegalReport.{FailsFirst}

-- the number of the first line, counted from n, that is another than the wanted one, is missing, or is one too many
abbrev pub differs_at : ℕ → List (List ℕ) → List (List ℕ) → Option ℕ
differs_at n [] [] = None
differs_at n [] (line ∷ rest) = Some n
differs_at n (line ∷ wanted) [] = Some n
differs_at n (line ∷ wanted) (have ∷ rest) =
    if bytes_eq line have then differs_at (n + 1) wanted rest else Some n

-- where the log that ends there has ended, the lines behind the logs pass, or the first that fails is this one
abbrev pub TablesFail : Parsed → Option ℕ → ℕ → List (List ℕ) → List (List ℕ) → Option ℕ → Type 0
TablesFail p ended n wanted rest None = AllByRecursion (Passes p) (table_checks ended wanted rest)
TablesFail p ended n wanted rest (Some line) = FailsFirst p n (table_checks ended wanted rest) line

-- the same of every report and every such log
abbrev pub TablesAre : ℕ → List (List ℕ) → List (List ℕ) → Option ℕ → Type 0
TablesAre n wanted rest found =
    (p : Parsed) (ended : Option ℕ) → HasEnded p ended → TablesFail p ended n wanted rest found
