-- The first check that does not pass, of lists of checks one behind the other.
use Rattle.std.proofs.Common.{◌≡◌, ℕ, suc, ◌+◌, List, [], ◌∷◌, ◌++◌, length, Option, Some, None, refl, ap, subst, arith, inl, inr}
use Rattle.std.specs.List.{AllByRecursion}
use Rattle.hist.specs.declared.event.Entry.{Entry}
use Rattle.report_lines.specs.declared.event.EventLine.{EventLine}
use Rattle.legal_report.specs.Form.{Parsed}
use Rattle.legal_report.specs.Checks.{Check, Passes, call_checks, event_checks}
use Rattle.legal_report.specs.LegalReport.{FailsFirst}
use Rattle.legal_report.specs.FirstFailing.{FirstFailing}

-- the first passes
pub found_next : (p : Parsed) (n : ℕ) (check : Check) (checks : List Check) (found : Option ℕ) → Passes p check → FirstFailing p (n + 1) checks found → FirstFailing p n (check ∷ checks) found
found_next p n check checks None passes later = (passes, later)
found_next p n check checks (Some line) passes later = inr (passes, later)

-- it does not
pub found_here : (p : Parsed) (n : ℕ) (check : Check) (checks : List Check) → (Passes p check → ⊥) → FirstFailing p n (check ∷ checks) (Some n)
found_here p n check checks fails = inl (refl, fails)

-- the first ones pass
pub found_behind : (p : Parsed) (n : ℕ) (xs ys : List Check) (found : Option ℕ) → AllByRecursion (Passes p) xs → FirstFailing p (n + length xs) ys found → FirstFailing p n (xs ++ ys) found
found_behind p n [] ys found all first = subst (λ (m : ℕ). FirstFailing p m ys found) (omega arith) first
found_behind p n (x ∷ xs) ys found all first =
    found_next p n x (xs ++ ys) found all.0 (found_behind p (n + 1) xs ys found all.1 (subst (λ (m : ℕ). FirstFailing p m ys found) (omega arith) first))

-- one of them does not
pub found_among : (p : Parsed) (n : ℕ) (xs ys : List Check) (line : ℕ) → FailsFirst p n xs line → FailsFirst p n (xs ++ ys) line
found_among p n [] ys line fails = absurd fails
found_among p n (x ∷ xs) ys line (inl here) = inl here
found_among p n (x ∷ xs) ys line (inr later) = inr (later.0, found_among p (n + 1) xs ys line later.1)

-- ---- how many there are

pub event_count : (core : ℕ) (before log : List EventLine) → length (event_checks core before log) ≡ length log
event_count core before [] = refl
event_count core before (event ∷ log) = ap suc (event_count core (before ++ event ∷ []) log)

pub call_count : (before calls : List Entry) → length (call_checks before calls) ≡ length calls
call_count before [] = refl
call_count before (e ∷ es) = ap suc (call_count (before ++ e ∷ []) es)
