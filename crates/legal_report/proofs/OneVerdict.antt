-- A report has one verdict.
use Rattle.std.proofs.Common.{◌≡◌, ℕ, ◌+◌, List, [], ◌∷◌, length, Result, Ok, Err, sym, ap, subst, ◌∙◌, inl, inr}
use Rattle.std.specs.List.{AllByRecursion}
use Rattle.report_lines.specs.Lines.{ended_lines}
use Rattle.legal_report.specs.Form.{Parsed, form_of}
use Rattle.legal_report.specs.Checks.{Check, checks_of, Passes}
use Rattle.legal_report.specs.LegalReport.{FailsFirst, FailsFormOrCheck}
use Rattle.legal_report.specs.Verdicts.{LegalNeverFails, OneLineFails, OneCount}

-- where all pass, none fails
none_fails : (p : Parsed) (n : ℕ) (checks : List Check) (line : ℕ) → AllByRecursion (Passes p) checks → FailsFirst p n checks line → ⊥
none_fails p n [] line all fails = fails
none_fails p n (check ∷ checks) line all (inl here) = here.1 all.0
none_fails p n (check ∷ checks) line all (inr later) = none_fails p (n + 1) checks line all.1 later.1

one_fails : (p : Parsed) (n : ℕ) (checks : List Check) (a b : ℕ) → FailsFirst p n checks a → FailsFirst p n checks b → a ≡ b
one_fails p n [] a b f g = absurd f
one_fails p n (check ∷ checks) a b (inl f) (inl g) = f.0 ∙ sym g.0
one_fails p n (check ∷ checks) a b (inl f) (inr g) = absurd (f.1 g.0)
one_fails p n (check ∷ checks) a b (inr f) (inl g) = absurd (g.1 f.0)
one_fails p n (check ∷ checks) a b (inr f) (inr g) = one_fails p (n + 1) checks a b f.1 g.1

pub apart : LegalNeverFails
apart bytes count line legal fails =
    none_fails legal.parsed 3 (checks_of legal.parsed) line legal.passes (subst (λ (r : Result Parsed ℕ). FailsFormOrCheck r line) legal.form fails)

one_of : (r : Result Parsed ℕ) (a b : ℕ) → FailsFormOrCheck r a → FailsFormOrCheck r b → a ≡ b
one_of (Ok p) a b f g = one_fails p 3 (checks_of p) a b f g
one_of (Err n) a b f g = f ∙ sym g

pub one_line : OneLineFails
one_line bytes a b f g = one_of (form_of (ended_lines bytes)) a b f g

same_parsed : (p q : Parsed) → ◌≡◌ {A = Result Parsed ℕ} (Ok p) (Ok q) → p ≡ q
same_parsed p q e = cc

pub one_count : OneCount
one_count bytes m n f g =
    let same : f.parsed ≡ g.parsed = same_parsed f.parsed g.parsed (sym f.form ∙ g.form) in
    f.calls ∙ ap (λ (p : Parsed). length p.calls) same ∙ sym g.calls
