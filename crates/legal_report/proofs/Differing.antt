-- Where two texts differ, line by line.
use Rattle.std.proofs.Common.{◌≡◌, ℕ, ◌+◌, ◌<◌, Bool, true, false, cond, List, [], ◌∷◌, length, Option, Some, None, refl, sym, ap, subst, ◌∙◌, arith, inl, inr}
use Rattle.std.specs.Str.{bytes_eq}
use Rattle.std.proofs.lemmas.Bool.{cases_Bool, true≢false}
use Rattle.std.proofs.lemmas.Slice.Eq.{bytes_eq-Decides}
use Rattle.text_in.specs.Bytes.{is_line_feed}
use Rattle.text_in.specs.Lines.{onto}
use Rattle.report_lines.specs.Lines.{ended_lines}
use Rattle.report_lines.proofs.Lined.{feed, in_line}
use Rattle.legal_report.specs.Form.{Parsed}
use Rattle.legal_report.specs.Checks.{HasEnded}
use Rattle.legal_report.specs.Differs.{differs_at, TablesFail, TablesAre}

-- ---- the walk

pub same_met : (n : ℕ) (line have : List ℕ) (left wanted rest others : List (List ℕ)) (total : Option ℕ) → left ≡ line ∷ wanted → rest ≡ have ∷ others → bytes_eq line have ≡ true → differs_at n left rest ≡ total
    → differs_at (n + 1) wanted others ≡ total
same_met n line have left wanted rest others total l r h so_far =
    sym (ap (λ (b : Bool). cond b (differs_at (n + 1) wanted others) (Some n)) h) ∙ sym (ap (λ (ls : List (List ℕ)). differs_at n ls (have ∷ others)) l) ∙ sym (ap (differs_at n left) r) ∙ so_far

pub other_met : (n : ℕ) (line have : List ℕ) (left wanted rest others : List (List ℕ)) (total : Option ℕ) → left ≡ line ∷ wanted → rest ≡ have ∷ others → bytes_eq line have ≡ false → differs_at n left rest ≡ total → Some n ≡ total
other_met n line have left wanted rest others total l r h so_far =
    sym (ap (λ (b : Bool). cond b (differs_at (n + 1) wanted others) (Some n)) h) ∙ sym (ap (λ (ls : List (List ℕ)). differs_at n ls (have ∷ others)) l) ∙ sym (ap (differs_at n left) r) ∙ so_far

some_left : (n : ℕ) (left : List (List ℕ)) (line : List ℕ) (wanted : List (List ℕ)) → left ≡ line ∷ wanted → differs_at n left [] ≡ Some n
some_left n left line wanted l = ap (λ (ls : List (List ℕ)). differs_at n ls []) l

pub missing_met : (n : ℕ) (line : List ℕ) (left wanted rest : List (List ℕ)) (total : Option ℕ) → left ≡ line ∷ wanted → rest ≡ [] → differs_at n left rest ≡ total → Some n ≡ total
missing_met n line left wanted rest total l r so_far = sym (some_left n left line wanted l) ∙ sym (ap (differs_at n left) r) ∙ so_far

pub none_met : (n : ℕ) (left rest : List (List ℕ)) (total : Option ℕ) → left ≡ [] → rest ≡ [] → differs_at n left rest ≡ total → None ≡ total
none_met n left rest total l r so_far = sym (ap (λ (ls : List (List ℕ)). differs_at n ls []) l) ∙ sym (ap (differs_at n left) r) ∙ so_far

pub more_met : (n : ℕ) (have : List ℕ) (left rest others : List (List ℕ)) (total : Option ℕ) → left ≡ [] → rest ≡ have ∷ others → differs_at n left rest ≡ total → Some n ≡ total
more_met n have left rest others total l r so_far = sym (ap (λ (ls : List (List ℕ)). differs_at n ls (have ∷ others)) l) ∙ sym (ap (differs_at n left) r) ∙ so_far

-- ---- what it says of the checks

some_line : (x y : List ℕ) → ◌≡◌ {A = Option (List ℕ)} (Some x) (Some y) → x ≡ y
some_line x y e = cc

nothing_is : (line : List ℕ) → ◌≡◌ {A = Option (List ℕ)} None (Some line) → ⊥
nothing_is line e = absurd cc

something_is : (line : List ℕ) → ◌≡◌ {A = Option (List ℕ)} (Some line) None → ⊥
something_is line e = absurd cc

goes_on : (p : Parsed) (ended : Option ℕ) (n : ℕ) (line have : List ℕ) (wanted rest : List (List ℕ)) (found : Option ℕ) → HasEnded p ended → ◌≡◌ {A = Option (List ℕ)} (Some line) (Some have) → TablesFail p None (n + 1) wanted rest found
    → TablesFail p ended n (line ∷ wanted) (have ∷ rest) found
goes_on p ended n line have wanted rest None h same later = ((h, same), later)
goes_on p ended n line have wanted rest (Some m) h same later = inr ((h, same), later)

tables_by : (p : Parsed) (ended : Option ℕ) (n : ℕ) (line have : List ℕ) (wanted rest : List (List ℕ)) (b : Bool) → HasEnded p ended → bytes_eq line have ≡ b → TablesFail p None (n + 1) wanted rest (differs_at (n + 1) wanted rest)
    → TablesFail p ended n (line ∷ wanted) (have ∷ rest) (cond b (differs_at (n + 1) wanted rest) (Some n))
tables_by p ended n line have wanted rest false h e later = inl (refl, λ same. true≢false (sym ((bytes_eq-Decides line have).1 (some_line line have same.1)) ∙ e))
tables_by p ended n line have wanted rest true h e later = goes_on p ended n line have wanted rest (differs_at (n + 1) wanted rest) h (ap Some ((bytes_eq-Decides line have).0 e)) later

pub tables_are : (n : ℕ) (wanted rest : List (List ℕ)) → TablesAre n wanted rest (differs_at n wanted rest)
tables_are n [] [] p ended h = tt
tables_are n [] (line ∷ rest) p ended h = inl (refl, λ same. nothing_is line same.1)
tables_are n (line ∷ wanted) [] p ended h = inl (refl, λ same. something_is line same.1)
tables_are n (line ∷ wanted) (have ∷ rest) p ended h = tables_by p ended n line have wanted rest (bytes_eq line have) h refl (tables_are (n + 1) wanted rest p None tt)

pub tables_found : (n : ℕ) (wanted rest : List (List ℕ)) (found : Option ℕ) → found ≡ differs_at n wanted rest → TablesAre n wanted rest found
tables_found n wanted rest found is = subst (TablesAre n wanted rest) (sym is) (tables_are n wanted rest)

-- ---- texts that are not empty

-- lines of which there is a first
pub record HasFirst (lines : List (List ℕ)) : Type 0 where
  pub line : List ℕ
  pub more : List (List ℕ)
  pub is : lines ≡ line ∷ more

put_on : (b : ℕ) (lines : List (List ℕ)) → HasFirst (onto b lines)
put_on b [] = record { line = b ∷ []; more = []; is = refl }
put_on b (line ∷ lines) = record { line = b ∷ line; more = lines; is = refl }

pub some_lines : (text : List ℕ) → 0 < length text → HasFirst (ended_lines text)
some_lines [] some = absurd (omega arith)
some_lines (b ∷ bs) some =
    elim (cases_Bool (is_line_feed b)) [
      | inl t ↦ record { line = b ∷ []; more = ended_lines bs; is = feed b bs t }
      | inr f ↦ subst HasFirst (sym (in_line b bs f)) (put_on b (ended_lines bs))
    ]

-- ---- the ends of the walk

pub ends_missing : (n : ℕ) (left rest : List ℕ) (total : Option ℕ) → 0 < length left → ended_lines rest ≡ [] → differs_at n (ended_lines left) (ended_lines rest) ≡ total → Some n ≡ total
ends_missing n left rest total some none so_far =
    let first : HasFirst (ended_lines left) = some_lines left some in
    missing_met n first.line (ended_lines left) first.more (ended_lines rest) total first.is none so_far

pub ends_with_more : (n : ℕ) (left rest : List ℕ) (total : Option ℕ) → ended_lines left ≡ [] → 0 < length rest → differs_at n (ended_lines left) (ended_lines rest) ≡ total → Some n ≡ total
ends_with_more n left rest total none some so_far =
    let first : HasFirst (ended_lines rest) = some_lines rest some in
    more_met n first.line (ended_lines left) (ended_lines rest) first.more total none first.is so_far
