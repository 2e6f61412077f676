-- The first check that does not pass, call by call.
use Rattle.std.proofs.Common.{◌≡◌, ℕ, zero, suc, ◌+◌, ◌<◌, ◌≤◌, Bool, true, false, List, [], ◌∷◌, ◌++◌, length, take, drop, slice_get, Option, Some, None, refl, sym, ap, subst, ◌∙◌, arith, inl, inr}
use Rattle.std.specs.List.{AllByRecursion}
use Rattle.std.specs.Bool.{Decides}
use Rattle.std.proofs.lemmas.Bool.{true≢false}
use Rattle.std.proofs.lemmas.List.{take-append-drop, drop_all}
use Rattle.mon_types.specs.Shape.{Shape}
use Rattle.hist.specs.declared.event.Entry.{Entry}
use Rattle.legal_report.specs.Form.{Parsed}
use Rattle.legal_report.specs.Checks.{Check, Passes, IsRightCall, call_checks}
use Rattle.legal_report.specs.LegalReport.{FailsFirst}
use Rattle.legal_report.specs.FirstFailing.{FirstFailing, FirstWrongCall}

-- ---- an element of a list

pub taken_more : {A : Type 0} (xs : List A) (k : ℕ) (x : A) → slice_get xs k ≡ Some x → take (k + 1) xs ≡ take k xs ++ x ∷ []
taken_more {A = A} [] k x is = absurd cc
taken_more {A = A} (y ∷ ys) zero x is = let same : y ≡ x = cc in ap (λ (z : A). z ∷ []) same
taken_more {A = A} (y ∷ ys) (suc k) x is =
    let n : suc k + 1 ≡ suc (k + 1) = omega arith in
    ap (λ (m : ℕ). take m (y ∷ ys)) n ∙ ap (λ (zs : List A). y ∷ zs) (taken_more ys k x is)

pub left_from : {A : Type 0} (xs : List A) (k : ℕ) (x : A) → slice_get xs k ≡ Some x → drop k xs ≡ x ∷ drop (k + 1) xs
left_from {A = A} [] k x is = absurd cc
left_from {A = A} (y ∷ ys) zero x is = let same : y ≡ x = cc in ap (λ (z : A). z ∷ ys) same
left_from {A = A} (y ∷ ys) (suc k) x is =
    let n : suc (k + 1) ≡ suc k + 1 = omega arith in
    left_from ys k x is ∙ ap (λ (m : ℕ). x ∷ drop m (y ∷ ys)) n

pub cut_at : {A : Type 0} (xs : List A) (k : ℕ) (x : A) → slice_get xs k ≡ Some x → xs ≡ take k xs ++ x ∷ drop (k + 1) xs
cut_at {A = A} xs k x is = sym (take-append-drop k xs) ∙ ap (λ (ys : List A). take k xs ++ ys) (left_from xs k x is)

pub as_long : {A : Type 0} (xs : List A) (k : ℕ) (x : A) → slice_get xs k ≡ Some x → length (take k xs) ≡ k
as_long [] k x is = absurd cc
as_long (y ∷ ys) zero x is = refl
as_long (y ∷ ys) (suc k) x is = ap suc (as_long ys k x is)

-- ---- call by call

-- what is found of the calls from number k on is found of all of them
abbrev pub GoesOn : Shape → List Entry → ℕ → Type 0
GoesOn shape calls k =
    (p : Parsed) → p.shape ≡ shape → p.calls ≡ calls → (found : Option ℕ) → FirstFailing p (k + 3) (call_checks (take k calls) (drop k calls)) found
    → FirstFailing p 3 (call_checks [] calls) found

pub goes_from_start : (shape : Shape) (calls : List Entry) → GoesOn shape calls 0
goes_from_start shape calls p s c found first = first

passed : (p : Parsed) (n : ℕ) (before : List Entry) (e : Entry) (es : List Entry) (found : Option ℕ) → IsRightCall p.shape p.calls before e → FirstFailing p (n + 1) (call_checks (before ++ e ∷ []) es) found
    → FirstFailing p n (call_checks before (e ∷ es)) found
passed p n before e es None right later = (right, later)
passed p n before e es (Some line) right later = inr (right, later)

-- the same of a report with these calls
in_report : (p : Parsed) (shape : Shape) (calls before : List Entry) (e : Entry) → p.shape ≡ shape → p.calls ≡ calls → IsRightCall shape calls before e → IsRightCall p.shape p.calls before e
in_report p shape calls before e s c right = subst (λ (x : Shape). IsRightCall x p.calls before e) (sym s) (subst (λ (es : List Entry). IsRightCall shape es before e) (sym c) right)

of_report : (p : Parsed) (shape : Shape) (calls before : List Entry) (e : Entry) → p.shape ≡ shape → p.calls ≡ calls → IsRightCall p.shape p.calls before e → IsRightCall shape calls before e
of_report p shape calls before e s c right = subst (λ (x : Shape). IsRightCall x calls before e) s (subst (λ (es : List Entry). IsRightCall p.shape es before e) c right)

pub goes_further : (shape : Shape) (calls : List Entry) (k : ℕ) (e : Entry) → slice_get calls k ≡ Some e → IsRightCall shape calls (take k calls) e → GoesOn shape calls k → GoesOn shape calls (k + 1)
goes_further shape calls k e there right goes p s c found first =
    let n : k + 1 + 3 ≡ k + 3 + 1 = omega arith in
    let moved : FirstFailing p (k + 3 + 1) (call_checks (take k calls ++ e ∷ []) (drop (k + 1) calls)) found =
    subst (λ (m : ℕ). FirstFailing p m (call_checks (take k calls ++ e ∷ []) (drop (k + 1) calls)) found) n
    (subst (λ (es : List Entry). FirstFailing p (k + 1 + 3) (call_checks es (drop (k + 1) calls)) found) (taken_more calls k e there) first) in
    goes p s c found
    (subst (λ (es : List Entry). FirstFailing p (k + 3) (call_checks (take k calls) es) found) (sym (left_from calls k e there))
    (passed p (k + 3) (take k calls) e (drop (k + 1) calls) found (in_report p shape calls (take k calls) e s c right) moved))

pub goes_wrong : (shape : Shape) (calls : List Entry) (k : ℕ) (e : Entry) → slice_get calls k ≡ Some e → (IsRightCall shape calls (take k calls) e → ⊥) → GoesOn shape calls k → FirstWrongCall shape calls (Some (k + 3))
goes_wrong shape calls k e there wrong goes p s c =
    goes p s c (Some (k + 3))
    (subst (λ (es : List Entry). FailsFirst p (k + 3) (call_checks (take k calls) es) (k + 3)) (sym (left_from calls k e there))
    (inl (refl, λ right. wrong (of_report p shape calls (take k calls) e s c right))))

pub all_gone : (shape : Shape) (calls : List Entry) (k : ℕ) → length calls ≤ k → GoesOn shape calls k → FirstWrongCall shape calls None
all_gone shape calls k le goes p s c =
    goes p s c None (subst (λ (es : List Entry). FirstFailing p (k + 3) (call_checks (take k calls) es) None) (sym (drop_all k calls le)) tt)
