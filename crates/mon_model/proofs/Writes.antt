-- What stands at a place of a table after a write at another, by whether they are one place.
use Rattle.std.proofs.Common.{◌≡◌, ◌⊎◌, ℕ, zero, suc, ◌<◌, Bool, true, false, ◌==◌, List, [], ◌∷◌, length, get_or, refl, sym, ap, subst, ◌∙◌, inl, inr}
use Rattle.std.proofs.Math.ListN.{set}
use Rattle.std.proofs.lemmas.List.{get_or-set_same, get_or-set_other}
use Rattle.std.proofs.lemmas.Bool.{cases_eq, eq-eqb, ne_eqb}

-- what is at r after a write at q, by whether they are one
pub at_one : {X : Type 0} (P : Bool → X → Type 0) (xs : List X) (q r : ℕ) (v d : X) → r < length xs
    → (q ≡ r → P true v) → ((q ≡ r → ⊥) → P false (get_or xs r d)) → P (q == r) (get_or (set xs q v) r d)
at_one P xs q r v d lt one apart =
    elim (cases_eq q r) [
      | inl is ↦
          subst (λ b. P b (get_or (set xs q v) r d)) (sym (eq-eqb q r is))
          (subst (P true) (sym (ap (λ (i : ℕ). get_or (set xs i v) r d) is ∙ get_or-set_same xs r v d lt)) (one is))
      | inr ne ↦
          subst (λ b. P b (get_or (set xs q v) r d)) (sym (ne_eqb q r ne))
          (subst (P false) (sym (get_or-set_other xs q r v d (λ e. ne (sym e)))) (apart ne))
    ]

-- the same, past the end too
pub at_any : {X : Type 0} (P : X → Type 0) (xs : List X) (q r : ℕ) (v d : X) → (q ≡ r → P v) → P (get_or xs r d) → P (get_or (set xs q v) r d)
at_any P [] q r v d one apart = apart
at_any P (x ∷ xs) zero zero v d one apart = one refl
at_any P (x ∷ xs) zero (suc r) v d one apart = apart
at_any P (x ∷ xs) (suc q) zero v d one apart = apart
at_any P (x ∷ xs) (suc q) (suc r) v d one apart = at_any P xs q r v d (λ e. one (ap suc e)) apart

-- what a list has at j once x was put at i
pub at_set : {X : Type 0} (xs : List X) (i j : ℕ) (x d : X) → ((j ≡ i) × (get_or (set xs i x) j d ≡ x)) ⊎ (get_or (set xs i x) j d ≡ get_or xs j d)
at_set [] i j x d = inr refl
at_set (y ∷ ys) zero zero x d = inl (refl, refl)
at_set (y ∷ ys) zero (suc j) x d = inr refl
at_set (y ∷ ys) (suc i) zero x d = inr refl
at_set (y ∷ ys) (suc i) (suc j) x d = elim (at_set ys i j x d) [ inl h ↦ inl (ap suc h.0, h.1) | inr e ↦ inr e ]
