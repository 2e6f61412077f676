-- Numbers that are one or are not, and tables with one record changed.
use Rattle.std.proofs.Common.{◌≡◌, ℕ, ◌<◌, true, false, nat_eq, List, length, get_or, slice_set, inl, inr, refl, sym, ap, ◌∙◌, subst}
use Rattle.std.proofs.lemmas.List.{get_or-set_same, get_or-set_other}
use Rattle.std.proofs.lemmas.Bool.Decides.{eqb_tells}

pub same-is : (i : ℕ) → nat_eq i i ≡ true
same-is i = elim (eqb_tells i i) [ inl (t, is) ↦ t | inr (f, apart) ↦ absurd (apart refl) ]

pub other-is : (e i : ℕ) → (e ≡ i → ⊥) → nat_eq e i ≡ false
other-is e i ne = elim (eqb_tells e i) [ inl (t, is) ↦ absurd (ne is) | inr (f, apart) ↦ f ]

-- what stands at j after x was put at i
pub at_set : {X : Type 0} (P : X → Type 0) (xs : List X) (i j : ℕ) (x d : X) → i < length xs → (j ≡ i → P x) → ((j ≡ i → ⊥) → P (get_or xs j d)) → P (get_or (slice_set xs i x) j d)
at_set P xs i j x d lt same other =
    elim (eqb_tells j i) [
      | inl (t, is) ↦ subst P (sym (ap (λ (n : ℕ). get_or (slice_set xs i x) n d) is ∙ get_or-set_same xs i x d lt)) (same is)
      | inr (f, apart) ↦ subst P (sym (get_or-set_other xs i j x d apart)) (other apart)
    ]
