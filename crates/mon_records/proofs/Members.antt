-- Members of a list by recursion and by number.
use Rattle.std.proofs.Common.{◌≡◌, ◌⊎◌, inl, inr, ◌<◌, ℕ, zero, suc, List, [], ◌∷◌, length, sym, get_or, set, arith}
use Rattle.std.specs.List.{Contains}
use Rattle.mon_model.proofs.Writes.{at_any}
use Rattle.mon_records.specs.Members.{In}

at_number : {X : Type 0} (xs : List X) (x : X) (k : ℕ) → k < length xs → get_or xs k x ≡ x → In x xs
at_number [] x k l e = absurd (omega arith)
at_number (y ∷ ys) x zero l e = inl (sym e)
at_number (y ∷ ys) x (suc k) l e = inr (at_number ys x k (omega arith) e)

pub contains_in : {X : Type 0} (xs : List X) (x : X) → Contains xs x → In x xs
contains_in xs x h = at_number xs x h.0 h.1 h.2

pub in_contains : {X : Type 0} (xs : List X) (x : X) → In x xs → Contains xs x
in_contains [] x h = absurd h
in_contains (y ∷ ys) x h = elim h [
  | inl e ↦ (0, omega arith, sym e)
  | inr m ↦ let c = in_contains ys x m in (suc c.0, omega (arith, c.1), c.2)
]

-- where all have it, all have it once one that has it was set
pub all_set : {X : Type 0} (P : X → Type 0) (xs : List X) (i : ℕ) (x d : X) → P x → ((j : ℕ) → P (get_or xs j d)) → (j : ℕ) → P (get_or (set xs i x) j d)
all_set P xs i x d p h j = at_any P xs i j x d (λ e. p) (h j)
