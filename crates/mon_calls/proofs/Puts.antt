-- A record at the first place, and at the second, as an index sets it.
use Rattle.std.proofs.Common.{◌≡◌, ℕ, ◌<◌, List, [], ◌∷◌, length, refl, slice_set, get_or, arith}
use Rattle.mon_calls.specs.OnHeld.{first_put, second_put}

module _ {X : Type 0} where
  pub first_set : (xs : List (ℕ × X)) (d : ℕ × X) (x : X) → slice_set xs 0 ((get_or xs 0 d).0, x) ≡ first_put x xs
  first_set [] d x = refl
  first_set (y ∷ ys) d x = refl

  pub second_set : (xs : List (ℕ × X)) (d : ℕ × X) (x : X) → slice_set xs 1 ((get_or xs 1 d).0, x) ≡ second_put x xs
  second_set [] d x = refl
  second_set (y ∷ []) d x = refl
  second_set (y ∷ z ∷ ys) d x = refl

  pub none_set : (xs : List (ℕ × X)) (x : X) → length xs ≡ 0 → xs ≡ first_put x xs
  none_set [] x e = refl
  none_set (y ∷ ys) x e = absurd (omega arith)

  pub no_second : (xs : List (ℕ × X)) (x : X) → length xs < 2 → xs ≡ second_put x xs
  no_second [] x e = refl
  no_second (y ∷ []) x e = refl
  no_second (y ∷ z ∷ ys) x e = absurd (omega arith)

pub ruleset puts = (first_set, second_set, none_set, no_second)
