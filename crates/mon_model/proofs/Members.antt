-- Membership in lists.
use Rattle.std.proofs.Common.{◌≡◌, ℕ, zero, suc, get_or, ◌<◌, List, [], ◌∷◌, map, length, refl, arith}
use Rattle.std.specs.List.{Contains}

pub record IsIn {X : Type 0} (xs : List X) (x : X) : Type 0 where
  pub place : Contains xs x

pub here : {X : Type 0} {x : X} {xs : List X} → IsIn (x ∷ xs) x
here = record { place = (0, omega arith, refl) }

pub there : {X : Type 0} {x y : X} {xs : List X} → IsIn xs x → IsIn (y ∷ xs) x
there h = record { place = (suc h.place.0, omega (arith, h.place.1), h.place.2) }

in_map_at : {X Y : Type 0} (f : X → Y) (x : X) (xs : List X) (n : ℕ) → n < length xs → get_or xs n x ≡ x → IsIn (map f xs) (f x)
in_map_at f x [] n l e = absurd (omega arith)
in_map_at f x (y ∷ ys) zero l e = rw e here
in_map_at f x (y ∷ ys) (suc n) l e = there (in_map_at f x ys n (omega arith) e)

pub in_map : {X Y : Type 0} (f : X → Y) (x : X) (xs : List X) → IsIn xs x → IsIn (map f xs) (f x)
in_map f x xs h = in_map_at f x xs h.place.0 h.place.1 h.place.2
