-- Reading up to the first fault gave a value, so each of its steps did.
use Rattle.std.proofs.Common.{◌≡◌, Result, Ok, Err, refl}
use Rattle.reader_answers.specs.Steps.{◌>>=◌}

pub bind_ok : {A B F : Type 0} (r : Result A F) (f : A → Result B F) (y : B) → (r >>= f) ≡ Ok y → (x : A) × (r ≡ Ok x) × (f x ≡ Ok y)
bind_ok (Ok x) f y e = (x, refl, e)
bind_ok (Err fault) f y e = absurd cc

pub ok_is : {A F : Type 0} (x y : A) → ◌≡◌ {A = Result A F} (Ok x) (Ok y) → x ≡ y
ok_is x y e = cc

pub not_ok : {A F : Type 0} (fault : F) (x : A) (P : Type 0) → ◌≡◌ {A = Result A F} (Err fault) (Ok x) → P
not_ok fault x P e = absurd cc
