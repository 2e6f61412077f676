-- The touches since the last clearing entry, one more of them.
use Rattle.std.proofs.Common.{◌≡◌, ℕ, ◌==◌, ◌&&◌, ◌||◌, Bool, true, false, List, [], ◌∷◌, ◌++◌, refl, ap, ◌∙◌}
use Rattle.report_check.specs.Holds.{is_held, touch_of}
use Rattle.report_check.specs.declared.holds.Touch.{Touch}

exchanged : (x y z : Bool) → (x || (y || z)) ≡ (y || (x || z))
exchanged true true z = refl
exchanged true false z = refl
exchanged false true z = refl
exchanged false false z = refl

pub one_more_held : (ts : List Touch) (region since r a : ℕ) → is_held (ts ++ touch_of region since ∷ []) r a ≡ ((region == r && since == a) || is_held ts r a)
one_more_held [] region since r a = refl
one_more_held (t ∷ ts) region since r a =
    ap (λ (b : Bool). (t.region == r && t.since == a) || b) (one_more_held ts region since r a)
    ∙ exchanged (t.region == r && t.since == a) (region == r && since == a) (is_held ts r a)
