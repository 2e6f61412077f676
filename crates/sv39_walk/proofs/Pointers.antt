-- What the kind of a pte says of the pte.
use Rattle.std.proofs.Common.{◌≡◌, ℕ, ◌<◌, Bool, true, false, cond, ◌||◌, nat_eq, refl, subst, arith}
use Rattle.std.proofs.lemmas.Bool.Decides.{nat_tests}
use Rattle.mon_types.specs.declared.thread.Mode.{Mode}
use Rattle.sv39_pte.specs.declared.pte.Access.{Access}
use Rattle.sv39_pte.specs.declared.pte.Kind.{Kind}
use Rattle.sv39_pte.specs.declared.pte.Kind.TheVariants as kinds
use Rattle.sv39_pte.specs.Pte.{is_invalid, is_pointer, is_bad_pointer, is_accessed, is_dirty, is_user, is_of_other_mode, is_forbidden, is_misaligned, is_untouched, ppn_of, pointer_kind, leaf_kind, classified}
use Rattle.sv39_walk.specs.Relation.{LeadsDown}
use Rattle.sv39_walk.specs.Walking.{HasLevelBelow}

either : (P : Kind → Type 0) (b : Bool) (k l : Kind) → P k → P l → P (cond b k l)
either P true k l p q = p
either P false k l p q = q

-- what holds of a fault, of the pte as a pointer and of it as a leaf holds of its kind
classified_has : (P : Kind → Type 0) (pte level : ℕ) (access : Access) (mode : Mode)
    → P kinds.Fault → P (pointer_kind pte level) → P (leaf_kind pte) → P (classified pte level access mode)
classified_has P pte level access mode fault pointer leaf =
    either P (is_invalid pte) _ _ fault
    (either P (is_pointer pte) _ _ pointer
    (either P (is_of_other_mode pte mode) _ _ fault
    (either P (is_forbidden pte access) _ _ fault
    (either P (is_misaligned pte level) _ _ fault (either P (is_untouched pte access) _ _ fault leaf)))))

-- ---- a pointer has a level below it

not_at_0 : (b at_0 : Bool) (level ppn : ℕ) → nat_eq level 0 ≡ at_0
    → HasLevelBelow (cond (b || at_0) kinds.Fault (kinds.Pointer ppn)) level
not_at_0 true at_0 level ppn is = tt
not_at_0 false true level ppn is = tt
not_at_0 false false level ppn is = grind (arith, nat_tests, is)

pub has_level_below : (pte level : ℕ) (access : Access) (mode : Mode)
    → HasLevelBelow (classified pte level access mode) level
has_level_below pte level access mode =
    classified_has (λ (k : Kind). HasLevelBelow k level) pte level access mode tt
    (not_at_0 (is_accessed pte || is_dirty pte || is_user pte) (nat_eq level 0) level (ppn_of pte) refl) tt

pub down_above_0 : (pte level : ℕ) (access : Access) (mode : Mode) → LeadsDown pte level access mode → 0 < level
down_above_0 pte level access mode down =
    subst (λ (k : Kind). HasLevelBelow k level) down (has_level_below pte level access mode)

-- ---- a pointer leads to the pte's own frame

-- where the kind is a pointer, it has this page frame number
abbrev PointsTo : ℕ → Kind → Type 0
PointsTo frame k = (ppn : ℕ) → k ≡ kinds.Pointer ppn → ppn ≡ frame

points_to : (pte level : ℕ) (access : Access) (mode : Mode) → PointsTo (ppn_of pte) (classified pte level access mode)
points_to pte level access mode =
    classified_has (PointsTo (ppn_of pte)) pte level access mode
    (λ ppn e. cc)
    (either (PointsTo (ppn_of pte)) (is_bad_pointer pte level) _ _ (λ ppn e. cc) (λ ppn e. cc))
    (λ ppn e. cc)

pub leads_down : (pte level ppn : ℕ) (access : Access) (mode : Mode)
    → classified pte level access mode ≡ kinds.Pointer ppn → LeadsDown pte level access mode
leads_down pte level ppn access mode e =
    subst (λ (n : ℕ). classified pte level access mode ≡ kinds.Pointer n) (points_to pte level access mode ppn e) e
