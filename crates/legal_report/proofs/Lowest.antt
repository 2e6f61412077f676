-- The least of tickets and of those behind them.
use Rattle.std.proofs.Common.{◌≡◌, ℕ, zero, suc, ◌+◌, ◌-◌, ◌<◌, ◌≤◌, nat_lt, Bool, true, false, if◌then◌else◌, List, [], ◌∷◌, ◌++◌, length, take, drop, get_or, set, slice_get, Option, Some, None, refl, sym, ap, subst, ◌∙◌, arith, inl, inr}
use Rattle.std.specs.Prelude.{IfSome}
use Rattle.std.specs.Bool.{Decides}
use Rattle.std.specs.List.{AllByRecursion}
use Rattle.std.proofs.lemmas.Bool.{ltb-true, ltb-false, cases_Bool}
use Rattle.legal_report.specs.Least.{lesser_of, least_behind, lowered}

-- ---- the walk, from the last place to the first

if_onto : (b : Bool) (x : ℕ) (xs ys : List ℕ) → (if b then x ∷ xs else x ∷ ys) ≡ x ∷ (if b then xs else ys)
if_onto true x xs ys = refl
if_onto false x xs ys = refl

-- the least from place j on, where those from the next place on are
pub lower_one : (old : List ℕ) (j : ℕ) → suc j < length old → lowered (take (suc j) old ++ least_behind (drop (suc j) old)) j ≡ take j old ++ least_behind (drop j old)
lower_one [] j lt = absurd (omega arith)
lower_one (x ∷ []) j lt = absurd (omega arith)
lower_one (x ∷ y ∷ ys) zero lt =
    let h : ℕ = lesser_of y (least_behind ys) in
    elim (nat_lt h x) as (λ b. (if b then h ∷ h ∷ least_behind ys else x ∷ h ∷ least_behind ys) ≡ (if b then h else x) ∷ h ∷ least_behind ys) [ true ↦ refl | false ↦ refl ]
lower_one (x ∷ y ∷ ys) (suc j) lt =
    let t : List ℕ = take (suc j) (y ∷ ys) ++ least_behind (drop (suc j) (y ∷ ys)) in
    if_onto (nat_lt (get_or t (suc j) 0) (get_or t j 0)) x (set t j (get_or t (suc j) 0)) t
    ∙ ap (λ (zs : List ℕ). x ∷ zs) (lower_one (y ∷ ys) j (omega arith))

-- the last alone is the least of itself
pub last_alone : (old : List ℕ) (n : ℕ) → length old ≤ suc n → take n old ++ least_behind (drop n old) ≡ old
last_alone [] zero le = refl
last_alone [] (suc n) le = refl
last_alone (x ∷ []) zero le = refl
last_alone (x ∷ y ∷ ys) zero le = absurd (omega arith)
last_alone (x ∷ xs) (suc n) le = ap (λ (zs : List ℕ). x ∷ zs) (last_alone xs n (omega arith))

-- ---- what the least tells

module _ (since : ℕ) where
  abbrev Above : ℕ → Type 0
  Above t = since < t

  lesser_told : (x : ℕ) (ls : List ℕ) → since < lesser_of x ls → (since < x) × IfSome (slice_get ls 0) Above
  lesser_told x [] lt = (lt, tt)
  lesser_told x (h ∷ ls) lt = elim (cases_Bool (nat_lt h x)) [
    | inl t ↦
        let under : since < h = subst (λ (b : Bool). since < (if b then h else x)) t lt in
        (omega (arith, under, ltb-true h x t), under)
    | inr f ↦
        let under : since < x = subst (λ (b : Bool). since < (if b then h else x)) f lt in
        (under, omega (arith, under, ltb-false h x f))
  ]

  lesser_tells : (x : ℕ) (ls : List ℕ) → since < x → IfSome (slice_get ls 0) Above → since < lesser_of x ls
  lesser_tells x [] lt first = lt
  lesser_tells x (h ∷ ls) lt first = elim (nat_lt h x) as (λ b. since < (if b then h else x)) [ true ↦ first | false ↦ lt ]

  pub least_told : (xs : List ℕ) (j : ℕ) → IfSome (slice_get (least_behind xs) j) Above → AllByRecursion Above (drop j xs)
  least_told [] zero some = tt
  least_told [] (suc j) some = tt
  least_told (x ∷ xs) zero some = let both = lesser_told x (least_behind xs) some in (both.0, least_told xs zero both.1)
  least_told (x ∷ xs) (suc j) some = least_told xs j some

  pub least_tells : (xs : List ℕ) (j : ℕ) → AllByRecursion Above (drop j xs) → IfSome (slice_get (least_behind xs) j) Above
  least_tells [] zero all = tt
  least_tells [] (suc j) all = tt
  least_tells (x ∷ xs) zero all = lesser_tells x (least_behind xs) all.0 (least_tells xs zero all.1)
  least_tells (x ∷ xs) (suc j) all = least_tells xs j all

pub decided_by_least : (since : ℕ) (xs least : List ℕ) (j : ℕ) (b : Bool) → least ≡ least_behind xs → Decides b (IfSome (slice_get least j) (λ t. since < t)) → Decides b (AllByRecursion (λ t. since < t) (drop j xs))
decided_by_least since xs least j b is d = (
  λ yes. least_told since xs j (subst (λ (ls : List ℕ). IfSome (slice_get ls j) (λ t. since < t)) is (d.0 yes)),
  λ all. d.1 (subst (λ (ls : List ℕ). IfSome (slice_get ls j) (λ t. since < t)) (sym is) (least_tells since xs j all)),
)
