-- Some entry of a list.
use Rattle.std.proofs.Common.{◌≡◌, ℕ, zero, suc, ◌⊎◌, ◌==◌, true, false, if◌then◌else◌, List, [], ◌∷◌, ◌++◌, refl, sym, subst, inl, inr, arith}
use Rattle.std.specs.Prelude.{Any}
use Rattle.std.specs.List.{AllByRecursion}
use Rattle.std.proofs.lemmas.Bool.{eq-eqb}
use Rattle.hist.specs.declared.event.Entry.{Entry}
use Rattle.hist.specs.Busy.{own}

pub any_here : (P : Entry → Type 0) (e : Entry) (es : List Entry) → P e → Any P (e ∷ es)
any_here P e es is = (0, e, omega arith, refl, is)

pub any_later : (P : Entry → Type 0) (e : Entry) (es : List Entry) → Any P es → Any P (e ∷ es)
any_later P e es is = (suc is.0, is.1, omega (arith, is.2), is.3, is.4)

pub any_none : (P : Entry → Type 0) → Any P [] → ⊥
any_none P any = omega (arith, any.2)

-- it is the first, or one behind it
pub first_or_later : (P : Entry → Type 0) (e : Entry) (es : List Entry) → Any P (e ∷ es) → P e ⊎ Any P es
first_or_later P e es (zero, x, lt, is, holds) = inl (subst P (sym is) holds)
first_or_later P e es (suc i, x, lt, is, holds) = inr (i, x, omega (arith, lt), is, holds)

pub any_weaker : (P Q : Entry → Type 0) → ((e : Entry) → P e → Q e) → (es : List Entry) → Any P es → Any Q es
any_weaker P Q step es (i, x, lt, is, holds) = (i, x, lt, is, step x holds)

pub any_before : (P : Entry → Type 0) (xs ys : List Entry) → Any P xs → Any P (xs ++ ys)
any_before P [] ys any = absurd (any_none P any)
any_before P (x ∷ xs) ys any = elim (first_or_later P x xs any) [
  | inl here ↦ any_here P x (xs ++ ys) here
  | inr later ↦ any_later P x (xs ++ ys) (any_before P xs ys later)
]

pub any_behind : (P : Entry → Type 0) (xs ys : List Entry) → Any P ys → Any P (xs ++ ys)
any_behind P [] ys any = any
any_behind P (x ∷ xs) ys any = any_later P x (xs ++ ys) (any_behind P xs ys any)

-- one of two lists
pub any_either : (P : Entry → Type 0) (xs ys : List Entry) → Any P (xs ++ ys) → Any P xs ⊎ Any P ys
any_either P [] ys any = inr any
any_either P (x ∷ xs) ys any = elim (first_or_later P x (xs ++ ys) any) [
  | inl here ↦ inl (any_here P x xs here)
  | inr later ↦ elim (any_either P xs ys later) [ inl left ↦ inl (any_later P x xs left) | inr right ↦ inr right ]
]

-- what holds of all holds of that one too
pub any_all : (P Q : Entry → Type 0) (es : List Entry) → AllByRecursion Q es → Any P es → Any (λ e. P e × Q e) es
any_all P Q [] all any = absurd (any_none P any)
any_all P Q (x ∷ xs) all any = elim (first_or_later P x xs any) [
  | inl here ↦ any_here (λ e. P e × Q e) x xs (here, all.0)
  | inr later ↦ any_later (λ e. P e × Q e) x xs (any_all P Q xs all.1 later)
]

-- so there is none where all are otherwise
pub any_not : (P : Entry → Type 0) (es : List Entry) → AllByRecursion (λ e. P e → ⊥) es → Any P es → ⊥
any_not P es all any = let one = any_all P (λ e. P e → ⊥) es all any in one.4.1 one.4.0

-- one that is this entry
pub any_is : (e : Entry) (P : Entry → Type 0) (es : List Entry) → AllByRecursion P es → Any (λ x. x ≡ e) es → P e
any_is e P es all any = let one = any_all (λ x. x ≡ e) P es all any in subst P one.4.0 one.4.1

-- one of a core is among that core's entries
pub any_own : (P : Entry → Type 0) (core : ℕ) (es : List Entry) → ((e : Entry) → P e → e.core ≡ core) → Any P es
    → Any P (own core es)
any_own P core [] mine any = absurd (any_none P any)
any_own P core (x ∷ xs) mine any = elim (first_or_later P x xs any) [
  | inl here ↦
      subst (λ b. Any P (if b then x ∷ own core xs else own core xs)) (sym (eq-eqb x.core core (mine x here)))
      (any_here P x (own core xs) here)
  | inr later ↦ elim (x.core == core) as (λ b. Any P (if b then x ∷ own core xs else own core xs)) [
    | true ↦ any_later P x (own core xs) (any_own P core xs mine later)
    | false ↦ any_own P core xs mine later
  ]
]
