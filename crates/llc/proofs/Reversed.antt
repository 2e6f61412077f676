-- As many different numbers stand in a list read from either end.
use Rattle.std.proofs.Common.{◌≡◌, ℕ, ◌+◌, Bool, true, false, cond, List, [], ◌∷◌, ◌++◌, length, map, refl, sym, ap, ◌∙◌, arith, inl, inr, length-append}
use Rattle.std.specs.Prelude.{filter, ◌||◌, ◌==◌, reverse}
use Rattle.std.proofs.lemmas.Bool.{cases_Bool, eqb-true, eq-eqb}
use Rattle.std.proofs.lemmas.List.{map-append}
use Rattle.std.proofs.lemmas.List.Elements.{filter-append}
use Rattle.std.proofs.lemmas.List.Folds.{list_any-append}
use Rattle.mon_types.specs.Shape.{Shape}
use Rattle.llc.specs.Colours.{tag_of, set_of}
use Rattle.llc.specs.Hits.{different, tags_in, tag_count}
use Rattle.llc.specs.Sets.{has_tag}
use Rattle.llc.proofs.Different.{is_other, other_way, Apart, different_apart, without_none}
use Rattle.llc.proofs.Own.{reverse-cons, reverse-filter}

or_swapped : (x y : Bool) → (x || (y || false)) ≡ (y || x)
or_swapped true true = refl
or_swapped true false = refl
or_swapped false true = refl
or_swapped false false = refl

pub has_tag-reverse : (n : ℕ) (ts : List ℕ) → has_tag n (reverse ts) ≡ has_tag n ts
has_tag-reverse n [] = refl
has_tag-reverse n (t ∷ ts) =
    ap (has_tag n) (reverse-cons t ts)
    ∙ list_any-append (λ m. m == n) (reverse ts) (t ∷ [])
    ∙ or_swapped (has_tag n (reverse ts)) (t == n)
    ∙ ap (λ (b : Bool). (t == n) || b) (has_tag-reverse n ts)

pub map-reverse : (f : ℕ → ℕ) (ts : List ℕ) → map f (reverse ts) ≡ reverse (map f ts)
map-reverse f [] = refl
map-reverse f (t ∷ ts) =
    ap (map f) (reverse-cons t ts)
    ∙ map-append f (reverse ts) (t ∷ [])
    ∙ ap (λ (x : List ℕ). x ++ f t ∷ []) (map-reverse f ts)
    ∙ sym (reverse-cons (f t) (map f ts))

-- ---- one number more, at either end

-- the number, unless it is there already
abbrev unless_there : Bool → ℕ → List ℕ
unless_there there n = cond there [] (n ∷ [])

others_of_one : (t n : ℕ) (there : Bool) → filter (is_other t) (unless_there there n) ≡ unless_there ((t == n) || there) n
others_of_one t n true = elim (t == n) as (λ b. [] ≡ unless_there (b || true) n) [ true ↦ refl | false ↦ refl ]
others_of_one t n false =
    elim (cases_Bool (t == n)) [
      | inl e ↦ let back : (n == t) ≡ true = eq-eqb n t (sym (eqb-true t n e)) in rw (e, back) refl
      | inr f ↦ let back : (n == t) ≡ false = other_way t n f in rw (f, back) refl
    ]

different-push : (ts : List ℕ) (n : ℕ) → different (ts ++ n ∷ []) ≡ different ts ++ unless_there (has_tag n ts) n
different-push [] n = refl
different-push (t ∷ ts) n =
    ap (λ (x : List ℕ). t ∷ filter (is_other t) x) (different-push ts n)
    ∙ ap (λ (x : List ℕ). t ∷ x) (filter-append (is_other t) (different ts) (unless_there (has_tag n ts) n))
    ∙ ap (λ (x : List ℕ). t ∷ (filter (is_other t) (different ts) ++ x)) (others_of_one t n (has_tag n ts))

-- 1 for a number that is there
abbrev one_if : Bool → ℕ
one_if there = cond there 1 0

length-others : (n : ℕ) (ts : List ℕ) → Apart ts → length (filter (is_other n) ts) + one_if (has_tag n ts) ≡ length ts
length-others n [] h = refl
length-others n (t ∷ ts) h =
    elim (cases_Bool (t == n)) [
      | inl e ↦
          let gone : has_tag n ts ≡ false = ap (λ (x : ℕ). has_tag x ts) (sym (eqb-true t n e)) ∙ h.0 in
          rw e (omega (arith, ap length (without_none n ts gone)))
      | inr f ↦ rw f (omega (arith, length-others n ts h.1))
    ]

has_tag-filter : (n t : ℕ) (ts : List ℕ) → (t == n) ≡ false → has_tag n (filter (is_other t) ts) ≡ has_tag n ts
has_tag-filter n t [] f = refl
has_tag-filter n t (x ∷ xs) f =
    elim (cases_Bool (x == t)) [
      | inl e ↦
          let same : (x == n) ≡ false = ap (λ (y : ℕ). y == n) (eqb-true x t e) ∙ f in
          rw (e, same) (has_tag-filter n t xs f)
      | inr g ↦ rw g (ap (λ (b : Bool). (x == n) || b) (has_tag-filter n t xs f))
    ]

has_tag-different : (n : ℕ) (ts : List ℕ) → has_tag n (different ts) ≡ has_tag n ts
has_tag-different n [] = refl
has_tag-different n (t ∷ ts) =
    elim (cases_Bool (t == n)) [
      | inl e ↦ rw e refl
      | inr f ↦ rw f (has_tag-filter n t (different ts) f ∙ has_tag-different n ts)
    ]

length-unless_there : (there : Bool) (n : ℕ) → length (unless_there there n) + one_if there ≡ 1
length-unless_there true n = refl
length-unless_there false n = refl

pub length-different-reverse : (ts : List ℕ) → length (different (reverse ts)) ≡ length (different ts)
length-different-reverse [] = refl
length-different-reverse (t ∷ ts) =
    let behind : length (different (reverse ts ++ t ∷ [])) ≡ length (different (reverse ts)) + length (unless_there (has_tag t ts) t) =
    ap length (different-push (reverse ts) t)
    ∙ length-append (different (reverse ts)) (unless_there (has_tag t (reverse ts)) t)
    ∙ ap (λ (b : Bool). length (different (reverse ts)) + length (unless_there b t)) (has_tag-reverse t ts) in
    let before : length (filter (is_other t) (different ts)) + one_if (has_tag t ts) ≡ length (different ts) =
    ap (λ (b : Bool). length (filter (is_other t) (different ts)) + one_if b) (sym (has_tag-different t ts)) ∙ length-others t (different ts) (different_apart ts) in
    let inner : length (different (reverse ts)) ≡ length (different ts) = length-different-reverse ts in
    let one : length (unless_there (has_tag t ts) t) + one_if (has_tag t ts) ≡ 1 = length-unless_there (has_tag t ts) t in
    ap (λ (x : List ℕ). length (different x)) (reverse-cons t ts) ∙ omega (arith, behind, before, inner, one)

-- ---- tags

pub tag_count-reverse : (shape : Shape) (s : ℕ) (xs : List ℕ) → tag_count shape s (reverse xs) ≡ tag_count shape s xs
tag_count-reverse shape s xs =
    let in_set = λ (a : ℕ). set_of shape a == s in
    ap (λ (x : List ℕ). length (different (map tag_of x))) (sym (reverse-filter in_set xs))
    ∙ ap (λ (x : List ℕ). length (different x)) (map-reverse tag_of (filter in_set xs))
    ∙ length-different-reverse (tags_in shape s xs)
