-- The different ones of some numbers: where a number stands among them, and what they are with one number more.
use Rattle.std.proofs.Common.{◌≡◌, ℕ, zero, suc, Bool, true, false, cond, List, [], ◌∷◌, ◌++◌, length, take, refl, sym, ap, subst, ◌∙◌, arith, inl, inr}
use Rattle.std.specs.Prelude.{filter, not, ◌||◌, ◌==◌, nat_lt}
use Rattle.std.proofs.lemmas.Bool.{true≢false, cases_Bool, cases_lt, eqb-true, eqb-false, eq-eqb, ne_eqb, lt-ltb, le-ltb}
use Rattle.std.proofs.lemmas.List.{take-take}
use Rattle.std.proofs.lemmas.List.Elements.{filter-append}
use Rattle.llc.specs.Hits.{different}
use Rattle.llc.specs.Sets.{has_tag, without_tag, touched}

-- a number is another than this one
abbrev pub is_other : ℕ → ℕ → Bool
is_other n m = not (m == n)

pub neither : (x y : Bool) → (x || y) ≡ false → (x ≡ false) × (y ≡ false)
neither true y h = absurd (true≢false h)
neither false y h = (refl, h)

pub not_either : (x y : Bool) → x ≡ false → y ≡ false → (x || y) ≡ false
not_either x y f g = rw f g

-- tests of two numbers in either order
pub other_way : (a b : ℕ) → (a == b) ≡ false → (b == a) ≡ false
other_way a b h = ne_eqb b a (λ e. eqb-false a b h (sym e))

-- ---- where a number does not stand

pub none_filtered : (n : ℕ) (p : ℕ → Bool) (ts : List ℕ) → has_tag n ts ≡ false → has_tag n (filter p ts) ≡ false
none_filtered n p [] h = refl
none_filtered n p (t ∷ ts) h =
    let parts = neither (t == n) (has_tag n ts) h in
    let rest = none_filtered n p ts parts.1 in
    elim (p t) as (λ b. has_tag n (cond b (t ∷ filter p ts) (filter p ts)) ≡ false) [
      | true ↦ not_either (t == n) (has_tag n (filter p ts)) parts.0 rest
      | false ↦ rest
    ]

pub none_different : (n : ℕ) (ts : List ℕ) → has_tag n ts ≡ false → has_tag n (different ts) ≡ false
none_different n [] h = refl
none_different n (t ∷ ts) h =
    let parts = neither (t == n) (has_tag n ts) h in
    let rest = none_different n ts parts.1 in
    not_either (t == n) (has_tag n (filter (is_other t) (different ts))) parts.0 (none_filtered n (is_other t) (different ts) rest)

pub none_taken : (n count : ℕ) (ts : List ℕ) → has_tag n ts ≡ false → has_tag n (take count ts) ≡ false
none_taken n zero ts h = refl
none_taken n (suc count) [] h = refl
none_taken n (suc count) (t ∷ ts) h =
    let parts = neither (t == n) (has_tag n ts) h in
    not_either (t == n) (has_tag n (take count ts)) parts.0 (none_taken n count ts parts.1)

-- ---- where it stands

-- the numbers are those of a front, then this one, and then a rest
pub record StandsBehind (front : List ℕ) (n : ℕ) (all : List ℕ) : Type 0 where
  pub rest : List ℕ
  pub all_are : all ≡ front ++ n ∷ rest

-- a number that first stands behind a front stands behind the different ones of the front
pub different_front : (front : List ℕ) (n : ℕ) (rest : List ℕ) → has_tag n front ≡ false
    → StandsBehind (different front) n (different (front ++ n ∷ rest))
different_front [] n rest h = record { rest = filter (is_other n) (different rest); all_are = refl }
different_front (t ∷ ts) n rest h =
    let parts = neither (t == n) (has_tag n ts) h in
    let inner : StandsBehind (different ts) n (different (ts ++ n ∷ rest)) = different_front ts n rest parts.1 in
    let kept : filter (is_other t) (n ∷ inner.rest) ≡ n ∷ filter (is_other t) inner.rest = rw (other_way t n parts.0) refl in
    record {
      rest = filter (is_other t) inner.rest;
      all_are =
          ap (λ (x : List ℕ). t ∷ filter (is_other t) x) inner.all_are
          ∙ ap (λ (x : List ℕ). t ∷ x) (filter-append (is_other t) (different ts) (n ∷ inner.rest))
          ∙ ap (λ (x : List ℕ). t ∷ (filter (is_other t) (different ts) ++ x)) kept;
    }

same_lt : (a b : ℕ) → nat_lt a b ≡ nat_lt (suc a) (suc b)
same_lt a b =
    elim (cases_lt a b) [
      | inl l ↦ lt-ltb a b l ∙ sym (lt-ltb (suc a) (suc b) (omega arith))
      | inr g ↦ le-ltb a b g ∙ sym (le-ltb (suc a) (suc b) (omega arith))
    ]

-- it is among the first so many exactly where fewer stand before it
pub among_first : (n count : ℕ) (front rest : List ℕ) → has_tag n front ≡ false
    → has_tag n (take count (front ++ n ∷ rest)) ≡ nat_lt (length front) count
among_first n zero front rest h = sym (le-ltb (length front) 0 (omega arith))
among_first n (suc count) [] rest h = rw (eq-eqb n n refl) (sym (lt-ltb 0 (suc count) (omega arith)))
among_first n (suc count) (t ∷ ts) rest h =
    let parts = neither (t == n) (has_tag n ts) h in
    rw parts.0 (among_first n count ts rest parts.1 ∙ same_lt (length ts) count)

-- ---- one number more

-- no number stands twice
abbrev pub Apart : List ℕ → Type 0
Apart [] = Unit {0}
Apart (t ∷ ts) = (has_tag t ts ≡ false) × Apart ts

apart_filtered : (p : ℕ → Bool) (ts : List ℕ) → Apart ts → Apart (filter p ts)
apart_filtered p [] h = tt
apart_filtered p (t ∷ ts) h =
    elim (p t) as (λ b. Apart (cond b (t ∷ filter p ts) (filter p ts))) [
      | true ↦ (none_filtered t p ts h.0, apart_filtered p ts h.1)
      | false ↦ apart_filtered p ts h.1
    ]

others_lack : (n : ℕ) (ts : List ℕ) → has_tag n (filter (is_other n) ts) ≡ false
others_lack n [] = refl
others_lack n (t ∷ ts) =
    elim (cases_Bool (t == n)) [
      | inl e ↦ rw e (others_lack n ts)
      | inr f ↦ rw f (not_either (t == n) (has_tag n (filter (is_other n) ts)) f (others_lack n ts))
    ]

pub different_apart : (ts : List ℕ) → Apart (different ts)
different_apart [] = tt
different_apart (t ∷ ts) =
    (others_lack t (different ts), apart_filtered (is_other t) (different ts) (different_apart ts))

pub without_none : (n : ℕ) (ts : List ℕ) → has_tag n ts ≡ false → filter (is_other n) ts ≡ ts
without_none n [] h = refl
without_none n (t ∷ ts) h =
    let parts = neither (t == n) (has_tag n ts) h in
    rw parts.0 (ap (λ (x : List ℕ). t ∷ x) (without_none n ts parts.1))

-- where no number stands twice, the first place that is left out is the only one
without_is : (n : ℕ) (ts : List ℕ) → Apart ts → without_tag n ts ≡ filter (is_other n) ts
without_is n [] h = refl
without_is n (t ∷ ts) h =
    elim (cases_Bool (t == n)) [
      | inl e ↦
          let gone : has_tag n ts ≡ false = subst (λ x. has_tag x ts ≡ false) (eqb-true t n e) h.0 in
          rw e (sym (without_none n ts gone))
      | inr f ↦ rw f (ap (λ (x : List ℕ). t ∷ x) (without_is n ts h.1))
    ]

first_same : (n count : ℕ) (ts : List ℕ) → take count (without_tag n (take (suc count) ts)) ≡ take count (without_tag n ts)
first_same n count [] = refl
first_same n zero (t ∷ ts) = refl
first_same n (suc count) (t ∷ ts) =
    elim (t == n) as (λ b. take (suc count) (cond b (take (suc count) ts) (t ∷ without_tag n (take (suc count) ts))) ≡ take (suc count) (cond b ts (t ∷ without_tag n ts))) [
      | true ↦ take-take (suc count) (suc count) ts (omega arith)
      | false ↦ ap (λ (x : List ℕ). t ∷ x) (first_same n count ts)
    ]

-- what is behind the lines of a set is never asked for
touched_front : (ways tag : ℕ) (ts : List ℕ) → touched ways tag (take ways ts) ≡ touched ways tag ts
touched_front zero tag ts = refl
touched_front (suc ways) tag ts = ap (λ (x : List ℕ). tag ∷ x) (first_same tag ways ts)

-- an access leaves the first of the different tags, its own in front
pub touched_different : (ways tag : ℕ) (ts : List ℕ) → touched ways tag (take ways (different ts)) ≡ take ways (different (tag ∷ ts))
touched_different ways tag ts =
    touched_front ways tag (different ts)
    ∙ ap (λ (x : List ℕ). take ways (tag ∷ x)) (without_is tag (different ts) (different_apart ts))
