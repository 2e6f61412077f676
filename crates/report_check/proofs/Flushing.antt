-- A flush between a block and a freeing.
use Rattle.std.proofs.Common.{◌≡◌, ℕ, zero, suc, ◌<◌, ◌≤◌, nat_lt, Bool, true, false, if◌then◌else◌, List, [], ◌∷◌, length, get_or, Option, Some, None, refl, sym, ap, subst, ◌∙◌, arith, inl, inr}
use Rattle.std.specs.Prelude.{Any, Contains}
use Rattle.std.specs.Bool.{Decides}
use Rattle.std.specs.List.Sorted.{IsPermutation, IsNonDecreasing}
use Rattle.std.proofs.lemmas.Bool.{ltb-true, lt-ltb, cases_Bool, true≢false}
use Rattle.std.proofs.lemmas.List.Sorted.{Contains-permutation, IsPermutation-sym}
use Rattle.legal_report.specs.Marks.{first_above}
use Rattle.report_check.specs.Whole.{Between, FlushedBetween}

-- ---- the same tickets in another order

any_moved : (P : ℕ → Type 0) (xs ys : List ℕ) → IsPermutation xs ys → Any P xs → Any P ys
any_moved P xs ys same any =
    let there : Contains ys any.1 = Contains-permutation xs ys any.1 same (any.0, any.2, any.3) in
    (there.0, any.1, there.1, there.2, any.4)

-- ---- the first above a ticket, where they ascend

none_above : (xs : List ℕ) (low x k : ℕ) → first_above xs low ≡ None → k < length xs → get_or xs k x ≡ x → low < x → ⊥
none_above [] low x k none lt at above = omega (arith, lt)
none_above (y ∷ ys) low x zero none lt at above =
    let passes : nat_lt low y ≡ true = lt-ltb low y (omega (arith, at, above)) in
    let found : ◌≡◌ {A = Option ℕ} (Some y) None = sym (ap (λ (b : Bool). if b then Some y else first_above ys low) passes) ∙ none in
    cc
none_above (y ∷ ys) low x (suc k) none lt at above = elim (cases_Bool (nat_lt low y)) [
  | inl t ↦ let found : ◌≡◌ {A = Option ℕ} (Some y) None = sym (ap (λ (b : Bool). if b then Some y else first_above ys low) t) ∙ none in cc
  | inr f ↦ none_above ys low x k (sym (ap (λ (b : Bool). if b then Some y else first_above ys low) f) ∙ none) (omega arith) at above
]

first_found : (xs : List ℕ) (low t : ℕ) → first_above xs low ≡ Some t → (low < t) × Contains xs t
first_found [] low t is = absurd cc
first_found (y ∷ ys) low t is = elim (cases_Bool (nat_lt low y)) [
  | inl b ↦
      let found : ◌≡◌ {A = Option ℕ} (Some y) (Some t) = sym (ap (λ (c : Bool). if c then Some y else first_above ys low) b) ∙ is in
      let same : y ≡ t = cc in
      (subst (λ (n : ℕ). low < n) same (ltb-true low y b), (0, omega arith, same))
  | inr f ↦
      let later = first_found ys low t (sym (ap (λ (c : Bool). if c then Some y else first_above ys low) f) ∙ is) in
      (later.0, (suc later.1.0, omega (arith, later.1.1), later.1.2))
]

ascend_behind : (y : ℕ) (ys : List ℕ) → IsNonDecreasing (y ∷ ys) → IsNonDecreasing ys
ascend_behind y ys up i j d le lt = up (suc i) (suc j) d (omega arith) (omega arith)

-- no other above it is less
first_least : (xs : List ℕ) (low t x k : ℕ) → IsNonDecreasing xs → first_above xs low ≡ Some t → k < length xs → get_or xs k x ≡ x → low < x → t ≤ x
first_least [] low t x k up is lt at above = absurd cc
first_least (y ∷ ys) low t x zero up is lt at above =
    let passes : nat_lt low y ≡ true = lt-ltb low y (omega (arith, at, above)) in
    let found : ◌≡◌ {A = Option ℕ} (Some y) (Some t) = sym (ap (λ (b : Bool). if b then Some y else first_above ys low) passes) ∙ is in
    let same : y ≡ t = cc in
    omega (arith, same, at)
first_least (y ∷ ys) low t x (suc k) up is lt at above = elim (cases_Bool (nat_lt low y)) [
  | inl b ↦
      let found : ◌≡◌ {A = Option ℕ} (Some y) (Some t) = sym (ap (λ (c : Bool). if c then Some y else first_above ys low) b) ∙ is in
      let same : y ≡ t = cc in
      omega (arith, same, up 0 (suc k) x (omega arith) lt, at)
  | inr f ↦ first_least ys low t x k (ascend_behind y ys up) (sym (ap (λ (c : Bool). if c then Some y else first_above ys low) f) ∙ is) (omega arith) at above
]

pub found_between : (xs : List ℕ) (low high t : ℕ) (found : Option ℕ) → IsNonDecreasing xs → found ≡ first_above xs low → found ≡ Some t → Decides (nat_lt t high) (Any (Between low high) xs)
found_between xs low high t found up is some =
    let first : first_above xs low ≡ Some t = sym is ∙ some in
    let here = first_found xs low t first in (
      λ yes. (here.1.0, t, here.1.1, here.1.2, (here.0, ltb-true t high yes)),
      λ any. lt-ltb t high (omega (arith, first_least xs low t any.1 any.0 up first any.2 any.3 any.4.0, any.4.1)),
    )

pub none_between : (xs : List ℕ) (low high : ℕ) (found : Option ℕ) → found ≡ first_above xs low → found ≡ None → Decides false (Any (Between low high) xs)
none_between xs low high found is none = (
  λ yes. absurd (true≢false (sym yes)),
  λ any. absurd (none_above xs low any.1 any.0 (sym is ∙ none) any.2 any.3 any.4.0),
)

-- ---- of a period

between_told : (flushes : List ℕ) (blocked freed : Option ℕ) (low high : ℕ) → FlushedBetween flushes blocked freed → blocked ≡ Some low → freed ≡ Some high → Any (Between low high) flushes
between_told flushes blocked freed low high flushed b f =
    subst (λ (o : Option ℕ). FlushedBetween flushes (Some low) o) f (subst (λ (o : Option ℕ). FlushedBetween flushes o freed) b flushed)

between_tells : (flushes : List ℕ) (blocked freed : Option ℕ) → ((low high : ℕ) → blocked ≡ Some low → freed ≡ Some high → Any (Between low high) flushes) → FlushedBetween flushes blocked freed
between_tells flushes (Some low) (Some high) flushed = flushed low high refl refl
between_tells flushes (Some low) None flushed = tt
between_tells flushes None freed flushed = tt

pub flushes_told : (told flushes : List ℕ) (blocked freed : Option ℕ) (low high : ℕ) → IsPermutation told flushes → FlushedBetween flushes blocked freed → blocked ≡ Some low → freed ≡ Some high → Any (Between low high) told
flushes_told told flushes blocked freed low high same flushed b f =
    any_moved (Between low high) flushes told (IsPermutation-sym told flushes same) (between_told flushes blocked freed low high flushed b f)

pub flushes_tell : (told flushes : List ℕ) (blocked freed : Option ℕ) → IsPermutation told flushes → ((low high : ℕ) → blocked ≡ Some low → freed ≡ Some high → Any (Between low high) told) → FlushedBetween flushes blocked freed
flushes_tell told flushes blocked freed same flushed = between_tells flushes blocked freed (λ low high b f. any_moved (Between low high) told flushes same (flushed low high b f))
