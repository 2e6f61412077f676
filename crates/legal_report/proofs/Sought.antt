-- What is found in lists of tickets that ascend.
use Rattle.std.proofs.Common.{◌≡◌, ℕ, zero, suc, ◌+◌, ◌-◌, ◌<◌, ◌≤◌, ◌==◌, nat_lt, Bool, true, false, if◌then◌else◌, List, [], ◌∷◌, length, map, get_or, find, slice_get, Option, Some, None, refl, sym, ap, subst, ◌∙◌, arith, inl, inr, ltb, leb}
use Rattle.std.specs.Option.{option_map}
use Rattle.std.specs.List.Sorted.{IsNonDecreasingBy}
use Rattle.std.proofs.lemmas.Bool.{lt-ltb, le-ltb, ne_eqb, eq-eqb, cases_Bool}
use Rattle.mon_types.specs.declared.region.Owner.{Owner}
use Rattle.legal_report.specs.declared.marks.Begin.{Begin}
use Rattle.legal_report.specs.Marks.{Rise, first_above, begun_at, owner_since}

rise_after : (n : ℕ) (xs : List ℕ) (k d : ℕ) → Rise n xs → k < length xs → n ≤ get_or xs k d
rise_after n [] k d rise lt = absurd (omega arith)
rise_after n (x ∷ xs) zero d rise lt = rise.0
rise_after n (x ∷ xs) (suc k) d rise lt = omega (arith, rise.0, rise_after (x + 1) xs k d rise.1 (omega arith))

rise_le : (n : ℕ) (xs : List ℕ) (i j d : ℕ) → Rise n xs → i ≤ j → j < length xs → get_or xs i d ≤ get_or xs j d
rise_le n [] i j d rise le lt = absurd (omega arith)
rise_le n (x ∷ xs) zero zero d rise le lt = omega arith
rise_le n (x ∷ xs) zero (suc j) d rise le lt = omega (arith, rise_after (x + 1) xs j d rise.1 (omega arith))
rise_le n (x ∷ xs) (suc i) zero d rise le lt = absurd (omega arith)
rise_le n (x ∷ xs) (suc i) (suc j) d rise le lt = rise_le (x + 1) xs i j d rise.1 (omega arith) (omega arith)

pub tickets_rise : (n : ℕ) (xs : List ℕ) → Rise n xs → IsNonDecreasingBy (λ x. x) xs
tickets_rise n xs rise i j d le lt = rise_le n xs i j d rise le lt

begun_get : (begins : List Begin) (k : ℕ) (d : Begin) → k < length begins → get_or (begun_at begins) k d.since ≡ (get_or begins k d).since
begun_get [] k d lt = absurd (omega arith)
begun_get (b ∷ begins) zero d lt = refl
begun_get (b ∷ begins) (suc k) d lt = begun_get begins k d (omega arith)

begun_length : (begins : List Begin) → length (begun_at begins) ≡ length begins
begun_length [] = refl
begun_length (b ∷ begins) = ap suc (begun_length begins)

pub begins_non_decreasing : (n : ℕ) (begins : List Begin) → Rise n (begun_at begins) → IsNonDecreasingBy (λ b. b.since) begins
begins_non_decreasing n begins rise i j d le lt =
    omega (arith, begun_get begins i d (omega arith), begun_get begins j d lt, rise_le n (begun_at begins) i j d.since rise le (omega (arith, begun_length begins)))

-- ---- the first above a ticket

pub sought_above : (xs : List ℕ) (n i : ℕ) → ((k d : ℕ) → k < i → get_or xs k d ≤ n) → ((k d : ℕ) → i ≤ k → k < length xs → n < get_or xs k d) → slice_get xs i ≡ first_above xs n
sought_above [] n i low high = refl
sought_above (x ∷ xs) n zero low high = sym (ap (λ b. if b then Some x else first_above xs n) (lt-ltb n x (high 0 0 (omega arith) (omega arith))))
sought_above (x ∷ xs) n (suc i) low high =
    sought_above xs n i (λ k d lt. low (suc k) d (omega arith)) (λ k d le lt. high (suc k) d (omega arith) (omega arith))
    ∙ sym (ap (λ b. if b then Some x else first_above xs n) (le-ltb n x (low 0 0 (omega arith))))

-- ---- the beginning at a ticket

none_later : (begins : List Begin) (a : ℕ) → ((k : ℕ) (d : Begin) → k < length begins → a < (get_or begins k d).since) → owner_since begins a ≡ None
none_later [] a high = refl
none_later (b ∷ begins) a high =
    ap (λ t. option_map (λ (x : Begin). x.owner) (if t then Some b else find (λ x. x.since == a) begins)) (ne_eqb b.since a (omega (arith, high 0 b (omega arith))))
    ∙ none_later begins a (λ k d lt. high (suc k) d (omega arith))

-- no beginning stands there, or one with another ticket
pub sought_none : (begins : List Begin) (a i : ℕ) → length begins ≤ i → ((k : ℕ) (d : Begin) → k < i → (get_or begins k d).since < a) → owner_since begins a ≡ None
sought_none [] a i le low = refl
sought_none (b ∷ begins) a zero le low = absurd (omega arith)
sought_none (b ∷ begins) a (suc i) le low =
    ap (λ t. option_map (λ (x : Begin). x.owner) (if t then Some b else find (λ x. x.since == a) begins)) (ne_eqb b.since a (omega (arith, low 0 b (omega arith))))
    ∙ sought_none begins a i (omega arith) (λ k d lt. low (suc k) d (omega arith))

pub sought_there : (begins : List Begin) (a i : ℕ) (b : Begin) → slice_get begins i ≡ Some b → b.since ≡ a → ((k : ℕ) (d : Begin) → k < i → (get_or begins k d).since < a) → owner_since begins a ≡ Some b.owner
sought_there [] a i b is at low = absurd cc
sought_there (x ∷ begins) a zero b is at low =
    let same : x ≡ b = cc in
    ap (λ t. option_map (λ (y : Begin). y.owner) (if t then Some x else find (λ y. y.since == a) begins)) (eq-eqb x.since a (ap (λ (y : Begin). y.since) same ∙ at))
    ∙ ap (λ (y : Begin). Some y.owner) same
sought_there (x ∷ begins) a (suc i) b is at low =
    ap (λ t. option_map (λ (y : Begin). y.owner) (if t then Some x else find (λ y. y.since == a) begins)) (ne_eqb x.since a (omega (arith, low 0 x (omega arith))))
    ∙ sought_there begins a i b is at (λ k d lt. low (suc k) d (omega arith))

pub sought_other : (begins : List Begin) (a i : ℕ) (b : Begin) → slice_get begins i ≡ Some b → (b.since ≡ a → ⊥) → ((k : ℕ) (d : Begin) → k < i → (get_or begins k d).since < a)
    → ((k : ℕ) (d : Begin) → i ≤ k → k < length begins → a ≤ (get_or begins k d).since) → IsNonDecreasingBy (λ b. b.since) begins → owner_since begins a ≡ None
sought_other [] a i b is other low high rise = refl
sought_other (x ∷ begins) a zero b is other low high rise =
    let same : x ≡ b = cc in
    let above : a < x.since = omega (arith, high 0 x (omega arith) (omega arith), λ (e : x.since ≡ a). other (ap (λ (y : Begin). y.since) (sym same) ∙ e)) in
    none_later (x ∷ begins) a (λ k d lt. omega (arith, above, rise 0 k d (omega arith) lt))
sought_other (x ∷ begins) a (suc i) b is other low high rise =
    ap (λ t. option_map (λ (y : Begin). y.owner) (if t then Some x else find (λ y. y.since == a) begins)) (ne_eqb x.since a (omega (arith, low 0 x (omega arith))))
    ∙ sought_other begins a i b is other (λ k d lt. low (suc k) d (omega arith)) (λ k d le lt. high (suc k) d (omega arith) (omega arith)) (λ m n d le lt. rise (suc m) (suc n) d (omega arith) (omega arith))

-- ---- no beginning

pub none_there : (begins : List Begin) (i : ℕ) → slice_get begins i ≡ None → length begins ≤ i
none_there [] i is = omega arith
none_there (b ∷ begins) zero is = absurd cc
none_there (b ∷ begins) (suc i) is = omega (arith, none_there begins i is)
