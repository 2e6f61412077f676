-- Of objects of which none stands twice, those and no others are in their set.
use Rattle.std.proofs.Common.{◌≡◌, ◌≢◌, ℕ, zero, suc, ◌+◌, ◌^◌, ◌<◌, ◌⊎◌, true, false, if◌then◌else◌, List, [], ◌∷◌, length, slice_index_or, refl, sym, ap, subst, ◌∙◌, inl, inr, arith}
use Rattle.std.specs.Prelude.{Contains}
use Rattle.std.specs.List.{AllByRecursion, AllPairs}
use Rattle.std.proofs.lemmas.Bool.{cases_eq}
use Rattle.mon_types.specs.Bits.{has_bit}
use Rattle.mon_types.specs.declared.object.ObjectId.{ObjectId}
use Rattle.mon_types.specs.declared.object.ObjectId.TheVariants as objects
use Rattle.mon_types.specs.declared.object.Tried.{Tried}
use Rattle.mon_model.specs.Tries.{add_tried, tried_set}
use Rattle.mon_model.proofs.Bits.{none-has, with-same, with-other}
use Rattle.mon_model.proofs.RegionSteps.{refused}
use Rattle.hist.specs.Busy.{has_tried}

-- ---- a bit more

bit_new : (w i : ℕ) → has_bit w i ≡ false → has_bit (w + 2 ^ i) i ≡ true
bit_new w i none = ap (λ b. has_bit (if b then w else w + 2 ^ i) i) (sym none) ∙ with-same w i

bit_other : (w i j : ℕ) → (j ≡ i → ⊥) → has_bit w i ≡ false → has_bit (w + 2 ^ i) j ≡ has_bit w j
bit_other w i j apart none =
    ap (λ b. has_bit (if b then w else w + 2 ^ i) j) (sym none) ∙ with-other w i j apart

-- ---- an object more

none_tried : (o : ObjectId) → has_tried (tried_set []) o ≡ false
none_tried (objects.Enclave e) = none-has e
none_tried (objects.Thread t) = none-has t
none_tried (objects.Region r) = none-has r
none_tried (objects.Cell c) = none-has c

new_tried : (x : ObjectId) (t : Tried) → has_tried t x ≡ false → has_tried (add_tried x t) x ≡ true
new_tried (objects.Enclave e) t none = bit_new t.enclaves e none
new_tried (objects.Thread i) t none = bit_new t.threads i none
new_tried (objects.Region r) t none = bit_new t.regions r none
new_tried (objects.Cell c) t none = bit_new t.cells c none

other_tried : (x o : ObjectId) (t : Tried) → (x ≡ o → ⊥) → has_tried t x ≡ false
    → has_tried (add_tried x t) o ≡ has_tried t o
other_tried (objects.Enclave a) (objects.Enclave b) t apart none =
    bit_other t.enclaves a b (λ is. apart (λ i. objects.Enclave (sym is i))) none
other_tried (objects.Thread a) (objects.Thread b) t apart none =
    bit_other t.threads a b (λ is. apart (λ i. objects.Thread (sym is i))) none
other_tried (objects.Region a) (objects.Region b) t apart none =
    bit_other t.regions a b (λ is. apart (λ i. objects.Region (sym is i))) none
other_tried (objects.Cell a) (objects.Cell b) t apart none =
    bit_other t.cells a b (λ is. apart (λ i. objects.Cell (sym is i))) none
other_tried _ _ t apart none = refl

one_or_not : (x o : ObjectId) → (x ≡ o) ⊎ (x ≡ o → ⊥)
one_or_not (objects.Enclave a) (objects.Enclave b) = elim (cases_eq a b) [
  | inl is ↦ inl (λ i. objects.Enclave (is i))
  | inr ne ↦ inr (λ is. ne (cc))
]
one_or_not (objects.Thread a) (objects.Thread b) = elim (cases_eq a b) [
  | inl is ↦ inl (λ i. objects.Thread (is i))
  | inr ne ↦ inr (λ is. ne (cc))
]
one_or_not (objects.Region a) (objects.Region b) = elim (cases_eq a b) [
  | inl is ↦ inl (λ i. objects.Region (is i))
  | inr ne ↦ inr (λ is. ne (cc))
]
one_or_not (objects.Cell a) (objects.Cell b) = elim (cases_eq a b) [
  | inl is ↦ inl (λ i. objects.Cell (is i))
  | inr ne ↦ inr (λ is. ne (cc))
]
one_or_not _ _ = inr (λ is. cc)

-- ---- lists

contains_cases : (x o : ObjectId) (xs : List ObjectId) → Contains (x ∷ xs) o → (x ≡ o) ⊎ Contains xs o
contains_cases x o xs (zero, lt, is) = inl is
contains_cases x o xs (suc k, lt, is) = inr (k, omega (arith, lt), is)

contains_later : (x o : ObjectId) (xs : List ObjectId) → Contains xs o → Contains (x ∷ xs) o
contains_later x o xs (k, lt, is) = (suc k, omega (arith, lt), is)

not_among : (x : ObjectId) (xs : List ObjectId) → AllByRecursion (λ y. x ≢ y) xs → Contains xs x → ⊥
not_among x [] all has = omega (arith, has.1)
not_among x (y ∷ xs) all has = elim (contains_cases y x xs has) [
  | inl is ↦ all.0 (sym is)
  | inr later ↦ not_among x xs all.1 later
]

-- no object stands twice, by recursion
abbrev NoneTwice : List ObjectId → Type 0
NoneTwice [] = Unit {0}
NoneTwice (x ∷ xs) = AllByRecursion (λ y. x ≢ y) xs × NoneTwice xs

all_from : (P : ObjectId → Type 0) (xs : List ObjectId)
    → ((j : ℕ) (d : ObjectId) → j < length xs → P (slice_index_or xs j d))
    → AllByRecursion P xs
all_from P [] each = tt
all_from P (x ∷ xs) each =
    (each 0 x (omega arith), all_from P xs (λ j d lt. each (suc j) d (omega (arith, lt))))

none_twice : (xs : List ObjectId) → AllPairs (λ x y. x ≢ y) xs → NoneTwice xs
none_twice [] pairs = tt
none_twice (x ∷ xs) pairs = (
  all_from (λ y. x ≢ y) xs (λ j d lt. pairs 0 (suc j) d (omega arith) (omega (arith, lt))),
  none_twice xs (λ i j d below lt. pairs (suc i) (suc j) d (omega (arith, below)) (omega (arith, lt))),
)

-- ---- the set

-- an object is among them and in the set, or neither
abbrev Tells : List ObjectId → ObjectId → Type 0
Tells os o =
    (Contains os o × (has_tried (tried_set os) o ≡ true))
    ⊎ ((Contains os o → ⊥) × (has_tried (tried_set os) o ≡ false))

not_in_set : (x : ObjectId) (xs : List ObjectId) → AllByRecursion (λ y. x ≢ y) xs → Tells xs x
    → has_tried (tried_set xs) x ≡ false
not_in_set x xs all (inl among) = absurd (not_among x xs all among.0)
not_in_set x xs all (inr not) = not.1

tells_more : (x o : ObjectId) (xs : List ObjectId) → has_tried (tried_set xs) x ≡ false → (x ≡ o) ⊎ (x ≡ o → ⊥)
    → Tells xs o → Tells (x ∷ xs) o
tells_more x o xs new (inl is) tells =
    inl (
      (0, omega arith, is),
      subst (λ (y : ObjectId). has_tried (add_tried x (tried_set xs)) y ≡ true) is
          (new_tried x (tried_set xs) new),
    )
tells_more x o xs new (inr ne) (inl among) =
    inl (contains_later x o xs among.0, other_tried x o (tried_set xs) ne new ∙ among.1)
tells_more x o xs new (inr ne) (inr not) =
    inr (
      (λ has. elim (contains_cases x o xs has) [ inl is ↦ ne is | inr later ↦ not.0 later ]),
      other_tried x o (tried_set xs) ne new ∙ not.1,
    )

tells : (os : List ObjectId) → NoneTwice os → (o : ObjectId) → Tells os o
tells [] once o = inr ((λ has. omega (arith, has.1)), none_tried o)
tells (x ∷ xs) once o =
    tells_more x o xs (not_in_set x xs once.0 (tells xs once.1 x)) (one_or_not x o) (tells xs once.1 o)

pub in_its_set : (os : List ObjectId) → AllPairs (λ x y. x ≢ y) os → (o : ObjectId) → Contains os o
    → has_tried (tried_set os) o ≡ true
in_its_set os pairs o has = elim (tells os (none_twice os pairs) o) [
  | inl among ↦ among.1
  | inr not ↦ absurd (not.0 has)
]

pub no_others : (os : List ObjectId) → AllPairs (λ x y. x ≢ y) os → (o : ObjectId) → has_tried (tried_set os) o ≡ true
    → Contains os o
no_others os pairs o is = elim (tells os (none_twice os pairs) o) [
  | inl among ↦ among.0
  | inr not ↦ refused (sym not.1 ∙ is)
]
