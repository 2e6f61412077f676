-- Sets of tried objects against the lists of them: what a call has taken and the lock that it has met.
use Rattle.std.proofs.Common.{◌≡◌, ◌≢◌, inl, inr, ◌+◌, ◌^◌, ◌<◌, ◌∙◌, ℕ, zero, suc, true, List, [], ◌∷◌, ◌++◌, length, ap, sym, refl, subst, get_or, arith}
use Rattle.std.specs.List.{AllPairs}
use Rattle.mon_types.specs.declared.object.ObjectId.{ObjectId}
use Rattle.mon_types.specs.declared.object.ObjectId.TheVariants as objects
use Rattle.mon_types.specs.declared.object.Tried.{Tried}
use Rattle.mon_model.specs.Tries.{add_tried, tried_set}
use Rattle.lock_plan.specs.Objects.{IsBefore}
use Rattle.mon_records.specs.Members.{In}
use Rattle.mon_records.proofs.Members.{contains_in, in_contains}
use Rattle.hist.specs.Busy.{has_tried}
use Rattle.hist_stands.proofs.InSets.{in_its_set, no_others}
use Rattle.protocol.specs.CallTree.{onto}
use Rattle.protocol_laws.proofs.Agreeing.{in_onto}
use Rattle.protocol_steps.proofs.Kept.{AreOnce}

-- ---- one object more

swapped : (a b c : ℕ) → a + b + c ≡ a + c + b
swapped a b c = omega arith

add_swap : (x y : ObjectId) (t : Tried) → add_tried x (add_tried y t) ≡ add_tried y (add_tried x t)
add_swap (objects.Enclave a) (objects.Enclave b) t = ap (λ z. record t { enclaves = z }) (swapped t.enclaves (2 ^ b) (2 ^ a))
add_swap (objects.Enclave a) (objects.Thread b) t = refl
add_swap (objects.Enclave a) (objects.Region b) t = refl
add_swap (objects.Enclave a) (objects.Cell b) t = refl
add_swap (objects.Thread a) (objects.Enclave b) t = refl
add_swap (objects.Thread a) (objects.Thread b) t = ap (λ z. record t { threads = z }) (swapped t.threads (2 ^ b) (2 ^ a))
add_swap (objects.Thread a) (objects.Region b) t = refl
add_swap (objects.Thread a) (objects.Cell b) t = refl
add_swap (objects.Region a) (objects.Enclave b) t = refl
add_swap (objects.Region a) (objects.Thread b) t = refl
add_swap (objects.Region a) (objects.Region b) t = ap (λ z. record t { regions = z }) (swapped t.regions (2 ^ b) (2 ^ a))
add_swap (objects.Region a) (objects.Cell b) t = refl
add_swap (objects.Cell a) (objects.Enclave b) t = refl
add_swap (objects.Cell a) (objects.Thread b) t = refl
add_swap (objects.Cell a) (objects.Region b) t = refl
add_swap (objects.Cell a) (objects.Cell b) t = ap (λ z. record t { cells = z }) (swapped t.cells (2 ^ b) (2 ^ a))

set_last : (xs : List ObjectId) (o : ObjectId) → tried_set (xs ++ o ∷ []) ≡ add_tried o (tried_set xs)
set_last [] o = refl
set_last (x ∷ xs) o = ap (add_tried x) (set_last xs o) ∙ add_swap x o (tried_set xs)

same_tried : (t u : Tried) → t.enclaves ≡ u.enclaves → t.threads ≡ u.threads → t.regions ≡ u.regions → t.cells ≡ u.cells → t ≡ u
same_tried t u e f g h = λ i. record { enclaves = e i; threads = f i; regions = g i; cells = h i }

left_same : (a b c : ℕ) → a + c ≡ b + c → a ≡ b
left_same a b c e = omega (arith, e)

add_cancel : (o : ObjectId) (t u : Tried) → add_tried o t ≡ add_tried o u → t ≡ u
add_cancel (objects.Enclave e) t u same = same_tried t u (left_same t.enclaves u.enclaves (2 ^ e) (ap (λ z. z.enclaves) same)) (ap (λ z. z.threads) same) (ap (λ z. z.regions) same) (ap (λ z. z.cells) same)
add_cancel (objects.Thread h) t u same = same_tried t u (ap (λ z. z.enclaves) same) (left_same t.threads u.threads (2 ^ h) (ap (λ z. z.threads) same)) (ap (λ z. z.regions) same) (ap (λ z. z.cells) same)
add_cancel (objects.Region r) t u same = same_tried t u (ap (λ z. z.enclaves) same) (ap (λ z. z.threads) same) (left_same t.regions u.regions (2 ^ r) (ap (λ z. z.regions) same)) (ap (λ z. z.cells) same)
add_cancel (objects.Cell c) t u same = same_tried t u (ap (λ z. z.enclaves) same) (ap (λ z. z.threads) same) (ap (λ z. z.regions) same) (left_same t.cells u.cells (2 ^ c) (ap (λ z. z.cells) same))

-- ---- lists in which no object stands twice

at_in : (xs : List ObjectId) (j : ℕ) (d : ObjectId) → j < length xs → In (get_or xs j d) xs
at_in [] j d lt = absurd (omega arith)
at_in (x ∷ xs) zero d lt = inl refl
at_in (x ∷ xs) (suc j) d lt = inr (at_in xs j d (omega arith))

once_at : (xs : List ObjectId) → AreOnce xs → (i j : ℕ) (d : ObjectId) → i < j → j < length xs → get_or xs i d ≢ get_or xs j d
once_at [] once i j d lt small = absurd (omega arith)
once_at (x ∷ xs) once zero zero d lt small = absurd (omega arith)
once_at (x ∷ xs) once zero (suc j) d lt small = λ e. once.0 (subst (λ z. In z xs) (sym e) (at_in xs j d (omega arith)))
once_at (x ∷ xs) once (suc i) zero d lt small = absurd (omega arith)
once_at (x ∷ xs) once (suc i) (suc j) d lt small = once_at xs once.1 i j d (omega arith) (omega arith)

once_pairs : (xs : List ObjectId) → AreOnce xs → AllPairs (λ x y. x ≢ y) xs
once_pairs xs once i j d lt small = once_at xs once i j d lt small

once_onto : (xs ys : List ObjectId) → AreOnce xs → AreOnce ys → ((o : ObjectId) → In o xs → In o ys → ⊥) → AreOnce (onto xs ys)
unfolding onto
once_onto [] ys once other apart = other
once_onto (x ∷ xs) ys once other apart = once_onto xs (x ∷ ys) once.1 (apart x (inl refl), other)
    (λ o h k. elim k [ inl e ↦ once.0 (subst (λ z. In z xs) e h) | inr g ↦ apart o (inr h) g ])

-- what was taken is in the set
pub taken_tried : (xs : List ObjectId) (o : ObjectId) → AreOnce xs → In o xs → has_tried (tried_set (onto xs [])) o ≡ true
taken_tried xs o once h = in_its_set (onto xs []) (once_pairs (onto xs []) (once_onto xs [] once tt (λ p k e. e))) o (in_contains (onto xs []) o (in_onto xs [] o (inl h)))

-- ---- ascending lists

-- each is before all later ones
abbrev Rising : List ObjectId → Type 0
Rising [] = Unit {0}
Rising (x ∷ xs) = ((z : ObjectId) → In z xs → IsBefore x z) × Rising xs

in_place : (xs : List ObjectId) (z : ObjectId) → In z xs → (j : ℕ) × (j < length xs) × (get_or xs j z ≡ z)
in_place [] z h = absurd h
in_place (x ∷ xs) z h = elim h [ inl e ↦ (0, omega arith, sym e) | inr g ↦ let p = in_place xs z g in (suc p.0, omega (arith, p.1), p.2) ]

rising : (xs : List ObjectId) → AllPairs IsBefore xs → Rising xs
rising [] pairs = tt
rising (x ∷ xs) pairs = (
  (λ z h. let p = in_place xs z h in subst (λ y. IsBefore x y) p.2 (pairs 0 (suc p.0) z (omega arith) (omega (arith, p.1)))),
  rising xs (λ i j d lt few. pairs (suc i) (suc j) d (omega arith) (omega arith)),
)

in_front : (xs ys : List ObjectId) (z : ObjectId) → In z xs → In z (xs ++ ys)
in_front [] ys z g = absurd g
in_front (x ∷ xs) ys z g = elim g [ inl e ↦ inl e | inr k ↦ inr (in_front xs ys z k) ]

in_behind : (xs ys : List ObjectId) (o : ObjectId) → In o (xs ++ o ∷ ys)
in_behind [] ys o = inl refl
in_behind (x ∷ xs) ys o = inr (in_behind xs ys o)

-- those in front stand once, and the next is none of them
front_once : (xs ys : List ObjectId) → Rising (xs ++ ys) → AreOnce xs
front_once [] ys h = tt
front_once (x ∷ xs) ys h = ((λ k. below x (h.0 x (in_front xs ys x k))), front_once xs ys h.1)
  where
    below : (x : ObjectId) → IsBefore x x → ⊥
    below x lt = omega (arith, lt)

front_apart : (xs ys : List ObjectId) (o : ObjectId) → Rising (xs ++ o ∷ ys) → In o xs → ⊥
front_apart [] ys o h g = g
front_apart (x ∷ xs) ys o h g = elim g [
  | inl e ↦ omega (arith, subst (λ z. IsBefore z o) (sym e) (h.0 o (in_behind xs ys o)))
  | inr k ↦ front_apart xs ys o h.1 k
]

-- a lock that was met, up to which the tried objects are the plan's, is none of those that were taken
pub met_fresh : (taken planned before behind : List ObjectId) (o : ObjectId) → AreOnce taken → AllPairs IsBefore planned → planned ≡ before ++ o ∷ behind → tried_set (onto taken [] ++ o ∷ []) ≡ tried_set (before ++ o ∷ []) → In o taken → ⊥
met_fresh taken planned before behind o once ascend is same h =
    let rise : Rising (before ++ o ∷ behind) = rising (before ++ o ∷ behind) (subst (AllPairs IsBefore) is ascend) in
    let sets : tried_set (onto taken []) ≡ tried_set before = add_cancel o (tried_set (onto taken [])) (tried_set before) (sym (set_last (onto taken []) o) ∙ same ∙ set_last before o) in
    let tried : has_tried (tried_set before) o ≡ true = ap (λ t. has_tried t o) (sym sets) ∙ taken_tried taken o once h in
    front_apart before behind o rise (contains_in before o (no_others before (once_pairs before (front_once before (o ∷ behind) rise)) o tried))
