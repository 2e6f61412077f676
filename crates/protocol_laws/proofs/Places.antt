-- Words that are changed at one place: what stands there then, and at every other place.
use Rattle.std.proofs.Common.{◌≡◌, ◌⊎◌, inl, inr, ◌&&◌, ◌∙◌, ℕ, Bool, true, false, cond, eqb, ap, sym, refl}
use Rattle.std.proofs.lemmas.Bool.{eqb-true, eq-eqb, cases_Bool}
use Rattle.mon_types.specs.Owns.{own_word}
use Rattle.mon_types.specs.declared.object.ObjectId.{ObjectId}
use Rattle.mon_types.specs.declared.object.ObjectId.TheVariants as objects
use Rattle.mon_model.specs.State.{State, region_at}
use Rattle.mon_records.specs.Rows.{same_object, row_words}
use Rattle.mon_records.proofs.RebuiltStates.{same_object-true, same_object-refl}
use Rattle.protocol.specs.Places.{Place, Counter, Lock, Row, Dram, same_place, Memory, with_word, row_word}

left : (x y : Bool) → (x && y) ≡ true → x ≡ true
left true y h = refl
left false y h = h

right : (x y : Bool) → (x && y) ≡ true → y ≡ true
right true y h = h
right false y h = absurd (cc)

both : (x y : Bool) → x ≡ true → y ≡ true → (x && y) ≡ true
both true y e f = f
both false y e f = e

same_place-true : (p q : Place) → same_place p q ≡ true → p ≡ q
unfolding same_place
same_place-true Counter Counter e = refl
same_place-true (Lock a) (Lock b) e = ap (λ o. Lock o) (same_object-true a b e)
same_place-true (Row a i) (Row b j) e =
    ap (λ o. Row o i) (same_object-true a b (left (same_object a b) (eqb i j) e))
    ∙ ap (λ k. Row b k) (eqb-true i j (right (same_object a b) (eqb i j) e))
same_place-true (Dram i) (Dram j) e = ap (λ k. Dram k) (eqb-true i j e)
same_place-true _ _ e = absurd (cc)

same_place-refl : (p : Place) → same_place p p ≡ true
unfolding same_place
same_place-refl Counter = refl
same_place-refl (Lock o) = same_object-refl o
same_place-refl (Row o i) = both (same_object o o) (eqb i i) (same_object-refl o) (eq-eqb i i refl)
same_place-refl (Dram i) = eq-eqb i i refl

-- the place has the new word, and any other has its own
pub at_place : (m : Memory) (p : Place) (word : ℕ) (q : Place) → ((p ≡ q) × (with_word m p word q ≡ word)) ⊎ ((p ≡ q → ⊥) × (with_word m p word q ≡ m q))
unfolding with_word
at_place m p word q = elim (cases_Bool (same_place p q)) [
  | inl e ↦ inl (same_place-true p q e, ap (λ b. cond b word (m q)) e)
  | inr e ↦ inr ((λ f. clash (sym e ∙ ap (same_place p) (sym f) ∙ same_place-refl p)), ap (λ b. cond b word (m q)) e)
]
  where
    clash : false ≡ true → ⊥
    clash e = cc

pub here : (m : Memory) (p : Place) (word : ℕ) → with_word m p word p ≡ word
here m p word = elim (at_place m p word p) [ inl f ↦ f.1 | inr f ↦ absurd (f.0 refl) ]

pub row_object : {o p : ObjectId} {i j : ℕ} → Row o i ≡ Row p j → o ≡ p
row_object e = cc

pub row_index : {o p : ObjectId} {i j : ℕ} → Row o i ≡ Row p j → i ≡ j
row_index e = cc

pub dram_index : {i j : ℕ} → Dram i ≡ Dram j → i ≡ j
dram_index e = cc

-- places of different kinds
pub dram_row : (m : Memory) (i word : ℕ) (o : ObjectId) (j : ℕ) → with_word m (Dram i) word (Row o j) ≡ m (Row o j)
unfolding with_word same_place
dram_row m i word o j = refl

pub row_dram : (m : Memory) (o : ObjectId) (i word j : ℕ) → with_word m (Row o i) word (Dram j) ≡ m (Dram j)
unfolding with_word same_place
row_dram m o i word j = refl

-- the words of a row
pub row_at : (s : State) {o p : ObjectId} {i j : ℕ} → Row o i ≡ Row p j → row_word s o i ≡ row_word s p j
row_at s {o} {p} {i} {j} e = ap (λ z. row_word s z i) (row_object e) ∙ ap (λ z. row_word s p z) (row_index e)

pub row_own : (s : State) (r : ℕ) → row_word s (objects.Region r) 0 ≡ own_word (region_at s r)
unfolding row_words
row_own s r = refl
