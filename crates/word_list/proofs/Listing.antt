-- The one list of words behaves as the places do.
use Rattle.std.proofs.Common.{◌≡◌, inl, inr, ◌<◌, ◌≤◌, ◌+◌, ◌*◌, ◌∙◌, ℕ, Option, Some, None, List, length, get_or, set, ap, sym, refl, subst, arith}
use Rattle.std.proofs.lemmas.Bool.{cases_eq}
use Rattle.std.proofs.lemmas.List.{get_or-set_same, get_or-set_other, length-set}
use Rattle.mon_types.specs.Shape.{Shape}
use Rattle.mon_types.specs.Objects.{width}
use Rattle.mon_types.specs.declared.object.ObjectId.{ObjectId}
use Rattle.mon_types.specs.declared.object.ObjectId.TheVariants as objects
use Rattle.lock_plan.specs.Objects.{HasObject}
use Rattle.protocol.specs.Places.{Place, Counter, Lock, Row, Dram, HasWord, Memory, with_word}
use Rattle.protocol.specs.Moves.{place_of, word_found, leaves, left_at, memory_after_move}
use Rattle.protocol.specs.Layout.{object_count, object_index, enclaves_from, dram_from, row_index, place_index, Holds, IndexIsThere, IndexIsApart, SetIsAtPlace}
use Rattle.protocol.specs.Words.{IsPlaced, listed_word, list_with, words_after_move, FoundIsListed, MoveIsListed}
use Rattle.protocol_laws.proofs.Places.{at_place}

-- ---- where places stand

pub object_low : (shape : Shape) (o : ObjectId) → HasObject shape o → object_index shape o < object_count shape
unfolding object_index
object_low shape (objects.Enclave e) h = omega arith
object_low shape (objects.Thread t) h = omega arith
object_low shape (objects.Region r) h = omega arith
object_low shape (objects.Cell c) h = omega arith

pub row_from : (shape : Shape) (o : ObjectId) → enclaves_from shape ≤ row_index shape o
unfolding row_index
row_from shape (objects.Enclave e) = omega arith
row_from shape (objects.Thread t) = omega arith
row_from shape (objects.Region r) = omega arith
row_from shape (objects.Cell c) = omega arith

row_to : (shape : Shape) (o : ObjectId) (i : ℕ) → HasObject shape o → i < width o → row_index shape o + i < dram_from shape
unfolding row_index width
row_to shape (objects.Enclave e) i h b = omega arith
row_to shape (objects.Thread t) i h b = omega arith
row_to shape (objects.Region r) i h b = omega arith
row_to shape (objects.Cell c) i h b = omega arith

pub index_is_there : IndexIsThere
unfolding place_index
index_is_there shape Counter h = omega arith
index_is_there shape (Lock o) h = let low = object_low shape o h in omega (arith, low)
index_is_there shape (Row o i) h = let low = row_to shape o i h.0 h.1 in omega (arith, low)
index_is_there shape (Dram i) h = omega arith

-- ---- and that no two stand at one place

object_apart : (shape : Shape) (a b : ObjectId) → HasObject shape a → HasObject shape b → object_index shape a ≡ object_index shape b → a ≡ b
unfolding object_index
object_apart shape (objects.Enclave e) (objects.Enclave f) h k same = ap (λ x. objects.Enclave x) same
object_apart shape (objects.Thread e) (objects.Thread f) h k same = ap (λ x. objects.Thread x) (let s : e ≡ f = omega arith in s)
object_apart shape (objects.Region e) (objects.Region f) h k same = ap (λ x. objects.Region x) (let s : e ≡ f = omega arith in s)
object_apart shape (objects.Cell e) (objects.Cell f) h k same = ap (λ x. objects.Cell x) (let s : e ≡ f = omega arith in s)
object_apart shape (objects.Enclave e) (objects.Thread f) h k same = absurd (omega arith)
object_apart shape (objects.Enclave e) (objects.Region f) h k same = absurd (omega arith)
object_apart shape (objects.Enclave e) (objects.Cell f) h k same = absurd (omega arith)
object_apart shape (objects.Thread e) (objects.Enclave f) h k same = absurd (omega arith)
object_apart shape (objects.Thread e) (objects.Region f) h k same = absurd (omega arith)
object_apart shape (objects.Thread e) (objects.Cell f) h k same = absurd (omega arith)
object_apart shape (objects.Region e) (objects.Enclave f) h k same = absurd (omega arith)
object_apart shape (objects.Region e) (objects.Thread f) h k same = absurd (omega arith)
object_apart shape (objects.Region e) (objects.Cell f) h k same = absurd (omega arith)
object_apart shape (objects.Cell e) (objects.Enclave f) h k same = absurd (omega arith)
object_apart shape (objects.Cell e) (objects.Thread f) h k same = absurd (omega arith)
object_apart shape (objects.Cell e) (objects.Region f) h k same = absurd (omega arith)

-- rows of one kind
enclave_rows : (e f i j : ℕ) → i < 29 → j < 29 → 29 * e + i ≡ 29 * f + j → (e ≡ f) × (i ≡ j)
enclave_rows e f i j b c same = let s : e ≡ f = omega arith in (s, omega arith)

thread_rows : (e f i j : ℕ) → i < 37 → j < 37 → 37 * e + i ≡ 37 * f + j → (e ≡ f) × (i ≡ j)
thread_rows e f i j b c same = let s : e ≡ f = omega arith in (s, omega arith)

region_rows : (e f i j : ℕ) → i < 2 → j < 2 → 2 * e + i ≡ 2 * f + j → (e ≡ f) × (i ≡ j)
region_rows e f i j b c same = let s : e ≡ f = omega arith in (s, omega arith)

row_same : (a b : ObjectId) (i j : ℕ) → a ≡ b → i ≡ j → Row a i ≡ Row b j
row_same a b i j e f = ap (λ o. Row o i) e ∙ ap (λ k. Row b k) f

row_apart : (shape : Shape) (a b : ObjectId) (i j : ℕ) → HasObject shape a → HasObject shape b → i < width a → j < width b → row_index shape a + i ≡ row_index shape b + j → Row a i ≡ Row b j
unfolding row_index width
row_apart shape (objects.Enclave e) (objects.Enclave f) i j h k b c same = let r = enclave_rows e f i j b c (omega arith) in row_same _ _ i j (ap (λ x. objects.Enclave x) r.0) r.1
row_apart shape (objects.Thread e) (objects.Thread f) i j h k b c same = let r = thread_rows e f i j b c (omega arith) in row_same _ _ i j (ap (λ x. objects.Thread x) r.0) r.1
row_apart shape (objects.Region e) (objects.Region f) i j h k b c same = let r = region_rows e f i j b c (omega arith) in row_same _ _ i j (ap (λ x. objects.Region x) r.0) r.1
row_apart shape (objects.Cell e) (objects.Cell f) i j h k b c same = let s : e ≡ f = omega arith in row_same _ _ i j (ap (λ x. objects.Cell x) s) (omega arith)
row_apart shape (objects.Enclave e) (objects.Thread f) i j h k b c same = absurd (omega arith)
row_apart shape (objects.Enclave e) (objects.Region f) i j h k b c same = absurd (omega arith)
row_apart shape (objects.Enclave e) (objects.Cell f) i j h k b c same = absurd (omega arith)
row_apart shape (objects.Thread e) (objects.Enclave f) i j h k b c same = absurd (omega arith)
row_apart shape (objects.Thread e) (objects.Region f) i j h k b c same = absurd (omega arith)
row_apart shape (objects.Thread e) (objects.Cell f) i j h k b c same = absurd (omega arith)
row_apart shape (objects.Region e) (objects.Enclave f) i j h k b c same = absurd (omega arith)
row_apart shape (objects.Region e) (objects.Thread f) i j h k b c same = absurd (omega arith)
row_apart shape (objects.Region e) (objects.Cell f) i j h k b c same = absurd (omega arith)
row_apart shape (objects.Cell e) (objects.Enclave f) i j h k b c same = absurd (omega arith)
row_apart shape (objects.Cell e) (objects.Thread f) i j h k b c same = absurd (omega arith)
row_apart shape (objects.Cell e) (objects.Region f) i j h k b c same = absurd (omega arith)

-- a lock word stands before each row, and both stand before DRAM
lock_row : (shape : Shape) (o p : ObjectId) (j : ℕ) → HasObject shape o → 1 + object_index shape o ≡ row_index shape p + j → ⊥
lock_row shape o p j h same =
    let low = object_low shape o h in
    let from = row_from shape p in
    omega (arith, low, from)

lock_dram : (shape : Shape) (o : ObjectId) (j : ℕ) → HasObject shape o → 1 + object_index shape o ≡ dram_from shape + j → ⊥
lock_dram shape o j h same = let low = object_low shape o h in omega (arith, low)

row_dram : (shape : Shape) (o : ObjectId) (i j : ℕ) → HasObject shape o → i < width o → row_index shape o + i ≡ dram_from shape + j → ⊥
row_dram shape o i j h b same = let low = row_to shape o i h b in omega (arith, low)

counter_row : (shape : Shape) (o : ObjectId) (j : ℕ) → 0 ≡ row_index shape o + j → ⊥
counter_row shape o j same = let from = row_from shape o in omega (arith, from)

pub index_is_apart : IndexIsApart
unfolding place_index
index_is_apart shape Counter Counter h k same = refl
index_is_apart shape Counter (Lock o) h k same = absurd (omega arith)
index_is_apart shape Counter (Row o i) h k same = absurd (counter_row shape o i same)
index_is_apart shape Counter (Dram i) h k same = absurd (omega arith)
index_is_apart shape (Lock o) Counter h k same = absurd (omega arith)
index_is_apart shape (Lock o) (Lock p) h k same = ap (λ x. Lock x) (object_apart shape o p h k (omega arith))
index_is_apart shape (Lock o) (Row p j) h k same = absurd (lock_row shape o p j h same)
index_is_apart shape (Lock o) (Dram j) h k same = absurd (lock_dram shape o j h same)
index_is_apart shape (Row o i) Counter h k same = absurd (counter_row shape o i (sym same))
index_is_apart shape (Row o i) (Lock p) h k same = absurd (lock_row shape p o i k (sym same))
index_is_apart shape (Row o i) (Row p j) h k same = row_apart shape o p i j h.0 k.0 h.1 k.1 same
index_is_apart shape (Row o i) (Dram j) h k same = absurd (row_dram shape o i j h.0 h.1 same)
index_is_apart shape (Dram i) Counter h k same = absurd (omega arith)
index_is_apart shape (Dram i) (Lock o) h k same = absurd (lock_dram shape o i k (sym same))
index_is_apart shape (Dram i) (Row o j) h k same = absurd (row_dram shape o j i k.0 k.1 (sym same))
index_is_apart shape (Dram i) (Dram j) h k same = ap (λ x. Dram x) (let s : i ≡ j = omega arith in s)

-- ---- one word is set

set_at : (shape : Shape) (words : List ℕ) (memory : Memory) (p : Place) (word : ℕ) → HasWord shape p → Holds shape words memory → (q : Place) → HasWord shape q → get_or (set words (place_index shape p) word) (place_index shape q) 0 ≡ with_word memory p word q
set_at shape words memory p word h holds q k = elim (cases_eq (place_index shape q) (place_index shape p)) [
  | inl same ↦
      let is : p ≡ q = index_is_apart shape p q h k (sym same) in
      let low : place_index shape p < length words = let l = index_is_there shape p h in let c = holds.count in omega (arith, l, c) in
      ap (λ i. get_or (set words (place_index shape p) word) i 0) same ∙ get_or-set_same words (place_index shape p) word 0 low ∙ sym (here_at is)
  | inr ne ↦ get_or-set_other words (place_index shape p) (place_index shape q) word 0 ne ∙ holds.each q k ∙ sym (elsewhere (λ e. ne (ap (place_index shape) (sym e))))
]
  where
    here_at : p ≡ q → with_word memory p word q ≡ word
    here_at e = elim (at_place memory p word q) [ inl f ↦ f.1 | inr f ↦ absurd (f.0 e) ]

    elsewhere : (p ≡ q → ⊥) → with_word memory p word q ≡ memory q
    elsewhere ne = elim (at_place memory p word q) [ inl f ↦ absurd (ne f.0) | inr f ↦ f.1 ]

pub set_is_at_place : SetIsAtPlace
set_is_at_place shape words memory p word h holds = record {
  count = length-set words (place_index shape p) word ∙ holds.count;
  each = set_at shape words memory p word h holds;
}

-- ---- a move

found_at : (shape : Shape) (words : List ℕ) (memory : Memory) (o : Option Place) → Holds shape words memory → IsPlaced shape o → listed_word shape words o ≡ word_found memory o
unfolding listed_word word_found
found_at shape words memory None holds h = refl
found_at shape words memory (Some p) holds h = holds.each p h

pub found_is_listed : FoundIsListed
found_is_listed shape words memory move holds h = found_at shape words memory (place_of move) holds h

left_is_listed : (shape : Shape) (words : List ℕ) (memory : Memory) (o : Option Place) (word : ℕ) → Holds shape words memory → IsPlaced shape o → Holds shape (list_with shape words o word) (left_at memory o word)
unfolding list_with left_at
left_is_listed shape words memory None word holds h = holds
left_is_listed shape words memory (Some p) word holds h = set_is_at_place shape words memory p word h holds

pub move_is_listed : MoveIsListed
unfolding words_after_move memory_after_move
move_is_listed shape mine words memory move holds h =
    subst (λ z. Holds shape (list_with shape words (place_of move) (leaves mine move z)) (left_at memory (place_of move) (leaves mine move (word_found memory (place_of move)))))
    (sym (found_at shape words memory (place_of move) holds h))
    (left_is_listed shape words memory (place_of move) (leaves mine move (word_found memory (place_of move))) holds h)
