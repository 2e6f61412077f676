-- Each place of the machine stands in the list of all places, at its number.
use Rattle.std.proofs.Common.{◌≡◌, ◌<◌, ◌+◌, ◌-◌, ◌*◌, ◌∙◌, ℕ, zero, suc, List, [], ◌∷◌, ◌++◌, map, length, get_or, ap, sym, refl, subst, arith, length-append}
use Rattle.std.specs.List.{range_with_len, flat_map}
use Rattle.std.proofs.lemmas.Grind.{flat_map-append}
use Rattle.std.proofs.lemmas.List.{length-map}
use Rattle.std.proofs.lemmas.List.FromFn.{length-map-range_with_len}
use Rattle.mon_types.specs.Shape.{Shape}
use Rattle.mon_types.specs.Objects.{width}
use Rattle.mon_types.specs.declared.object.ObjectId.{ObjectId}
use Rattle.mon_types.specs.declared.object.ObjectId.TheVariants as objects
use Rattle.dram_map.specs.Addresses.{word_total}
use Rattle.lock_plan.specs.Objects.{HasObject}
use Rattle.protocol.specs.Places.{Place, Counter, Lock, Row, Dram, HasWord, Memory}
use Rattle.protocol.specs.Layout.{object_count, object_index, enclaves_from, dram_from, word_count, row_index, place_index, all_objects, row_places, all_places, words_of_memory}
use Rattle.protocol.specs.Words.{ListIsThere}
use Rattle.word_list.proofs.Listing.{row_from}

-- ---- what a list has at a number

abbrev pub IsAt : {X : Type 0} → List X → ℕ → X → Type 0
IsAt [] i x = ⊥
IsAt (y ∷ ys) zero x = y ≡ x
IsAt (y ∷ ys) (suc i) x = IsAt ys i x

at_left : {X : Type 0} (xs ys : List X) (i : ℕ) (x : X) → IsAt xs i x → IsAt (xs ++ ys) i x
at_left [] ys i x h = absurd h
at_left (z ∷ zs) ys zero x h = h
at_left (z ∷ zs) ys (suc i) x h = at_left zs ys i x h

at_right : {X : Type 0} (xs ys : List X) (i j : ℕ) (x : X) → length xs + j ≡ i → IsAt ys j x → IsAt (xs ++ ys) i x
at_right [] ys i j x e h = subst (λ k. IsAt ys k x) (let f : j ≡ i = omega (arith, e) in f) h
at_right (z ∷ zs) ys zero j x e h = absurd (omega (arith, e))
at_right (z ∷ zs) ys (suc i) j x e h = at_right zs ys i j x (omega (arith, e)) h

at_map : {X Y : Type 0} (f : X → Y) (xs : List X) (i : ℕ) (x : X) → IsAt xs i x → IsAt (map f xs) i (f x)
at_map f [] i x h = absurd h
at_map f (z ∷ zs) zero x h = ap f h
at_map f (z ∷ zs) (suc i) x h = at_map f zs i x h

at_range : (a n k x : ℕ) → k < n → a + k ≡ x → IsAt (range_with_len a n) k x
at_range a zero k x lt e = absurd (omega arith)
at_range a (suc n) zero x lt e = omega (arith, e)
at_range a (suc n) (suc k) x lt e = at_range (a + 1) n k x (omega arith) (omega (arith, e))

at_get : (memory : Memory) (ps : List Place) (i : ℕ) (p : Place) → IsAt ps i p → get_or (map memory ps) i 0 ≡ memory p
at_get memory [] i p h = absurd h
at_get memory (q ∷ qs) zero p h = ap memory h
at_get memory (q ∷ qs) (suc i) p h = at_get memory qs i p h

-- ---- rows

at_row : (o : ObjectId) (i : ℕ) → i < width o → IsAt (row_places o) i (Row o i)
at_row o i lt = at_map (λ k. Row o k) (range_with_len 0 (width o)) i i (at_range 0 (width o) i i lt (omega arith))

row_long : (o : ObjectId) → length (row_places o) ≡ width o
row_long o = length-map-range_with_len (λ i. Row o i) 0 (width o)

-- rows of one kind of object, which are w words wide
module _ (kind : ℕ → ObjectId) (w : ℕ) (wide : (k : ℕ) → width (kind k) ≡ w) where
  at_rows : (a n k i x : ℕ) → k < n → i < w → a + k ≡ x → IsAt (flat_map row_places (map kind (range_with_len a n))) (w * k + i) (Row (kind x) i)
  at_rows a zero k i x lt small e = absurd (omega arith)
  at_rows a (suc n) zero i x lt small e =
      subst (λ j. IsAt (flat_map row_places (map kind (range_with_len a (suc n)))) j (Row (kind x) i)) (let f : i ≡ w * 0 + i = omega arith in f)
      (subst (λ y. IsAt (flat_map row_places (map kind (range_with_len a (suc n)))) i (Row (kind y) i)) (let f : a ≡ x = omega (arith, e) in f)
      (at_left (row_places (kind a)) (flat_map row_places (map kind (range_with_len (a + 1) n))) i (Row (kind a) i) (at_row (kind a) i (let v = wide a in omega (arith, v)))))
  at_rows a (suc n) (suc k) i x lt small e =
      at_right (row_places (kind a)) (flat_map row_places (map kind (range_with_len (a + 1) n))) (w * suc k + i) (w * k + i) (Row (kind x) i)
      (let l = row_long (kind a) in let v = wide a in omega (arith, l, v))
      (at_rows (a + 1) n k i x (omega arith) small (omega (arith, e)))

  rows_long : (a n : ℕ) → length (flat_map row_places (map kind (range_with_len a n))) ≡ w * n
  rows_long a zero = let f : 0 ≡ w * 0 = omega arith in f
  rows_long a (suc n) =
      let h = length-append (row_places (kind a)) (flat_map row_places (map kind (range_with_len (a + 1) n))) in
      let l = row_long (kind a) in
      let v = wide a in
      let r = rows_long (a + 1) n in
      let f : length (row_places (kind a)) + length (flat_map row_places (map kind (range_with_len (a + 1) n))) ≡ w * suc n = omega (arith, l, v, r) in
      h ∙ f

-- ---- objects, kind by kind

abbrev pub enclaves : List ObjectId
enclaves = map (λ e. objects.Enclave e) (range_with_len 0 8)

abbrev pub threads : List ObjectId
threads = map (λ t. objects.Thread t) (range_with_len 0 16)

abbrev pub regions : Shape → List ObjectId
regions shape = map (λ r. objects.Region r) (range_with_len 0 shape.regions)

abbrev pub cells : Shape → List ObjectId
cells shape = map (λ c. objects.Cell c) (range_with_len 0 shape.cores)

-- any list over the objects, kind by kind
module _ {X : Type 0} (f : ObjectId → List X) (shape : Shape) where
  kinds : flat_map f (all_objects shape) ≡ ((flat_map f enclaves ++ flat_map f threads) ++ flat_map f (regions shape)) ++ flat_map f (cells shape)
  kinds =
      flat_map-append f ((enclaves ++ threads) ++ regions shape) (cells shape)
      ∙ ap (λ z. z ++ flat_map f (cells shape)) (flat_map-append f (enclaves ++ threads) (regions shape)
      ∙ ap (λ z. z ++ flat_map f (regions shape)) (flat_map-append f enclaves threads))

wide_enclave : (k : ℕ) → width (objects.Enclave k) ≡ 29
unfolding width
wide_enclave k = refl

wide_thread : (k : ℕ) → width (objects.Thread k) ≡ 37
unfolding width
wide_thread k = refl

wide_region : (k : ℕ) → width (objects.Region k) ≡ 2
unfolding width
wide_region k = refl

wide_cell : (k : ℕ) → width (objects.Cell k) ≡ 1
unfolding width
wide_cell k = refl

at_kind : (kind : ℕ → ObjectId) (n k : ℕ) → k < n → IsAt (map kind (range_with_len 0 n)) k (kind k)
at_kind kind n k lt = at_map kind (range_with_len 0 n) k k (at_range 0 n k k lt (omega arith))

two_long : length (enclaves ++ threads) ≡ 24
two_long =
    let a = length-append enclaves threads in
    let b = length-map-range_with_len (λ e. objects.Enclave e) 0 8 in
    let c = length-map-range_with_len (λ t. objects.Thread t) 0 16 in
    omega (arith, a, b, c)

three_long : (shape : Shape) → length ((enclaves ++ threads) ++ regions shape) ≡ 24 + shape.regions
three_long shape =
    let a = length-append (enclaves ++ threads) (regions shape) in
    let b = length-map-range_with_len (λ r. objects.Region r) 0 shape.regions in
    let c = two_long in
    omega (arith, a, b, c)

objects_long : (shape : Shape) → length (all_objects shape) ≡ object_count shape
objects_long shape =
    let a = length-append ((enclaves ++ threads) ++ regions shape) (cells shape) in
    let b = length-map-range_with_len (λ c. objects.Cell c) 0 shape.cores in
    let c = three_long shape in
    omega (arith, a, b, c)

at_object : (shape : Shape) (o : ObjectId) → HasObject shape o → IsAt (all_objects shape) (object_index shape o) o
unfolding object_index
at_object shape (objects.Enclave e) h = at_left ((enclaves ++ threads) ++ regions shape) (cells shape) e (objects.Enclave e)
    (at_left (enclaves ++ threads) (regions shape) e (objects.Enclave e) (at_left enclaves threads e (objects.Enclave e) (at_kind (λ k. objects.Enclave k) 8 e h)))
at_object shape (objects.Thread t) h = at_left ((enclaves ++ threads) ++ regions shape) (cells shape) (8 + t) (objects.Thread t)
    (at_left (enclaves ++ threads) (regions shape) (8 + t) (objects.Thread t)
    (at_right enclaves threads (8 + t) t (objects.Thread t) (let b = length-map-range_with_len (λ e. objects.Enclave e) 0 8 in omega (arith, b)) (at_kind (λ k. objects.Thread k) 16 t h)))
at_object shape (objects.Region r) h = at_left ((enclaves ++ threads) ++ regions shape) (cells shape) (24 + r) (objects.Region r)
    (at_right (enclaves ++ threads) (regions shape) (24 + r) r (objects.Region r) (let b = two_long in omega (arith, b)) (at_kind (λ k. objects.Region k) shape.regions r h))
at_object shape (objects.Cell c) h =
    at_right ((enclaves ++ threads) ++ regions shape) (cells shape) (24 + shape.regions + c) c (objects.Cell c) (let b = three_long shape in omega (arith, b)) (at_kind (λ k. objects.Cell k) shape.cores c h)

-- ---- the rows of all

abbrev pub of_enclaves : List Place
of_enclaves = flat_map row_places enclaves

abbrev pub of_threads : List Place
of_threads = flat_map row_places threads

abbrev pub of_regions : Shape → List Place
of_regions shape = flat_map row_places (regions shape)

abbrev pub of_cells : Shape → List Place
of_cells shape = flat_map row_places (cells shape)

abbrev pub all_rows : Shape → List Place
all_rows shape = ((of_enclaves ++ of_threads) ++ of_regions shape) ++ of_cells shape

rows_two : length (of_enclaves ++ of_threads) ≡ 824
rows_two =
    let a = length-append of_enclaves of_threads in
    let b = rows_long (λ e. objects.Enclave e) 29 wide_enclave 0 8 in
    let c = rows_long (λ t. objects.Thread t) 37 wide_thread 0 16 in
    omega (arith, a, b, c)

rows_three : (shape : Shape) → length ((of_enclaves ++ of_threads) ++ of_regions shape) ≡ 824 + 2 * shape.regions
rows_three shape =
    let a = length-append (of_enclaves ++ of_threads) (of_regions shape) in
    let b = rows_long (λ r. objects.Region r) 2 wide_region 0 shape.regions in
    let c = rows_two in
    omega (arith, a, b, c)

rows_all : (shape : Shape) → length (all_rows shape) ≡ 824 + 2 * shape.regions + shape.cores
rows_all shape =
    let a = length-append ((of_enclaves ++ of_threads) ++ of_regions shape) (of_cells shape) in
    let b = rows_long (λ c. objects.Cell c) 1 wide_cell 0 shape.cores in
    let c = rows_three shape in
    omega (arith, a, b, c)

at_all_rows : (shape : Shape) (o : ObjectId) (i j : ℕ) → HasObject shape o → i < width o → enclaves_from shape + j ≡ row_index shape o + i → IsAt (all_rows shape) j (Row o i)
unfolding row_index
at_all_rows shape (objects.Enclave e) i j h lt is =
    let v = wide_enclave e in
    let f : 29 * e + i ≡ j = omega (arith, is) in
    at_left ((of_enclaves ++ of_threads) ++ of_regions shape) (of_cells shape) j (Row (objects.Enclave e) i)
    (at_left (of_enclaves ++ of_threads) (of_regions shape) j (Row (objects.Enclave e) i)
    (at_left of_enclaves of_threads j (Row (objects.Enclave e) i)
    (subst (λ k. IsAt of_enclaves k (Row (objects.Enclave e) i)) f (at_rows (λ k. objects.Enclave k) 29 wide_enclave 0 8 e i e h (omega (arith, v)) (omega arith)))))
at_all_rows shape (objects.Thread t) i j h lt is =
    let v = wide_thread t in
    let b = rows_long (λ e. objects.Enclave e) 29 wide_enclave 0 8 in
    at_left ((of_enclaves ++ of_threads) ++ of_regions shape) (of_cells shape) j (Row (objects.Thread t) i)
    (at_left (of_enclaves ++ of_threads) (of_regions shape) j (Row (objects.Thread t) i)
    (at_right of_enclaves of_threads j (37 * t + i) (Row (objects.Thread t) i) (omega (arith, is, b))
    (at_rows (λ k. objects.Thread k) 37 wide_thread 0 16 t i t h (omega (arith, v)) (omega arith))))
at_all_rows shape (objects.Region r) i j h lt is =
    let v = wide_region r in
    let b = rows_two in
    at_left ((of_enclaves ++ of_threads) ++ of_regions shape) (of_cells shape) j (Row (objects.Region r) i)
    (at_right (of_enclaves ++ of_threads) (of_regions shape) j (2 * r + i) (Row (objects.Region r) i) (omega (arith, is, b))
    (at_rows (λ k. objects.Region k) 2 wide_region 0 shape.regions r i r h (omega (arith, v)) (omega arith)))
at_all_rows shape (objects.Cell c) i j h lt is =
    let v = wide_cell c in
    let b = rows_three shape in
    at_right ((of_enclaves ++ of_threads) ++ of_regions shape) (of_cells shape) j (1 * c + i) (Row (objects.Cell c) i) (omega (arith, is, b, v, lt))
    (at_rows (λ k. objects.Cell k) 1 wide_cell 0 shape.cores c i c h (omega (arith, v)) (omega arith))

-- ---- all places

abbrev pub front : Shape → List Place
front shape = Counter ∷ map (λ o. Lock o) (all_objects shape)

abbrev pub dram_places : Shape → List Place
dram_places shape = map (λ i. Dram i) (range_with_len 0 (word_total shape))

in_parts : (shape : Shape) → all_places shape ≡ (front shape ++ all_rows shape) ++ dram_places shape
in_parts shape = ap (λ z. (front shape ++ z) ++ dram_places shape) (kinds row_places shape)

front_long : (shape : Shape) → length (front shape) ≡ enclaves_from shape
front_long shape = let a = length-map (all_objects shape) (λ o. Lock o) in let b = objects_long shape in omega (arith, a, b)

both_long : (shape : Shape) → length (front shape ++ all_rows shape) ≡ dram_from shape
both_long shape =
    let a = length-append (front shape) (all_rows shape) in
    let b = front_long shape in
    let c = rows_all shape in
    omega (arith, a, b, c)

at_part : (shape : Shape) (p : Place) → HasWord shape p → IsAt ((front shape ++ all_rows shape) ++ dram_places shape) (place_index shape p) p
unfolding place_index
at_part shape Counter h = refl
at_part shape (Lock o) h = at_left (front shape ++ all_rows shape) (dram_places shape) (1 + object_index shape o) (Lock o)
    (at_left (front shape) (all_rows shape) (1 + object_index shape o) (Lock o)
    (subst (λ k. IsAt (front shape) k (Lock o)) (let f : suc (object_index shape o) ≡ 1 + object_index shape o = omega arith in f)
    (at_map (λ x. Lock x) (all_objects shape) (object_index shape o) o (at_object shape o h))))
at_part shape (Row o i) h =
    let from = row_above shape o in
    at_left (front shape ++ all_rows shape) (dram_places shape) (row_index shape o + i) (Row o i)
    (at_right (front shape) (all_rows shape) (row_index shape o + i) (from.0 + i) (Row o i) (let b = front_long shape in let e = from.1 in omega (arith, b, e))
    (at_all_rows shape o i (from.0 + i) h.0 h.1 (let e = from.1 in omega (arith, e))))
  where
    row_above : (m : Shape) (x : ObjectId) → (k : ℕ) × (row_index m x ≡ enclaves_from m + k)
    row_above m x = (row_index m x - enclaves_from m, (let r = row_from m x in omega (arith, r)))
at_part shape (Dram i) h =
    at_right (front shape ++ all_rows shape) (dram_places shape) (dram_from shape + i) i (Dram i) (let b = both_long shape in omega (arith, b))
    (at_map (λ k. Dram k) (range_with_len 0 (word_total shape)) i i (at_range 0 (word_total shape) i i h (omega arith)))

pub list_is_there : ListIsThere
list_is_there shape memory = record {
  count =
      (let a = length-map (all_places shape) memory in
      let b = ap length (in_parts shape) in
      let c = length-append (front shape ++ all_rows shape) (dram_places shape) in
      let d = both_long shape in
      let e = length-map-range_with_len (λ i. Dram i) 0 (word_total shape) in
      let f : length (words_of_memory shape memory) ≡ word_count shape = omega (arith, a, b, c, d, e) in
      f);
  each = λ p h. at_get memory (all_places shape) (place_index shape p) p (subst (λ z. IsAt z (place_index shape p) p) (sym (in_parts shape)) (at_part shape p h));
}
