-- The words of a row, in the list and in the memory for which it stands.
use Rattle.std.proofs.Common.{◌≡◌, ◌∙◌, ℕ, ◌+◌, ◌-◌, ◌<◌, ◌≤◌, List, [], ◌∷◌, ◌++◌, length, get_or, take, drop, map, Option, Some, None, unwrap_or, sym, ap, refl, arith}
use Rattle.std.specs.List.{range_with_len}
use Rattle.std.proofs.lemmas.List.{length-append, length-take-le, length-drop, get_or-take, get_or-drop, get_or_append_left}
use Rattle.std.proofs.lemmas.List.FromFn.{fill_by_all, length-map-range_with_len, get_or-map-range_with_len, map-range_with_len_more}
use Rattle.mon_types.specs.Shape.{Shape}
use Rattle.mon_types.specs.Objects.{width}
use Rattle.mon_types.specs.Owns.{region_or_free}
use Rattle.mon_types.specs.declared.region.Region.{Region}
use Rattle.mon_types.specs.declared.region.Region.TheVariants as regions
use Rattle.mon_types.specs.declared.object.ObjectId.{ObjectId}
use Rattle.mon_types.specs.declared.object.ObjectId.TheVariants as objects
use Rattle.lock_plan.specs.Objects.{HasObject}
use Rattle.protocol.specs.Places.{Row, Memory}
use Rattle.protocol.specs.Layout.{row_index, place_index, dram_from}
use Rattle.core_behaviour.specs.Runs.{row_in}
use Rattle.word_list.specs.Listed.{Listed, StandsFor}
use Rattle.word_list.specs.Pieces.{words_at}
use Rattle.word_list.specs.Records.{row_listed}

-- a part of the first of two lists
pub part_is : (xs ys : List ℕ) (at n : ℕ) → at + n ≤ length xs → take n (drop at xs) ≡ words_at (xs ++ ys) at n
part_is xs ys at n fits =
    let l : length (drop at xs) ≡ length xs - at = length-drop at xs in
    fill_by_all (λ i. get_or (xs ++ ys) (at + i) 0) (take n (drop at xs)) n 0
    (length-take-le n (drop at xs) (omega (arith, l)))
    (λ k lt. get_or-take n (drop at xs) k 0 lt ∙ get_or-drop at xs k 0 ∙ sym (get_or_append_left xs ys 0 (at + k) (omega arith)))

-- the same of what was read of it by a range
pub part_of : (xs ys zs part : List ℕ) (at n : ℕ) → zs ≡ xs → part ≡ take ((at + n) - at) (drop at zs) → at + n ≤ length xs → part ≡ words_at (xs ++ ys) at n
part_of xs ys zs part at n same is fits =
    is ∙ ap (λ (l : List ℕ). take ((at + n) - at) (drop at l)) same ∙ ap (λ (k : ℕ). take k (drop at xs)) (let e : (at + n) - at ≡ n = omega arith in e)
    ∙ part_is xs ys at n fits

-- two functions that agree below n make the same list
pub same_below : {X : Type 0} (f g : ℕ → X) (n : ℕ) → ((k : ℕ) → k < n → f k ≡ g k) → map f (range_with_len 0 n) ≡ map g (range_with_len 0 n)
same_below f g n same =
    fill_by_all g (map f (range_with_len 0 n)) n (f 0) (length-map-range_with_len f 0 n)
    (λ k lt. get_or-map-range_with_len f 0 n k k (f 0) lt (omega arith) ∙ same k lt)

-- a row of the list is that of the memory
pub row_is : (l : Listed) (memory : Memory) → StandsFor l memory → (o : ObjectId) → HasObject l.shape o → row_listed l.shape l.words o ≡ row_in memory o
unfolding place_index
row_is l memory stands o h =
    same_below (λ i. get_or l.words (row_index l.shape o + i) 0) (λ i. memory (Row o i)) (width o) (λ i lt. stands.each (Row o i) (h, lt))

-- one item more of a list that a function makes
pub more_made : {X : Type 0} (f : ℕ → X) (items later : List X) (x : X) (i : ℕ) → items ≡ map f (range_with_len 0 i) → later ≡ items ++ x ∷ [] → x ≡ f i → later ≡ map f (range_with_len 0 (i + 1))
more_made f items later x i made more is =
    more ∙ ap (λ z. z ++ x ∷ []) made ∙ ap (λ z. map f (range_with_len 0 i) ++ z ∷ []) is ∙ sym (map-range_with_len_more f 0 i i (omega arith))

-- ---- the words of a row that stand one by one

-- a row ends before DRAM
pub row_ends : (shape : Shape) (o : ObjectId) → HasObject shape o → row_index shape o + width o ≤ dram_from shape
unfolding row_index width
row_ends shape (objects.Enclave e) h = omega arith
row_ends shape (objects.Thread t) h = omega arith
row_ends shape (objects.Region r) h = omega arith
row_ends shape (objects.Cell c) h = omega arith

-- so its words are in the table
pub row_whole : (shape : Shape) (table : List ℕ) (o : ObjectId) (n : ℕ) → length table ≡ dram_from shape → HasObject shape o → n ≡ row_index shape o → n + width o ≤ length table
row_whole shape table o n many h is = let e = row_ends shape o h in omega (arith, e, many, is)

-- and in the list
pub row_low : (shape : Shape) (table dram : List ℕ) (o : ObjectId) (n i : ℕ) → length table ≡ dram_from shape → HasObject shape o → n ≡ row_index shape o → i < width o → n + i < length (table ++ dram)
row_low shape table dram o n i many h is lt =
    let w = row_whole shape table o n many h is in
    let l = length-append table dram in
    omega (arith, w, l)

-- so is the own-word of a region
pub own_low : (shape : Shape) (r n : ℕ) → r < shape.regions → n ≡ row_index shape (objects.Region r) → n < dram_from shape
unfolding width
own_low shape r n h is = let e = row_ends shape (objects.Region r) h in omega (arith, e, is)

pub cell_row_is : (shape : Shape) (words : List ℕ) (core n w : ℕ) → n ≡ row_index shape (objects.Cell core) → w ≡ get_or words n 0 → w ∷ [] ≡ row_listed shape words (objects.Cell core)
unfolding width
cell_row_is shape words core n w at is =
    let e : n ≡ row_index shape (objects.Cell core) + 0 = omega (arith, at) in
    ap (λ (x : ℕ). x ∷ []) (is ∙ ap (λ (k : ℕ). get_or words k 0) e)

pub region_row_is : (shape : Shape) (words : List ℕ) (r n w x : ℕ) → n ≡ row_index shape (objects.Region r) → w ≡ get_or words n 0 → x ≡ get_or words (n + 1) 0 → w ∷ x ∷ [] ≡ row_listed shape words (objects.Region r)
unfolding width
region_row_is shape words r n w x at first second =
    let e : n ≡ row_index shape (objects.Region r) + 0 = omega (arith, at) in
    ap (λ (y : ℕ). y ∷ x ∷ []) (first ∙ ap (λ (k : ℕ). get_or words k 0) e)
    ∙ ap (λ (y : ℕ). get_or words (row_index shape (objects.Region r) + 0) 0 ∷ y ∷ []) (second ∙ ap (λ (k : ℕ). get_or words (k + 1) 0) at)

-- Free where there is no region
pub or_free : (o : Option Region) → unwrap_or o regions.Free ≡ region_or_free o
or_free None = refl
or_free (Some region) = refl
