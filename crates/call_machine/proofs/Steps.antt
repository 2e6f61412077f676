-- One step of each loop of moves.
use Rattle.std.proofs.Common.{◌≡◌, ◌∙◌, ◌+◌, ◌-◌, ◌<◌, ◌≤◌, ℕ, zero, suc, true, false, cond, eqb, None, List, [], ◌∷◌, ◌++◌, length, take, drop, get_or, filter, ap, refl, arith, drop-cons, length-append, drop_of_length-le}
use Rattle.std.specs.List.{range_with_len}
use Rattle.std.proofs.lemmas.Bool.{eq-eqb, ne_eqb}
use Rattle.std.proofs.lemmas.List.{get_or-drop, drop-drop}
use Rattle.mon_types.specs.Shape.{Shape}
use Rattle.mon_types.specs.Objects.{width}
use Rattle.mon_types.specs.declared.region.Region.{Region}
use Rattle.mon_types.specs.declared.call.Call.{Call}
use Rattle.mon_types.specs.declared.object.ObjectId.{ObjectId}
use Rattle.dram_map.specs.Addresses.{word_total, region_of_word}
use Rattle.protocol.specs.declared.action.Action.TheVariants as actions
use Rattle.protocol.specs.CallTree.{Tree, Makes, Over, number_in, then_, onto, unlocks, reads, write_unless}
use Rattle.call_machine.specs.Found.{widths}
use Rattle.call_machine.specs.Rest.{row_places, places, writes, writes_from, early_own, early_write, early_rest, region_words_from, unlocks_of}

-- ---- reads and copies

one_left : (i n : ℕ) → i < n → n - i ≡ suc (n - (i + 1))
one_left i n h = omega (arith, h)

pub reads_step : (o : ObjectId) (n i : ℕ) (next : List ℕ → Tree) → i < n → reads o (n - i) i next ≡ Makes (actions.Read o i) (λ outcome. reads o (n - (i + 1)) (i + 1) (λ words. next (number_in outcome ∷ words)))
unfolding reads
reads_step o n i next h = ap (λ m. reads o m i next) (one_left i n h) ∙ first (n - (i + 1))
  where
    first : (m : ℕ) → reads o (suc m) i next ≡ Makes (actions.Read o i) (λ outcome. reads o m (i + 1) (λ words. next (number_in outcome ∷ words)))
    first m = let e : i + 1 ≡ suc i = omega arith in rw e refl

pub reads_end : (o : ObjectId) (n i : ℕ) (next : List ℕ → Tree) → n ≤ i → reads o (n - i) i next ≡ next []
unfolding reads
reads_end o n i next h = let e : n - i ≡ 0 = omega (arith, h) in rw e refl

-- ---- late writes

pub row_many : (o : ObjectId) (i n : ℕ) → length (row_places o i n) ≡ n
unfolding row_places
row_many o i zero = refl
row_many o i (suc n) = omega (arith, row_many o (suc i) n)

pub places_many : (os : List ObjectId) → length (places os) ≡ widths os
unfolding places widths
places_many [] = refl
places_many (o ∷ os) = omega (arith, length-append (row_places o 0 (width o)) (places os), row_many o 0 (width o), places_many os)

pub writes_step : (ps : List (ObjectId × ℕ)) (stood wanted : List ℕ) (i : ℕ) (d : ObjectId × ℕ) (next : Tree) → i < length ps
    → writes_from ps stood wanted i next ≡ write_unless (eqb (get_or stood i 0) (get_or wanted i 0)) (get_or ps i d).0 (get_or ps i d).1 (get_or wanted i 0) (writes_from ps stood wanted (i + 1) next)
unfolding writes
writes_step ps stood wanted i d next h =
    ap (λ l. writes l (drop i stood) (drop i wanted) next) (drop-cons ps i d h)
    ∙ first (get_or ps i d)
  where
    first : (p : ObjectId × ℕ) → writes (p ∷ drop (suc i) ps) (drop i stood) (drop i wanted) next ≡ write_unless (eqb (get_or stood i 0) (get_or wanted i 0)) p.0 p.1 (get_or wanted i 0) (writes_from ps stood wanted (i + 1) next)
    first p =
        let s : get_or (drop i stood) 0 0 ≡ get_or stood i 0 = get_or-drop i stood 0 0 ∙ ap (λ n. get_or stood n 0) {x = i + 0} {y = i} (omega arith) in
        let t : get_or (drop i wanted) 0 0 ≡ get_or wanted i 0 = get_or-drop i wanted 0 0 ∙ ap (λ n. get_or wanted n 0) {x = i + 0} {y = i} (omega arith) in
        let e : suc i ≡ i + 1 = omega arith in
        ap (λ a. write_unless (eqb a (get_or (drop i wanted) 0 0)) p.0 p.1 (get_or (drop i wanted) 0 0) (writes (drop (suc i) ps) (drop 1 (drop i stood)) (drop 1 (drop i wanted)) next)) s
        ∙ ap (λ a. write_unless (eqb (get_or stood i 0) a) p.0 p.1 a (writes (drop (suc i) ps) (drop 1 (drop i stood)) (drop 1 (drop i wanted)) next)) t
        ∙ ap (λ l. write_unless (eqb (get_or stood i 0) (get_or wanted i 0)) p.0 p.1 (get_or wanted i 0) (writes (drop (suc i) ps) l (drop 1 (drop i wanted)) next)) (drop-drop 1 i stood)
        ∙ ap (λ l. write_unless (eqb (get_or stood i 0) (get_or wanted i 0)) p.0 p.1 (get_or wanted i 0) (writes (drop (suc i) ps) (drop (i + 1) stood) l next)) (drop-drop 1 i wanted)
        ∙ ap (λ n. write_unless (eqb (get_or stood i 0) (get_or wanted i 0)) p.0 p.1 (get_or wanted i 0) (writes (drop n ps) (drop (i + 1) stood) (drop (i + 1) wanted) next)) e

pub writes_skip : (ps : List (ObjectId × ℕ)) (stood wanted : List ℕ) (i : ℕ) (d : ObjectId × ℕ) (next : Tree) → i < length ps → eqb (get_or stood i 0) (get_or wanted i 0) ≡ true
    → writes_from ps stood wanted i next ≡ writes_from ps stood wanted (i + 1) next
unfolding write_unless
writes_skip ps stood wanted i d next h e =
    writes_step ps stood wanted i d next h ∙ ap (λ b. write_unless b (get_or ps i d).0 (get_or ps i d).1 (get_or wanted i 0) (writes_from ps stood wanted (i + 1) next)) e

pub writes_one : (ps : List (ObjectId × ℕ)) (stood wanted : List ℕ) (i : ℕ) (d : ObjectId × ℕ) (next : Tree) → i < length ps → eqb (get_or stood i 0) (get_or wanted i 0) ≡ false
    → writes_from ps stood wanted i next ≡ then_ (actions.Write (get_or ps i d).0 (get_or ps i d).1 (get_or wanted i 0)) (writes_from ps stood wanted (i + 1) next)
unfolding write_unless
writes_one ps stood wanted i d next h e =
    writes_step ps stood wanted i d next h ∙ ap (λ b. write_unless b (get_or ps i d).0 (get_or ps i d).1 (get_or wanted i 0) (writes_from ps stood wanted (i + 1) next)) e

pub writes_end : (ps : List (ObjectId × ℕ)) (stood wanted : List ℕ) (i : ℕ) (next : Tree) → length ps ≤ i → writes_from ps stood wanted i next ≡ next
unfolding writes
writes_end ps stood wanted i next h = ap (λ l. writes l (drop i stood) (drop i wanted) next) (drop_of_length-le ps h)

-- ---- early writes

pub early_step : (call : Call) (os : List ObjectId) (items : List (ℕ × Region)) (i : ℕ) (d : ℕ × Region) (stood : List ℕ) (next : List ℕ → Tree) → i < length items
    → early_rest call os (drop i items) stood next ≡ early_write (early_own call (get_or items i d).1) os (get_or items i d).0 stood (λ now. early_rest call os (drop (i + 1) items) now next)
unfolding early_rest
early_step call os items i d stood next h =
    ap (λ l. early_rest call os l stood next) (drop-cons items i d h) ∙ first (get_or items i d)
  where
    first : (p : ℕ × Region) → early_rest call os (p ∷ drop (suc i) items) stood next ≡ early_write (early_own call p.1) os p.0 stood (λ now. early_rest call os (drop (i + 1) items) now next)
    first p = let e : i + 1 ≡ suc i = omega arith in rw e refl

pub early_skip : (call : Call) (os : List ObjectId) (items : List (ℕ × Region)) (i : ℕ) (d : ℕ × Region) (stood : List ℕ) (next : List ℕ → Tree) → i < length items → early_own call (get_or items i d).1 ≡ None
    → early_rest call os (drop i items) stood next ≡ early_rest call os (drop (i + 1) items) stood next
unfolding early_write
early_skip call os items i d stood next h none =
    early_step call os items i d stood next h
    ∙ ap (λ o. early_write o os (get_or items i d).0 stood (λ now. early_rest call os (drop (i + 1) items) now next)) none

pub early_end : (call : Call) (os : List ObjectId) (items : List (ℕ × Region)) (i : ℕ) (stood : List ℕ) (next : List ℕ → Tree) → length items ≤ i → early_rest call os (drop i items) stood next ≡ next stood
unfolding early_rest
early_end call os items i stood next h = ap (λ l. early_rest call os l stood next) (drop_of_length-le items h)

-- ---- unlocks

take_last : (xs : List ObjectId) (n : ℕ) (d : ObjectId) → n < length xs → take (n + 1) xs ≡ take n xs ++ get_or xs n d ∷ []
take_last [] n d h = absurd (omega arith)
take_last (x ∷ xs) zero d h = refl
take_last (x ∷ xs) (suc n) d h = let e : suc n + 1 ≡ suc (n + 1) = omega arith in rw e (ap (λ l. x ∷ l) (take_last xs n d (omega (arith, h))))

onto_last : (xs : List ObjectId) (x : ObjectId) (ys : List ObjectId) → onto (xs ++ x ∷ []) ys ≡ x ∷ onto xs ys
unfolding onto
onto_last [] x ys = refl
onto_last (z ∷ xs) x ys = onto_last xs x (z ∷ ys)

pub unlocks_step : (xs : List ObjectId) (n : ℕ) (d : ObjectId) → 0 < n → n ≤ length xs → unlocks_of (take n xs) ≡ then_ (actions.Unlock (get_or xs (n - 1) d)) (unlocks_of (take (n - 1) xs))
unfolding unlocks
unlocks_step xs n d some few =
    let e : n ≡ (n - 1) + 1 = omega (arith, some) in
    ap (λ m. unlocks_of (take m xs)) e
    ∙ ap unlocks_of (take_last xs (n - 1) d (omega (arith, some, few)))
    ∙ ap unlocks (onto_last (take (n - 1) xs) (get_or xs (n - 1) d) [])

pub unlocks_end : (xs : List ObjectId) → unlocks_of (take 0 xs) ≡ Over
unfolding unlocks onto
unlocks_end xs = refl

-- ---- zeros

module _ (m : Shape) (r : ℕ) where
  words_step : (i : ℕ) → i < word_total m → region_words_from m r i ≡ cond (eqb (region_of_word m i) r) (i ∷ region_words_from m r (i + 1)) (region_words_from m r (i + 1))
  words_step i h = ap (λ n. filter (λ j. eqb (region_of_word m j) r) (range_with_len i n)) (one_left i (word_total m) h)

  pub words_here : (i : ℕ) → i < word_total m → region_of_word m i ≡ r → region_words_from m r i ≡ i ∷ region_words_from m r (i + 1)
  words_here i h e = words_step i h ∙ ap (λ b. cond b (i ∷ region_words_from m r (i + 1)) (region_words_from m r (i + 1))) (eq-eqb (region_of_word m i) r e)

  words_not : (i : ℕ) → i < word_total m → (region_of_word m i ≡ r → ⊥) → region_words_from m r i ≡ region_words_from m r (i + 1)
  words_not i h ne = words_step i h ∙ ap (λ b. cond b (i ∷ region_words_from m r (i + 1)) (region_words_from m r (i + 1))) (ne_eqb (region_of_word m i) r ne)

  pub words_end : (i : ℕ) → word_total m ≤ i → region_words_from m r i ≡ []
  words_end i h = ap (λ n. filter (λ j. eqb (region_of_word m j) r) (range_with_len i n)) {x = word_total m - i} {y = 0} (omega (arith, h))

  pub words_skip : (n i : ℕ) → i + n ≤ word_total m → ((k : ℕ) → i ≤ k → k < i + n → region_of_word m k ≡ r → ⊥) → region_words_from m r i ≡ region_words_from m r (i + n)
  words_skip zero i h ne = ap (region_words_from m r) {x = i} {y = i + 0} (omega arith)
  words_skip (suc n) i h ne =
      words_not i (omega (arith, h)) (ne i (omega arith) (omega arith))
      ∙ words_skip n (i + 1) (omega (arith, h)) (λ k a b. ne k (omega (arith, a)) (omega (arith, b)))
      ∙ ap (region_words_from m r) {x = i + 1 + n} {y = i + suc n} (omega arith)
