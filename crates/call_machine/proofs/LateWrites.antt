-- The late writes of a call, row after row, are those of all its rows in one.
use Rattle.std.proofs.Common.{◌≡◌, ◌∙◌, ◌+◌, ℕ, zero, suc, eqb, List, [], ◌∷◌, ◌++◌, length, drop, get_or, ap, sym, refl, arith, add-zero}
use Rattle.std.specs.List.{AllByRecursion}
use Rattle.std.proofs.lemmas.List.{get_or-drop, drop-drop}
use Rattle.mon_types.specs.Objects.{width}
use Rattle.mon_types.specs.declared.object.ObjectId.{ObjectId}
use Rattle.mon_model.specs.State.{State}
use Rattle.mon_records.specs.Rows.{Found, row_words, words_of}
use Rattle.protocol.specs.CallTree.{Tree, write_unless, row_writes, late_writes}
use Rattle.call_machine.specs.Rest.{row_places, places, writes}

-- the rows of objects in what was found, and in a state
abbrev pub rows_in : Found → List ObjectId → List ℕ
rows_in stands [] = []
rows_in stands (o ∷ os) = words_of stands o ++ rows_in stands os

abbrev pub state_rows : State → List ObjectId → List ℕ
state_rows s [] = []
state_rows s (o ∷ os) = row_words s o ++ state_rows s os

-- both rows of an object are as long as it has words
pub record IsLong (stands : Found) (s : State) (o : ObjectId) : Type 0 where
  pub found : length (words_of stands o) ≡ width o
  pub wanted : length (row_words s o) ≡ width o

-- one row
one_row : (o : ObjectId) (i : ℕ) (ws wanted : List ℕ) (next : Tree) → row_writes o i ws wanted next ≡ writes (row_places o i (length ws)) ws (drop i wanted) next
unfolding row_writes row_places writes
one_row o i [] wanted next = refl
one_row o i (w ∷ ws) wanted next =
    let first : get_or (drop i wanted) 0 0 ≡ get_or wanted i 0 = get_or-drop i wanted 0 0 ∙ ap (λ n. get_or wanted n 0) (add-zero i) in
    let rest : drop 1 (drop i wanted) ≡ drop (suc i) wanted = drop-drop 1 i wanted ∙ ap (λ n. drop n wanted) {x = i + 1} {y = suc i} (omega arith) in
    ap (λ t. write_unless (eqb w (get_or wanted i 0)) o i (get_or wanted i 0) t) (one_row o (suc i) ws wanted next ∙ ap (λ l. writes (row_places o (suc i) (length ws)) ws l next) (sym rest))
    ∙ ap (λ x. write_unless (eqb w x) o i x (writes (row_places o (suc i) (length ws)) ws (drop 1 (drop i wanted)) next)) (sym first)

-- one row and then others
row_then : (o : ObjectId) (i n : ℕ) (ps : List (ObjectId × ℕ)) (ws xs us vs : List ℕ) (next : Tree) → length ws ≡ n → length xs ≡ n
    → writes (row_places o i n ++ ps) (ws ++ us) (xs ++ vs) next ≡ writes (row_places o i n) ws xs (writes ps us vs next)
unfolding row_places writes
row_then o i zero ps [] [] us vs next e f = refl
row_then o i zero ps (w ∷ ws) xs us vs next e f = absurd (omega arith)
row_then o i zero ps [] (x ∷ xs) us vs next e f = absurd (omega arith)
row_then o i (suc n) ps [] xs us vs next e f = absurd (omega arith)
row_then o i (suc n) ps (w ∷ ws) [] us vs next e f = absurd (omega arith)
row_then o i (suc n) ps (w ∷ ws) (x ∷ xs) us vs next e f = ap (λ t. write_unless (eqb w x) o i x t) (row_then o (suc i) n ps ws xs us vs next (omega arith) (omega arith))

pub late_rows : (os : List ObjectId) (stands : Found) (s : State) (next : Tree) → AllByRecursion (IsLong stands s) os
    → late_writes os stands s next ≡ writes (places os) (rows_in stands os) (state_rows s os) next
unfolding late_writes places writes
late_rows [] stands s next h = no_places next
  where
    no_places : (next : Tree) → next ≡ writes [] [] [] next
    no_places next = refl
late_rows (o ∷ os) stands s next h =
    one_row o 0 (words_of stands o) (row_words s o) (late_writes os stands s next)
    ∙ ap (λ n. writes (row_places o 0 n) (words_of stands o) (row_words s o) (late_writes os stands s next)) h.0.found
    ∙ ap (writes (row_places o 0 (width o)) (words_of stands o) (row_words s o)) (late_rows os stands s next h.1)
    ∙ sym (row_then o 0 (width o) (places os) (words_of stands o) (row_words s o) (rows_in stands os) (state_rows s os) next h.0.found h.0.wanted)

-- how many places there are
row_many : (o : ObjectId) (i n : ℕ) → length (row_places o i n) ≡ n
unfolding row_places
row_many o i zero = refl
row_many o i (suc n) = omega (arith, row_many o (suc i) n)
