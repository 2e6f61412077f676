-- One step of each loop that puts rows one after the other.
use Rattle.std.proofs.Common.{◌≡◌, ◌∙◌, ◌+◌, ◌<◌, ◌≤◌, ℕ, suc, List, [], ◌∷◌, ◌++◌, length, drop, get_or, ap, sym, refl, arith, append_assoc, append-nil, length-append, drop-cons, drop_of_length-le}
use Rattle.mon_types.specs.Owns.{region_row}
use Rattle.mon_types.specs.Enclaves.{enclave_row}
use Rattle.mon_types.specs.Threads.{thread_row}
use Rattle.mon_types.specs.Cells.{cell_row}
use Rattle.mon_types.specs.declared.region.Region.{Region}
use Rattle.mon_types.specs.declared.enclave.Enclave.{Enclave}
use Rattle.mon_types.specs.declared.thread.Thread.{Thread}
use Rattle.call_machine.specs.Found.{enclave_rows, thread_rows, region_rows, cell_rows}

-- the rows from one place on are its row and those behind it
module _ {X : Type 0} (rows : List X → List ℕ) (row : X → List ℕ) (one : (x : X) (xs : List X) → rows (x ∷ xs) ≡ row x ++ rows xs) (none : rows [] ≡ []) where
  rows_next : (items : List X) (i : ℕ) (d : X) → i < length items → rows (drop i items) ≡ row (get_or items i d) ++ rows (drop (i + 1) items)
  rows_next items i d h =
      let e : suc i ≡ i + 1 = omega arith in
      ap rows (drop-cons items i d h) ∙ one (get_or items i d) (drop (suc i) items) ∙ ap (λ n. row (get_or items i d) ++ rows (drop n items)) e

  rows_room : (words start : List ℕ) (items : List X) (i most : ℕ) (d : X) → i < length items → words ++ rows (drop i items) ≡ start ++ rows items → length start + length (rows items) ≤ most → length words + length (row (get_or items i d)) ≤ most
  rows_room words start items i most d h e l =
      omega (arith, l, ap (λ z. length z) e, ap (λ z. length z) (rows_next items i d h), length-append words (rows (drop i items)), length-append start (rows items), length-append (row (get_or items i d)) (rows (drop (i + 1) items)))

  rows_more : (words start more : List ℕ) (items : List X) (i : ℕ) (d : X) → i < length items → words ++ rows (drop i items) ≡ start ++ rows items → more ≡ words ++ row (get_or items i d) → more ++ rows (drop (i + 1) items) ≡ start ++ rows items
  rows_more words start more items i d h e m =
      ap (λ z. z ++ rows (drop (i + 1) items)) m ∙ append_assoc words (row (get_or items i d)) (rows (drop (i + 1) items))
      ∙ ap (λ z. words ++ z) (sym (rows_next items i d h)) ∙ e

  rows_all : (words start : List ℕ) (items : List X) (i : ℕ) → length items ≤ i → words ++ rows (drop i items) ≡ start ++ rows items → words ≡ start ++ rows items
  rows_all words start items i h e = sym (append-nil words) ∙ ap (λ z. words ++ z) (sym (ap rows (drop_of_length-le items h) ∙ none)) ∙ e

one_enclave : (x : ℕ × Enclave) (xs : List (ℕ × Enclave)) → enclave_rows (x ∷ xs) ≡ enclave_row x.1 ++ enclave_rows xs
unfolding enclave_rows
one_enclave x xs = refl

no_enclave : enclave_rows [] ≡ []
unfolding enclave_rows
no_enclave = refl

one_thread : (x : ℕ × Thread) (xs : List (ℕ × Thread)) → thread_rows (x ∷ xs) ≡ thread_row x.1 ++ thread_rows xs
unfolding thread_rows
one_thread x xs = refl

no_thread : thread_rows [] ≡ []
unfolding thread_rows
no_thread = refl

one_region : (x : ℕ × Region) (xs : List (ℕ × Region)) → region_rows (x ∷ xs) ≡ region_row x.1 ++ region_rows xs
unfolding region_rows
one_region x xs = refl

no_region : region_rows [] ≡ []
unfolding region_rows
no_region = refl

one_cell : (x : ℕ × ℕ) (xs : List (ℕ × ℕ)) → cell_rows (x ∷ xs) ≡ cell_row x.1 ++ cell_rows xs
unfolding cell_rows
one_cell x xs = refl

no_cell : cell_rows [] ≡ []
unfolding cell_rows
no_cell = refl

pub enclaves_room : (words start : List ℕ) (items : List (ℕ × Enclave)) (i most : ℕ) (d : ℕ × Enclave) → i < length items → words ++ enclave_rows (drop i items) ≡ start ++ enclave_rows items → length start + length (enclave_rows items) ≤ most → length words + length (enclave_row (get_or items i d).1) ≤ most
enclaves_room = rows_room enclave_rows (λ x. enclave_row x.1) one_enclave no_enclave

pub enclaves_more : (words start more : List ℕ) (items : List (ℕ × Enclave)) (i : ℕ) (d : ℕ × Enclave) → i < length items → words ++ enclave_rows (drop i items) ≡ start ++ enclave_rows items → more ≡ words ++ enclave_row (get_or items i d).1 → more ++ enclave_rows (drop (i + 1) items) ≡ start ++ enclave_rows items
enclaves_more = rows_more enclave_rows (λ x. enclave_row x.1) one_enclave no_enclave

pub enclaves_all : (words start : List ℕ) (items : List (ℕ × Enclave)) (i : ℕ) → length items ≤ i → words ++ enclave_rows (drop i items) ≡ start ++ enclave_rows items → words ≡ start ++ enclave_rows items
enclaves_all = rows_all enclave_rows (λ x. enclave_row x.1) one_enclave no_enclave

pub threads_room : (words start : List ℕ) (items : List (ℕ × Thread)) (i most : ℕ) (d : ℕ × Thread) → i < length items → words ++ thread_rows (drop i items) ≡ start ++ thread_rows items → length start + length (thread_rows items) ≤ most → length words + length (thread_row (get_or items i d).1) ≤ most
threads_room = rows_room thread_rows (λ x. thread_row x.1) one_thread no_thread

pub threads_more : (words start more : List ℕ) (items : List (ℕ × Thread)) (i : ℕ) (d : ℕ × Thread) → i < length items → words ++ thread_rows (drop i items) ≡ start ++ thread_rows items → more ≡ words ++ thread_row (get_or items i d).1 → more ++ thread_rows (drop (i + 1) items) ≡ start ++ thread_rows items
threads_more = rows_more thread_rows (λ x. thread_row x.1) one_thread no_thread

pub threads_all : (words start : List ℕ) (items : List (ℕ × Thread)) (i : ℕ) → length items ≤ i → words ++ thread_rows (drop i items) ≡ start ++ thread_rows items → words ≡ start ++ thread_rows items
threads_all = rows_all thread_rows (λ x. thread_row x.1) one_thread no_thread

pub regions_room : (words start : List ℕ) (items : List (ℕ × Region)) (i most : ℕ) (d : ℕ × Region) → i < length items → words ++ region_rows (drop i items) ≡ start ++ region_rows items → length start + length (region_rows items) ≤ most → length words + length (region_row (get_or items i d).1) ≤ most
regions_room = rows_room region_rows (λ x. region_row x.1) one_region no_region

pub regions_more : (words start more : List ℕ) (items : List (ℕ × Region)) (i : ℕ) (d : ℕ × Region) → i < length items → words ++ region_rows (drop i items) ≡ start ++ region_rows items → more ≡ words ++ region_row (get_or items i d).1 → more ++ region_rows (drop (i + 1) items) ≡ start ++ region_rows items
regions_more = rows_more region_rows (λ x. region_row x.1) one_region no_region

pub regions_all : (words start : List ℕ) (items : List (ℕ × Region)) (i : ℕ) → length items ≤ i → words ++ region_rows (drop i items) ≡ start ++ region_rows items → words ≡ start ++ region_rows items
regions_all = rows_all region_rows (λ x. region_row x.1) one_region no_region

pub cells_room : (words start : List ℕ) (items : List (ℕ × ℕ)) (i most : ℕ) (d : ℕ × ℕ) → i < length items → words ++ cell_rows (drop i items) ≡ start ++ cell_rows items → length start + length (cell_rows items) ≤ most → length words + length (cell_row (get_or items i d).1) ≤ most
cells_room = rows_room cell_rows (λ x. cell_row x.1) one_cell no_cell

pub cells_more : (words start more : List ℕ) (items : List (ℕ × ℕ)) (i : ℕ) (d : ℕ × ℕ) → i < length items → words ++ cell_rows (drop i items) ≡ start ++ cell_rows items → more ≡ words ++ cell_row (get_or items i d).1 → more ++ cell_rows (drop (i + 1) items) ≡ start ++ cell_rows items
cells_more = rows_more cell_rows (λ x. cell_row x.1) one_cell no_cell

pub cells_all : (words start : List ℕ) (items : List (ℕ × ℕ)) (i : ℕ) → length items ≤ i → words ++ cell_rows (drop i items) ≡ start ++ cell_rows items → words ≡ start ++ cell_rows items
cells_all = rows_all cell_rows (λ x. cell_row x.1) one_cell no_cell
