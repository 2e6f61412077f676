-- The words at the start, and that they stand for the first memory.
use Rattle.std.proofs.Common.{◌≡◌, ◌≢◌, ◌∙◌, inl, ℕ, zero, suc, ◌+◌, ◌-◌, ◌*◌, ◌<◌, List, ◌++◌, length, get_or, set, replicate, sym, ap, refl, below_more, arith}
use Rattle.std.proofs.lemmas.List.{length-append, length-replicate, length-set, get_or_append_left, get_or-append_right, get_or-replicate, get_or-set_same, get_or-set_other}
use Rattle.mon_types.specs.Shape.{Shape}
use Rattle.mon_types.specs.Objects.{width}
use Rattle.mon_types.specs.Owns.{region_row}
use Rattle.mon_types.specs.Enclaves.{empty_enclave, enclave_row}
use Rattle.mon_types.specs.Threads.{empty_thread, thread_row}
use Rattle.mon_types.specs.declared.region.Owner.TheVariants as owners
use Rattle.mon_types.specs.declared.region.Region.{Region}
use Rattle.mon_types.specs.declared.region.Region.TheVariants as regions
use Rattle.mon_types.specs.declared.enclave.Enclave.{Enclave}
use Rattle.mon_types.specs.declared.thread.Thread.{Thread}
use Rattle.mon_types.specs.declared.object.ObjectId.{ObjectId}
use Rattle.mon_types.specs.declared.object.ObjectId.TheVariants as objects
use Rattle.mon_model.specs.State.{start}
use Rattle.mon_records.specs.Rows.{row_words}
use Rattle.dram_map.specs.Addresses.{word_total}
use Rattle.lock_plan.specs.Objects.{HasObject}
use Rattle.protocol.specs.Places.{Place, Counter, Lock, Row, Dram, HasWord, memory_of, first_memory, row_word}
use Rattle.protocol.specs.Layout.{object_index, dram_from, regions_from, row_index, place_index, Holds}
use Rattle.word_list.specs.Pieces.{AreOwnedBelow, IsFirstTable}
use Rattle.word_list.specs.Kept.{LocksAreWords}
use Rattle.word_list.proofs.Listing.{object_low}

-- the rows of the records at the start
enclave_start : (shape : Shape) (e i : ℕ) → e < 8 → i < 29 → row_word (start shape) (objects.Enclave e) i ≡ 0
unfolding row_words
enclave_start shape e i h lt =
    ap (λ (x : Enclave). get_or (enclave_row x) i 0) (get_or-replicate 8 e empty_enclave empty_enclave h) ∙ get_or-replicate 29 i 0 0 lt

thread_start : (shape : Shape) (t i : ℕ) → t < 16 → i < 37 → row_word (start shape) (objects.Thread t) i ≡ 0
unfolding row_words
thread_start shape t i h lt =
    ap (λ (x : Thread). get_or (thread_row x) i 0) (get_or-replicate 16 t empty_thread empty_thread h) ∙ get_or-replicate 37 i 0 0 lt

region_start : (shape : Shape) (r i : ℕ) → r < shape.regions → row_word (start shape) (objects.Region r) i ≡ get_or (region_row (regions.Owned owners.Os 0)) i 0
unfolding row_words
region_start shape r i h =
    ap (λ (x : Region). get_or (region_row x) i 0) (get_or-replicate shape.regions r (regions.Owned owners.Os 0) regions.Free h)

cell_start : (shape : Shape) (c : ℕ) → c < shape.cores → row_word (start shape) (objects.Cell c) 0 ≡ 0
unfolding row_words
cell_start shape c h = get_or-replicate shape.cores c 0 0 h

-- ---- the words before DRAM are written

zeros : (n at : ℕ) → ◌≡◌ {A = ℕ} (get_or (replicate n 0) at 0) 0
zeros zero at = refl
zeros (suc n) zero = refl
zeros (suc n) (suc at) = zeros n at

-- before the first own-word
pub owned_none : (shape : Shape) → AreOwnedBelow shape 0 (replicate (dram_from shape) 0)
owned_none shape = record {
  many = length-replicate (dram_from shape) 0;
  own = λ r low. absurd (omega arith);
  others = λ at apart. zeros (dram_from shape) at;
}

-- one own-word more
pub owned_more : (shape : Shape) (r : ℕ) (table : List ℕ) → r < shape.regions → AreOwnedBelow shape r table → AreOwnedBelow shape (r + 1) (set table (row_index shape (objects.Region r)) 1)
unfolding row_index
owned_more shape r table low below = record {
  many = length-set table (regions_from shape + 2 * r) 1 ∙ below.many;
  own = below_more (λ q. get_or (set table (regions_from shape + 2 * r) 1) (regions_from shape + 2 * q) 0 ≡ 1) r
      (λ q less. get_or-set_other table (regions_from shape + 2 * r) (regions_from shape + 2 * q) 1 0 (λ same. omega arith) ∙ below.own q less)
      (let l = below.many in get_or-set_same table (regions_from shape + 2 * r) 1 0 (omega (arith, l)));
  others = λ at apart.
      get_or-set_other table (regions_from shape + 2 * r) at 1 0 (apart r (omega arith)) ∙ below.others at (λ q less. apart q (omega arith));
}

-- ---- and stand for the first memory

module _ (shape : Shape) (table dram : List ℕ) (first : IsFirstTable shape table) where
  -- a place before DRAM that is no own-word's has 0
  zero_at : (at : ℕ) → at < dram_from shape → ((r : ℕ) → r < shape.regions → at ≢ regions_from shape + 2 * r) → get_or (table ++ dram) at 0 ≡ 0
  zero_at at low others =
      let l = first.many in
      get_or_append_left table dram 0 at (omega (arith, l)) ∙ first.others at others

  -- each word of a row
  row_at_start : (o : ObjectId) (i : ℕ) → HasObject shape o → i < width o → get_or (table ++ dram) (row_index shape o + i) 0 ≡ row_word (start shape) o i
  unfolding row_index width
  row_at_start (objects.Enclave e) i h lt =
      zero_at (row_index shape (objects.Enclave e) + i) (omega arith) (λ r low same. omega arith) ∙ sym (enclave_start shape e i h lt)
  row_at_start (objects.Thread t) i h lt =
      zero_at (row_index shape (objects.Thread t) + i) (omega arith) (λ r low same. omega arith) ∙ sym (thread_start shape t i h lt)
  row_at_start (objects.Region r) zero h lt =
      let l = first.many in
      let e : row_index shape (objects.Region r) + 0 ≡ regions_from shape + 2 * r = omega arith in
      ap (λ (at : ℕ). get_or (table ++ dram) at 0) e
      ∙ get_or_append_left table dram 0 (regions_from shape + 2 * r) (omega (arith, l)) ∙ first.own r h ∙ sym (region_start shape r 0 h)
  row_at_start (objects.Region r) (suc zero) h lt =
      zero_at (row_index shape (objects.Region r) + 1) (omega arith) (λ q low same. omega arith) ∙ sym (region_start shape r 1 h)
  row_at_start (objects.Region r) (suc (suc i)) h lt = absurd (omega arith)
  row_at_start (objects.Cell c) zero h lt =
      zero_at (row_index shape (objects.Cell c) + 0) (omega arith) (λ r low same. omega arith) ∙ sym (cell_start shape c h)
  row_at_start (objects.Cell c) (suc i) h lt = absurd (omega arith)

  each_at_start : (p : Place) → HasWord shape p → get_or (table ++ dram) (place_index shape p) 0 ≡ first_memory shape dram p
  unfolding place_index memory_of
  each_at_start Counter h = zero_at 0 (omega arith) (λ r low same. omega arith)
  each_at_start (Lock o) h =
      let low = object_low shape o h in
      zero_at (1 + object_index shape o) (omega (arith, low)) (λ r less same. omega (arith, low))
  each_at_start (Row o i) h = row_at_start o i h.0 h.1
  each_at_start (Dram i) h =
      let e : (dram_from shape + i) - dram_from shape ≡ i = omega arith in
      get_or-append_right table dram (dram_from shape) (dram_from shape + i) 0 first.many (omega arith)
      ∙ ap (λ (k : ℕ). get_or dram k 0) e

  pub first_stands : length dram ≡ word_total shape → Holds shape (table ++ dram) (first_memory shape dram)
  first_stands many = record {
    count = (let a = length-append table dram in let l = first.many in omega (arith, a, l, many));
    each = each_at_start;
  }

  -- and no lock is held
  pub locks_free : LocksAreWords shape (table ++ dram)
  unfolding memory_of
  locks_free o h = inl (each_at_start (Lock o) h)
