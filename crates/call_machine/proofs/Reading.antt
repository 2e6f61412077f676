-- The words that a call has read: what was found is in them row after row, and the records that they give are in range.
use Rattle.std.proofs.Common.{◌≡◌, ◌⊎◌, inl, inr, ◌∙◌, ◌+◌, ◌<◌, ◌≤◌, ◌^◌, ℕ, zero, suc, Bool, true, false, cond, Option, Some, None, List, [], ◌∷◌, ◌++◌, length, take, drop, map, get_or, ap, sym, refl, subst, arith, length-drop, length-take}
use Rattle.std.specs.Prelude.{nat_lt}
use Rattle.std.specs.List.{AllByRecursion, range_with_len}
use Rattle.std.proofs.Math.Nat.{mod-le}
use Rattle.std.proofs.Math.Seq.{take-add}
use Rattle.std.proofs.lemmas.Bool.{cases_Bool}
use Rattle.mon_types.specs.Shape.{Shape, page_total, plain}
use Rattle.mon_types.specs.Objects.{width, object_number}
use Rattle.mon_types.specs.Words.{AreWords}
use Rattle.mon_types.specs.Owns.{IsRegion}
use Rattle.mon_types.specs.Enclaves.{IsEnclave, IsRoot, empty_enclave, enclave_from, enclave_within, root_within}
use Rattle.mon_types.specs.Threads.{IsThread, empty_thread, thread_from}
use Rattle.mon_types.specs.Cells.{cell_from}
use Rattle.mon_types.specs.declared.enclave.Enclave.{Enclave}
use Rattle.mon_types.specs.declared.region.Region.TheVariants as regions
use Rattle.mon_types.specs.declared.thread.Mode.{Mode}
use Rattle.mon_types.specs.declared.object.ObjectId.{ObjectId}
use Rattle.mon_types.specs.declared.object.ObjectId.TheVariants as objects
use Rattle.mon_types.proofs.Rows.{part, fitting_less}
use Rattle.mon_types.proofs.RegionRows.{region_valid}
use Rattle.mon_types.proofs.EnclaveRows.{enclave_valid}
use Rattle.mon_types.proofs.ThreadRows.{thread_valid}
use Rattle.lock_plan.proofs.Order.{Rises}
use Rattle.mon_records.specs.Rows.{Found, same_object, words_of}
use Rattle.mon_records.specs.Ranges.{AreInRange}
use Rattle.mon_records.specs.Rebuilt.{found_region, found_enclave, found_thread, found_cell, state_of}
use Rattle.mon_records.specs.Members.{In}
use Rattle.mon_records.proofs.RangesKept.{start_in}
use Rattle.mon_records.proofs.RebuiltStates.{same_object-true, same_object-refl}
use Rattle.call_machine.specs.Found.{widths, found_with}
use Rattle.call_machine.proofs.LateWrites.{rows_in}
use Rattle.call_machine.proofs.EarlyWrites.{apart, symmetric, IsSame}

-- ---- what was found, row after row

-- none of these objects is this one
abbrev AreOthers : ObjectId → List ObjectId → Type 0
AreOthers x os = AllByRecursion (λ o. same_object o x ≡ false) os

above : (m : Shape) (x : ObjectId) (lo hi : ℕ) (os : List ObjectId) → object_number x < lo → Rises m lo hi os → AreOthers x os
above m x lo hi [] l h = tt
above m x lo hi (o ∷ os) l h =
    (symmetric x o (apart x o (omega (arith, l, h.1))), above m x (object_number o + 1) hi os (omega (arith, l, h.1)) h.2)

found_other : (os : List ObjectId) (words : List ℕ) (found : Found) (x : ObjectId) → AreOthers x os → words_of (found_with os words found) x ≡ words_of found x
unfolding found_with words_of
found_other [] words found x h = refl
found_other (o ∷ os) words found x h =
    found_other os (drop (width o) words) ((o, take (width o) words) ∷ found) x h.1
    ∙ ap (λ b. cond b (take (width o) words) (words_of found x)) h.0

found_first : (o : ObjectId) (os : List ObjectId) (words : List ℕ) (found : Found) → AreOthers o os → words_of (found_with (o ∷ os) words found) o ≡ take (width o) words
unfolding found_with words_of
found_first o os words found h =
    found_other os (drop (width o) words) ((o, take (width o) words) ∷ found) o h
    ∙ ap (λ b. cond b (take (width o) words) (words_of found o)) (same_object-refl o)

found_rows : (m : Shape) (lo hi : ℕ) (os : List ObjectId) (words : List ℕ) (found : Found) → Rises m lo hi os → rows_in (found_with os words found) os ≡ take (widths os) words
unfolding widths found_with
found_rows m lo hi [] words found h = refl
found_rows m lo hi (o ∷ os) words found h =
    ap (λ l. l ++ rows_in (found_with (o ∷ os) words found) os) (found_first o os words found (above m o (object_number o + 1) hi os (omega arith) h.2))
    ∙ ap (λ l. take (width o) words ++ l) (found_rows m (object_number o + 1) hi os (drop (width o) words) ((o, take (width o) words) ∷ found) h.2)
    ∙ sym (take-add (width o) (widths os) words)

found_long : (m : Shape) (lo hi : ℕ) (os : List ObjectId) (words : List ℕ) (found : Found) → Rises m lo hi os → widths os ≤ length words → (o : ObjectId) → In o os → length (words_of (found_with os words found) o) ≡ width o
unfolding widths found_with
found_long m lo hi [] words found h l o i = absurd i
found_long m lo hi (x ∷ os) words found h l o i =
    let behind = found_long m (object_number x + 1) hi os (drop (width x) words) ((x, take (width x) words) ∷ found) h.2 (omega (arith, l, length-drop (width x) words)) o in
    elim i [
      | inl e ↦
          subst (λ z. length (words_of (found_with (x ∷ os) words found) z) ≡ width z) (sym e)
          (ap (λ z. length z) (found_first x os words found (above m x (object_number x + 1) hi os (omega arith) h.2)) ∙ grind (arith, length-take, l))
      | inr j ↦ behind j
    ]

pub take_all : (xs : List ℕ) (n : ℕ) → length xs ≡ n → take n xs ≡ xs
take_all [] zero e = refl
take_all [] (suc n) e = refl
take_all (x ∷ xs) zero e = absurd (omega arith)
take_all (x ∷ xs) (suc n) e = ap (λ l. x ∷ l) (take_all xs n (omega arith))

-- what was found is in all words that were read
pub found_same : (m : Shape) (hi : ℕ) (os : List ObjectId) (words : List ℕ) → Rises m 0 hi os → length words ≡ widths os → IsSame os (found_with os words []) words
found_same m hi os words h l = record {
  rows = found_rows m 0 hi os words [] h ∙ take_all words (widths os) l;
  long = found_long m 0 hi os words [] h (omega (arith, l));
}

-- ---- in range

-- each row has as many words of 64 bits as its object
abbrev pub AreRead : Found → Type 0
AreRead found = AllByRecursion (λ p. AreWords (width p.0) p.1) found

fits_drop : (n : ℕ) (xs : List ℕ) → AllByRecursion (λ w. w < 2 ^ 64) xs → AllByRecursion (λ w. w < 2 ^ 64) (drop n xs)
fits_drop zero xs h = h
fits_drop (suc n) [] h = tt
fits_drop (suc n) (x ∷ xs) h = fits_drop n xs h.1

pub found_read : (os : List ObjectId) (words : List ℕ) (found : Found) → widths os ≤ length words → AllByRecursion (λ w. w < 2 ^ 64) words → AreRead found → AreRead (found_with os words found)
unfolding found_with widths
found_read [] words found l fit h = h
found_read (o ∷ os) words found l fit h =
    found_read os (drop (width o) words) ((o, take (width o) words) ∷ found) (omega (arith, l, length-drop (width o) words)) (fits_drop (width o) words fit)
    (part words 0 (width o) (length words) (omega (arith, l)) (record { many = refl; fit = fit }), h)

row_read : (found : Found) (o : ObjectId) → AreRead found → (words_of found o ≡ []) ⊎ AreWords (width o) (words_of found o)
unfolding words_of
row_read [] o h = inl refl
row_read (p ∷ ps) o h = elim (cases_Bool (same_object p.0 o)) [
  | inl e ↦ inr (subst (λ b. AreWords (width o) (cond b p.1 (words_of ps o))) (sym e) (subst (λ z. AreWords (width z) p.1) (same_object-true p.0 o e) h.0))
  | inr e ↦ subst (λ b. (cond b p.1 (words_of ps o) ≡ []) ⊎ AreWords (width o) (cond b p.1 (words_of ps o))) (sym e) (row_read ps o h.1)
]

empty_enclave_in : IsEnclave empty_enclave
empty_enclave_in = (start_in (plain 1)).enclave 0

empty_thread_in : IsThread empty_thread
empty_thread_in = (start_in (plain 1)).thread 0

no_enclave : enclave_from [] ≡ empty_enclave
unfolding enclave_from
no_enclave = refl

no_thread : thread_from [] ≡ empty_thread
unfolding thread_from
no_thread = refl

root_in : (m : Shape) (root : Option ℕ) → IsRoot root → IsRoot (root_within m root)
unfolding root_within
root_in m None h = tt
root_in m (Some page) h = by_less (nat_lt page (page_total m))
  where
    by_less : (b : Bool) → IsRoot (cond b (Some page) None)
    by_less true = h
    by_less false = tt

within_in : (m : Shape) (e : Enclave) → IsEnclave e → IsEnclave (enclave_within m e)
unfolding enclave_within
within_in m e h = record {
  base = h.base;
  size = h.size;
  regions = omega (arith, h.regions, mod-le e.regions (2 ^ m.regions));
  root = root_in m e.root h.root;
  next_page = h.next_page;
  threads = h.threads;
  measure = h.measure;
  two = h.two;
  mail = h.mail;
}

-- what holds of each value and of the default holds at every place
at_each : {X : Type 0} (P : X → Type 0) (f : ℕ → X) (a n i : ℕ) (d : X) → ((k : ℕ) → P (f k)) → P d → P (get_or (map f (range_with_len a n)) i d)
at_each P f a zero i d h k = k
at_each P f a (suc n) zero d h k = h a
at_each P f a (suc n) (suc i) d h k = at_each P f (a + 1) n i d h k

pub known_ranges : (m : Shape) (mode : Mode) (found : Found) → AreRead found → AreInRange (state_of m mode found)
unfolding state_of width cell_from
known_ranges m mode found h = record {
  region = λ r. at_each IsRegion (found_region found) 0 m.regions r regions.Free (λ k. region_valid (words_of found (objects.Region k))) tt;
  enclave = λ e. at_each IsEnclave (found_enclave m found) 0 8 e empty_enclave (λ k. within_in m _ (elim (row_read found (objects.Enclave k) h) [
    | inl none ↦ subst (λ l. IsEnclave (enclave_from l)) (sym none) (subst IsEnclave (sym no_enclave) empty_enclave_in)
    | inr row ↦ enclave_valid (words_of found (objects.Enclave k)) row
  ])) empty_enclave_in;
  thread = λ t. at_each IsThread (found_thread found) 0 16 t empty_thread (λ k. elim (row_read found (objects.Thread k) h) [
    | inl none ↦ subst (λ l. IsThread (thread_from l)) (sym none) (subst IsThread (sym no_thread) empty_thread_in)
    | inr row ↦ thread_valid (words_of found (objects.Thread k)) row
  ]) empty_thread_in;
  cell = λ c. at_each (λ n. n < 2 ^ 32) (found_cell found) 0 m.cores c 0 (λ k. cell_less (words_of found (objects.Cell k))) (omega arith);
}
  where
    cell_less : (words : List ℕ) → cell_from words < 2 ^ 32
    cell_less words = fitting_less (2 ^ 32) (get_or words 0 0) (omega arith)
