-- The image of assembled words is one that has a text.
use Rattle.std.proofs.Common.{◌≡◌, ℕ, ◌≤◌, ◌*◌, ◌+◌, ◌%◌, true, ◌&&◌, nat_le, List, [], ◌∷◌, length, replicate, zero, suc, refl, sym, subst, arith, inl, inr}
use Rattle.std.specs.List.{AllByRecursion}
use Rattle.std.proofs.lemmas.Bool.{and_parts, leb-true, cases_Bool}
use Rattle.std.proofs.lemmas.List.{length-replicate}
use Rattle.mon_types.specs.Shape.{Shape, is_shape, is_core_count, is_region_count, is_page_count, is_shift, page_total}
use Rattle.mon_types.specs.declared.image.Segment.{Segment}
use Rattle.mon_types.specs.declared.image.Start.{Start}
use Rattle.mon_types.specs.Sizes.{page_bytes}
use Rattle.dram_map.specs.Addresses.{dram_start}
use Rattle.image_read.specs.Image.{most_cores, AreSegments, IsImage}
use Rattle.sanctum.specs.Packing.{word_limit, paired, packed_start, packed_segments, packed_image, version_for}
use Rattle.sanctum.proofs.Pairs.{half_as_many, some_paired}

-- a configuration has 1 to 16 cores
few_cores : (shape : Shape) → is_shape shape ≡ true → shape.cores ≤ 16
few_cores shape is =
    let counts = and_parts (is_core_count shape.cores && is_region_count shape.regions && is_page_count shape.pages) (is_shift shape.pages shape.shift) is in
    let regions = and_parts (is_core_count shape.cores && is_region_count shape.regions) (is_page_count shape.pages) counts.0 in
    let cores = and_parts (is_core_count shape.cores) (is_region_count shape.regions) regions.0 in
    leb-true shape.cores 16 (and_parts (nat_le 1 shape.cores) (nat_le shape.cores 16) cores.0).1

-- the version is one for so many cores
version_fits : (shape : Shape) → is_shape shape ≡ true → shape.cores ≤ most_cores (version_for shape)
version_fits shape is =
    elim (cases_Bool (nat_le shape.cores 8)) [
      | inl few ↦ rw few (leb-true shape.cores 8 few)
      | inr many ↦ rw many (few_cores shape is)
    ]

aligned_starts : (n : ℕ) → AllByRecursion (λ s. s.pc % 4 ≡ 0) (replicate n packed_start)
aligned_starts zero = tt
aligned_starts (suc n) = (refl, aligned_starts n)

-- words that DRAM holds end within it
within_dram : (pages words pairs : ℕ) → words ≤ 1024 * pages → pairs * 2 ≤ words + 1 → dram_start + 8 * pairs ≤ dram_start + page_bytes * pages
within_dram pages words pairs few half = omega (arith, few, half)

few_segments : (words : List ℕ) → length (packed_segments words) ≤ 64
few_segments [] = omega arith
few_segments (word ∷ words) = omega arith

segments_fit : (shape : Shape) (words : List ℕ) → length words ≤ word_limit shape → AreSegments shape dram_start (packed_segments words)
segments_fit shape [] few = tt
segments_fit shape (word ∷ words) few = (record { some = some_paired word words; aligned = refl; from = omega arith; within = within_dram (page_total shape) (length (word ∷ words)) (length (paired (word ∷ words))) few (half_as_many (word ∷ words)) }, tt)

packed_is_image : (shape : Shape) (words : List ℕ) → is_shape shape ≡ true → length words ≤ word_limit shape → IsImage (version_for shape) (packed_image shape words)
packed_is_image shape words is few = record {
  shape = is;
  cores = version_fits shape is;
  starts = length-replicate shape.cores packed_start;
  aligned = aligned_starts shape.cores;
  few = few_segments words;
  segments = segments_fit shape words few;
}

pub made_is_image : (shape : Shape) (words : List ℕ) (starts : List Start) (segments : List Segment) → starts ≡ replicate shape.cores packed_start → segments ≡ packed_segments words → is_shape shape ≡ true → length words ≤ word_limit shape
    → IsImage (version_for shape) (record { config = shape; starts = starts; segments = segments })
made_is_image shape words starts segments same_starts same_segments is few =
    subst (λ (x : List Start). IsImage (version_for shape) (record { config = shape; starts = x; segments = segments })) (sym same_starts)
    (subst (λ (x : List Segment). IsImage (version_for shape) (record { config = shape; starts = replicate shape.cores packed_start; segments = x })) (sym same_segments) (packed_is_image shape words is few))
