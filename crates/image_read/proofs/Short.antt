-- The segments of an image are short, since they lie in DRAM.
use Rattle.std.proofs.Common.{◌≡◌, ℕ, ◌≤◌, List, [], ◌∷◌, ◌&&◌, Bool, true, arith}
use Rattle.std.proofs.Math.Nat.{le_trans, mul-le-mul_left, mul-le-mul_right}
use Rattle.std.specs.List.{AllByRecursion}
use Rattle.mon_types.specs.Shape.{Shape, is_core_count, is_region_count, is_page_count, is_shift, is_shape, page_total}
use Rattle.mon_types.specs.declared.image.Segment.{Segment}
use Rattle.dram_map.specs.Addresses.{dram_start}
use Rattle.image_read.specs.Image.{segment_end, AreSegments, IsShort}

most_regions : (shape : Shape) → is_shape shape ≡ true → shape.regions ≤ 64
most_regions shape is = grind arith

third : (a b c d : Bool) → a && b && c && d ≡ true → c ≡ true
third a b c d all = grind arith

pages_of : (n : ℕ) → is_page_count n ≡ true → n ≤ 16
pages_of n is = grind arith

most_pages : (shape : Shape) → is_shape shape ≡ true → shape.pages ≤ 16
most_pages shape is = pages_of shape.pages (third (is_core_count shape.cores) (is_region_count shape.regions) (is_page_count shape.pages) (is_shift shape.pages shape.shift) is)

-- DRAM has at most 1,024 pages
pub most_in_all : (shape : Shape) → is_shape shape ≡ true → page_total shape ≤ 1024
most_in_all shape is = le_trans (mul-le-mul_right shape.pages (most_regions shape is)) (mul-le-mul_left 64 (most_pages shape is))

pub all_short : (shape : Shape) (ss : List Segment) (place : ℕ) → page_total shape ≤ 1024 → dram_start ≤ place → AreSegments shape place ss → AllByRecursion IsShort ss
all_short shape [] place few from are = tt
all_short shape (s ∷ ss) place few from are =
    let first = are.0 in
    (omega (arith, few, from, first.from, first.within), all_short shape ss (segment_end s) few (omega (arith, from, first.from)) are.1)
