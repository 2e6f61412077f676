-- How large a machine is. The limits and the colouring of regions by a shift are this project's own.
use Rattle.std.specs.Prelude.{ℕ, ◌*◌, ◌/◌, ◌%◌, ◌^◌, Bool, ◌==◌, ◌||◌, ◌&&◌, nat_le}

-- the numbers of cores, of regions and of pages in a region, and the shift
pub record Shape : Type 0 where
  pub cores : ℕ
  pub regions : ℕ
  pub pages : ℕ
  pub shift : ℕ

-- the shape of these numbers
abbrev pub shape_of : ℕ → ℕ → ℕ → ℕ → Shape
shape_of cores regions pages shift = record { cores = cores; regions = regions; pages = pages; shift = shift }

-- 1 to 16 cores
abbrev pub is_core_count : ℕ → Bool
is_core_count n = nat_le 1 n && nat_le n 16

-- 2, 4, 8, 16, 32 or 64 regions
abbrev pub is_region_count : ℕ → Bool
is_region_count n = n == 2 || n == 4 || n == 8 || n == 16 || n == 32 || n == 64

-- 1, 2, 4, 8 or 16 pages in a region
abbrev pub is_page_count : ℕ → Bool
is_page_count n = n == 1 || n == 2 || n == 4 || n == 8 || n == 16

-- a shift whose power of two divides the number of pages in a region
abbrev pub is_shift : ℕ → ℕ → Bool
is_shift pages shift = nat_le shift 4 && pages % 2 ^ shift == 0

-- what stands within the limits
abbrev pub is_shape : Shape → Bool
is_shape m = is_core_count m.cores && is_region_count m.regions && is_page_count m.pages && is_shift m.pages m.shift

-- how many pages DRAM has
abbrev pub page_total : Shape → ℕ
page_total m = m.regions * m.pages

-- the region of a page: the regions take turns, 2 ^ shift pages each
abbrev pub region_of_page : Shape → ℕ → ℕ
region_of_page m page = page / 2 ^ m.shift % m.regions

-- the plain machine: 8 regions of one page
abbrev pub plain : ℕ → Shape
plain cores = shape_of cores 8 1 0
