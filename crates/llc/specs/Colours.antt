-- Lines, tags and sets of a cache that the regions of DRAM colour, after Sanctum (Costan, Lebedev, Devadas, USENIX
-- Security 2016). Their numbers are this project's own.
use Rattle.std.specs.Prelude.{ℕ, ◌+◌, ◌-◌, ◌*◌, ◌/◌, ◌%◌}
use Rattle.mon_types.specs.Shape.{Shape, region_of_page}
use Rattle.mon_types.specs.Sizes.{page_bytes}
use Rattle.dram_map.specs.Addresses.{dram_start}

-- how many bytes a line has
abbrev pub line_bytes : ℕ
line_bytes = 64

-- how many sets a region has: one for each line of a page
abbrev pub region_sets : ℕ
region_sets = 64

-- the tag of an address: the number of its line
abbrev pub tag_of : ℕ → ℕ
tag_of address = address / line_bytes

-- the region of an address in DRAM
abbrev pub region_of : Shape → ℕ → ℕ
region_of shape address = region_of_page shape ((address - dram_start) / page_bytes)

-- the set of an address in DRAM: the region's number, and then that of the line in its page
abbrev pub set_of : Shape → ℕ → ℕ
set_of shape address = region_sets * region_of shape address + tag_of address % region_sets

-- how many sets there are
abbrev pub set_count : Shape → ℕ
set_count shape = region_sets * shape.regions
