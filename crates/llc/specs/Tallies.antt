-- What is counted of a trace, region by region, and the text that says it. All of it is this project's own.
use Rattle.std.specs.Prelude.{◌≡◌, ℕ, ◌+◌, Bool, if◌then◌else◌, List, ◌++◌, length, map, slice_index_or, codes}
use Rattle.std.specs.List.{flat_map, count_by, range_with_len}
use Rattle.std.specs.Fmt.{decimal}
use Rattle.mon_types.specs.Shape.{Shape}
use Rattle.llc.specs.Regions.{accesses_of, region_hits}
use Rattle.llc.specs.declared.tally.Tally.{Tally}
use Rattle.llc.specs.declared.trace.Trace.{Trace}

-- ---- what is counted

-- how many of these answers say that an access is a hit
abbrev pub hit_count : List Bool → ℕ
hit_count answers = count_by (λ hit. hit) answers

-- of a region among these accesses: how many are its own, and how many of its own are hits
abbrev pub tally_of : Shape → ℕ → List ℕ → ℕ → Tally
tally_of shape ways accesses region = record {
  region = region;
  accesses = length (accesses_of shape region accesses);
  hits = hit_count (region_hits shape ways region accesses);
}

-- of each region, in the order of their numbers
abbrev pub tallies_of : Shape → ℕ → List ℕ → List Tally
tallies_of shape ways accesses = map (tally_of shape ways accesses) (range_with_len 0 shape.regions)

-- ---- the text

-- the line of a region
unfoldable pub tally_line : Tally → List ℕ
tally_line t =
    codes "region " ++ decimal t.region ++ codes " accesses " ++ decimal t.accesses ++ codes " hits "
    ++ decimal t.hits ++ codes "\n"

-- the last line
unfoldable pub end_line : List ℕ
end_line = codes "end\n"

-- a line for each tally, and the last line
abbrev pub tallies_text : List Tally → List ℕ
tallies_text tallies = flat_map tally_line tallies ++ end_line

-- what is printed of a trace: the line of each region, ascending, and the last line
abbrev pub llc_text : Trace → List ℕ
llc_text trace = tallies_text (tallies_of trace.config trace.ways trace.addresses)

-- ---- one access

-- a region of which nothing is counted yet
abbrev pub uncounted : ℕ → Tally
uncounted region = record { region = region; accesses = 0; hits = 0 }

-- a tally with one access more, which is a hit or not
abbrev pub counted : Bool → Tally → Tally
counted hit t = record t { accesses = t.accesses + 1; hits = if hit then t.hits + 1 else t.hits }

-- the tally at a place; past the end one that counts nothing
abbrev pub tally_at : List Tally → ℕ → Tally
tally_at tallies place = slice_index_or tallies place (uncounted place)

-- ---- laws

-- the tally of a region is that of its accesses alone, with all other addresses taken out
abbrev pub OwnTally : Type 0
OwnTally = (shape : Shape) (ways region : ℕ) (accesses : List ℕ)
    → tally_of shape ways accesses region ≡ tally_of shape ways (accesses_of shape region accesses) region

-- two lists that agree on a region's accesses give that region the same tally
abbrev pub SameTally : Type 0
SameTally = (shape : Shape) (ways region : ℕ) (accesses others : List ℕ)
    → accesses_of shape region accesses ≡ accesses_of shape region others
    → tally_of shape ways accesses region ≡ tally_of shape ways others region
