-- What belongs to a region, among accesses and among their answers. This project's own.
use Rattle.std.specs.Prelude.{◌≡◌, ℕ, Bool, ◌==◌, List, map, filter}
use Rattle.std.specs.List.{zip}
use Rattle.mon_types.specs.Shape.{Shape}
use Rattle.llc.specs.Colours.{region_of}
use Rattle.llc.specs.Hits.{hits_of}

-- the accesses of a region
abbrev pub accesses_of : Shape → ℕ → List ℕ → List ℕ
accesses_of shape region accesses = filter (λ a. region_of shape a == region) accesses

-- the answers at the accesses of a region
abbrev pub answers_of : Shape → ℕ → List ℕ → List Bool → List Bool
answers_of shape region accesses answers =
    map (λ p. p.1) (filter (λ p. region_of shape p.0 == region) (zip accesses answers))

-- the hits of a region among these accesses, one answer for each access of the region
abbrev pub region_hits : Shape → ℕ → ℕ → List ℕ → List Bool
region_hits shape ways region accesses = answers_of shape region accesses (hits_of shape ways accesses)

-- ---- laws

-- the hits of a region are those of its accesses alone
abbrev pub OwnHits : Type 0
OwnHits = (shape : Shape) (ways region : ℕ) (accesses : List ℕ)
    → region_hits shape ways region accesses ≡ hits_of shape ways (accesses_of shape region accesses)

-- two lists that agree on a region's accesses give that region the same hits
abbrev pub SameHits : Type 0
SameHits = (shape : Shape) (ways region : ℕ) (accesses others : List ℕ)
    → accesses_of shape region accesses ≡ accesses_of shape region others
    → region_hits shape ways region accesses ≡ region_hits shape ways region others
