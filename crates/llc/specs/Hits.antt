-- What a hit is in the coloured cache, from the whole list of accesses: nothing here knows what a set holds. Accesses
-- are physical addresses in DRAM, the earliest first. This project's own.
use Rattle.std.specs.Prelude.{◌≡◌, ◌≢◌, ℕ, ◌+◌, ◌<◌, Bool, false, not, ◌==◌, nat_lt, if◌then◌else◌, List, [], ◌∷◌, ◌++◌, length, map, filter, reverse, slice_index, slice_index_or, slice_range, EachIndex, IsTrue, ◌↔◌, Option, Some, None}
use Rattle.std.specs.Option.{option_map, option_map_or}
use Rattle.mon_types.specs.Shape.{Shape}
use Rattle.llc.specs.Colours.{tag_of, set_of}

-- the different ones of these numbers, each at its first place
abbrev pub different : List ℕ → List ℕ
different [] = []
different (n ∷ ns) = n ∷ filter (λ m. not (m == n)) (different ns)

-- the tags of those accesses that are of this set
abbrev pub tags_in : Shape → ℕ → List ℕ → List ℕ
tags_in shape set accesses = map tag_of (filter (λ a. set_of shape a == set) accesses)

-- how many different tags of this set stand among the accesses
abbrev pub tag_count : Shape → ℕ → List ℕ → ℕ
tag_count shape set accesses = length (different (tags_in shape set accesses))

-- the tag of access i
abbrev pub tag_at : List ℕ → ℕ → ℕ
tag_at accesses i = tag_of (slice_index accesses i)

-- access i is a hit: an earlier access has its tag, and between the last such access and i fewer than `ways`
-- different other tags of its set stand
pub record IsHit (shape : Shape) (ways : ℕ) (accesses : List ℕ) (i : ℕ) : Type 0 where
  pub last : ℕ
  pub earlier : last < i
  pub same : tag_at accesses last ≡ tag_at accesses i
  pub others : (k : ℕ) → last < k → k < i → tag_at accesses k ≢ tag_at accesses i
  pub few : tag_count shape (set_of shape (slice_index accesses i)) (slice_range accesses (last + 1) i) < ways

-- for each access, the answer at its place says whether it is a hit
abbrev pub AreHits : Shape → ℕ → List ℕ → List Bool → Type 0
AreHits shape ways accesses answers =
    EachIndex accesses (λ i. IsTrue (slice_index_or answers i false) ↔ IsHit shape ways accesses i)

-- ---- the same, computed

-- of accesses that stand the latest first, those before the first one with this tag; None where none has it
abbrev pub since : ℕ → List ℕ → Option (List ℕ)
since tag [] = None
since tag (a ∷ older) = if tag_of a == tag then Some [] else option_map (λ between. a ∷ between) (since tag older)

-- whether an access to this address is a hit behind these
abbrev pub is_hit : Shape → ℕ → List ℕ → ℕ → Bool
is_hit shape ways accesses address =
    option_map_or
    (λ between. nat_lt (tag_count shape (set_of shape address) between) ways)
    (since (tag_of address) (reverse accesses))
    false

-- for each of these accesses behind the earlier ones, whether it is a hit
abbrev pub hits_behind : Shape → ℕ → List ℕ → List ℕ → List Bool
hits_behind shape ways earlier [] = []
hits_behind shape ways earlier (a ∷ later) =
    is_hit shape ways earlier a ∷ hits_behind shape ways (earlier ++ a ∷ []) later

-- for each access, whether it is a hit
abbrev pub hits_of : Shape → ℕ → List ℕ → List Bool
hits_of shape ways accesses = hits_behind shape ways [] accesses

-- ---- a law

-- what looking back computes is what a hit is, at each place of any list
abbrev pub HitsAreComputed : Type 0
HitsAreComputed = (shape : Shape) (ways : ℕ) (accesses : List ℕ)
    → AreHits shape ways accesses (hits_of shape ways accesses)
