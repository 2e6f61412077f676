-- What the sets of a cache hold, and the accesses that a cache stands for. This project's own.
use Rattle.std.specs.Prelude.{◌≡◌, ℕ, ◌<◌, Bool, true, false, ◌==◌, if◌then◌else◌, List, [], ◌∷◌, ◌++◌, take, reverse, slice_index_or, Option, Some, None}
use Rattle.std.specs.List.{list_any}
use Rattle.mon_types.specs.Shape.{Shape}
use Rattle.llc.specs.Colours.{set_count}
use Rattle.llc.specs.Hits.{different, tags_in}

-- a cache: for a machine of this shape, with this many lines in a set, and the tags in each set
pub record Cache : Type 0 where
  pub shape : Shape
  pub ways : ℕ
  pub sets : List (List ℕ)

-- the tags in a set
abbrev pub tags_at : List (List ℕ) → ℕ → List ℕ
tags_at sets i = slice_index_or sets i []

-- what a set holds after these accesses: the first of the different tags of the accesses in that set, the latest first
abbrev pub held : Shape → ℕ → List ℕ → ℕ → List ℕ
held shape ways accesses set = take ways (different (tags_in shape set (reverse accesses)))

-- the cache stands for these accesses: each set holds what it holds after them
pub record StandsFor (cache : Cache) (accesses : List ℕ) : Type 0 where
  pub holds : (set : ℕ) → set < set_count cache.shape
      → tags_at cache.sets set ≡ held cache.shape cache.ways accesses set

-- ---- one access, in a set

-- whether a tag is among these
abbrev pub has_tag : ℕ → List ℕ → Bool
has_tag tag tags = list_any (λ t. t == tag) tags

-- the tags without the first place at which this one stands, if it stands there
abbrev pub without_tag : ℕ → List ℕ → List ℕ
without_tag tag [] = []
without_tag tag (t ∷ ts) = if t == tag then ts else t ∷ without_tag tag ts

-- the tags with this one in front, and at no second place
abbrev pub with_first : ℕ → List ℕ → List ℕ
with_first tag tags = tag ∷ without_tag tag tags

-- what a set of so many lines holds after an access: the tag comes first, and the last one is dropped where there is
-- no room
abbrev pub touched : ℕ → ℕ → List ℕ → List ℕ
touched ways tag tags = take ways (with_first tag tags)

-- the tag was put first: among the tags, where it stood there; else the last one is pushed out
abbrev pub PutsFirst : ℕ → List ℕ → List ℕ → Option ℕ → Type 0
PutsFirst tag old new None = (has_tag tag old ≡ true) × (new ≡ with_first tag old)
PutsFirst tag old new (Some pushed_out) = (has_tag tag old ≡ false) × (new ++ pushed_out ∷ [] ≡ with_first tag old)
