-- The touches of a core since its last clear: the periods of regions at which a look was good. This project's own.
use Rattle.std.specs.Prelude.{ℕ, Bool, false, ◌==◌, ◌&&◌, ◌||◌, if◌then◌else◌, List, [], ◌∷◌, ◌++◌}
use Rattle.core_access.specs.declared.touch.Touch.{Touch}

-- whether this period of the region, the one since that ticket, was touched
abbrev pub is_touched : List Touch → ℕ → ℕ → Bool
is_touched [] region since = false
is_touched (t ∷ ts) region since = (t.region == region && t.since == since) || is_touched ts region since

-- a touch of this period
abbrev pub touch_of : ℕ → ℕ → Touch
touch_of region since = record { region = region; since = since }

-- the touches after a good look at this period: the first such look alone is a touch
abbrev pub touched : List Touch → ℕ → ℕ → List Touch
touched ts region since = if is_touched ts region since then ts else ts ++ touch_of region since ∷ []
