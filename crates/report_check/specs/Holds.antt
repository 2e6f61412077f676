-- The touches of a core since its last clearing entry. This project's own.
use Rattle.std.specs.Prelude.{ℕ, Bool, false, ◌==◌, ◌&&◌, ◌||◌, List, [], ◌∷◌}
use Rattle.report_check.specs.declared.holds.Touch.{Touch}

-- whether this period of the region, the one since that ticket, is among them
abbrev pub is_held : List Touch → ℕ → ℕ → Bool
is_held [] region since = false
is_held (t ∷ ts) region since = (t.region == region && t.since == since) || is_held ts region since

-- a touch of this period
abbrev pub touch_of : ℕ → ℕ → Touch
touch_of region since = record { region = region; since = since }
