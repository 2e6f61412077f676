-- The script that is generated for a number, core by core. All of it is this project's own.
use Rattle.std.specs.Prelude.{ℕ, zero, suc, ◌+◌, ◌*◌, ◌/◌, ◌%◌, ◌^◌, ◌==◌, if◌then◌else◌, List, [], ◌∷◌, map}
use Rattle.std.specs.List.{range_with_len}
use Rattle.mon_types.specs.Owns.{os_word}
use Rattle.mon_types.specs.declared.call.Call.TheVariants as calls
use Rattle.mon_types.specs.declared.script.Line.{Line}
use Rattle.mon_types.specs.declared.script.Line.TheVariants as lines

-- ---- the generator

-- the generator of a core starts at the sum of the number and the core, cut to 64 bits
abbrev pub first_state : ℕ → ℕ → ℕ
first_state n core = (n + core) % 2 ^ 64

-- the next state is a fixed multiple of this one and a fixed number, cut to 64 bits
unfoldable pub next_state : ℕ → ℕ
next_state x = (6364136223846793005 * x + 1442695040888963407) % 2 ^ 64

-- the kind of line that a state gives, 0 to 7: its bits 33 to 35
abbrev pub kind_of : ℕ → ℕ
kind_of x = x / 2 ^ 33 % 8

-- the region that its line is about, 1 to 7, by its bits from 40 on
abbrev pub region_of : ℕ → ℕ
region_of x = 1 + x / 2 ^ 40 % 7

-- ---- lines

-- the line of a kind about a region: two kinds each block or free it, and the last one loads the first word of its page
unfoldable pub line_of : ℕ → ℕ → Line
line_of kind r =
    if kind == 0 then lines.Make (calls.Block r) else
    if kind == 1 then lines.Make (calls.Block r) else
    if kind == 2 then lines.Make (calls.Free r) else
    if kind == 3 then lines.Make (calls.Free r) else
    if kind == 4 then lines.Make (calls.Assign r os_word) else
    if kind == 5 then lines.Make calls.Flush else
    if kind == 6 then lines.Make (calls.RegionInfo r) else
    lines.LoadWord (0x8000_0000 + 4096 * r)

-- the line that a state gives
abbrev pub line_at : ℕ → Line
line_at x = line_of (kind_of x) (region_of x)

-- so many lines: before each the state goes on to the next, which gives it
unfoldable pub lines_from : ℕ → ℕ → List Line
lines_from zero x = []
lines_from (suc count) x = line_at (next_state x) ∷ lines_from count (next_state x)

-- ---- the script

-- the lines of a core: 1,000
abbrev pub lines_of_core : ℕ → ℕ → List Line
lines_of_core n core = lines_from 1000 (first_state n core)

-- those of so many cores, from core 0 on
abbrev pub lines_of_cores : ℕ → ℕ → List (List Line)
lines_of_cores n cores = map (λ core. lines_of_core n core) (range_with_len 0 cores)
