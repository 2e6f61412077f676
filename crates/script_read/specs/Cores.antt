-- The lines of each core, by what the lines of a script say one after the other, and the turns of its runs. All of it
-- is this project's own.
use Rattle.std.specs.Prelude.{ℕ, ◌+◌, max, Bool, ◌==◌, if◌then◌else◌, List, [], ◌∷◌, map, Option}
use Rattle.std.specs.Option.{unwrap_or}
use Rattle.std.specs.List.{range_with_len}
use Rattle.mon_types.specs.declared.script.Line.{Line}
use Rattle.mon_types.specs.declared.script.Line.TheVariants as lines
use Rattle.script_read.specs.declared.said.Said.{Said}
use Rattle.script_read.specs.declared.said.Said.TheVariants as says

-- ---- whose a line is

-- the line and then the others, where it is mine, and else the others alone
abbrev pub if_mine : Bool → Line → List Line → List Line
if_mine mine line others = if mine then line ∷ others else others

-- the lines of a core, where those before any `core` line are those of the core `now`: a `core` line makes the
-- following ones those of the core that it names, after those that it has
abbrev pub lines_from : ℕ → ℕ → List Said → List Line
lines_from now core [] = []
lines_from now core (says.Line line ∷ others) = if_mine (now == core) line (lines_from now core others)
lines_from now core (says.Run turns ∷ others) = if_mine (now == core) (lines.Run turns) (lines_from now core others)
lines_from now core (says.Core next ∷ others) = lines_from next core others

-- the lines of a core, where those before any `core` line are core 0's
abbrev pub lines_of_core : ℕ → List Said → List Line
lines_of_core core said = lines_from 0 core said

-- the core whose lines come next, where those before any `core` line are those of the core `now`
abbrev pub core_from : ℕ → List Said → ℕ
core_from now [] = now
core_from now (says.Line line ∷ others) = core_from now others
core_from now (says.Run turns ∷ others) = core_from now others
core_from now (says.Core next ∷ others) = core_from next others

-- the core whose lines come next, where those before any `core` line are core 0's
abbrev pub core_after : List Said → ℕ
core_after said = core_from 0 said

-- ---- turns

-- the most turns that all `run` lines of a core have together
abbrev pub turn_limit : ℕ
turn_limit = 1000000

-- the turns of a line: those of a run, and none of another
abbrev pub turns_in : Line → ℕ
turns_in (lines.Make call) = 0
turns_in (lines.Run turns) = turns
turns_in lines.Tick = 0
turns_in (lines.LoadWord va) = 0
turns_in (lines.StoreWord va value) = 0
turns_in (lines.SetPc pc) = 0
turns_in (lines.SetReg x value) = 0

-- the turns of lines together
abbrev pub turns_of : List Line → ℕ
turns_of [] = 0
turns_of (line ∷ others) = turns_in line + turns_of others

-- the turns of a core's lines together
abbrev pub turns_of_core : ℕ → List Said → ℕ
turns_of_core core said = turns_of (lines_of_core core said)

-- ---- all cores

-- the greatest core that a `core` line names, 0 where none is named
abbrev pub greatest_core : List Said → ℕ
greatest_core [] = 0
greatest_core (says.Line line ∷ others) = greatest_core others
greatest_core (says.Run turns ∷ others) = greatest_core others
greatest_core (says.Core core ∷ others) = max core (greatest_core others)

-- the cores that a line may name are below the count that is given, or below 16 where none is given
abbrev pub core_limit : Option ℕ → ℕ
core_limit cores = unwrap_or cores 16

-- how many lists of lines a script has: the count of cores that is given, or one for each core up to the greatest that
-- is named
abbrev pub core_count : Option ℕ → List Said → ℕ
core_count cores said = unwrap_or cores (greatest_core said + 1)

-- the lines of each core below a count
abbrev pub lists_for : ℕ → List Said → List (List Line)
lists_for count said = map (λ core. lines_of_core core said) (range_with_len 0 count)
