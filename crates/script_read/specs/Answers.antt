-- What always holds of a script that was read. All of it is this project's own.
use Rattle.std.specs.Prelude.{◌≡◌, ◌≤◌, ℕ, List, length, Option, Some, None}
use Rattle.std.specs.List.{AllByRecursion}
use Rattle.mon_types.specs.declared.script.Line.{Line}
use Rattle.script_read.specs.Cores.{turns_of, turn_limit}
use Rattle.script_read.specs.Grammar.{limit}

-- no core has more lines than a script has bytes at most
abbrev pub AreFew : List (List Line) → Type 0
AreFew script = AllByRecursion (λ made. length made ≤ limit) script

-- no core's runs have more turns together than they may
abbrev pub HaveFewTurns : List (List Line) → Type 0
HaveFewTurns script = AllByRecursion (λ made. turns_of made ≤ turn_limit) script

-- there are as many lists of lines as the count that is given; where none is given there are one to sixteen
abbrev pub HasCount : Option ℕ → List (List Line) → Type 0
HasCount None script = (1 ≤ length script) × (length script ≤ 16)
HasCount (Some count) script = length script ≡ count
