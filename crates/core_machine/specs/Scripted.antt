-- Which scripts are carried out so far. This project's own.
use Rattle.std.specs.Prelude.{⊤, List}
use Rattle.std.specs.List.{AllByRecursion}
use Rattle.mon_types.specs.declared.script.Line.{Line}
use Rattle.mon_types.specs.declared.script.Line.TheVariants as lines

-- a line that makes no turn and no access: `run`, `load` and `store` are not built yet
abbrev pub IsScriptedLine : Line → Type 0
IsScriptedLine (lines.Make call) = ⊤
IsScriptedLine (lines.Run count) = ⊥
IsScriptedLine lines.Tick = ⊤
IsScriptedLine (lines.LoadWord va) = ⊥
IsScriptedLine (lines.StoreWord va value) = ⊥
IsScriptedLine (lines.SetPc pc) = ⊤
IsScriptedLine (lines.SetReg x value) = ⊤

-- each line is such a one
abbrev pub AreScripted : List Line → Type 0
AreScripted script = AllByRecursion IsScriptedLine script
