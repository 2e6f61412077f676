-- Ends of runs that meet the end of a budget. This project's own.
use Rattle.std.specs.Prelude.{ℕ, List, [], ◌∷◌, replicate}
use Rattle.mon_types.specs.declared.script.Line.TheVariants as lines
use Rattle.hist.specs.declared.event.Event.TheVariants as events
use Rattle.solo.specs.Core.{Core}
use Rattle.solo_runs.specs.Machines.{counting, after_lines}

-- a core that has logged so many events
abbrev pub with_events : ℕ → Core
with_events count = record counting { log = replicate count (events.Touch 9 9) }

-- a core that was given these answers
abbrev pub with_answers : List ℕ → Core
with_answers answers = record counting { answers = answers }

-- a register is set
abbrev pub then_set : Core → Core
then_set c = after_lines c (lines.SetReg 5 1 ∷ [])

-- three turns, of which the first logs a touch, and then a register is set
abbrev pub turns_then_set : Core → Core
turns_then_set c = after_lines c (lines.Run 3 ∷ lines.SetReg 6 9 ∷ [])
