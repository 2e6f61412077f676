-- Budgets that are looked at before a pending exit is tried, and before a turn. This project's own.
use Rattle.std.specs.Prelude.{ℕ, List, [], ◌∷◌, replicate}
use Rattle.mon_types.specs.Replies.{done}
use Rattle.mon_types.specs.declared.call.Call.TheVariants as calls
use Rattle.mon_types.specs.declared.script.Line.TheVariants as lines
use Rattle.hist.specs.declared.event.Event.TheVariants as events
use Rattle.protocol.specs.declared.action.Move.{Move}
use Rattle.protocol.specs.Views.{entry_of}
use Rattle.core_behaviour.specs.Core.{Core}
use Rattle.core_behaviour_runs.specs.Machines.{draft}
use Rattle.core_behaviour_runs.specs.Parts.{begun, leaving}
use Rattle.core_behaviour_runs.specs.Shown.{words_with, count, told_on}

-- inside enclave 0, with an exit pending, after an enter and so many touches
abbrev pub leaving_after : ℕ → Core
leaving_after touches = record leaving {
  log = events.Entry (entry_of 0 (draft 0 (calls.Enter 0 0) done []) 1) ∷ replicate touches (events.Touch 0 0);
}

-- the OS after so many touches of region 1: two turns, of which the first counts, and touches region 0; then a load
abbrev pub turns_after : ℕ → List Move
turns_after touches =
    told_on (words_with ((0, count) ∷ [])) (record begun { log = replicate touches (events.Touch 1 0) })
    (lines.Run 2 ∷ lines.LoadWord 0x8000_0000 ∷ [])
