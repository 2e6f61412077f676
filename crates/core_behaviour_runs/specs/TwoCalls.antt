-- One core that makes two calls. This project's own.
use Rattle.std.specs.Prelude.{List, [], ◌∷◌}
use Rattle.mon_types.specs.Replies.{done}
use Rattle.mon_types.specs.declared.call.Call.TheVariants as calls
use Rattle.mon_types.specs.declared.script.Line.{Line}
use Rattle.mon_types.specs.declared.script.Line.TheVariants as lines
use Rattle.hist.specs.declared.event.Event.{Event}
use Rattle.hist.specs.declared.event.Event.TheVariants as events
use Rattle.protocol.specs.declared.action.Action.TheVariants as actions
use Rattle.protocol.specs.declared.action.Move.{Move}
use Rattle.protocol.specs.declared.action.Outcome.{Outcome}
use Rattle.protocol.specs.declared.action.Outcome.TheVariants as outcomes
use Rattle.protocol.specs.Places.{Memory}
use Rattle.protocol.specs.Views.{entry_of}
use Rattle.protocol.specs.Runs.{Made, memory_after}
use Rattle.core_behaviour.specs.Runs.{run_by, start_words}
use Rattle.core_behaviour_runs.specs.Machines.{small, in_call_with, draft, r1, c0}

-- region 1 is blocked, and the core flushes
abbrev pub block_and_flush : List (List Line)
block_and_flush = (lines.Make (calls.Block 1) ∷ lines.Make calls.Flush ∷ []) ∷ []

-- the run by an empty list of core numbers: twelve rounds
abbrev pub two_calls : List Made
two_calls = run_by (small 1 []) block_and_flush [] 12

-- its moves, the first one first
abbrev pub their_moves : List (Move × Outcome)
their_moves =
    in_call_with (actions.TryLock r1) outcomes.Taken
    ∷ in_call_with (actions.Read r1 0) (outcomes.Word 1)
    ∷ in_call_with (actions.Read r1 1) (outcomes.Word 0)
    ∷ in_call_with (actions.Write r1 0 2) outcomes.Done
    ∷ in_call_with (actions.Draw (draft 0 (calls.Block 1) done (r1 ∷ []))) (outcomes.Ticket 1)
    ∷ in_call_with (actions.Write r1 1 1) outcomes.Done
    ∷ in_call_with (actions.Unlock r1) outcomes.Done
    ∷ in_call_with (actions.TryLock c0) outcomes.Taken
    ∷ in_call_with (actions.Read c0 0) (outcomes.Word 0)
    ∷ in_call_with (actions.Draw (draft 1 calls.Flush done (c0 ∷ []))) (outcomes.Ticket 2)
    ∷ in_call_with (actions.Write c0 0 2) outcomes.Done
    ∷ in_call_with (actions.Unlock c0) outcomes.Done
    ∷ []

-- its log
abbrev pub their_log : List Event
their_log =
    events.Entry (entry_of 0 (draft 0 (calls.Block 1) done (r1 ∷ [])) 1)
    ∷ events.Entry (entry_of 0 (draft 1 calls.Flush done (c0 ∷ [])) 2)
    ∷ []

-- the words that it leaves
abbrev pub their_words : Memory
their_words = memory_after (small 1 []).config (start_words (small 1 [])) two_calls
