-- Two cores that block the same region; the second finds the lock of the first. This project's own.
use Rattle.std.specs.Prelude.{ℕ, List, [], ◌∷◌}
use Rattle.mon_types.specs.Replies.{done}
use Rattle.mon_types.specs.declared.region.Owner.TheVariants as owners
use Rattle.mon_types.specs.declared.region.Region.{Region}
use Rattle.mon_types.specs.declared.region.Region.TheVariants as regions
use Rattle.mon_types.specs.declared.call.Call.TheVariants as calls
use Rattle.mon_types.specs.declared.reply.Reply.TheVariants as replies
use Rattle.mon_types.specs.declared.script.Line.{Line}
use Rattle.mon_types.specs.declared.script.Line.TheVariants as lines
use Rattle.hist.specs.Logged.{Logged}
use Rattle.hist.specs.declared.event.Event.{Event}
use Rattle.hist.specs.declared.event.Event.TheVariants as events
use Rattle.protocol.specs.declared.action.Action.TheVariants as actions
use Rattle.protocol.specs.declared.action.Draft.{Draft}
use Rattle.protocol.specs.declared.action.Move.{Move}
use Rattle.protocol.specs.declared.action.Outcome.{Outcome}
use Rattle.protocol.specs.declared.action.Outcome.TheVariants as outcomes
use Rattle.protocol.specs.Places.{Memory}
use Rattle.protocol.specs.Views.{entry_of}
use Rattle.protocol.specs.Runs.{Made, memory_after}
use Rattle.core_behaviour.specs.Runs.{run_by, start_words}
use Rattle.core_behaviour_runs.specs.Machines.{small, in_call_with, draft, r1}

-- each core blocks region 1
abbrev pub both_block : List (List Line)
both_block = (lines.Make (calls.Block 1) ∷ []) ∷ (lines.Make (calls.Block 1) ∷ []) ∷ []

-- core 0 takes the lock; core 1 finds it held, and draws; then six rounds
abbrev pub collision : List Made
collision = run_by (small 2 []) both_block (0 ∷ 1 ∷ 1 ∷ []) 6

-- the moves of the core that was first, the first one first
abbrev pub first_moves : List (Move × Outcome)
first_moves =
    in_call_with (actions.TryLock r1) outcomes.Taken
    ∷ in_call_with (actions.Read r1 0) (outcomes.Word 1)
    ∷ in_call_with (actions.Read r1 1) (outcomes.Word 0)
    ∷ in_call_with (actions.Write r1 0 2) outcomes.Done
    ∷ in_call_with (actions.Draw (draft 0 (calls.Block 1) done (r1 ∷ []))) (outcomes.Ticket 2)
    ∷ in_call_with (actions.Write r1 1 2) outcomes.Done
    ∷ in_call_with (actions.Unlock r1) outcomes.Done
    ∷ []

-- what the other draws, which has found the lock held
abbrev pub refused_draft : Draft
refused_draft = draft 0 (calls.Block 1) (replies.ConcurrentCall r1 0 0) (r1 ∷ [])

-- those of the other
abbrev pub other_moves : List (Move × Outcome)
other_moves =
    in_call_with (actions.TryLock r1) (outcomes.HeldBy 0 0)
    ∷ in_call_with (actions.Draw refused_draft) (outcomes.Ticket 1)
    ∷ []

-- the log of the other
abbrev pub other_log : List Event
other_log = events.Entry (entry_of 1 refused_draft 1) ∷ []

-- the words at the end
abbrev pub last_words : Memory
last_words = memory_after (small 2 []).config (start_words (small 2 [])) collision

-- region 0 is as at the start, and region 1 is withdrawn
abbrev pub last_regions : List Region
last_regions = regions.Owned owners.Os 0 ∷ regions.Blocked owners.Os 0 2 ∷ []

-- each log has one entry
abbrev pub last_logs : List Logged
last_logs =
    record { events = events.Entry (entry_of 0 (draft 0 (calls.Block 1) done (r1 ∷ [])) 2) ∷ []; spare = 16383 }
    ∷ record { events = other_log; spare = 16383 }
    ∷ []

-- the cores of its moves, the first one first
abbrev pub its_cores : List ℕ
its_cores = 0 ∷ 1 ∷ 1 ∷ 0 ∷ 0 ∷ 0 ∷ 0 ∷ 0 ∷ 0 ∷ []
