-- Views, and moves that they permit or do not. This project's own.
use Rattle.std.specs.Prelude.{ℕ, [], ◌∷◌, Some}
use Rattle.mon_types.specs.Replies.{done}
use Rattle.mon_types.specs.declared.region.Owner.TheVariants as owners
use Rattle.mon_types.specs.declared.call.Call.{Call}
use Rattle.mon_types.specs.declared.call.Call.TheVariants as calls
use Rattle.mon_types.specs.declared.reply.Reply.TheVariants as replies
use Rattle.mon_model.specs.Tries.{tried_set}
use Rattle.protocol.specs.declared.action.Action.{Action}
use Rattle.protocol.specs.declared.action.Action.TheVariants as actions
use Rattle.protocol.specs.declared.action.Draft.{Draft}
use Rattle.protocol.specs.declared.action.Move.TheVariants as moves
use Rattle.protocol.specs.declared.action.Outcome.{Outcome}
use Rattle.protocol.specs.declared.action.Outcome.TheVariants as outcomes
use Rattle.protocol.specs.CallTree.{Tree, Makes, call_tree}
use Rattle.protocol.specs.Views.{Moves, call_moves, issuer_of}
use Rattle.protocol.specs.Permitted.{Follows}
use Rattle.mon_model.specs.Examples.{r1, r2}
use Rattle.protocol.specs.Alone.{two}
use Rattle.protocol.specs.Collision.{block_draft}

-- ---- views of core 0

-- it has the lock of region 1
abbrev pub has_lock : Moves
has_lock = (moves.InCall (actions.TryLock r1), outcomes.Taken) ∷ []

-- it has read the row too, which is the OS's since 0
abbrev pub has_row : Moves
has_row =
    (moves.InCall (actions.Read r1 1), outcomes.Word 0) ∷ (moves.InCall (actions.Read r1 0), outcomes.Word 1) ∷ has_lock

-- it has written the own-word, Blocked
abbrev pub has_written : Moves
has_written = (moves.InCall (actions.Write r1 0 2), outcomes.Done) ∷ has_row

-- it has looked at a region of the OS's since 0
abbrev pub has_looked : ℕ → Moves
has_looked r = (moves.Look r owners.Os, outcomes.Word 1) ∷ []

-- the same, and then it has the lock of region 1
abbrev pub looked_and_locked : Moves
looked_and_locked = (moves.InCall (actions.TryLock r1), outcomes.Taken) ∷ has_looked 2

-- ---- a call that goes on so

-- behind the moves of the view, the call may make this action
abbrev pub GoesOn : Call → Moves → Action → Type 0
GoesOn call ms action =
    (next : Outcome → Tree)
    × Follows (call_tree two (issuer_of 0 ms) call) (call_moves ms) (Makes action next)

-- ---- drafts of a block of region 1 that is Ok, each with one part that is wrong

-- the next serial but one
abbrev pub wrong_serial : Draft
wrong_serial = record (block_draft done) { serial = 1 }

-- another call
abbrev pub wrong_call : Draft
wrong_call = record (block_draft done) { call = calls.Block 2 }

-- another region
abbrev pub wrong_tried : Draft
wrong_tried = record (block_draft done) { tried = tried_set (r2 ∷ []) }

-- a refusal
abbrev pub wrong_reply : Draft
wrong_reply = record (block_draft done) { reply = replies.InvalidState }

-- a page, though it has read none
abbrev pub wrong_page : Draft
wrong_page = record (block_draft done) { page = Some (record { digest = []; at = 0 }) }
