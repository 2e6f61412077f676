-- A monitor call of a core: its moves, which are those of the call's tree, and what they leave of the core. What the
-- call did to the core is read off its own moves: its reply from its Draw, and the records from the words that it has
-- read. This project's own.
use Rattle.std.specs.Prelude.{ℕ, Bool, true, false, ◌&&◌, if◌then◌else◌, List, [], ◌∷◌, ◌++◌, Option, Some, None}
use Rattle.mon_types.specs.Shape.{Shape}
use Rattle.mon_types.specs.Replies.{is_done}
use Rattle.mon_types.specs.declared.call.Call.{Call}
use Rattle.mon_types.specs.declared.call.Call.TheVariants as calls
use Rattle.mon_types.specs.declared.reply.Reply.{Reply}
use Rattle.mon_model.specs.State.{State}
use Rattle.mon_model.specs.OnCore.{clears}
use Rattle.core_context.specs.declared.after.After.{After}
use Rattle.core_context.specs.declared.after.After.TheVariants as afters
use Rattle.core_context.specs.declared.origin.Origin.{Origin}
use Rattle.core_context.specs.Changes.{ok_change}
use Rattle.core_context.specs.Origins.{is_by_line, contexts_by}
use Rattle.core_access.specs.declared.route.Space.{Space}
use Rattle.mon_records.specs.Rows.{Found}
use Rattle.mon_records.specs.Rebuilt.{state_of}
use Rattle.protocol.specs.declared.action.Action.{Action}
use Rattle.protocol.specs.declared.action.Action.TheVariants as actions
use Rattle.protocol.specs.declared.action.Move.TheVariants as moves
use Rattle.protocol.specs.declared.action.Outcome.{Outcome}
use Rattle.protocol.specs.declared.action.Outcome.TheVariants as outcomes
use Rattle.protocol.specs.CallTree.{Tree, Over, Makes, number_in, call_tree}
use Rattle.core_behaviour.specs.Course.{Course, Acts}
use Rattle.core_behaviour.specs.Core.{Core, Exit, mode_now, issuer_now, made}

-- ---- its moves

-- The moves of a call of which this tree is left and these were made, the newest first. What follows the call has the
-- core after all of them, and them.
unfoldable pub in_call : Tree → List (Action × Outcome) → Core → (Core → List (Action × Outcome) → Course) → Course
in_call Over before c next = next c before
in_call (Makes action follows) before c next =
    Acts (moves.InCall action) (λ outcome.
    in_call (follows outcome) ((action, outcome) ∷ before) (made c (moves.InCall action) outcome) next)

-- ---- what they tell

-- the reply that a Draw fixes; other moves leave what the moves before them have fixed
abbrev pub reply_by : Action → Option Reply → Option Reply
reply_by (actions.Draw draft) earlier = Some draft.reply
reply_by _ earlier = earlier

-- the reply of a call that has made these moves
unfoldable pub reply_in : List (Action × Outcome) → Option Reply
reply_in [] = None
reply_in (m ∷ ms) = reply_by m.0 (reply_in ms)

-- one word more at the end of the row that was begun last
abbrev pub with_word_read : Found → ℕ → Found
with_word_read [] word = []
with_word_read (row ∷ rows) word = (row.0, row.1 ++ word ∷ []) ∷ rows

-- the rows that were found, after one move more: a lock that is taken begins a row, and a Read gives its next word
abbrev pub found_by : Action → Outcome → Found → Found
found_by (actions.TryLock o) outcomes.Taken found = (o, []) ∷ found
found_by (actions.Read o at) outcome found = with_word_read found (number_in outcome)
found_by _ _ found = found

-- the rows that a call has found by these moves, the newest first
unfoldable pub found_in : List (Action × Outcome) → Found
found_in [] = []
found_in (m ∷ ms) = found_by m.0 m.1 (found_in ms)

-- ---- what they leave of the core

-- what Ok of the call does to the core, in the state that is rebuilt from the rows that it has found; a refusal nothing
abbrev pub change_by : Bool → State → ℕ → Call → After
change_by true known number call = ok_change known number call
change_by false known number call = afters.Nothing

-- satp after Ok of a call: set_satp sets it
abbrev pub satp_after : Call → ℕ → ℕ
satp_after (calls.SetSatp v) satp = v
satp_after _ satp = satp

-- whether a line made the last Ok enter, after Ok of a call: an enter decides it
abbrev pub by_line_after : Origin → Call → Bool → Bool
by_line_after origin (calls.Enter e t) by_line = is_by_line origin
by_line_after origin _ by_line = by_line

-- the addresses and the root of the enclave that the core is inside: those of the one that it has entered
abbrev pub space_after : After → Space → Space
space_after (afters.Entered entry sp base size root saved) space = record { base = base; size = size; root = root }
space_after _ space = space

-- the pending exit: it ends where the enclave was left
abbrev pub pending_after : After → Option Exit → Option Exit
pending_after afters.Left pending = None
pending_after _ pending = pending

-- The core after a call that did this to it and had this reply. Ok of flush, enter, exit, aex and set_satp empties the
-- translation cache; the touches are read off the log, where its entry stands.
abbrev pub left_by : Origin → Call → After → Reply → Core → Core
left_by origin call change reply c =
    let ok = is_done reply in
    record c {
      contexts = contexts_by origin call change reply c.contexts;
      satp = if ok then satp_after call c.satp else c.satp;
      space = space_after change c.space;
      by_line = if ok then by_line_after origin call c.by_line else c.by_line;
      cache = if ok && clears call then [] else c.cache;
      pending = pending_after change c.pending;
    }

-- the same, where the call had a reply; each has, since each draws its ticket
abbrev pub left_if : Origin → Call → State → Option Reply → Core → Core
left_if origin call known None c = c
left_if origin call known (Some reply) c =
    left_by origin call (change_by (is_done reply) known c.number call) reply c

-- ---- the call

-- a call that a core makes on a machine of this shape, in its present mode, and what follows it
abbrev pub called : Shape → Origin → Call → Core → (Core → Course) → Course
called shape origin call c next =
    in_call (call_tree shape (issuer_now c) call) [] c (λ d ms.
    next (left_if origin call (state_of shape (mode_now c) (found_in ms)) (reply_in ms) d))
