-- What a call may still do to the log and the answers of its core, by its tree. This project's own.
use Rattle.std.specs.Prelude.{◌≡◌, ℕ, suc, ◌-◌, ◌<◌, ⊤, true, None}
use Rattle.mon_types.specs.Shape.{Shape}
use Rattle.mon_types.specs.Replies.{is_done}
use Rattle.mon_types.specs.declared.thread.Mode.{Mode}
use Rattle.mon_types.specs.declared.call.Call.{Call}
use Rattle.mon_types.specs.declared.call.Call.TheVariants as calls
use Rattle.mon_model.specs.State.{State}
use Rattle.mon_model.specs.Early.{early}
use Rattle.core_context.specs.Changes.{ok_change}
use Rattle.protocol.specs.declared.action.Action.TheVariants as actions
use Rattle.protocol.specs.declared.action.Draft.{Draft}
use Rattle.protocol.specs.declared.action.Outcome.TheVariants as outcomes
use Rattle.protocol.specs.Moves.{try_outcome}
use Rattle.protocol.specs.CallTree.{Tree, Over, Makes, Issuer, call_tree}

-- what Ok of the call does to its core does not depend on the state
abbrev pub IsSettled : Call → Type 0
IsSettled call = (s t : State) (core : ℕ) → ok_change s core call ≡ ok_change t core call

-- the draft is of this call, and Ok only where the call is not refused before it tries any object
pub record IsDraftOf (shape : Shape) (mode : Mode) (call : Call) (draft : Draft) : Type 0 where
  pub of_call : draft.call ≡ call
  pub ok : is_done draft.reply ≡ true → early shape mode call ≡ None

-- the ticket is drawn: only words are written and stored, and locks given back
unfoldable pub IsEnding : Tree → Type 0
IsEnding Over = ⊤
IsEnding (Makes (actions.TryLock o) next) = ⊥
IsEnding (Makes (actions.Read o i) next) = ⊥
IsEnding (Makes (actions.Write o i word) next) = IsEnding (next outcomes.Done)
IsEnding (Makes (actions.Draw draft) next) = ⊥
IsEnding (Makes (actions.Unlock o) next) = IsEnding (next outcomes.Done)
IsEnding (Makes (actions.Load i) next) = ⊥
IsEnding (Makes (actions.Store i word) next) = IsEnding (next outcomes.Done)

-- The ticket will be drawn, once, and so many words are loaded before at most. Own-words are written before it only by
-- calls that do the same to the core in every state.
unfoldable pub IsOpen : Shape → Mode → Call → ℕ → Tree → Type 0
IsOpen shape mode call n Over = ⊥
IsOpen shape mode call n (Makes (actions.TryLock o) next) =
    (word : ℕ) → IsOpen shape mode call n (next (try_outcome word))
IsOpen shape mode call n (Makes (actions.Read o i) next) =
    (word : ℕ) → IsOpen shape mode call n (next (outcomes.Word word))
IsOpen shape mode call n (Makes (actions.Write o i word) next) =
    IsSettled call × IsOpen shape mode call n (next outcomes.Done)
IsOpen shape mode call n (Makes (actions.Draw draft) next) =
    IsDraftOf shape mode call draft × ((before : ℕ) → IsEnding (next (outcomes.Ticket (suc before))))
IsOpen shape mode call n (Makes (actions.Unlock o) next) = ⊥
IsOpen shape mode call n (Makes (actions.Load i) next) =
    (0 < n) × ((word : ℕ) → IsOpen shape mode call (n - 1) (next (outcomes.Word word)))
IsOpen shape mode call n (Makes (actions.Store i word) next) = IsOpen shape mode call n (next outcomes.Done)

-- so many words a call loads at most: page-table entries on a path, and those of a page that it copies
abbrev pub most_loads : Call → ℕ
most_loads (calls.LoadTable e va level page) = 3
most_loads (calls.LoadPage e va page src perms) = 515
most_loads (calls.Reserve e va page perms) = 3
most_loads _ = 0

-- every call is open at its begin
abbrev pub CallsAreOpen : Type 0
CallsAreOpen = (shape : Shape) (by : Issuer) (call : Call)
    → IsOpen shape by.mode call (most_loads call) (call_tree shape by call)
