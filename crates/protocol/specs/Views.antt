-- A core's view: the list of its moves with their outcomes, as plain data, and what is read off it. This project's own.
use Rattle.std.specs.Prelude.{ℕ, Bool, true, false, if◌then◌else◌, List, [], ◌∷◌, ◌++◌, drop, length, Option, Some, None}
use Rattle.mon_types.specs.Locks.{lock_word}
use Rattle.mon_types.specs.declared.thread.Mode.{Mode}
use Rattle.mon_types.specs.declared.object.ObjectId.{ObjectId}
use Rattle.hist.specs.declared.event.Entry.{Entry}
use Rattle.hist.specs.declared.event.Event.{Event}
use Rattle.hist.specs.declared.event.Event.TheVariants as events
use Rattle.hist.specs.History.{entries_of}
use Rattle.hist.specs.SafeLog.{mode_after}
use Rattle.hist.specs.Touched.{is_touched}
use Rattle.core_access.specs.Looks.{since_in_word}
use Rattle.protocol.specs.declared.action.Action.{Action}
use Rattle.protocol.specs.declared.action.Action.TheVariants as actions
use Rattle.protocol.specs.declared.action.Draft.{Draft}
use Rattle.protocol.specs.declared.action.Move.{Move}
use Rattle.protocol.specs.declared.action.Move.TheVariants as moves
use Rattle.protocol.specs.declared.action.Outcome.{Outcome}
use Rattle.protocol.specs.declared.action.Outcome.TheVariants as outcomes
use Rattle.protocol.specs.CallTree.{Issuer, number_in, behind_first}

-- a core's moves with their outcomes, the newest first
abbrev pub Moves : Type 0
Moves = List (Move × Outcome)

-- a core's view
pub record View : Type 0 where
  pub core : ℕ
  pub moves : Moves

-- ---- what it holds

-- The objects that are held after a move of a call, the last taken first: an Unlock gives back that one, as each call
-- does.
unfoldable pub held_by : Action → Outcome → List ObjectId → List ObjectId
held_by (actions.TryLock o) outcomes.Taken held = o ∷ held
held_by (actions.TryLock o) _ held = held
held_by (actions.Read o i) out held = held
held_by (actions.Write o i value) out held = held
held_by (actions.Draw draft) out held = held
held_by (actions.Unlock o) out held = behind_first held
held_by (actions.Load i) out held = held
held_by (actions.Store i value) out held = held

-- after any move
unfoldable pub held_after : Move → Outcome → List ObjectId → List ObjectId
held_after (moves.InCall a) out held = held_by a out held
held_after (moves.Look r owner) out held = held
held_after (moves.Load i) out held = held
held_after (moves.Store i value) out held = held
held_after (moves.Swap i loaded value) out held = held
held_after (moves.Stop line why) out held = held

-- the objects that a core holds
unfoldable pub held_of : Moves → List ObjectId
held_of [] = []
held_of (m ∷ ms) = held_after m.0 m.1 (held_of ms)

-- ---- its log

-- the entry that a core's Draw makes of a draft
abbrev pub entry_of : ℕ → Draft → ℕ → Entry
entry_of core draft ticket =
    record {
      ticket = ticket;
      core = core;
      serial = draft.serial;
      call = draft.call;
      page = draft.page;
      reply = draft.reply;
      tried = draft.tried;
    }

-- a good look at a period is a touch where the period is not touched since the last clearing entry
unfoldable pub touch_in : ℕ → Option ℕ → List Event → List Event
touch_in r None log = []
touch_in r (Some a) log = if is_touched r a log then [] else events.Touch r a ∷ []

-- what a move of a call adds to the log
unfoldable pub logged_by : ℕ → Action → Outcome → List Event
logged_by core (actions.TryLock o) out = []
logged_by core (actions.Read o i) out = []
logged_by core (actions.Write o i value) out = []
logged_by core (actions.Draw draft) out = events.Entry (entry_of core draft (number_in out)) ∷ []
logged_by core (actions.Unlock o) out = []
logged_by core (actions.Load i) out = []
logged_by core (actions.Store i value) out = []

-- what any move adds
unfoldable pub logged : ℕ → List Event → Move → Outcome → List Event
logged core log (moves.InCall a) out = logged_by core a out
logged core log (moves.Look r owner) out = touch_in r (since_in_word owner (number_in out)) log
logged core log (moves.Load i) out = []
logged core log (moves.Store i value) out = []
logged core log (moves.Swap i loaded value) out = []
logged core log (moves.Stop line why) out = events.Stop line why ∷ []

-- a core's log with what one more move adds
abbrev pub log_with : ℕ → Move × Outcome → List Event → List Event
log_with core m log = log ++ logged core log m.0 m.1

-- the log of a core that has made these moves, the oldest event first
unfoldable pub core_log : ℕ → Moves → List Event
core_log core [] = []
core_log core (m ∷ ms) = log_with core m (core_log core ms)

-- its entries
abbrev pub entries_in : ℕ → Moves → List Entry
entries_in core ms = entries_of (core_log core ms)

-- whether it has touched the period (r, a) since its last clearing entry
abbrev pub has_touched : ℕ → Moves → ℕ → ℕ → Bool
has_touched core ms r a = is_touched r a (core_log core ms)

-- the serial of the entry that it logs next
abbrev pub next_serial : ℕ → Moves → ℕ
next_serial core ms = length (entries_in core ms)

-- for whom it runs by its entries
abbrev pub mode_in : ℕ → Moves → Mode
mode_in core ms = mode_after (entries_in core ms)

-- ---- its answers: the words of looks and loads, and the words that refused swaps have found

-- the word of an outcome
unfoldable pub word_in : Outcome → List ℕ
word_in (outcomes.Word word) = word ∷ []
word_in _ = []

-- the word that a swap has found
unfoldable pub word_again : Outcome → List ℕ
word_again (outcomes.Again loaded found) = found ∷ []
word_again _ = []

-- those of a move of a call
unfoldable pub answered_by : Action → Outcome → List ℕ
answered_by (actions.TryLock o) out = []
answered_by (actions.Read o i) out = []
answered_by (actions.Write o i value) out = []
answered_by (actions.Draw draft) out = []
answered_by (actions.Unlock o) out = []
answered_by (actions.Load i) out = word_in out
answered_by (actions.Store i value) out = []

-- those of any move
unfoldable pub answered : Move → Outcome → List ℕ
answered (moves.InCall a) out = answered_by a out
answered (moves.Look r owner) out = word_in out
answered (moves.Load i) out = word_in out
answered (moves.Store i value) out = []
answered (moves.Swap i loaded value) out = word_again out
answered (moves.Stop line why) out = []

-- a core's answers, the oldest first
unfoldable pub answers_of : Moves → List ℕ
answers_of [] = []
answers_of (m ∷ ms) = answers_of ms ++ answered m.0 m.1

-- ---- the call under way

-- whether a move of a call is its last, where these objects are held after it: the Draw where none is held, and else
-- the Unlock that leaves none held
unfoldable pub is_last : Action → List ObjectId → Bool
is_last (actions.Draw draft) [] = true
is_last (actions.Unlock o) [] = true
is_last _ _ = false

-- the moves of the call under way after one more move, where these were its moves before
unfoldable pub call_with : Move → Outcome → List ObjectId → List (Action × Outcome) → List (Action × Outcome)
call_with (moves.InCall a) out held call = if is_last a held then [] else (a, out) ∷ call
call_with (moves.Look r owner) out held call = call
call_with (moves.Load i) out held call = call
call_with (moves.Store i value) out held call = call
call_with (moves.Swap i loaded value) out held call = call
call_with (moves.Stop line why) out held call = call

-- the moves of the call under way with their outcomes, the newest first; none where no call is under way
unfoldable pub call_moves : Moves → List (Action × Outcome)
call_moves [] = []
call_moves (m ∷ ms) = call_with m.0 m.1 (held_of (m ∷ ms)) (call_moves ms)

-- whether there are any
unfoldable pub are_any : List (Action × Outcome) → Bool
are_any [] = false
are_any (m ∷ ms) = true

-- whether a call is under way
abbrev pub is_calling : Moves → Bool
is_calling ms = are_any (call_moves ms)

-- the moves of a call that come before a move: it was the newest of them, or none of them
unfoldable pub actions_before : Move → List (Action × Outcome) → List (Action × Outcome)
actions_before (moves.InCall a) call = drop 1 call
actions_before (moves.Look r owner) call = call
actions_before (moves.Load i) call = call
actions_before (moves.Store i value) call = call
actions_before (moves.Swap i loaded value) call = call
actions_before (moves.Stop line why) call = call

-- what is left of a core's moves before all these of a call, which are among the newest
unfoldable pub moves_before : List (Action × Outcome) → Moves → Moves
moves_before call [] = []
moves_before [] (m ∷ ms) = m ∷ ms
moves_before (a ∷ call) (m ∷ ms) = moves_before (actions_before m.0 (a ∷ call)) ms

-- the moves before the first of the call under way; all, where none is
unfoldable pub before_call : Moves → Moves
before_call ms = moves_before (call_moves ms) ms

-- the core as it was before the first move of the call under way, or as it is where none is
unfoldable pub issuer_of : ℕ → Moves → Issuer
issuer_of core ms =
    record {
      core = core;
      serial = next_serial core (before_call ms);
      mode = mode_in core (before_call ms);
      answers = length (answers_of (before_call ms));
    }

-- whether a move is a Draw
abbrev pub is_draw : Action → Bool
is_draw (actions.Draw draft) = true
is_draw _ = false

-- whether a call that has made these moves has its ticket
unfoldable pub has_drawn : List (Action × Outcome) → Bool
has_drawn [] = false
has_drawn (m ∷ ms) = if is_draw m.0 then true else has_drawn ms

-- the lock word of the call under way, or of the next
abbrev pub own_lock_word : ℕ → Moves → ℕ
own_lock_word core ms = lock_word core (issuer_of core ms).serial
