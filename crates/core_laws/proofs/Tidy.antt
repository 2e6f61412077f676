-- How a call's tree comes to its end, whatever outcomes its moves have of those that they may have: what it writes are
-- words, it draws one ticket, and it is over exactly behind its last move, where it has read whole rows.
use Rattle.std.proofs.Common.{◌≡◌, ◌<◌, ◌^◌, Bool, true, false, Option, Some, None, List}
use Rattle.std.specs.List.{AllByRecursion}
use Rattle.mon_types.specs.Shape.{Shape}
use Rattle.mon_types.specs.Objects.{width}
use Rattle.mon_types.specs.Replies.{is_done}
use Rattle.mon_types.specs.Words.{AreWords}
use Rattle.mon_types.specs.declared.call.Call.{Call}
use Rattle.mon_types.specs.declared.reply.Reply.{Reply}
use Rattle.mon_types.specs.declared.object.ObjectId.{ObjectId}
use Rattle.mon_model.specs.InRange.{IsInRange}
use Rattle.core_context.specs.GuestCalls.{reply_words}
use Rattle.mon_records.specs.Rows.{Found}
use Rattle.protocol.specs.declared.action.Action.{Action}
use Rattle.protocol.specs.declared.action.Action.TheVariants as actions
use Rattle.protocol.specs.declared.action.Outcome.{Outcome}
use Rattle.protocol.specs.declared.action.Outcome.TheVariants as outcomes
use Rattle.protocol.specs.CallTree.{Tree, Over, Makes, number_in}
use Rattle.protocol.specs.Views.{held_by, is_last}
use Rattle.core_behaviour.specs.Called.{reply_by, found_by}
use Rattle.core_laws.specs.Outcomes.{IsWord, IsFound, IsTicket, ActionMayAnswer}

-- the words that a guest is told of a reply
pub record IsReply (reply : Reply) : Type 0 where
  pub words : AllByRecursion IsWord (reply_words reply)

-- the rows that were found are whole
pub record AreRows (found : Found) : Type 0 where
  pub rows : AllByRecursion (λ p. AreWords (width p.0) p.1) found

-- a call has its reply
abbrev pub IsReplied : Option Reply → Type 0
IsReplied None = ⊥
IsReplied (Some reply) = IsReply reply

-- the draft of a Draw is that of this call, which had no reply before
pub record IsDraft (shape : Shape) (call : Call) (before : Option Reply) (of : Call) (answer : Reply) : Type 0 where
  pub first : before ≡ None
  pub of_call : of ≡ call
  pub reply : IsReply answer
  pub range : is_done answer ≡ true → IsInRange shape call

-- what a move of a call writes is a word
abbrev pub MakesFit : Shape → Call → Option Reply → Action → Type 0
MakesFit shape call reply (actions.TryLock o) = Unit {0}
MakesFit shape call reply (actions.Read o i) = Unit {0}
MakesFit shape call reply (actions.Write o i word) = IsWord word
MakesFit shape call reply (actions.Draw draft) = IsDraft shape call reply draft.call draft.reply
MakesFit shape call reply (actions.Unlock o) = Unit {0}
MakesFit shape call reply (actions.Load i) = Unit {0}
MakesFit shape call reply (actions.Store i word) = IsWord word

-- a call is over, with a reply and whole rows
pub record IsEnd (found : Found) (reply : Option Reply) (rest : Tree) : Type 0 where
  pub over : rest ≡ Over
  pub rows : AreRows found
  pub replied : IsReplied reply

-- A call that holds these objects, has found these rows and has this reply, if it has one, goes on by this tree.
abbrev pub IsTidy : Shape → Call → List ObjectId → Found → Option Reply → Tree → Type 0
IsTidy shape call held found reply Over = ⊥
IsTidy shape call held found reply (Makes a next) =
    MakesFit shape call reply a
    × ((out : Outcome) → ActionMayAnswer a out
    → (is_last a (held_by a out held) ≡ false → IsTidy shape call (held_by a out held) (found_by a out found) (reply_by a reply) (next out))
    × (is_last a (held_by a out held) ≡ true → IsEnd (found_by a out found) (reply_by a reply) (next out)))

-- ---- small helps

pub clash : {X : Type 0} → true ≡ false → X
clash e = absurd (cc)

-- a move that is not the last
pub goes : {T U : Type 0} (b : Bool) → b ≡ false → T → (b ≡ false → T) × (b ≡ true → U)
goes b f t = (λ e. t, λ e. absurd (cc))

-- the last move
pub ends : {T U : Type 0} (b : Bool) → b ≡ true → U → (b ≡ false → T) × (b ≡ true → U)
ends b f u = (λ e. absurd (cc), λ e. u)

-- the word of an outcome that gives one
pub word_less : (out : Outcome) → IsFound out → IsWord (number_in out)
word_less outcomes.Taken h = absurd h
word_less (outcomes.HeldBy core serial) h = absurd h
word_less (outcomes.Word word) h = h
word_less (outcomes.Ticket ticket) h = absurd h
word_less outcomes.Done h = absurd h
word_less (outcomes.Again loaded found) h = absurd h

-- the ticket
pub ticket_less : (out : Outcome) → IsTicket out → number_in out < 2 ^ 32
ticket_less outcomes.Taken h = absurd h
ticket_less (outcomes.HeldBy core serial) h = absurd h
ticket_less (outcomes.Word word) h = absurd h
ticket_less (outcomes.Ticket ticket) h = h
ticket_less outcomes.Done h = absurd h
ticket_less (outcomes.Again loaded found) h = absurd h
