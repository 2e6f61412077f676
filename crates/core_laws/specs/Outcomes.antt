-- Which outcomes a move may have: those of its kind, whose words are words of 64 bits and whose tickets have 32. This
-- project's own.
use Rattle.std.specs.Prelude.{ℕ, ◌<◌, ◌^◌, ⊤, [], ◌∷◌}
use Rattle.protocol.specs.declared.action.Action.{Action}
use Rattle.protocol.specs.declared.action.Action.TheVariants as actions
use Rattle.protocol.specs.declared.action.Move.{Move}
use Rattle.protocol.specs.declared.action.Move.TheVariants as moves
use Rattle.protocol.specs.declared.action.Outcome.{Outcome}
use Rattle.protocol.specs.declared.action.Outcome.TheVariants as outcomes
use Rattle.protocol.specs.Views.{Moves}

-- a word of 64 bits
abbrev pub IsWord : ℕ → Type 0
IsWord word = word < 2 ^ 64

-- a lock is taken, or it was found held
abbrev pub IsTried : Outcome → Type 0
IsTried outcomes.Taken = ⊤
IsTried (outcomes.HeldBy core serial) = IsWord core × IsWord serial
IsTried (outcomes.Word word) = ⊥
IsTried (outcomes.Ticket ticket) = ⊥
IsTried outcomes.Done = ⊥
IsTried (outcomes.Again loaded found) = ⊥

-- a word was found
abbrev pub IsFound : Outcome → Type 0
IsFound outcomes.Taken = ⊥
IsFound (outcomes.HeldBy core serial) = ⊥
IsFound (outcomes.Word word) = IsWord word
IsFound (outcomes.Ticket ticket) = ⊥
IsFound outcomes.Done = ⊥
IsFound (outcomes.Again loaded found) = ⊥

-- a ticket was drawn
abbrev pub IsTicket : Outcome → Type 0
IsTicket outcomes.Taken = ⊥
IsTicket (outcomes.HeldBy core serial) = ⊥
IsTicket (outcomes.Word word) = ⊥
IsTicket (outcomes.Ticket ticket) = ticket < 2 ^ 32
IsTicket outcomes.Done = ⊥
IsTicket (outcomes.Again loaded found) = ⊥

-- a word was stored, or a core has stopped
abbrev pub IsDone : Outcome → Type 0
IsDone outcomes.Taken = ⊥
IsDone (outcomes.HeldBy core serial) = ⊥
IsDone (outcomes.Word word) = ⊥
IsDone (outcomes.Ticket ticket) = ⊥
IsDone outcomes.Done = ⊤
IsDone (outcomes.Again loaded found) = ⊥

-- a word was swapped for another, or one was found that is not the loaded one
abbrev pub IsSwapped : Outcome → Type 0
IsSwapped outcomes.Taken = ⊥
IsSwapped (outcomes.HeldBy core serial) = ⊥
IsSwapped (outcomes.Word word) = ⊥
IsSwapped (outcomes.Ticket ticket) = ⊥
IsSwapped outcomes.Done = ⊤
IsSwapped (outcomes.Again loaded found) = IsWord found

-- what a move of a call may answer
abbrev pub ActionMayAnswer : Action → Outcome → Type 0
ActionMayAnswer (actions.TryLock o) outcome = IsTried outcome
ActionMayAnswer (actions.Read o i) outcome = IsFound outcome
ActionMayAnswer (actions.Write o i word) outcome = IsDone outcome
ActionMayAnswer (actions.Draw draft) outcome = IsTicket outcome
ActionMayAnswer (actions.Unlock o) outcome = IsDone outcome
ActionMayAnswer (actions.Load i) outcome = IsFound outcome
ActionMayAnswer (actions.Store i word) outcome = IsDone outcome

-- what any move may answer
abbrev pub MayAnswer : Move → Outcome → Type 0
MayAnswer (moves.InCall action) outcome = ActionMayAnswer action outcome
MayAnswer (moves.Look r owner) outcome = IsFound outcome
MayAnswer (moves.Load i) outcome = IsFound outcome
MayAnswer (moves.Store i word) outcome = IsDone outcome
MayAnswer (moves.Swap i loaded word) outcome = IsSwapped outcome
MayAnswer (moves.Stop line why) outcome = IsDone outcome

-- each of these moves has an outcome that it may have
abbrev pub AreAnswered : Moves → Type 0
AreAnswered [] = ⊤
AreAnswered (m ∷ ms) = MayAnswer m.0 m.1 × AreAnswered ms
