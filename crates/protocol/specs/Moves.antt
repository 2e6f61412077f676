-- What each move does to the one word on which it acts, and what it answers. This project's own.
use Rattle.std.specs.Prelude.{◌≡◌, ◌≢◌, ℕ, zero, suc, ◌/◌, ◌%◌, ◌==◌, if◌then◌else◌, Option, Some, None}
use Rattle.mon_types.specs.declared.object.ObjectId.TheVariants as objects
use Rattle.protocol.specs.declared.action.Action.{Action}
use Rattle.protocol.specs.declared.action.Action.TheVariants as actions
use Rattle.protocol.specs.declared.action.Move.{Move}
use Rattle.protocol.specs.declared.action.Move.TheVariants as moves
use Rattle.protocol.specs.declared.action.Outcome.{Outcome}
use Rattle.protocol.specs.declared.action.Outcome.TheVariants as outcomes
use Rattle.protocol.specs.Places.{Place, Counter, Lock, Row, Dram, Memory, with_word}

-- ---- the word on which a move acts

-- of a call's move
unfoldable pub action_place : Action → Place
action_place (actions.TryLock o) = Lock o
action_place (actions.Read o i) = Row o i
action_place (actions.Write o i value) = Row o i
action_place (actions.Draw draft) = Counter
action_place (actions.Unlock o) = Lock o
action_place (actions.Load i) = Dram i
action_place (actions.Store i value) = Dram i

-- of any move; a look goes to the region's own-word, and a stop acts on none
unfoldable pub place_of : Move → Option Place
place_of (moves.InCall a) = Some (action_place a)
place_of (moves.Look r owner) = Some (Row (objects.Region r) 0)
place_of (moves.Load i) = Some (Dram i)
place_of (moves.Store i value) = Some (Dram i)
place_of (moves.Swap i loaded value) = Some (Dram i)
place_of (moves.Stop line why) = None

-- the word that a move finds; 0 stands for none
unfoldable pub word_found : Memory → Option Place → ℕ
word_found memory None = 0
word_found memory (Some p) = memory p

-- ---- what it answers, by the word that it finds

-- whose a lock word is that is not 0
abbrev pub holder_in : ℕ → Outcome
holder_in word = outcomes.HeldBy (word / 2 % 16) (word / 32)

-- a lock is taken where its word is 0
unfoldable pub try_outcome : ℕ → Outcome
try_outcome zero = outcomes.Taken
try_outcome (suc n) = holder_in (suc n)

-- a swap stores where it finds the word that was loaded, and else answers what it has found
unfoldable pub swap_outcome : ℕ → ℕ → Outcome
swap_outcome loaded found = if found == loaded then outcomes.Done else outcomes.Again loaded found

-- of a call's move; the new value of the counter is the ticket
unfoldable pub action_outcome : Action → ℕ → Outcome
action_outcome (actions.TryLock o) found = try_outcome found
action_outcome (actions.Read o i) found = outcomes.Word found
action_outcome (actions.Write o i value) found = outcomes.Done
action_outcome (actions.Draw draft) found = outcomes.Ticket (suc found)
action_outcome (actions.Unlock o) found = outcomes.Done
action_outcome (actions.Load i) found = outcomes.Word found
action_outcome (actions.Store i value) found = outcomes.Done

-- of any move
unfoldable pub outcome_of : Move → ℕ → Outcome
outcome_of (moves.InCall a) found = action_outcome a found
outcome_of (moves.Look r owner) found = outcomes.Word found
outcome_of (moves.Load i) found = outcomes.Word found
outcome_of (moves.Store i value) found = outcomes.Done
outcome_of (moves.Swap i loaded value) found = swap_outcome loaded found
outcome_of (moves.Stop line why) found = outcomes.Done

-- ---- the word that it leaves, by the one that it finds

-- a free lock gets the word of the call; a held one keeps its own
unfoldable pub try_leaves : ℕ → ℕ → ℕ
try_leaves mine zero = mine
try_leaves mine (suc n) = suc n

-- of a call's move, where `mine` is the call's lock word
unfoldable pub action_leaves : ℕ → Action → ℕ → ℕ
action_leaves mine (actions.TryLock o) found = try_leaves mine found
action_leaves mine (actions.Read o i) found = found
action_leaves mine (actions.Write o i value) found = value
action_leaves mine (actions.Draw draft) found = suc found
action_leaves mine (actions.Unlock o) found = 0
action_leaves mine (actions.Load i) found = found
action_leaves mine (actions.Store i value) found = value

-- of any move
unfoldable pub leaves : ℕ → Move → ℕ → ℕ
leaves mine (moves.InCall a) found = action_leaves mine a found
leaves mine (moves.Look r owner) found = found
leaves mine (moves.Load i) found = found
leaves mine (moves.Store i value) found = value
leaves mine (moves.Swap i loaded value) found = if found == loaded then value else found
leaves mine (moves.Stop line why) found = found

-- ---- the words after it

-- one word may be another at that place, if there is one
unfoldable pub left_at : Memory → Option Place → ℕ → Memory
left_at memory None word = memory
left_at memory (Some p) word = with_word memory p word

-- the words after a move
unfoldable pub memory_after_move : ℕ → Memory → Move → Memory
memory_after_move mine memory move =
    left_at memory (place_of move) (leaves mine move (word_found memory (place_of move)))

-- ---- what a swap's answer tells of its word

-- Done: the word that was found is the loaded one, and it is the value now
abbrev pub DoneIsStored : Type 0
DoneIsStored =
    (mine : ℕ) (memory : Memory) (i loaded value : ℕ)
    → outcome_of (moves.Swap i loaded value) (memory (Dram i)) ≡ outcomes.Done
    → (memory (Dram i) ≡ loaded) × (memory_after_move mine memory (moves.Swap i loaded value) (Dram i) ≡ value)

-- Again: the word that was found is another than the loaded one, and it stays
abbrev pub AgainIsLeft : Type 0
AgainIsLeft =
    (mine : ℕ) (memory : Memory) (i loaded value before found : ℕ)
    → outcome_of (moves.Swap i loaded value) (memory (Dram i)) ≡ outcomes.Again before found
    → (before ≡ loaded) × (memory (Dram i) ≡ found) × (found ≢ loaded)
    × (memory_after_move mine memory (moves.Swap i loaded value) (Dram i) ≡ found)
