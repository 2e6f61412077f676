-- What is read off what is kept holds of every world that a list of permitted moves gives.
use Rattle.std.proofs.Common.{◌≡◌, ◌<◌, ◌≤◌, ℕ, zero, suc, true, List, [], ◌∷◌, ap, refl, sym, subst, arith}
use Rattle.mon_types.specs.Shape.{Shape, is_shape}
use Rattle.mon_model.specs.State.{State}
use Rattle.hist.specs.declared.event.Entry.{Entry}
use Rattle.loaded_pages.specs.Content.{Content}
use Rattle.protocol.specs.declared.action.Move.{Move}
use Rattle.protocol.specs.Places.{Place, HasWord, Memory}
use Rattle.protocol.specs.Views.{Moves}
use Rattle.protocol.specs.Passes.{new_view, first_pass, views_of, view_count, PassesAreGiven}
use Rattle.protocol.specs.Permitted.{Permitted}
use Rattle.protocol.specs.Right.{Right}
use Rattle.protocol.specs.Runs.{Made, moves_of, memory_after}
use Rattle.protocol.specs.Moves.{action_place, place_of, word_found, action_outcome, outcome_of}
use Rattle.protocol.specs.declared.action.Move.TheVariants as moves
use Rattle.protocol.specs.Words.{IsPlaced}
use Rattle.protocol.specs.Worlds.{World, state_now, world_after}
use Rattle.protocol.specs.Logs.{EntriesAreLegal, LogsAreSafe}
use Rattle.protocol.specs.Records.{LocksNameHolders, FreeRowsStand, HeldRowsStand, OwnWordsAreTrue, TouchesHold}
use Rattle.protocol.specs.Contents.{LoadingHold, IdleHoldZeros}
use Rattle.protocol.specs.Invariant.{CallingDoes, GivenStands, MoveKeeps, PermittedHasRight, PermittedIsPlaced}
use Rattle.protocol_steps.specs.Laws.{Always, first_world, InvariantAtStart, CallsGoOn}
use Rattle.protocol_steps.proofs.Ending.{left_with}
use Rattle.protocol_steps.proofs.Everything.{Everything, reached, item_10}
use Rattle.protocol_steps.proofs.Items.{some_core, state_is, item_2, item_3, item_4, item_6, item_7}
use Rattle.protocol_steps.proofs.Words.{item_5, item_8, item_9}
use Rattle.protocol_steps.proofs.Rights.{has_right, none_made}
use Rattle.protocol_steps.proofs.Passed.{is_placed, live_below, move_is_given}

-- it holds wherever all this is kept, and cores that are none of the machine's have made no move
abbrev pub HoldsThere : (Shape → World → Type 0) → Type 0
HoldsThere P =
    (shape : Shape) → is_shape shape ≡ true → (memory : Memory) (moved : ℕ → Moves) (h : List Entry) (s : State) (content : Content) → Everything shape memory moved h s content → (m : Memory) → ((p : Place) → HasWord shape p → m p ≡ memory p)
    → ((core : ℕ) → shape.cores ≤ core → moved core ≡ []) → P shape (record { memory = m; moves = moved })

same_world : (w : World) (moved : ℕ → Moves) → ((core : ℕ) → w.moves core ≡ moved core) → record { memory = w.memory; moves = moved } ≡ w
same_world w moved e = λ i. record { memory = w.memory; moves = λ core. sym (e core) i }

pub always : (P : Shape → World → Type 0) → HoldsThere P → Always P
always P follows shape is dram count w given =
    let run : List Made = given.0 in
    let at = reached shape is dram run given.1.permitted in
    subst (P shape) (same_world w (λ core. moves_of core run) given.1.moves)
    (follows shape is (memory_after shape dram run) (λ core. moves_of core run) at.h at.state at.content at.every w.memory given.1.words (λ core le. none_made shape dram run core given.1.permitted le))

pub always_2 : Always EntriesAreLegal
always_2 = always EntriesAreLegal (λ shape is memory moved h s content every m same none. item_2 shape is memory moved h s content every.all.kept m same)

pub always_3 : Always LocksNameHolders
always_3 = always LocksNameHolders (λ shape is memory moved h s content every m same none. item_3 shape is memory moved h s content every.all.kept m same)

pub always_4 : Always FreeRowsStand
always_4 = always FreeRowsStand (λ shape is memory moved h s content every m same none. item_4 shape is memory moved h s content every.all.kept m same)

pub always_5 : Always HeldRowsStand
always_5 = always HeldRowsStand (λ shape is memory moved h s content every m same none. item_5 shape is memory moved h s content every.all m same)

pub always_6 : Always OwnWordsAreTrue
always_6 = always OwnWordsAreTrue (λ shape is memory moved h s content every m same none. item_6 shape is memory moved h s content every.all.kept m same)

pub always_7 : Always TouchesHold
always_7 = always TouchesHold (λ shape is memory moved h s content every m same none. item_7 shape is memory moved h s content every.all.kept m same)

pub always_8 : Always LoadingHold
always_8 = always LoadingHold (λ shape is memory moved h s content every m same none. item_8 shape is memory moved h s content every.all m same)

pub always_9 : Always IdleHoldZeros
always_9 = always IdleHoldZeros (λ shape is memory moved h s content every m same none. item_9 shape is memory moved h s content every.all m same)

pub always_10 : Always LogsAreSafe
always_10 = always LogsAreSafe (λ shape is memory moved h s content every m same none. item_10 shape is memory moved h s content every none m same)

always_calling : Always CallingDoes
always_calling = always CallingDoes (λ shape is memory moved h s content every m same none core lt calls. (let more = every.all.more core lt in record { call = more.call; rest = more.rest; doing = record { follows = more.follows } }))

-- all of them
pub given_stands : GivenStands
given_stands shape is dram count w given = record {
  calling = always_calling shape is dram count w given;
  item_2 = always_2 shape is dram count w given;
  item_3 = always_3 shape is dram count w given;
  item_4 = always_4 shape is dram count w given;
  item_5 = always_5 shape is dram count w given;
  item_6 = always_6 shape is dram count w given;
  item_7 = always_7 shape is dram count w given;
  item_8 = always_8 shape is dram count w given;
  item_9 = always_9 shape is dram count w given;
  item_10 = always_10 shape is dram count w given;
}

-- each permitted move has its right
abbrev RightsHold : Shape → World → Type 0
RightsHold shape w = (core : ℕ) (move : Move) → core < shape.cores → Permitted shape core (w.moves core) move → Right (state_now shape w) core (w.moves core) move

rights_hold : HoldsThere RightsHold
rights_hold shape is memory moved h s content every m same none core move lt p =
    subst (λ z. Right z core (moved core) move) (sym (state_is shape is memory moved h s content every.all.kept m same)) (has_right shape is memory moved h s content every.all core lt move p)

pub permitted_has_right : PermittedHasRight
permitted_has_right = always RightsHold rights_hold

-- and acts on a word of the machine
abbrev PlacesHold : Shape → World → Type 0
PlacesHold shape w = (core : ℕ) (move : Move) → core < shape.cores → Permitted shape core (w.moves core) move → IsPlaced shape (place_of move)

places_hold : HoldsThere PlacesHold
places_hold shape is memory moved h s content every m same none core move lt p = is_placed shape is memory moved h s content every.all.kept core lt move p

pub permitted_is_placed : PermittedIsPlaced
permitted_is_placed = always PlacesHold places_hold

-- a move of a call leaves what follows its outcome
calls_go_on : HoldsThere CallsGoOn
unfolding outcome_of place_of word_found
calls_go_on shape is memory moved h s content every m same none core action lt p =
    left_with shape is memory moved h s content every.all.kept core lt action p (action_outcome action (m (action_place action)))
    (ap (action_outcome action) (same (action_place action) (is_placed shape is memory moved h s content every.all.kept core lt (moves.InCall action) p)))

pub always_go_on : Always CallsGoOn
always_go_on = always CallsGoOn calls_go_on

-- ---- a move keeps all

pub move_keeps : MoveKeeps
move_keeps shape is dram count passes w invariant core move live p =
    let first = invariant.item_1 in
    let low : core < shape.cores = (let few = first.few in let below = live_below core count passes live first.once.others in omega (arith, few, below)) in
    let next = move_is_given shape dram count passes w core move first live p (permitted_is_placed shape is dram count w first.given core move low p) in
    record { item_1 = next; others = given_stands shape is dram count (world_after w core move) next.given }

-- ---- the start

one_view : (core : ℕ) → core < 1 → view_count core (new_view 0 ∷ []) ≡ 1
one_view zero lt = refl
one_view (suc core) lt = absurd (omega arith)

start_given : (shape : Shape) → is_shape shape ≡ true → (dram : List ℕ) → PassesAreGiven shape dram 1 (first_pass ∷ []) (first_world shape dram)
unfolding views_of memory_after moves_of
start_given shape is dram = record {
  few = (let some = some_core shape is in omega (arith, some));
  counted = (refl, tt);
  once = record { once = one_view; others = (omega arith, tt) };
  views = (refl, tt);
  given = ([], record { permitted = tt; cores = tt; words = λ p has. refl; moves = λ core. refl });
}

pub invariant_at_start : InvariantAtStart
invariant_at_start shape is dram =
    let first = start_given shape is dram in
    record { item_1 = first; others = given_stands shape is dram 1 (first_world shape dram) first.given }
