-- What a call has still to do, as a tree of moves, by all that it keeps. This project's own.
use Rattle.std.specs.Prelude.{◌≡◌, ℕ, ◌+◌, ◌-◌, ⊤, List, [], ◌∷◌, ◌++◌, length, map, take, drop, Option, Some, if◌then◌else◌}
use Rattle.mon_types.specs.Shape.{Shape}
use Rattle.mon_types.specs.Objects.{width}
use Rattle.mon_types.specs.Replies.{is_done}
use Rattle.mon_types.specs.Sizes.{page_words}
use Rattle.mon_types.specs.declared.call.Call.{Call}
use Rattle.mon_types.specs.declared.call.Call.TheVariants as calls
use Rattle.mon_types.specs.declared.reply.Reply.{Reply}
use Rattle.mon_types.specs.declared.object.ObjectId.{ObjectId}
use Rattle.mon_model.specs.State.{State}
use Rattle.mon_model.specs.Tries.{freed_by}
use Rattle.dram_map.specs.Addresses.{first_word}
use Rattle.sv39_pte.specs.Tables.{last_place}
use Rattle.mon_enclaves.specs.LoadReply.{va_of, source_of}
use Rattle.core_context.specs.declared.after.After.{After}
use Rattle.core_context.specs.declared.after.After.TheVariants as afters
use Rattle.core_context.specs.Changes.{ok_change}
use Rattle.hist.specs.declared.event.PageInput.{PageInput}
use Rattle.hist.specs.History.{digest_of}
use Rattle.loaded_pages.specs.Content.{loaded_pte}
use Rattle.mon_calls.specs.Left.{left_by}
use Rattle.mon_records.specs.Rows.{Found, objects_of}
use Rattle.mon_records.specs.Rebuilt.{state_of}
use Rattle.mon_records.specs.Answers.{freed}
use Rattle.protocol.specs.declared.action.Action.{Action}
use Rattle.protocol.specs.declared.action.Action.TheVariants as actions
use Rattle.protocol.specs.declared.action.Draft.{Draft}
use Rattle.protocol.specs.declared.action.Outcome.{Outcome}
use Rattle.protocol.specs.Moves.{action_outcome}
use Rattle.protocol.specs.CallTree.{Tree, Over, Makes, Issuer, number_in, then_, zeros, words_freed, reads, copy_words, page_read, put_pte, walk, loaded, lock, lock_all, lock_plan, plan_of, decided, call_tree}
use Rattle.protocol.specs.Views.{Moves, call_moves, issuer_of}
use Rattle.protocol.specs.Permitted.{Follows}
use Rattle.core_behaviour.specs.Called.{found_by}
use Rattle.call_machine.specs.declared.phase.Phase.{Phase}
use Rattle.call_machine.specs.declared.phase.Phase.TheVariants as phases
use Rattle.call_machine.specs.declared.work.Work.{Work}
use Rattle.call_machine.specs.Found.{widths, found_with, held_rows}
use Rattle.call_machine.specs.Rest.{places, writes_from, early_rest, region_words_from, unlocks_of}

-- ---- what it has found

-- the core as it was before the call
abbrev pub issuer : Work → Issuer
issuer w = record { core = w.core; serial = w.serial; mode = w.mode; answers = w.answers }

-- the objects that it holds, in the order in which they were taken
abbrev pub objects_in : Work → List ObjectId
objects_in w = map (λ l. l.object) w.locks.items

-- what it has found in their rows
abbrev pub found : Work → Found
found w = found_with (objects_in w) w.stood.items []

-- the state that it rebuilds from that
abbrev pub known : Work → State
known w = state_of w.config w.mode (found w)

-- the words so far of a row that is being read
abbrev pub row_part : Work → List ℕ
row_part w = drop (widths (objects_in w)) w.stood.items

-- page-table entries with their places
unfoldable pub with_places : List ℕ → List ℕ → List (ℕ × ℕ)
with_places [] ptes = []
with_places (p ∷ ps) [] = []
with_places (p ∷ ps) (x ∷ xs) = (p, x) ∷ with_places ps xs

-- those that it has loaded
abbrev pub ptes_in : Work → List (ℕ × ℕ)
ptes_in w = with_places w.places.items w.ptes.items

-- ---- locks

-- the locks that are left, once the rows of some were read: those of the plan behind as many
unfoldable pub goes_on : Shape → Issuer → Call → Found → Tree
goes_on shape by call [] = lock_plan shape by call (plan_of shape by call []) (decided shape by call)
goes_on shape by call (p ∷ ps) =
    lock_all by call (drop (length (objects_of (p ∷ ps))) (plan_of shape by call (p ∷ ps))) (p ∷ ps)
    (decided shape by call)

-- ---- the Draw

-- the draft of the Draw
abbrev pub draft_with : Work → Option PageInput → Draft
draft_with w page = record { serial = w.serial; call = w.call; page = page; reply = w.reply; tried = w.tried }

-- what follows the Draw of an Ok call, where these words stand in the rows
unfoldable pub drawn : Work → Option PageInput → List ℕ → ℕ → Tree
drawn w page stood ticket =
    zeros (words_freed w.config (freed w.reply w.call))
    (writes_from (places (objects_in w)) stood (held_rows (left_by w.mode w.call (digest_of page) ticket w.held)) 0
    (unlocks_of (objects_in w)))

-- that Draw, and what follows
unfoldable pub draws : Work → Option PageInput → List ℕ → Tree
draws w page stood = Makes (actions.Draw (draft_with w page)) (λ outcome. drawn w page stood (number_in outcome))

-- the Draw of a refusal
unfoldable pub refuses : Work → Tree
refuses w = then_ (actions.Draw (draft_with w w.input)) (unlocks_of (objects_in w))

-- ---- the page that is copied

-- the page that a load_page fills; for any other call 0
abbrev pub target_of : Call → ℕ
target_of (calls.LoadPage e va page src perms) = page
target_of _ = 0

-- the pte and the Draw, once these words of the page were read
unfoldable pub copied : Work → List ℕ → Tree
copied w words =
    put_pte (last_place w.places.items) w.call
    (draws w (Some (page_read (w.answers + length w.ptes.items) words)) w.stood.items)

-- the words from this one on, and then these
unfoldable pub copies : Work → ℕ → Tree
copies w at =
    copy_words (page_words - at) at (source_of w.call) (target_of w.call) (λ words. copied w (w.page.items ++ words))

-- ---- the call

-- by its phase
unfoldable pub phase_tree : Work → Phase → Tree
phase_tree w (phases.Tries o) = lock (issuer w) w.call (found w) o (goes_on w.config (issuer w) w.call)
phase_tree w (phases.Reads o at) =
    reads o (width o - at) at (λ words. goes_on w.config (issuer w) w.call ((o, row_part w ++ words) ∷ found w))
phase_tree w (phases.Walks page level left) =
    walk w.config (va_of w.call) level left page
    (λ rest. loaded (issuer w) w.call (known w) (found w) (ptes_in w ++ rest))
phase_tree w (phases.Loads at) = copies w at
phase_tree w (phases.Stores at word) =
    then_ (actions.Store (first_word (target_of w.call) + at) word) (copies w (at + 1))
phase_tree w (phases.Puts place) =
    then_ (actions.Store place (loaded_pte w.call)) (draws w w.input w.stood.items)
phase_tree w (phases.Early at) =
    early_rest w.call (objects_in w) (drop at w.held.regions.items) w.stood.items (draws w w.input)
phase_tree w phases.Refuses = refuses w
phase_tree w phases.Draws = draws w w.input w.stood.items
phase_tree w (phases.Zeros word) =
    zeros (region_words_from w.config (freed_by w.call) word)
    (writes_from (places (objects_in w)) w.stood.items w.wanted.items 0 (unlocks_of (objects_in w)))
phase_tree w (phases.Late at) =
    writes_from (places (objects_in w)) w.stood.items w.wanted.items at (unlocks_of (objects_in w))
phase_tree w (phases.Unlocks left) = unlocks_of (take left (objects_in w))
phase_tree w phases.Over = Over

-- all that it has still to do
abbrev pub tree_of : Work → Tree
tree_of w = phase_tree w w.phase

-- ---- one move

-- the action is the first of the tree
abbrev pub Heads : Tree → Action → Type 0
Heads Over action = ⊥
Heads (Makes first next) action = action ≡ first

-- the outcome is one of the first action of the tree
abbrev pub IsOutcome : Tree → Outcome → Type 0
IsOutcome Over outcome = ⊥
IsOutcome (Makes action next) outcome = (word : ℕ) × (outcome ≡ action_outcome action word)

-- the call under way of a core that has made these moves may be this one, and its moves lead to what is left
abbrev pub LedTo : Work → ℕ → Moves → Type 0
LedTo w core ms = Follows (call_tree w.config (issuer_of core ms) w.call) (call_moves ms) (tree_of w)

-- what is left after it
abbrev pub after : Tree → Outcome → Tree
after Over outcome = Over
after (Makes action next) outcome = next outcome

-- ---- what it finds

-- what it has found so far in a phase, with the words of a row that is being read
abbrev pub phase_found : Work → Phase → Found
phase_found w (phases.Reads o at) = (o, row_part w) ∷ found w
phase_found w _ = found w

-- what it has found so far
abbrev pub so_far : Work → Found
so_far w = phase_found w w.phase

-- what is found with the outcome of the move of this phase; not said where own-words were written, nor from the Draw on
abbrev pub PhaseFinds : Work → Phase → Outcome → Found → Type 0
PhaseFinds w (phases.Tries o) outcome now = now ≡ found_by (actions.TryLock o) outcome (found w)
PhaseFinds w (phases.Reads o at) outcome now =
    now ≡ found_by (actions.Read o at) outcome ((o, row_part w) ∷ found w)
PhaseFinds w (phases.Walks page level left) outcome now = now ≡ found w
PhaseFinds w (phases.Loads at) outcome now = now ≡ found w
PhaseFinds w (phases.Stores at word) outcome now = now ≡ found w
PhaseFinds w (phases.Puts place) outcome now = now ≡ found w
PhaseFinds w _ outcome now = ⊤

-- What is found with the outcome of the first move of the tree, where this was found before, in these whole rows. At a
-- Draw it is all in whole rows. Not said of a Write, nor of the moves behind the Draw.
unfoldable pub IsFoundBy : Tree → Outcome → Found → Found → Found → Type 0
IsFoundBy Over outcome before rows now = ⊤
IsFoundBy (Makes (actions.TryLock o) next) outcome before rows now = now ≡ found_by (actions.TryLock o) outcome before
IsFoundBy (Makes (actions.Read o i) next) outcome before rows now = now ≡ found_by (actions.Read o i) outcome before
IsFoundBy (Makes (actions.Write o i word) next) outcome before rows now = ⊤
IsFoundBy (Makes (actions.Draw draft) next) outcome before rows now = rows ≡ before
IsFoundBy (Makes (actions.Unlock o) next) outcome before rows now = ⊤
IsFoundBy (Makes (actions.Load i) next) outcome before rows now = now ≡ before
IsFoundBy (Makes (actions.Store i word) next) outcome before rows now = now ≡ before

-- ---- the end

-- what a call with this reply does to its core, by the records that it has found
abbrev pub change_by : Work → Reply → After
change_by w reply = if is_done reply then ok_change (known w) w.core w.call else afters.Nothing

-- the reply, and what it does to the core, once the Draw has fixed them
unfoldable pub ends_after : Work → Tree → Option (Reply × After)
ends_after w Over = w.ends
ends_after w (Makes (actions.TryLock o) next) = w.ends
ends_after w (Makes (actions.Read o i) next) = w.ends
ends_after w (Makes (actions.Write o i word) next) = w.ends
ends_after w (Makes (actions.Draw draft) next) = Some (draft.reply, change_by w draft.reply)
ends_after w (Makes (actions.Unlock o) next) = w.ends
ends_after w (Makes (actions.Load i) next) = w.ends
ends_after w (Makes (actions.Store i word) next) = w.ends
