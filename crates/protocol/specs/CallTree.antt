-- A monitor call as a tree of moves: what a core does next in it, for each outcome of the move before. The reply is
-- that of the sequential monitor in the state that is rebuilt from the words that the call has read, and for the calls
-- that load an enclave it is by the page-table entries (ptes) that they have loaded too; so no call is defined again
-- here. This project's own.
use Rattle.std.specs.Prelude.{ℕ, zero, suc, ◌+◌, ◌-◌, Bool, true, false, ◌==◌, List, [], ◌∷◌, map, drop, length, slice_index, filter, Option, Some, None}
use Rattle.std.specs.List.{range_with_len}
use Rattle.mon_types.specs.Shape.{Shape}
use Rattle.mon_types.specs.Sizes.{page_words}
use Rattle.mon_types.specs.Objects.{width}
use Rattle.mon_types.specs.Replies.{is_done}
use Rattle.mon_types.specs.declared.thread.Mode.{Mode}
use Rattle.mon_types.specs.declared.call.Call.{Call}
use Rattle.mon_types.specs.declared.call.Call.TheVariants as calls
use Rattle.mon_types.specs.declared.object.ObjectId.{ObjectId}
use Rattle.mon_types.specs.declared.object.ObjectId.TheVariants as objects
use Rattle.mon_types.specs.declared.reply.Reply.{Reply}
use Rattle.mon_types.specs.declared.reply.Reply.TheVariants as replies
use Rattle.mon_model.specs.State.{State, enclave_at}
use Rattle.mon_model.specs.Early.{early}
use Rattle.mon_model.specs.Measure.{page_digest}
use Rattle.mon_model.specs.Step.{reply_of, changed}
use Rattle.mon_model.specs.Tries.{tries, tried_set}
use Rattle.dram_map.specs.Addresses.{first_word, region_of_word, word_total}
use Rattle.sv39_pte.specs.Tables.{pte_place, leads_to_table, page_led_to, last_place}
use Rattle.mon_enclaves.specs.LoadReply.{is_load, slot_of, va_of, path_length, words_reply}
use Rattle.loaded_pages.specs.Content.{loaded_pte}
use Rattle.hist.specs.declared.event.PageInput.{PageInput}
use Rattle.hist.specs.History.{digest_of}
use Rattle.mon_records.specs.Rows.{Found, row_words, words_of, objects_of}
use Rattle.mon_records.specs.Rebuilt.{state_of}
use Rattle.mon_records.specs.EarlyWords.{early_words}
use Rattle.mon_records.specs.Answers.{freed}
use Rattle.protocol.specs.declared.action.Action.{Action}
use Rattle.protocol.specs.declared.action.Action.TheVariants as actions
use Rattle.protocol.specs.declared.action.Draft.{Draft}
use Rattle.protocol.specs.declared.action.Outcome.{Outcome}
use Rattle.protocol.specs.declared.action.Outcome.TheVariants as outcomes

-- a call is over, or it makes a move and goes on by its outcome
pub data Tree : Type 0 where
  Over : Tree
  Makes : (action : Action) (next : Outcome → Tree) → Tree

-- The core that makes a call, as it is before the first move: its number, the serial of the call, for whom it runs, and
-- how many answers it has.
pub record Issuer : Type 0 where
  pub core : ℕ
  pub serial : ℕ
  pub mode : Mode
  pub answers : ℕ

-- the word or ticket that an outcome gives; 0 for others
abbrev pub number_in : Outcome → ℕ
number_in outcomes.Taken = 0
number_in (outcomes.HeldBy core serial) = 0
number_in (outcomes.Word word) = word
number_in (outcomes.Ticket ticket) = ticket
number_in outcomes.Done = 0
number_in (outcomes.Again loaded found) = found

-- a move after which the same follows for each outcome
abbrev pub then_ : Action → Tree → Tree
then_ action next = Makes action (λ outcome. next)

-- the items of the first list, the last one first, and then those of the second
unfoldable pub onto : List ObjectId → List ObjectId → List ObjectId
onto [] ys = ys
onto (x ∷ xs) ys = onto xs (x ∷ ys)

-- what a call fixes by its Draw: all parts of the draft
abbrev pub draft_of : Issuer → Call → Reply → List ObjectId → Option PageInput → Draft
draft_of by call reply tried page =
    record { serial = by.serial; call = call; page = page; reply = reply; tried = tried_set tried }

-- ---- 7. Unlock all held objects, the last taken first.

-- these objects, the last taken first as they are
unfoldable pub unlocks : List ObjectId → Tree
unlocks [] = Over
unlocks (o ∷ os) = then_ (actions.Unlock o) (unlocks os)

-- ---- 6. If Ok, the late moves: a free stores 0 in each word of its region, ascending. Then, for every call, Write
-- ---- each row word whose value is to differ from what stands there, in the order of objects and words.

-- the words of a region, ascending
abbrev pub words_in_region : Shape → ℕ → List ℕ
words_in_region shape r = filter (λ i. region_of_word shape i == r) (range_with_len 0 (word_total shape))

-- 0 in each of these words
unfoldable pub zeros : List ℕ → Tree → Tree
zeros [] next = next
zeros (i ∷ is) next = then_ (actions.Store i 0) (zeros is next)

-- the words that the region which a call has freed, if any
abbrev pub words_freed : Shape → Option ℕ → List ℕ
words_freed shape None = []
words_freed shape (Some r) = words_in_region shape r

-- this word at a place of a row, unless it stands there
unfoldable pub write_unless : Bool → ObjectId → ℕ → ℕ → Tree → Tree
write_unless true o i word next = next
write_unless false o i word next = then_ (actions.Write o i word) next

-- the words of a row from place i on, where the first list stands there and the second is wanted
unfoldable pub row_writes : ObjectId → ℕ → List ℕ → List ℕ → Tree → Tree
row_writes o i [] wanted next = next
row_writes o i (word ∷ words) wanted next =
    write_unless (word == slice_index wanted i) o i (slice_index wanted i) (row_writes o (suc i) words wanted next)

-- the rows of these objects, where what was found stands there and the records of s are wanted
unfoldable pub late_writes : List ObjectId → Found → State → Tree → Tree
late_writes [] found s next = next
late_writes (o ∷ os) found s next = row_writes o 0 (words_of found o) (row_words s o) (late_writes os found s next)

-- Ok alone has late moves, of these objects, where these words of DRAM are freed; after a refusal nothing is written
unfoldable pub late_if : Bool → List ℕ → List ObjectId → Found → State → Tree → Tree
late_if true words objects found s next = zeros words (late_writes objects found s next)
late_if false words objects found s next = next

-- ---- 5. Draw. The ticket fixes the entry.

-- The Draw of a call with this reply, which has read this page, and all that follows. These objects are held, the last
-- taken first; `known` is the state as it was found, and `stands` what stands in the rows.
unfoldable pub finish : Issuer → Call → Reply → Option PageInput → List ObjectId → State → Found → Tree
finish by call reply page held known stands =
    Makes (actions.Draw (draft_of by call reply (onto held []) page)) (λ outcome.
    late_if (is_done reply) (words_freed known.shape (freed reply call)) (onto held []) stands
    (changed reply known by.core call (digest_of page) (number_in outcome)) (unlocks held))

-- ---- 4. If Ok, the early moves. block: Write the Blocked own-word. delete: Write the Blocked own-word of each region,
-- ---- ascending. load_table below level 2: Store the parent's entry. load_page: for i from 0 to 511 Load word i of src
-- ---- and Store word i of page; then Store the entry. reserve: Store the entry.

-- these own-words, each of its region; what follows has what stands now: the last word of a row that was found or
-- written stands first
unfoldable pub early_writes : List (ℕ × ℕ) → Found → (Found → Tree) → Tree
early_writes [] stands next = next stands
early_writes (p ∷ ps) stands next =
    let region = objects.Region p.0 in
    then_ (actions.Write region 0 p.1)
    (early_writes ps ((region, p.1 ∷ drop 1 (words_of stands region)) ∷ stands) next)

-- so many words from place i on of page src, each stored at the same place of another page; what follows has them all
unfoldable pub copy_words : ℕ → ℕ → ℕ → ℕ → (List ℕ → Tree) → Tree
copy_words zero i src page next = next []
copy_words (suc count) i src page next =
    Makes (actions.Load (first_word src + i)) (λ outcome.
    then_ (actions.Store (first_word page + i) (number_in outcome))
    (copy_words count (suc i) src page (λ words. next (number_in outcome ∷ words))))

-- the words of a page that was read, which begin at this place of the core's answers
abbrev pub page_read : ℕ → List ℕ → PageInput
page_read at words = record { digest = page_digest words; at = at }

-- a load_page copies its page; what follows has what was read
unfoldable pub copy_page : Call → ℕ → (Option PageInput → Tree) → Tree
copy_page (calls.LoadPage e va page src perms) at next =
    copy_words page_words 0 src page (λ words. next (Some (page_read at words)))
copy_page _ at next = next None

-- the pte at the last place on the call's path; a root has none
unfoldable pub put_pte : Option ℕ → Call → Tree → Tree
put_pte None call next = next
put_pte (Some place) call next = then_ (actions.Store place (loaded_pte call)) next

-- ---- 3. When the plan has no further object the reply is decided. load_table, load_page and reserve that are not
-- ---- refused by then Load the entries on va's path from the root down. The first that refuses ends the Loads.

-- a pte that leads to no table ends the walk
unfoldable pub go_on : Bool → Tree → Tree → Tree
go_on true further end = further
go_on false further end = end

-- So many ptes on va's path at most, from the table of this level on this page down; what follows has each that was
-- loaded, with its place.
unfoldable pub walk : Shape → ℕ → ℕ → ℕ → ℕ → (List (ℕ × ℕ) → Tree) → Tree
walk shape va level zero page next = next []
walk shape va level (suc count) page next =
    let place = pte_place page level va in
    Makes (actions.Load place) (λ outcome.
    let pte = number_in outcome in
    go_on (leads_to_table shape pte)
    (walk shape va (level - 1) count (page_led_to pte) (λ rest. next ((place, pte) ∷ rest)))
    (next ((place, pte) ∷ [])))

-- the same from a root down, whose level is 2; without a root there is none
unfoldable pub walk_below : Shape → ℕ → ℕ → Option ℕ → (List (ℕ × ℕ) → Tree) → Tree
walk_below shape va count None next = next []
walk_below shape va count (Some root) next = walk shape va 2 count root next

-- the places of what was loaded
abbrev pub places_of : List (ℕ × ℕ) → List ℕ
places_of ptes = map (λ p. p.0) ptes

-- the words
abbrev pub ptes_of : List (ℕ × ℕ) → List ℕ
ptes_of ptes = map (λ p. p.1) ptes

-- a call that loads, where the reply by its ptes is Ok: the copy, the pte and the Draw
unfoldable pub load_if : Bool → Issuer → Call → Reply → List (ℕ × ℕ) → State → Found → Tree
load_if false by call reply ptes known found = finish by call reply None (objects_of found) known found
load_if true by call reply ptes known found =
    copy_page call (by.answers + length ptes) (λ page.
    put_pte (last_place (places_of ptes)) call
    (finish by call reply page (objects_of found) known found))

-- a call that loads, once it has its ptes
unfoldable pub loaded : Issuer → Call → State → Found → List (ℕ × ℕ) → Tree
loaded by call known found ptes =
    let reply = words_reply known call (ptes_of ptes) in
    load_if (is_done reply) by call reply ptes known found

-- a call that loads: where the rows do not refuse it, it loads its ptes
unfoldable pub loads_if : Bool → Issuer → Call → State → Found → Tree
loads_if false by call known found = loaded by call known found []
loads_if true by call known found =
    walk_below known.shape (va_of call) (path_length call) (enclave_at known (slot_of call)).root
    (loaded by call known found)

-- the early own-words of a call, where it is Ok
unfoldable pub early_if : Bool → State → Call → List (ℕ × ℕ)
early_if true known call = early_words known call
early_if false known call = []

-- the reply is decided, by the rows alone or by ptes too
unfoldable pub decided_by : Bool → Issuer → Call → State → Found → Tree
decided_by true by call known found = loads_if (is_done (words_reply known call [])) by call known found
decided_by false by call known found =
    let reply = reply_of known by.core call in
    early_writes (early_if (is_done reply) known call) found (finish by call reply None (objects_of found) known)

-- once all objects are held
unfoldable pub decided : Shape → Issuer → Call → Found → Tree
decided shape by call found = decided_by (is_load call) by call (state_of shape by.mode found) found

-- ---- 2. For each object of the plan: TryLock. If it is taken, Read every word of the row from word 0 up. If another
-- ---- core is found: Draw with ConcurrentCall, then Unlock all held objects, the last taken first; the call is done.

-- so many words of a row from place i on
unfoldable pub reads : ObjectId → ℕ → ℕ → (List ℕ → Tree) → Tree
reads o zero i next = next []
reads o (suc count) i next =
    Makes (actions.Read o i) (λ outcome. reads o count (suc i) (λ words. next (number_in outcome ∷ words)))

-- a held lock was met
unfoldable pub meets : Issuer → Call → Found → ObjectId → ℕ → ℕ → Tree
meets by call found o holder serial =
    let held = objects_of found in
    then_ (actions.Draw (draft_of by call (replies.ConcurrentCall o holder serial) (onto (o ∷ held) []) None))
    (unlocks held)

-- after a TryLock; it has no other outcomes
unfoldable pub after_try : Issuer → Call → Found → ObjectId → (Found → Tree) → Outcome → Tree
after_try by call found o next outcomes.Taken = reads o (width o) 0 (λ words. next ((o, words) ∷ found))
after_try by call found o next (outcomes.HeldBy holder serial) = meets by call found o holder serial
after_try by call found o next (outcomes.Word word) = Over
after_try by call found o next (outcomes.Ticket ticket) = Over
after_try by call found o next outcomes.Done = Over
after_try by call found o next (outcomes.Again loaded word) = Over

-- one object
unfoldable pub lock : Issuer → Call → Found → ObjectId → (Found → Tree) → Tree
lock by call found o next = Makes (actions.TryLock o) (after_try by call found o next)

-- these objects, one after the other
unfoldable pub lock_all : Issuer → Call → List ObjectId → Found → (Found → Tree) → Tree
lock_all by call [] found next = next found
lock_all by call (o ∷ os) found next = lock by call found o (λ more. lock_all by call os more next)

-- what the call tries by the state that is rebuilt from what it has found
abbrev pub plan_of : Shape → Issuer → Call → Found → List ObjectId
plan_of shape by call found = tries (state_of shape by.mode found) by.core call

-- the objects behind the first
abbrev pub behind_first : List ObjectId → List ObjectId
behind_first [] = []
behind_first (o ∷ os) = os

-- the plan: its first object, whose record settles which others follow
unfoldable pub lock_plan : Shape → Issuer → Call → List ObjectId → (Found → Tree) → Tree
lock_plan shape by call [] next = next []
lock_plan shape by call (o ∷ os) next =
    lock by call [] o (λ found. lock_all by call (behind_first (plan_of shape by call found)) found next)

-- ---- 1. Refused early: Draw alone.

-- a refusal before any object is tried, if there is one
unfoldable pub unless_refused : Option Reply → Issuer → Call → Tree → Tree
unless_refused None by call next = next
unless_refused (Some refusal) by call next = then_ (actions.Draw (draft_of by call refusal [] None)) Over

-- ---- the call

-- the moves of a call of this core on a machine of this shape
unfoldable pub call_tree : Shape → Issuer → Call → Tree
call_tree shape by call =
    unless_refused (early shape by.mode call) by call
    (lock_plan shape by call (plan_of shape by call []) (decided shape by call))
