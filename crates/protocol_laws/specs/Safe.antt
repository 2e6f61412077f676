-- What a call owes at each of its moves, by recursion on the tree of what it has still to do, whatever other cores do
-- between its moves. There are no phases: early and late writes are times at which rows and records differ, and an
-- Unlock asks that they agree again. This project's own.
use Rattle.std.specs.Prelude.{◌≡◌, ◌⊎◌, ℕ, ◌<◌, ⊤, true, false, List, [], ◌∷◌, ◌++◌, length, Option, Some, None}
use Rattle.mon_types.specs.Objects.{width}
use Rattle.mon_types.specs.declared.region.Owner.TheVariants as owners
use Rattle.mon_types.specs.declared.region.Region.TheVariants as regions
use Rattle.mon_types.specs.declared.call.Call.{Call}
use Rattle.mon_types.specs.declared.reply.Reply.{Reply}
use Rattle.mon_types.specs.declared.reply.Reply.TheVariants as replies
use Rattle.mon_types.specs.declared.object.ObjectId.{ObjectId}
use Rattle.mon_types.specs.declared.object.ObjectId.TheVariants as objects
use Rattle.mon_model.specs.State.{State, region_at, mode_of}
use Rattle.mon_model.specs.Tries.{tries}
use Rattle.mon_model.specs.Laws.{ChangesOnly}
use Rattle.lock_plan.specs.Objects.{HasObject}
use Rattle.dram_map.specs.Addresses.{word_total, region_of_word}
use Rattle.mon_enclaves.specs.LoadReply.{is_load}
use Rattle.mon_records.specs.Members.{In}
use Rattle.hist.specs.declared.event.PageInput.{PageInput}
use Rattle.hist.specs.History.{after_entry}
use Rattle.hist.specs.Legal.{IsLegalEntry}
use Rattle.hist.specs.Busy.{TriedUpTo}
use Rattle.loaded_pages.specs.Content.{Content, content_after}
use Rattle.loaded_pages.specs.History.{words_read, IsPageRead}
use Rattle.protocol.specs.declared.action.Action.TheVariants as actions
use Rattle.protocol.specs.declared.action.Draft.{Draft}
use Rattle.protocol.specs.declared.action.Outcome.TheVariants as outcomes
use Rattle.protocol.specs.Places.{Row, Dram, Memory, with_word, row_word}
use Rattle.protocol.specs.CallTree.{Tree, Over, Makes, Issuer, call_tree}
use Rattle.protocol.specs.Views.{entry_of}
use Rattle.protocol.specs.Records.{withdraws_any}
use Rattle.protocol_laws.specs.Known.{IsSound, Keeps, KeepsLoading, IsUnused, RowStands, WordsStand, OwnedAreTrue, LooksSame}

-- ---- the Draw

-- the state after the Draw of a draft at a ticket
unfoldable pub drawn_state : ℕ → State → Draft → ℕ → State
drawn_state core s draft ticket = after_entry s (entry_of core draft ticket)

-- the content after it, where the core has these answers
unfoldable pub drawn_content : State → Draft → List ℕ → Content → Content
drawn_content s draft answers content = content_after s draft.reply draft.call (words_read draft.page answers) content

-- a call that met a held lock has tried the first of those objects that the monitor tries, up to that lock
abbrev pub HasMet : State → ℕ → Draft → Reply → Type 0
HasMet s core draft (replies.ConcurrentCall lock holder serial) = TriedUpTo lock (tries s core draft.call) draft.tried
HasMet s core draft _ = ⊤

-- the page that a draft has read stands in the core's answers, and its digest is that of its words
abbrev pub HasRead : Option PageInput → List ℕ → Type 0
HasRead None answers = ⊤
HasRead (Some page) answers = IsPageRead page (words_read (Some page) answers)

-- the draft is that of this call, with its core's next serial, and in state s its entry is one of a legal history
pub record IsRightDraft (by : Issuer) (call : Call) (s : State) (answers : List ℕ) (draft : Draft) (ticket : ℕ)
    : Type 0 where
  pub of_call : draft.call ≡ call
  pub next : draft.serial ≡ by.serial
  pub legal : IsLegalEntry s (entry_of by.core draft ticket)
  pub met : HasMet s by.core draft draft.reply
  pub read : HasRead draft.page answers

-- each word stays what it was, or nobody answers for it, or the core that draws keeps it
abbrev pub StaysOrKept : State → List ObjectId → Content → Content → Type 0
StaysOrKept s held before behind = (i : ℕ) → (behind i ≡ before i) ⊎ (IsUnused s i ⊎ Keeps s held i)

-- ---- words that are written and stored

-- a row gets the word of its record, but for the early words of a call that withdraws regions
abbrev pub WritesWord : Call → State → ObjectId → ℕ → ℕ → Type 0
WritesWord call s o i word = (word ≡ row_word s o i) ⊎ (withdraws_any call ≡ true)

-- a call stores into a region of a Loading enclave that it holds; one that loads none stores zeros that it keeps
abbrev pub MayStore : Call → State → List ObjectId → ℕ → ℕ → Type 0
MayStore call s held i word =
    KeepsLoading s held i ⊎ ((is_load call ≡ false) × (word ≡ 0) × Keeps s held i)

-- ---- the moves

-- A call of this issuer goes on by the tree and owes nothing that it cannot give: the core holds these objects, has
-- these answers, and knows the state, the content and the words as they were when it moved last.
abbrev pub Safe : Issuer → Call → State → Content → List ℕ → List ObjectId → Memory → Tree → Type 0
Safe by call s content answers held memory Over = held ≡ []
Safe by call s content answers held memory (Makes (actions.TryLock o) next) =
    ((t : State) (now : Content) (m : Memory) → LooksSame by.core s content held memory t now m → IsSound by.core t now
    → HasObject t.shape o
    × (RowStands o t m → WordsStand o t now m → Safe by call t now answers (o ∷ held) m (next outcomes.Taken)))
    × ((holder serial : ℕ) → Safe by call s content answers held memory (next (outcomes.HeldBy holder serial)))
Safe by call s content answers held memory (Makes (actions.Read o i) next) =
    In o held × (i < width o) × Safe by call s content answers held memory (next (outcomes.Word (memory (Row o i))))
Safe by call s content answers held memory (Makes (actions.Write o i word) next) =
    In o held × (i < width o) × WritesWord call s o i word × OwnedAreTrue s held (with_word memory (Row o i) word)
    × Safe by call s content answers held (with_word memory (Row o i) word) (next outcomes.Done)
Safe by call s content answers held memory (Makes (actions.Draw draft) next) =
    (t : State) (now : Content) (m : Memory) (ticket : ℕ)
    → LooksSame by.core s content held memory t now m → IsSound by.core t now
    → IsRightDraft by call t answers draft ticket
    × ChangesOnly t (drawn_state by.core t draft ticket) by.core held
    × OwnedAreTrue (drawn_state by.core t draft ticket) held m
    × StaysOrKept t held now (drawn_content t draft answers now)
    × Safe by call (drawn_state by.core t draft ticket) (drawn_content t draft answers now) answers held m
    (next (outcomes.Ticket ticket))
Safe by call s content answers held memory (Makes (actions.Unlock o) next) =
    (others : List ObjectId) × (held ≡ o ∷ others) × RowStands o s memory × WordsStand o s content memory
    × Safe by call s content answers others memory (next outcomes.Done)
Safe by call s content answers held memory (Makes (actions.Load i) next) =
    (i < word_total s.shape)
    × ((In (objects.Region (region_of_word s.shape i)) held
    × ((a : ℕ) × (region_at s (region_of_word s.shape i) ≡ regions.Owned owners.Os a))
    × ((word : ℕ) → Safe by call s content (answers ++ word ∷ []) held memory (next (outcomes.Word word))))
    ⊎ (KeepsLoading s held i
    × Safe by call s content (answers ++ memory (Dram i) ∷ []) held memory (next (outcomes.Word (memory (Dram i))))))
Safe by call s content answers held memory (Makes (actions.Store i word) next) =
    (i < word_total s.shape) × MayStore call s held i word
    × Safe by call s content answers held (with_word memory (Dram i) word) (next outcomes.Done)

-- the core is of the machine, in the mode of the state, and has as many answers as the issuer says
pub record Issues (by : Issuer) (s : State) (answers : List ℕ) : Type 0 where
  pub mode : by.mode ≡ mode_of s by.core
  pub heard : by.answers ≡ length answers

-- the tree of every call is safe, in every state
abbrev pub CallsAreSafe : Type 0
CallsAreSafe =
    (by : Issuer) (call : Call) (s : State) (content : Content) (answers : List ℕ) (memory : Memory)
    → IsSound by.core s content → Issues by s answers
    → Safe by call s content answers [] memory (call_tree s.shape by call)
