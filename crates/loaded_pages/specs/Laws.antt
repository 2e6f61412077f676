-- Laws of the content: it agrees with the loaded items in every state that a history reaches, so a call that loads is
-- decided alike by the words on its path and by the items. This project's own.
use Rattle.std.specs.Prelude.{◌≡◌, ℕ, ◌+◌, ◌<◌, ◌^◌, ◌&&◌, true, false, List, [], ◌∷◌, ◌++◌, length, slice_get, Some, None}
use Rattle.mon_types.specs.Shape.{Shape, is_shape}
use Rattle.mon_types.specs.Replies.{is_done}
use Rattle.mon_types.specs.declared.call.Call.{Call}
use Rattle.mon_types.specs.declared.call.Call.TheVariants as calls
use Rattle.mon_types.specs.declared.enclave.Loaded.{Loaded}
use Rattle.mon_model.specs.State.{State, start, enclave_at, loaded_at, mode_of}
use Rattle.mon_model.specs.RegionCalls.{is_loading}
use Rattle.mon_model.specs.Early.{early}
use Rattle.mon_model.specs.Step.{monitor_step, reply_of, held_reply}
use Rattle.mon_facts.specs.Tables.{AreTables}
use Rattle.mon_facts.specs.Facts.{FactsHold}
use Rattle.hist.specs.declared.event.Entry.{Entry}
use Rattle.hist.specs.declared.event.Event.{Event}
use Rattle.hist.specs.History.{history, state_after}
use Rattle.hist.specs.Legal.{Legal}
use Rattle.mon_types.specs.Sizes.{page_words}
use Rattle.mon_enclaves.specs.FromItems.{table_words, leaf_words}
use Rattle.sv39_pte.specs.Tables.{leads_to_table, last_place}
use Rattle.mon_enclaves.specs.ByWords.{words_fit}
use Rattle.mon_enclaves.specs.LoadReply.{is_load, path_length, words_reply}
use Rattle.loaded_pages.specs.Content.{Content, zero_content, loaded_place, content_after}
use Rattle.loaded_pages.specs.History.{entry_words, content_at, page_words_of, loaded_page, HaveReadPages}
use Rattle.loaded_pages.specs.Path.{words_below, call_places, call_words}
use Rattle.loaded_pages.specs.Facts.{ContentHolds}

-- ---- one call

-- at the start the content holds zeros, and nothing is loaded
abbrev pub StartContentHolds : Type 0
StartContentHolds = (shape : Shape) → ContentHolds (start shape) zero_content

-- each call keeps what holds, whatever the words of a loaded page are
abbrev pub ContentStays : Type 0
ContentStays =
    (s : State) (content : Content) (core : ℕ) (call : Call) (words digest : List ℕ) (ticket : ℕ)
    → core < s.shape.cores → AreTables s → FactsHold s → ContentHolds s content
    → let next = monitor_step s core call digest ticket in
    ContentHolds next.0 (content_after s next.1 call words content)

-- ---- every history

-- what holds of a state and its content
pub record Reached (s : State) (content : Content) : Type 0 where
  pub tables : AreTables s
  pub facts : FactsHold s
  pub holds : ContentHolds s content

-- after any number of entries of a legal history, whatever the cores' answers are
abbrev pub HistoryReaches : Type 0
HistoryReaches =
    (shape : Shape) (logs : List (List Event)) (answers : List (List ℕ)) (k : ℕ) → is_shape shape ≡ true
    → Legal shape logs → Reached (state_after shape logs k) (content_at shape logs answers k)

-- ---- the words on a path

-- on an address's path below the root the words are those that the items give, up to the first missing table: for
-- tables of level 1 and 0, and for leaves
pub record PathAgrees (shape : Shape) (content : Content) (items : List Loaded) (root va : ℕ) : Type 0 where
  pub table_1 : words_below shape content va 1 (Some root) ≡ table_words items va 1
  pub table_0 : words_below shape content va 2 (Some root) ≡ table_words items va 0
  pub leaf : (perms : ℕ) × (words_below shape content va 3 (Some root) ≡ leaf_words items va perms)

-- the same in a Loading enclave with a root, for each address that a call may name
abbrev pub PathsAgree : Type 0
PathsAgree =
    (s : State) (content : Content) (e root va : ℕ) → AreTables s → ContentHolds s content
    → is_loading (enclave_at s e).stage ≡ true → (enclave_at s e).root ≡ Some root → va < 2 ^ 38
    → PathAgrees s.shape content (loaded_at s e) root va

-- once a call that loads is not refused early, it is decided by the words as by the items
abbrev pub WordsDecide : Type 0
WordsDecide =
    (s : State) (content : Content) (core : ℕ) (call : Call) → AreTables s → ContentHolds s content
    → is_load call ≡ true
    → early s.shape (mode_of s core) call ≡ None
    → words_reply s call (call_words s content call) ≡ held_reply s core call

-- so it is after any number of entries of a legal history
abbrev pub WordsDecideInHistory : Type 0
WordsDecideInHistory =
    (shape : Shape) (logs : List (List Event)) (answers : List (List ℕ)) (k core : ℕ) (call : Call)
    → is_shape shape ≡ true → Legal shape logs → is_load call ≡ true
    → let s = state_after shape logs k in
    early s.shape (mode_of s core) call ≡ None
    → words_reply s call (call_words s (content_at shape logs answers k) call) ≡ held_reply s core call

-- where it is Ok, its pte goes to the last place on its path
abbrev pub PteGoesLast : Type 0
PteGoesLast =
    (s : State) (content : Content) (core : ℕ) (call : Call) → AreTables s → ContentHolds s content
    → is_load call ≡ true
    → is_done (reply_of s core call) ≡ true → loaded_place s call ≡ last_place (call_places s content call)

-- ---- word by word

-- a refusal before any word is read is the reply
abbrev pub RefusedFirst : Type 0
RefusedFirst =
    (s : State) (core : ℕ) (call : Call) → is_load call ≡ true → is_done (words_reply s call []) ≡ false
    → words_reply s call [] ≡ held_reply s core call

-- by the words that were read so far it is Ok exactly where it is so by none, and the last of them fits
abbrev pub OkByWords : Type 0
OkByWords =
    (s : State) (call : Call) (words : List ℕ) → is_load call ≡ true
    → is_done (words_reply s call words)
    ≡ (is_done (words_reply s call []) && words_fit s.shape (path_length call) words)

-- before the end of the path a word fits exactly where it leads to a table, as the walk goes on
abbrev pub FitsWhereItLeads : Type 0
FitsWhereItLeads =
    (shape : Shape) (path word : ℕ) (words : List ℕ) → length words + 1 < path
    → words_fit shape path (words ++ word ∷ []) ≡ leads_to_table shape word

-- ---- pages

-- after an Ok of load_page its page holds the words that were read, if they were 512
abbrev pub PageHoldsWords : Type 0
PageHoldsWords =
    (s : State) (content : Content) (core e va page src perms : ℕ) (words : List ℕ) → FactsHold s
    → length words ≡ page_words
    → let call = calls.LoadPage e va page src perms in
    is_done (reply_of s core call) ≡ true
    → page_words_of (content_after s (reply_of s core call) call words content) page ≡ words

-- In a legal history whose entries have read their pages, `loaded_page` after an Ok load_page into slot e is exactly
-- the words that its entry read, 512 of its core's answers.
abbrev pub LoadedPageIsRead : Type 0
LoadedPageIsRead =
    (shape : Shape) (logs : List (List Event)) (answers : List (List ℕ)) (k e va page src perms : ℕ) (entry : Entry)
    → is_shape shape ≡ true → Legal shape logs → HaveReadPages answers (history logs)
    → slice_get (history logs) k ≡ Some entry → entry.call ≡ calls.LoadPage e va page src perms
    → is_done entry.reply ≡ true
    → let words = entry_words answers entry in
    (loaded_page shape logs answers (k + 1) e page ≡ Some words) × (length words ≡ page_words)
