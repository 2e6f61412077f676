-- What one monitor call makes of the words of DRAM that Loading enclaves have, as `LoadedPages` says it: apart from
-- the moves that load and store these words. This project's own.
use Rattle.std.specs.Prelude.{ℕ, ◌%◌, ◌==◌, if◌then◌else◌, List, slice_index, Option, Some, None}
use Rattle.mon_types.specs.Shape.{Shape}
use Rattle.mon_types.specs.Replies.{is_done}
use Rattle.mon_types.specs.declared.call.Call.{Call}
use Rattle.mon_types.specs.declared.call.Call.TheVariants as calls
use Rattle.mon_types.specs.declared.reply.Reply.{Reply}
use Rattle.mon_types.specs.declared.enclave.Loaded.{Loaded}
use Rattle.mon_model.specs.State.{State, enclave_at, loaded_at}
use Rattle.mon_types.specs.Sizes.{page_words}
use Rattle.dram_map.specs.Addresses.{page_of_word, region_of_word}
use Rattle.sv39_pte.specs.Tables.{pte_place, pointer_pte, leaf_pte}
use Rattle.mon_enclaves.specs.FromItems.{table_1_for, table_0_for}

-- What the words of DRAM hold, by their numbers, where the monitor answers for them: in regions of Loading enclaves,
-- and in Free and Offered regions. Of other words it says nothing.
abbrev pub Content : Type 0
Content = ℕ → ℕ

-- zeros in all words
abbrev pub zero_content : Content
zero_content i = 0

-- ---- changes

-- zeros in the words of a region, if one is named
unfoldable pub region_zeroed : Shape → Option ℕ → Content → Content
region_zeroed shape None content i = content i
region_zeroed shape (Some r) content i = if region_of_word shape i == r then 0 else content i

-- these words in a page
unfoldable pub page_put : ℕ → List ℕ → Content → Content
page_put page words content i = if page_of_word i == page then slice_index words (i % page_words) else content i

-- this word at a place, if one is named
unfoldable pub content_put : Option ℕ → ℕ → Content → Content
content_put None word content i = content i
content_put (Some place) word content i = if place == i then word else content i

-- ---- what a call changes

-- the region that holds zeros since an Ok of the call: one that it assigns or frees
abbrev pub emptied : Call → Option ℕ
emptied (calls.Free r) = Some r
emptied (calls.Assign r to) = Some r
emptied _ = None

-- the place of an address's pte in the root, None where there is none
abbrev pub place_in_root : Option ℕ → ℕ → Option ℕ
place_in_root None va = None
place_in_root (Some page) va = Some (pte_place page 2 va)

-- the same in a table of this level
abbrev pub place_in_table : Option Loaded → ℕ → ℕ → Option ℕ
place_in_table None level va = None
place_in_table (Some table) level va = Some (pte_place table.page level va)

-- The place of the pte that an Ok of the call puts in, in its parent table: that of a table of level 1 is in the
-- root, that of a table of level 0 in the table of level 1, and that of a page or reserved page in the table of
-- level 0. A root has none, and nor have other calls.
abbrev pub loaded_place : State → Call → Option ℕ
loaded_place s (calls.LoadTable e va level page) =
    if level == 2 then None
    else if level == 1 then place_in_root (enclave_at s e).root va
    else place_in_table (table_1_for va (loaded_at s e)) 1 va
loaded_place s (calls.LoadPage e va page src perms) = place_in_table (table_0_for va (loaded_at s e)) 0 va
loaded_place s (calls.Reserve e va page perms) = place_in_table (table_0_for va (loaded_at s e)) 0 va
loaded_place s _ = None

-- that pte
abbrev pub loaded_pte : Call → ℕ
loaded_pte (calls.LoadTable e va level page) = pointer_pte page
loaded_pte (calls.LoadPage e va page src perms) = leaf_pte page perms
loaded_pte (calls.Reserve e va page perms) = leaf_pte page perms
loaded_pte _ = 0

-- the content with the words that a load_page has read
abbrev pub page_loaded : Call → List ℕ → Content → Content
page_loaded (calls.LoadPage e va page src perms) words content = page_put page words content
page_loaded _ words content = content

-- after an Ok of the call in state s: first zeros, then the page's words, then the pte
abbrev pub content_by : State → Call → List ℕ → Content → Content
content_by s call words content =
    let zeroed = region_zeroed s.shape (emptied call) content in
    content_put (loaded_place s call) (loaded_pte call) (page_loaded call words zeroed)

-- after any reply; a refusal, and a held lock that was met, change nothing
unfoldable pub content_after : State → Reply → Call → List ℕ → Content → Content
content_after s reply call words content = if is_done reply then content_by s call words content else content
