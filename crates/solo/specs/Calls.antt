-- A monitor call of the one core: its entry, what it loads and stores, and what it makes of the core; how guest code
-- makes one, and how an enclave is left by a trap or a tick. This project's own.
use Rattle.std.specs.Prelude.{ℕ, ◌+◌, if◌then◌else◌, List, [], ◌∷◌, ◌++◌, map, length, replicate, Option, Some, None}
use Rattle.mon_types.specs.Shape.{Shape}
use Rattle.mon_types.specs.declared.thread.Mode.{Mode}
use Rattle.mon_types.specs.declared.thread.Mode.TheVariants as modes
use Rattle.mon_types.specs.declared.call.Call.{Call}
use Rattle.mon_types.specs.declared.call.Call.TheVariants as calls
use Rattle.mon_types.specs.Replies.{is_done}
use Rattle.mon_model.specs.State.{enclave_at}
use Rattle.mon_model.specs.Step.{reply_of, after}
use Rattle.mon_model.specs.Tries.{tries, tried_set}
use Rattle.mon_model.specs.Measure.{page_digest}
use Rattle.hist.specs.declared.event.PageInput.{PageInput}
use Rattle.hist.specs.declared.event.Entry.{Entry}
use Rattle.hist.specs.declared.event.Event.TheVariants as events
use Rattle.core_context.specs.declared.origin.Origin.{Origin}
use Rattle.core_context.specs.declared.origin.Origin.TheVariants as origins
use Rattle.core_context.specs.Registers.{saved_context}
use Rattle.core_context.specs.Changes.{change_after}
use Rattle.core_context.specs.GuestCalls.{asked_call}
use Rattle.core_context.specs.Origins.{is_by_line, contexts_by}
use Rattle.mon_types.specs.Budgets.{tick_cause}
use Rattle.dram_map.specs.Words.{word_at, word_put, words_of_page, page_copied, region_cleared}
use Rattle.sv39_pte.specs.Tables.{last_place, pointer_pte, leaf_pte}
use Rattle.mon_enclaves.specs.LoadReply.{slot_of, call_path, reads_ptes}
use Rattle.solo.specs.declared.guest.Guest.{Guest}
use Rattle.solo.specs.Core.{Core, cleared}

-- ---- the entry

-- the places of the page-table entries (ptes) that the call reads: those on its path, where it goes on to them
abbrev pub pte_places : Core → Call → List ℕ
pte_places c call =
    if reads_ptes c.state 0 call
    then call_path c.state.shape (word_at c.words) (enclave_at c.state (slot_of call)) call
    else []

-- the words that a load_page copies; other calls copy none
abbrev pub source_words : List ℕ → Call → List ℕ
source_words words (calls.LoadPage e va page src perms) = words_of_page words src
source_words words _ = []

-- the digest of a call that reads no page, which uses none
abbrev pub no_digest : List ℕ
no_digest = replicate 32 0

-- the digest of the words that a load_page copies
abbrev pub digest_for : List ℕ → Call → List ℕ
digest_for words (calls.LoadPage e va page src perms) = page_digest (words_of_page words src)
digest_for words _ = no_digest

-- what the entry of a load_page that answers Ok says of the page: its digest, and the place of its first word among the
-- answers
abbrev pub page_input : List ℕ → Call → ℕ → Option PageInput
page_input words (calls.LoadPage e va page src perms) at =
    Some record { digest = page_digest (words_of_page words src); at = at }
page_input words _ at = None

-- what the entry of a call says of a page: nothing where it is refused
abbrev pub page_told : Core → Call → Option PageInput
page_told c call =
    if is_done (reply_of c.state 0 call)
    then page_input c.words call (length c.answers + length (pte_places c call))
    else None

-- the entry of a call; the core's calls are all there are, so each draws the next ticket
abbrev pub entry_of : Core → Call → Entry
entry_of c call = record {
  ticket = c.made + 1;
  core = 0;
  serial = c.made;
  call = call;
  page = page_told c call;
  reply = reply_of c.state 0 call;
  tried = tried_set (tries c.state 0 call);
}

-- ---- what it loads and stores

-- the words that the call loads: the ptes, and the source of a load_page that answers Ok
abbrev pub loaded_by : Core → Call → List ℕ
loaded_by c call =
    map (word_at c.words) (pte_places c call)
    ++ (if is_done (reply_of c.state 0 call) then source_words c.words call else [])

-- the words after a pte was stored at the last of these places
abbrev pub pte_put : List ℕ → List ℕ → ℕ → List ℕ
pte_put words places pte = word_put words (last_place places) pte

-- DRAM after Ok, where the ptes at these places were read: zeros in each page of a region that is free now; the pte
-- of a table, whose page is not written; a copy of the source page, and then its pte; the pte of a reserved page
abbrev pub stored : Shape → Call → List ℕ → List ℕ → List ℕ
stored shape (calls.Free r) places words = region_cleared shape r words
stored shape (calls.LoadTable e va level page) places words = pte_put words places (pointer_pte page)
stored shape (calls.LoadPage e va page src perms) places words =
    pte_put (page_copied words src page) places (leaf_pte page perms)
stored shape (calls.Reserve e va page perms) places words = pte_put words places (leaf_pte page perms)
stored shape _ places words = words

-- ---- what it makes of the core

-- What Ok of a call leaves for accesses and guest code: flush, enter, exit, aex and set_satp clear translations and
-- touches, enter decides who entered, and set_satp sets satp.
abbrev pub guest_after : Origin → Call → Guest → Guest
guest_after origin calls.Flush g = cleared g
guest_after origin (calls.Enter e t) g = record (cleared g) { by_line = is_by_line origin }
guest_after origin calls.Exit g = cleared g
guest_after origin (calls.Aex saved) g = cleared g
guest_after origin (calls.SetSatp v) g = record (cleared g) { satp = v }
guest_after origin _ g = g

-- the core after a call
abbrev pub called : Origin → Core → Call → Core
called origin c call =
    let is_ok = is_done (reply_of c.state 0 call) in
    record {
      state = after c.state 0 call (digest_for c.words call) (c.made + 1);
      made = c.made + 1;
      contexts = contexts_by origin call (change_after c.state 0 call) (reply_of c.state 0 call) c.contexts;
      guest = if is_ok then guest_after origin call c.guest else c.guest;
      words = if is_ok then stored c.state.shape call (pte_places c call) c.words else c.words;
      answers = c.answers ++ loaded_by c call;
      log = c.log ++ events.Entry (entry_of c call) ∷ [];
    }

-- the core after an ECALL, which makes the call that its registers ask for
abbrev pub guest_called : Core → Core
guest_called c = called origins.Guest c (asked_call c.contexts.current)

-- ---- an enclave that is left by the machine

-- The core after an exit with this cause and value: an aex, which saves the pc and the registers. On one core no aex is
-- refused, so no exit stays pending.
abbrev pub exited : Core → ℕ → ℕ → Core
exited c cause value = called (origins.Machine value) c (calls.Aex (saved_context c.contexts.current cause))

-- a tick leaves the enclave; for the OS it does nothing
abbrev pub ticked : Mode → Core → Core
ticked modes.Os c = c
ticked (modes.Inside e t) c = exited c tick_cause 0
