-- The moves of the calls that load an enclave, written down by hand, up to the measurement, whose words are SHA-256's
-- to say. This project's own.
use Rattle.std.specs.Prelude.{ℕ, zero, suc, ◌+◌, List, [], ◌∷◌, ◌++◌, replicate, Some}
use Rattle.mon_types.specs.Replies.{done}
use Rattle.mon_types.specs.Enclaves.{empty_enclave, enclave_row}
use Rattle.mon_types.specs.Threads.{empty_thread, thread_row}
use Rattle.mon_types.specs.declared.enclave.Enclave.{Enclave}
use Rattle.mon_types.specs.declared.enclave.Stage.TheVariants as stages
use Rattle.mon_types.specs.declared.thread.Thread.{Thread}
use Rattle.mon_types.specs.declared.thread.ThreadState.TheVariants as states
use Rattle.mon_types.specs.declared.call.Call.TheVariants as calls
use Rattle.mon_types.specs.declared.reply.Reply.TheVariants as replies
use Rattle.mon_model.specs.State.{State, with_enclave}
use Rattle.mon_model.specs.Measure.{page_digest}
use Rattle.mon_model.specs.Tries.{tried_set}
use Rattle.protocol.specs.declared.action.Action.{Action}
use Rattle.protocol.specs.declared.action.Action.TheVariants as actions
use Rattle.protocol.specs.declared.action.Outcome.TheVariants as outcomes
use Rattle.protocol.specs.declared.action.Outcome.{Outcome}
use Rattle.protocol.specs.Alone.{begin, takes, writes, draws, gives, loads, stores, e3, t2}
use Rattle.mon_types.specs.declared.object.ObjectId.{ObjectId}
use Rattle.mon_types.specs.declared.object.ObjectId.TheVariants as objects

-- ---- states

-- a Loading enclave with regions 1 to 4 and no root
abbrev pub without_root : Enclave
without_root = record empty_enclave { stage = stages.Loading; size = 4194304; regions = 30 }

-- with a root in page 1, where page 4 is the next
abbrev pub with_root : Enclave
with_root = record without_root { root = Some 1; next_page = 4 }

-- slot 3 has this enclave
abbrev pub loading : Enclave → State
loading enclave = with_enclave begin 3 enclave

-- the page of src is in region 5
abbrev pub r5 : ObjectId
r5 = objects.Region 5

-- DRAM whose word 512, the first of page 1, and word 1024, the first of page 2, are these
abbrev pub dram_with : ℕ → ℕ → List ℕ
dram_with first second = replicate 512 0 ++ first ∷ replicate 511 0 ++ second ∷ replicate 2000 0

-- the ptes that lead to pages 2 and 3, and those that are put in: (0x80000 + page) * 1024 + 1
abbrev pub to_page_2 : ℕ
to_page_2 = 536872961

-- to page 3
abbrev pub to_page_3 : ℕ
to_page_3 = 536873985

-- to page 4
abbrev pub to_page_4 : ℕ
to_page_4 = 536875009

-- ---- load_table

-- a root has no path: the root's and the next page's word of the row
abbrev pub load_root_ok : List (Action × Outcome)
load_root_ok =
    takes e3 (enclave_row without_root)
    ++ draws (calls.LoadTable 3 0 2 4) done (e3 ∷ [])
    ∷ writes e3 4 5
    ∷ writes e3 5 5
    ∷ []

-- a table of level 1: one pte, which is 0 and gets the table's
abbrev pub load_table_1_ok : List (Action × Outcome)
load_table_1_ok =
    takes e3 (enclave_row with_root)
    ++ loads 512 0
    ∷ stores 512 to_page_4
    ∷ draws (calls.LoadTable 3 0 1 4) done (e3 ∷ [])
    ∷ writes e3 5 5
    ∷ []

-- a table of level 0: two
abbrev pub load_table_0_ok : List (Action × Outcome)
load_table_0_ok =
    takes e3 (enclave_row with_root)
    ++ loads 512 to_page_2
    ∷ loads 1024 0
    ∷ stores 1024 to_page_4
    ∷ draws (calls.LoadTable 3 0 0 4) done (e3 ∷ [])
    ∷ writes e3 5 5
    ∷ []

-- the table of level 1 is missing: the first pte ends the Loads
abbrev pub load_table_no_parent : List (Action × Outcome)
load_table_no_parent =
    takes e3 (enclave_row with_root)
    ++ loads 512 0
    ∷ draws (calls.LoadTable 3 0 0 4) replies.InvalidState (e3 ∷ [])
    ∷ gives e3
    ∷ []

-- the place is taken
abbrev pub load_table_taken : List (Action × Outcome)
load_table_taken =
    takes e3 (enclave_row with_root)
    ++ loads 512 to_page_2
    ∷ draws (calls.LoadTable 3 0 1 4) replies.InvalidState (e3 ∷ [])
    ∷ gives e3
    ∷ []

-- the record refuses: page 3 is below the next, so no pte is loaded
abbrev pub load_table_refused : List (Action × Outcome)
load_table_refused =
    takes e3 (enclave_row with_root) ++ draws (calls.LoadTable 3 0 1 3) replies.InvalidState (e3 ∷ []) ∷ gives e3 ∷ []

-- ---- reserve

-- three ptes, and at the last the reserved page's, with D, A, U and V, and R and W: page 5 is in no region of the set
abbrev pub reserve_ok : List (Action × Outcome)
reserve_ok =
    takes e3 (enclave_row with_root)
    ++ loads 512 to_page_2
    ∷ loads 1024 to_page_3
    ∷ loads 1536 0
    ∷ stores 1536 536876247
    ∷ draws (calls.Reserve 3 0 5 3) done (e3 ∷ [])
    ∷ writes e3 5 6
    ∷ []

-- the table of level 0 is missing
abbrev pub reserve_refused : List (Action × Outcome)
reserve_refused =
    takes e3 (enclave_row with_root)
    ++ loads 512 to_page_2
    ∷ loads 1024 0
    ∷ draws (calls.Reserve 3 0 5 3) replies.InvalidState (e3 ∷ [])
    ∷ gives e3
    ∷ []

-- ---- load_page

-- so many words of page 5 from place i on, all 0, loaded and stored in page 4
abbrev pub copied : ℕ → ℕ → List (Action × Outcome)
copied zero i = []
copied (suc count) i = loads (2560 + i) 0 ∷ stores (2048 + i) 0 ∷ copied count (i + 1)

-- all moves before the Draw: three ptes, 512 words, and the page's pte, with R and X
abbrev pub load_page_before : List (Action × Outcome)
load_page_before =
    takes e3 (enclave_row with_root)
    ++ takes r5 (1 ∷ 0 ∷ [])
    ++ loads 512 to_page_2
    ∷ loads 1024 to_page_3
    ∷ loads 1536 0
    ∷ copied 512 0
    ++ stores 1536 536875227
    ∷ []

-- the Draw has the page: its first word is behind the 10 answers from before and the three ptes
abbrev pub draws_page : Action × Outcome
draws_page = (
  actions.Draw (record {
    serial = 3;
    call = calls.LoadPage 3 0 4 5 5;
    page = Some (record { digest = page_digest (replicate 512 0); at = 13 });
    reply = done;
    tried = tried_set (e3 ∷ r5 ∷ []);
  }),
  outcomes.Ticket 21,
)

-- and then the next page is the first word that differs
abbrev pub load_page_ok : List (Action × Outcome)
load_page_ok = load_page_before ++ draws_page ∷ writes e3 5 5 ∷ []

-- src is not the OS's: refused before any Load
abbrev pub load_page_denied : List (Action × Outcome)
load_page_denied =
    takes e3 (enclave_row with_root)
    ++ takes r5 (0 ∷ 0 ∷ [])
    ++ draws (calls.LoadPage 3 0 4 5 5) replies.AccessDenied (e3 ∷ r5 ∷ [])
    ∷ gives r5
    ∷ gives e3
    ∷ []

-- the table of level 0 is missing: nothing is copied
abbrev pub load_page_refused : List (Action × Outcome)
load_page_refused =
    takes e3 (enclave_row with_root)
    ++ takes r5 (1 ∷ 0 ∷ [])
    ++ loads 512 to_page_2
    ∷ loads 1024 0
    ∷ draws (calls.LoadPage 3 0 4 5 5) replies.InvalidState (e3 ∷ r5 ∷ [])
    ∷ gives r5
    ∷ gives e3
    ∷ []

-- ---- load_thread

-- the thread count is the first word that differs
abbrev pub load_thread_ok : List (Action × Outcome)
load_thread_ok =
    takes e3 (enclave_row with_root)
    ++ takes t2 (thread_row empty_thread)
    ++ draws (calls.LoadThread 3 2 64 128) done (e3 ∷ t2 ∷ [])
    ∷ writes e3 6 1
    ∷ []

-- a thread of another enclave
abbrev pub taken_thread : Thread
taken_thread = record empty_thread { state = states.Ready 4; entry = 8; sp = 16 }

-- the slot is taken
abbrev pub load_thread_refused : List (Action × Outcome)
load_thread_refused =
    takes e3 (enclave_row with_root)
    ++ takes t2 (thread_row taken_thread)
    ++ draws (calls.LoadThread 3 2 64 128) replies.InvalidState (e3 ∷ t2 ∷ [])
    ∷ gives t2
    ∷ gives e3
    ∷ []
