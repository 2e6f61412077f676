-- The calls that load an enclave: which page-table entries (ptes) one reads, and its reply by them, in one definition
-- for the three calls. This project's own.
use Rattle.std.specs.Prelude.{ℕ, Bool, true, false, ◌&&◌, is_none, List, []}
use Rattle.mon_types.specs.Shape.{Shape, region_of_page}
use Rattle.mon_types.specs.Replies.{is_done}
use Rattle.mon_types.specs.declared.region.Region.{Region}
use Rattle.mon_types.specs.declared.enclave.Enclave.{Enclave}
use Rattle.mon_types.specs.declared.call.Call.{Call}
use Rattle.mon_types.specs.declared.call.Call.TheVariants as calls
use Rattle.mon_types.specs.declared.reply.Reply.{Reply}
use Rattle.mon_types.specs.declared.reply.Reply.TheVariants as replies
use Rattle.mon_model.specs.State.{State, region_at, enclave_at, mode_of}
use Rattle.mon_model.specs.Early.{early}
use Rattle.sv39_pte.specs.Tables.{path_below}
use Rattle.mon_enclaves.specs.ByWords.{table_path, leaf_path, table_reply, page_reply, reserved_reply}

-- ---- what the call names

-- whether it loads an enclave
abbrev pub is_load : Call → Bool
is_load (calls.LoadTable e va level page) = true
is_load (calls.LoadPage e va page src perms) = true
is_load (calls.Reserve e va page perms) = true
is_load _ = false

-- the slot that the call loads into; for any other call 0
abbrev pub slot_of : Call → ℕ
slot_of (calls.LoadTable e va level page) = e
slot_of (calls.LoadPage e va page src perms) = e
slot_of (calls.Reserve e va page perms) = e
slot_of _ = 0

-- the address for which it loads; for any other call 0
abbrev pub va_of : Call → ℕ
va_of (calls.LoadTable e va level page) = va
va_of (calls.LoadPage e va page src perms) = va
va_of (calls.Reserve e va page perms) = va
va_of _ = 0

-- how many ptes its path has; for any other call 0
abbrev pub path_length : Call → ℕ
path_length (calls.LoadTable e va level page) = table_path level
path_length (calls.LoadPage e va page src perms) = leaf_path
path_length (calls.Reserve e va page perms) = leaf_path
path_length _ = 0

-- the page that a load_page copies; for any other call 0
abbrev pub source_of : Call → ℕ
source_of (calls.LoadPage e va page src perms) = src
source_of _ = 0

-- ---- the ptes that it reads

-- The places of the ptes on its path, from the enclave's root down, where the words stand that are given by their
-- places.
abbrev pub call_path : Shape → (ℕ → ℕ) → Enclave → Call → List ℕ
call_path shape word enclave call = path_below shape word (va_of call) (path_length call) enclave.root

-- ---- its reply

-- The reply by these ptes, from the root down, by the record of its enclave, and by the region of the page that a
-- load_page copies; no other call is asked for one.
abbrev pub reply_by_words : Shape → Enclave → Region → Call → List ℕ → Reply
reply_by_words shape enclave source (calls.LoadTable e va level page) words =
    table_reply shape enclave va level page words
reply_by_words shape enclave source (calls.LoadPage e va page src perms) words =
    page_reply shape enclave va page source words
reply_by_words shape enclave source (calls.Reserve e va page perms) words = reserved_reply shape enclave va page words
reply_by_words shape enclave source _ words = replies.InvalidState

-- the same by the records of state s
abbrev pub words_reply : State → Call → List ℕ → Reply
words_reply s call words =
    let source = region_at s (region_of_page s.shape (source_of call)) in
    reply_by_words s.shape (enclave_at s (slot_of call)) source call words

-- Whether a call by this core goes on to the ptes on its path: it loads, it is not refused early, and the records do
-- not refuse it.
abbrev pub reads_ptes : State → ℕ → Call → Bool
reads_ptes s core call = is_none (early s.shape (mode_of s core) call) && is_done (words_reply s call [])
