-- What the calls that load an enclave answer by the page-table entries (ptes) on an address's path. The three
-- levels are those of Sv39 of the RISC-V Privileged ISA; the rest is this project's own.
use Rattle.std.specs.Prelude.{ℕ, ◌-◌, Bool, true, ◌==◌, ◌&&◌, if◌then◌else◌, List, length, slice_get, Option, Some, None}
use Rattle.mon_types.specs.Shape.{Shape}
use Rattle.mon_types.specs.declared.region.Region.{Region}
use Rattle.mon_types.specs.declared.enclave.Enclave.{Enclave}
use Rattle.mon_types.specs.declared.reply.Reply.{Reply}
use Rattle.mon_types.specs.declared.reply.Reply.TheVariants as replies
use Rattle.mon_model.specs.Loading.{takes_page, reserves_page}
use Rattle.mon_types.specs.Replies.{done_if}
use Rattle.mon_model.specs.EnclaveCalls.{table_fits, leaf_fits, is_os_owned}
use Rattle.sv39_pte.specs.Tables.{leads_to_table}

-- how many ptes the path of a table has, the one that is to lead to it being the last; none leads to the root
abbrev pub table_path : ℕ → ℕ
table_path level = if level == 2 then 0 else if level == 1 then 1 else 2

-- how many ptes the path of a page or a reserved page has
abbrev pub leaf_path : ℕ
leaf_path = 3

-- A pte fits at the end of a path where it is 0, and before the end where it leads to a table. Where none was
-- read yet, none is amiss.
abbrev pub word_fits : Shape → Bool → Option ℕ → Bool
word_fits shape is_end None = true
word_fits shape is_end (Some pte) = if is_end then pte == 0 else leads_to_table shape pte

-- whether the last of the ptes that were read so far, from the root down, fits on a path of this length
abbrev pub words_fit : Shape → ℕ → List ℕ → Bool
words_fit shape path words = word_fits shape (length words == path) (slice_get words (length words - 1))

-- The replies by the ptes that were read so far: first the record decides, then the source of a page, then the
-- last pte. Ok where fewer were read than the path has means that the next is to be read.
abbrev pub table_reply : Shape → Enclave → ℕ → ℕ → ℕ → List ℕ → Reply
table_reply shape enclave va level page words =
    done_if (takes_page shape enclave page && table_fits enclave va level && words_fit shape (table_path level) words)

-- of load_page
abbrev pub page_reply : Shape → Enclave → ℕ → ℕ → Region → List ℕ → Reply
page_reply shape enclave va page source words =
    if takes_page shape enclave page && leaf_fits enclave va
    then (if is_os_owned source then done_if (words_fit shape leaf_path words) else replies.AccessDenied)
    else replies.InvalidState

-- of reserve
abbrev pub reserved_reply : Shape → Enclave → ℕ → ℕ → List ℕ → Reply
reserved_reply shape enclave va page words =
    done_if (reserves_page shape enclave page && leaf_fits enclave va && words_fit shape leaf_path words)
