-- Calls on enclaves: create, load_table, load_page, reserve, init, delete and enclave_info.
-- This project's own.
use Rattle.std.specs.Prelude.{ℕ, ◌+◌, Bool, false, ◌==◌, ◌||◌, ◌&&◌, not, if◌then◌else◌, List, ◌∷◌, Some}
use Rattle.mon_types.specs.Shape.{Shape}
use Rattle.mon_types.specs.Enclaves.{empty_enclave, stage_code}
use Rattle.mon_types.specs.declared.region.Region.{Region}
use Rattle.mon_types.specs.declared.region.Region.TheVariants as regions
use Rattle.mon_types.specs.declared.enclave.Stage.TheVariants as stages
use Rattle.mon_types.specs.declared.enclave.Loaded.{Loaded}
use Rattle.mon_types.specs.declared.enclave.Enclave.{Enclave}
use Rattle.mon_types.specs.declared.thread.Mode.TheVariants as modes
use Rattle.mon_types.specs.declared.reply.Reply.{Reply}
use Rattle.mon_types.specs.declared.reply.Reply.TheVariants as replies
use Rattle.mon_types.specs.Replies.{done_if, ok_with_eight}
use Rattle.mon_types.specs.Owns.{withdrawn}
use Rattle.mon_model.specs.RegionCalls.{acts_for, is_empty, is_loading}
use Rattle.mon_model.specs.Loading.{in_range, has_root, takes_page, reserves_page, has_place_for_table, has_place_for_leaf}
use Rattle.mon_model.specs.Measure.{Item, Table, Page, Init, reserved_level, measure_created, measure_with}

-- ---- create

-- an enclave is created in a slot that holds none
abbrev pub create_reply : Enclave → Reply
create_reply enclave = done_if (is_empty enclave.stage)

-- its record: the range, the measurement begun, and all else as in an empty slot
abbrev pub created : ℕ → ℕ → Enclave
created base size =
    record empty_enclave { stage = stages.Loading; base = base; size = size; measure = measure_created base size }

-- the enclave with a longer measurement
abbrev pub measured : Enclave → Item → Enclave
measured enclave item = record enclave { measure = measure_with enclave.measure item }

-- ---- load_table, load_page, reserve: first the record decides, then the items

-- the record lets a table in: a root where there is none, or a table in range below the root
abbrev pub table_fits : Enclave → ℕ → ℕ → Bool
table_fits enclave va level = if level == 2 then not (has_root enclave) else in_range enclave va && has_root enclave

-- the record lets a page in: in range, below a root
abbrev pub leaf_fits : Enclave → ℕ → Bool
leaf_fits enclave va = in_range enclave va && has_root enclave

-- the page may be taken, the record lets the table in, and below the root its place is empty
abbrev pub load_table_reply : Shape → Enclave → List Loaded → ℕ → ℕ → ℕ → Reply
load_table_reply shape enclave items va level page =
    done_if (takes_page shape enclave page && table_fits enclave va level
    && (level == 2 || has_place_for_table items va level))

-- the OS owns the region
abbrev pub is_os_owned : Region → Bool
is_os_owned regions.Free = false
is_os_owned (regions.Owned owner since) = acts_for modes.Os owner
is_os_owned (regions.Blocked owner since at) = false
is_os_owned (regions.Offered to at) = false

-- the same of a page, which is copied from a region of the OS's alone
abbrev pub load_page_reply : Shape → Enclave → List Loaded → Region → ℕ → ℕ → Reply
load_page_reply shape enclave items source va page =
    if takes_page shape enclave page && leaf_fits enclave va
    then (if is_os_owned source then done_if (has_place_for_leaf items va) else replies.AccessDenied)
    else replies.InvalidState

-- the same of a page whose region the enclave is to accept later
abbrev pub reserve_reply : Shape → Enclave → List Loaded → ℕ → ℕ → Reply
reserve_reply shape enclave items va page =
    done_if (reserves_page shape enclave page && leaf_fits enclave va && has_place_for_leaf items va)

-- the record after a table
abbrev pub with_table : Enclave → ℕ → ℕ → ℕ → Enclave
with_table enclave va level page =
    let root = if level == 2 then Some page else enclave.root in
    record (measured enclave (Table va level)) { root = root; next_page = page + 1 }

-- after a page
abbrev pub with_page : Enclave → ℕ → ℕ → ℕ → List ℕ → Enclave
with_page enclave va page perms digest = record (measured enclave (Page va perms digest)) { next_page = page + 1 }

-- after a reserved page, which is measured as a table of its own level
abbrev pub with_reserved : Enclave → ℕ → ℕ → ℕ → Enclave
with_reserved enclave va page perms =
    record (measured enclave (Table va (reserved_level perms))) { next_page = page + 1 }

-- ---- init

-- an enclave that is being loaded, with a root and a thread, may be initialized
abbrev pub init_reply : Enclave → Reply
init_reply enclave = done_if (is_loading enclave.stage && has_root enclave && not (enclave.threads == 0))

-- its record: whole, and the measurement at its end
abbrev pub initialized : Enclave → Enclave
initialized enclave = record (measured enclave Init) { stage = stages.Initialized }

-- ---- delete

-- an enclave without threads may be deleted
abbrev pub delete_reply : Enclave → Reply
delete_reply enclave = done_if (not (is_empty enclave.stage) && enclave.threads == 0)

-- a region of a deleted enclave at ticket k; one that is not owned, which never comes, stays
abbrev pub deleted : Region → ℕ → Region
deleted region k = withdrawn region k

-- ---- enclave_info

-- stage, base, size, region set, measurement
abbrev pub enclave_info_reply : Enclave → Reply
enclave_info_reply enclave =
    ok_with_eight (stage_code enclave.stage ∷ enclave.base ∷ enclave.size ∷ enclave.regions ∷ enclave.measure)
