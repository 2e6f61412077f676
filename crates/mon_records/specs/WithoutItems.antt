-- A state without its loaded items, and the calls whose replies need none. This project's own.
use Rattle.std.specs.Prelude.{◌≡◌, ⊤, [], replicate}
use Rattle.mon_types.specs.declared.call.Call.{Call}
use Rattle.mon_types.specs.declared.call.Call.TheVariants as calls
use Rattle.mon_model.specs.State.{State}

-- the state with nothing loaded into any enclave slot
unfoldable pub without_items : State → State
without_items s = record s { loaded = replicate 8 [] }

-- The reply is decided by the records of the objects that are tried alone, by the kind of the call: it is for every
-- call but a load_table that names no root, a load_page and a reserve, which may go by loaded items, and in the machine
-- by words of page tables.
abbrev pub IsDecidedByRecords : Call → Type 0
IsDecidedByRecords (calls.LoadTable e va level page) = level ≡ 2
IsDecidedByRecords (calls.LoadPage e va page src perms) = ⊥
IsDecidedByRecords (calls.Reserve e va page perms) = ⊥
IsDecidedByRecords _ = ⊤
