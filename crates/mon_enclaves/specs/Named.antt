-- What the calls that change an enclave's record leave of it. This project's own.
use Rattle.std.specs.Prelude.{ℕ, ◌<◌, ◌^◌, ◌-◌, List}
use Rattle.mon_types.specs.declared.call.Call.{Call}
use Rattle.mon_types.specs.declared.call.Call.TheVariants as calls
use Rattle.mon_types.specs.declared.enclave.Enclave.{Enclave}
use Rattle.mon_model.specs.EnclaveCalls.{created, with_table, with_page, with_reserved}

-- a create
abbrev pub IsCreate : Call → Type 0
IsCreate (calls.Create e base size) = Unit {0}
IsCreate _ = ⊥

-- a load_table of a page whose number and the next are numbers of pages
abbrev pub IsLoadTable : Call → Type 0
IsLoadTable (calls.LoadTable e va level page) = page < 2 ^ 16 - 1
IsLoadTable _ = ⊥

-- a load_page of such a page
abbrev pub IsLoadPage : Call → Type 0
IsLoadPage (calls.LoadPage e va page src perms) = page < 2 ^ 16 - 1
IsLoadPage _ = ⊥

-- a reserve of such a page, with permissions of three bits
abbrev pub IsReserve : Call → Type 0
IsReserve (calls.Reserve e va page perms) = (page < 2 ^ 16 - 1) × (perms < 8)
IsReserve _ = ⊥

-- the enclave's record after a create; after another call it stays
abbrev pub after_creating : Call → Enclave → Enclave
after_creating (calls.Create e base size) enclave = created base size
after_creating _ enclave = enclave

-- after a load_table; after another call it stays
abbrev pub after_loading_table : Call → Enclave → Enclave
after_loading_table (calls.LoadTable e va level page) enclave = with_table enclave va level page
after_loading_table _ enclave = enclave

-- after a load_page with this digest; after another call it stays
abbrev pub after_loading_page : Call → Enclave → List ℕ → Enclave
after_loading_page (calls.LoadPage e va page src perms) enclave digest = with_page enclave va page perms digest
after_loading_page _ enclave digest = enclave

-- after a reserve; after another call it stays
abbrev pub after_reserving : Call → Enclave → Enclave
after_reserving (calls.Reserve e va page perms) enclave = with_reserved enclave va page perms
after_reserving _ enclave = enclave
