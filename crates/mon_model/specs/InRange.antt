-- Calls whose arguments name what is there, as those of every call that is not refused early do. This project's own.
use Rattle.std.specs.Prelude.{◌≡◌, ◌<◌, ◌^◌, ⊤}
use Rattle.mon_types.specs.Owns.{os_word}
use Rattle.mon_types.specs.Shape.{Shape, page_total}
use Rattle.mon_types.specs.declared.call.Call.{Call}
use Rattle.mon_types.specs.declared.call.Call.TheVariants as calls

-- each region, page, enclave slot, thread slot and mailbox that the call names is one of the machine, an
-- assign may name the OS instead of a slot, addresses of tables and pages are below 2 ^ 38, and levels and
-- permissions are small
abbrev pub IsInRange : Shape → Call → Type 0
IsInRange shape (calls.Block r) = r < shape.regions
IsInRange shape (calls.Free r) = r < shape.regions
IsInRange shape (calls.Assign r to) = (r < shape.regions) × ((to ≡ os_word → ⊥) → to < 8)
IsInRange shape calls.Flush = ⊤
IsInRange shape (calls.RegionInfo r) = r < shape.regions
IsInRange shape (calls.Create e base size) = e < 8
IsInRange shape (calls.LoadTable e va level page) = (e < 8) × (level < 3) × (page < page_total shape) × (va < 2 ^ 38)
IsInRange shape (calls.LoadPage e va page src perms) =
    (e < 8) × (page < page_total shape) × (src < page_total shape) × (perms < 8) × (va < 2 ^ 38)
IsInRange shape (calls.LoadThread e t entry sp) = (e < 8) × (t < 16)
IsInRange shape (calls.Init e) = e < 8
IsInRange shape (calls.DeleteThread e t) = (e < 8) × (t < 16)
IsInRange shape (calls.Delete e) = e < 8
IsInRange shape (calls.Enter e t) = (e < 8) × (t < 16)
IsInRange shape calls.Exit = ⊤
IsInRange shape (calls.Aex saved) = ⊤
IsInRange shape calls.Restore = ⊤
IsInRange shape (calls.Accept m from) = (m < 2) × (from < 8)
IsInRange shape (calls.Send to m w0 w1 w2 w3) = (to < 8) × (m < 2)
IsInRange shape (calls.Read m) = m < 2
IsInRange shape (calls.EnclaveInfo e) = e < 8
IsInRange shape (calls.SetSatp v) = ⊤
IsInRange shape (calls.AcceptRegion r) = r < shape.regions
IsInRange shape (calls.Reserve e va page perms) = (e < 8) × (page < page_total shape) × (perms < 8) × (va < 2 ^ 38)
IsInRange shape (calls.Unknown number args) = ⊤
