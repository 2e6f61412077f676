-- The objects whose locks a call tries, in the one order in which objects are ever tried: enclaves,
-- threads, regions, cells, each ascending. This project's own.
use Rattle.std.specs.Prelude.{ℕ, ◌+◌, ◌^◌, ◌==◌, nat_lt, if◌then◌else◌, List, [], ◌∷◌, ◌++◌, map, Option, Some, None}
use Rattle.std.specs.List.{range_with_len}
use Rattle.mon_types.specs.Shape.{Shape, region_of_page}
use Rattle.mon_types.specs.declared.region.Region.{Region}
use Rattle.mon_types.specs.declared.region.Region.TheVariants as regions
use Rattle.mon_types.specs.declared.thread.Mode.{Mode}
use Rattle.mon_types.specs.declared.thread.Mode.TheVariants as modes
use Rattle.mon_types.specs.declared.call.Call.{Call}
use Rattle.mon_types.specs.declared.call.Call.TheVariants as calls
use Rattle.mon_types.specs.declared.reply.Reply.{Reply}
use Rattle.mon_types.specs.declared.object.ObjectId.{ObjectId}
use Rattle.mon_types.specs.declared.object.ObjectId.TheVariants as objects
use Rattle.mon_types.specs.declared.object.Tried.{Tried}
use Rattle.mon_types.specs.Owns.{os_word}
use Rattle.mon_types.specs.Bits.{members}
use Rattle.mon_types.specs.Modes.{own_slot, own_thread}
use Rattle.mon_model.specs.State.{State, region_at, enclave_at, mode_of}
use Rattle.mon_model.specs.Early.{early}

-- the cell of each core
abbrev pub all_cells : ℕ → List ObjectId
all_cells cores = map (λ core. objects.Cell core) (range_with_len 0 cores)

-- a free needs every core's cell, but only where there is something to free
abbrev pub free_tries : ℕ → ℕ → Region → List ObjectId
free_tries cores r regions.Free = objects.Region r ∷ []
free_tries cores r (regions.Owned owner since) = objects.Region r ∷ []
free_tries cores r (regions.Blocked owner since at) = objects.Region r ∷ all_cells cores
free_tries cores r (regions.Offered to at) = objects.Region r ∷ []

-- the enclave that a core is inside, if it is inside one
abbrev pub own_enclave : Mode → List ObjectId
own_enclave modes.Os = []
own_enclave (modes.Inside e t) = objects.Enclave e ∷ []

-- the enclave to which a region is assigned, unless it is the OS, and the region
abbrev pub assign_tries : ℕ → ℕ → List ObjectId
assign_tries r to = if to == os_word then objects.Region r ∷ [] else objects.Enclave to ∷ objects.Region r ∷ []

-- the lower first, and once if they are one
abbrev pub send_tries : ℕ → ℕ → List ObjectId
send_tries own to =
    if own == to then objects.Enclave own ∷ []
    else if nat_lt own to then objects.Enclave own ∷ objects.Enclave to ∷ []
    else objects.Enclave to ∷ objects.Enclave own ∷ []

-- an enclave slot, and each region of a set that a machine with so many regions has
abbrev pub delete_tries : ℕ → ℕ → ℕ → List ObjectId
delete_tries e set count = objects.Enclave e ∷ map (λ r. objects.Region r) (members set count)

-- The objects that a call which is not refused early tries, in order, made by this core in this mode. What two calls
-- try depends on a record: a free on that of the region that it names, a delete on the set of regions of the enclave
-- that it names. These stand last; other calls look at neither.
abbrev pub plan : Shape → ℕ → Mode → Call → Region → ℕ → List ObjectId
plan shape core mode (calls.Block r) region set = own_enclave mode ++ objects.Region r ∷ []
plan shape core mode (calls.Free r) region set = free_tries shape.cores r region
plan shape core mode (calls.Assign r to) region set = assign_tries r to
plan shape core mode calls.Flush region set = objects.Cell core ∷ []
plan shape core mode (calls.RegionInfo r) region set = objects.Region r ∷ []
plan shape core mode (calls.Create e base size) region set = objects.Enclave e ∷ []
plan shape core mode (calls.LoadTable e va level page) region set = objects.Enclave e ∷ []
plan shape core mode (calls.LoadPage e va page src perms) region set =
    objects.Enclave e ∷ objects.Region (region_of_page shape src) ∷ []
plan shape core mode (calls.LoadThread e t entry sp) region set = objects.Enclave e ∷ objects.Thread t ∷ []
plan shape core mode (calls.Init e) region set = objects.Enclave e ∷ []
plan shape core mode (calls.DeleteThread e t) region set = objects.Enclave e ∷ objects.Thread t ∷ []
plan shape core mode (calls.Delete e) region set = delete_tries e set shape.regions
plan shape core mode (calls.Enter e t) region set = objects.Enclave e ∷ objects.Thread t ∷ []
plan shape core mode calls.Exit region set = objects.Thread (own_thread mode) ∷ []
plan shape core mode (calls.Aex saved) region set = objects.Thread (own_thread mode) ∷ []
plan shape core mode calls.Restore region set = objects.Thread (own_thread mode) ∷ []
plan shape core mode (calls.Accept m from) region set = own_enclave mode
plan shape core mode (calls.Send to m w0 w1 w2 w3) region set = send_tries (own_slot mode) to
plan shape core mode (calls.Read m) region set = own_enclave mode
plan shape core mode (calls.EnclaveInfo e) region set = objects.Enclave e ∷ []
plan shape core mode (calls.SetSatp v) region set = []
plan shape core mode (calls.AcceptRegion r) region set = own_enclave mode ++ objects.Region r ∷ []
plan shape core mode (calls.Reserve e va page perms) region set = objects.Enclave e ∷ []
plan shape core mode (calls.Unknown number args) region set = []

-- the region that a free names; 0 for other calls, whose plan looks at no region
abbrev pub freed_by : Call → ℕ
freed_by (calls.Free r) = r
freed_by _ = 0

-- the enclave slot that a delete names; 0 for other calls, whose plan looks at no set
abbrev pub deleted_by : Call → ℕ
deleted_by (calls.Delete e) = e
deleted_by _ = 0

-- the same in a state, which has these records
abbrev pub held_tries : State → ℕ → Call → List ObjectId
held_tries s core call =
    plan s.shape core (mode_of s core) call (region_at s (freed_by call)) (enclave_at s (deleted_by call)).regions

-- nothing where the call is refused
abbrev pub unless_refused : Option Reply → List ObjectId → List ObjectId
unless_refused None tried = tried
unless_refused (Some refusal) tried = []

-- what a call tries in a state; nothing where it is refused early
abbrev pub tries : State → ℕ → Call → List ObjectId
tries s core call = unless_refused (early s.shape (mode_of s core) call) (held_tries s core call)

-- these objects as sets of bits; no object stands twice
abbrev pub add_tried : ObjectId → Tried → Tried
add_tried (objects.Enclave e) t = record t { enclaves = t.enclaves + 2 ^ e }
add_tried (objects.Thread h) t = record t { threads = t.threads + 2 ^ h }
add_tried (objects.Region r) t = record t { regions = t.regions + 2 ^ r }
add_tried (objects.Cell c) t = record t { cells = t.cells + 2 ^ c }

-- the set of no object, and each of these added to it
abbrev pub tried_set : List ObjectId → Tried
tried_set [] = record { enclaves = 0; threads = 0; regions = 0; cells = 0 }
tried_set (x ∷ xs) = add_tried x (tried_set xs)
