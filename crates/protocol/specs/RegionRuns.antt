-- The moves of the calls on regions, written down by hand. This project's own.
use Rattle.std.specs.Prelude.{ℕ, List, [], ◌∷◌, ◌++◌, map}
use Rattle.std.specs.List.{range_with_len}
use Rattle.mon_types.specs.Owns.{os_word}
use Rattle.mon_types.specs.Replies.{done, ok_with_four}
use Rattle.mon_types.specs.Enclaves.{empty_enclave, enclave_row}
use Rattle.mon_types.specs.declared.region.Owner.TheVariants as owners
use Rattle.mon_types.specs.declared.region.Region.{Region}
use Rattle.mon_types.specs.declared.region.Region.TheVariants as regions
use Rattle.mon_types.specs.declared.enclave.Enclave.{Enclave}
use Rattle.mon_types.specs.declared.enclave.Stage.TheVariants as stages
use Rattle.mon_types.specs.declared.call.Call.TheVariants as calls
use Rattle.mon_types.specs.declared.reply.Reply.TheVariants as replies
use Rattle.mon_model.specs.State.{State, with_region, with_enclave, with_flushed}
use Rattle.protocol.specs.declared.action.Action.{Action}
use Rattle.protocol.specs.declared.action.Action.TheVariants as actions
use Rattle.protocol.specs.declared.action.Outcome.{Outcome}
use Rattle.protocol.specs.declared.action.Outcome.TheVariants as outcomes
use Rattle.mon_model.specs.Examples.{r1, c0, c1}
use Rattle.protocol.specs.Alone.{begin, takes, writes, draws, gives, stores, e3}

-- ---- states

-- region 1 is in this state
abbrev pub with_r1 : Region → State
with_r1 region = with_region begin 1 region

-- region 1 is Blocked since ticket 5, and the cores have flushed at these tickets
abbrev pub blocked_at_5 : ℕ → ℕ → State
blocked_at_5 first second =
    with_flushed (with_flushed (with_r1 (regions.Blocked owners.Os 0 5)) 0 first) 1 second

-- an enclave with region 1 in its set, in this stage
abbrev pub owner_of_r1 : Enclave
owner_of_r1 = record empty_enclave { stage = stages.Initialized; size = 4096; regions = 2; threads = 1 }

-- the enclave in slot 3 has region 1 since ticket 7
abbrev pub r1_of_e3 : State
r1_of_e3 = with_enclave (with_r1 (regions.Owned (owners.Enclave 3) 7)) 3 owner_of_r1

-- an enclave that is being loaded, without regions
abbrev pub e3_loading : Enclave
e3_loading = record empty_enclave { stage = stages.Loading; size = 4096 }

-- the same initialized
abbrev pub e3_initialized : Enclave
e3_initialized = record empty_enclave { stage = stages.Initialized; size = 4096; threads = 1 }

-- region 1 is Free and the slot 3 has this enclave
abbrev pub r1_free_beside : Enclave → State
r1_free_beside enclave = with_enclave (with_r1 regions.Free) 3 enclave

-- region 1 is offered to slot 3 since ticket 9
abbrev pub r1_offered : State
r1_offered = with_enclave (with_r1 (regions.Offered 3 9)) 3 e3_initialized

-- ---- block

-- the OS blocks its region: the own-word goes from Owned, 1, to Blocked, 2, before the Draw
abbrev pub block_ok : List (Action × Outcome)
block_ok =
    takes r1 (1 ∷ 0 ∷ []) ++ writes r1 0 2 ∷ draws (calls.Block 1) done (r1 ∷ []) ∷ writes r1 1 21 ∷ gives r1 ∷ []

-- a Free region is not blocked
abbrev pub block_refused : List (Action × Outcome)
block_refused = takes r1 (0 ∷ 0 ∷ []) ++ draws (calls.Block 1) replies.InvalidState (r1 ∷ []) ∷ gives r1 ∷ []

-- An enclave blocks its own region: 1 + 4 * 4 + 64 * 7 becomes 2 + 4 * 4 + 64 * 7, and the set, word 3 of its row,
-- loses the region.
abbrev pub block_by_enclave : List (Action × Outcome)
block_by_enclave =
    takes e3 (enclave_row owner_of_r1)
    ++ takes r1 (465 ∷ 0 ∷ [])
    ++ writes r1 0 466
    ∷ draws (calls.Block 1) done (e3 ∷ r1 ∷ [])
    ∷ writes e3 3 0
    ∷ writes r1 1 21
    ∷ gives r1
    ∷ gives e3
    ∷ []

-- It finds region 1 held by call 5 of core 0, draws at once, names that call, and gives back the enclave's lock.
abbrev pub block_meets : List (Action × Outcome)
block_meets =
    takes e3 (enclave_row owner_of_r1)
    ++ (actions.TryLock r1, outcomes.HeldBy 0 5)
    ∷ draws (calls.Block 1) (replies.ConcurrentCall r1 0 5) (e3 ∷ r1 ∷ [])
    ∷ gives e3
    ∷ []

-- ---- free

-- the region and all cells; after the Draw 0 in each of the words 512 to 1023, then the row
abbrev pub free_ok : List (Action × Outcome)
free_ok =
    takes r1 (2 ∷ 5 ∷ [])
    ++ takes c0 (6 ∷ [])
    ++ takes c1 (7 ∷ [])
    ++ draws (calls.Free 1) done (r1 ∷ c0 ∷ c1 ∷ [])
    ∷ map (λ i. stores i 0) (range_with_len 512 512)
    ++ writes r1 0 0
    ∷ writes r1 1 0
    ∷ gives c1
    ∷ gives c0
    ∷ gives r1
    ∷ []

-- core 1 has not flushed since the blocking
abbrev pub free_not_flushed : List (Action × Outcome)
free_not_flushed =
    takes r1 (2 ∷ 5 ∷ [])
    ++ takes c0 (6 ∷ [])
    ++ takes c1 (4 ∷ [])
    ++ draws (calls.Free 1) replies.NotFlushed (r1 ∷ c0 ∷ c1 ∷ [])
    ∷ gives c1
    ∷ gives c0
    ∷ gives r1
    ∷ []

-- an Owned region: no cell is tried
abbrev pub free_refused : List (Action × Outcome)
free_refused = takes r1 (1 ∷ 0 ∷ []) ++ draws (calls.Free 1) replies.InvalidState (r1 ∷ []) ∷ gives r1 ∷ []

-- ---- assign

-- to the OS: 1 + 64 * 21
abbrev pub assign_ok : List (Action × Outcome)
assign_ok =
    takes r1 (0 ∷ 0 ∷ []) ++ draws (calls.Assign 1 os_word) done (r1 ∷ []) ∷ writes r1 0 1345 ∷ gives r1 ∷ []

-- to a Loading enclave: its set gains the region, which is its own, 1 + 4 * 4 + 64 * 21
abbrev pub assign_to_enclave : List (Action × Outcome)
assign_to_enclave =
    takes e3 (enclave_row e3_loading)
    ++ takes r1 (0 ∷ 0 ∷ [])
    ++ draws (calls.Assign 1 3) done (e3 ∷ r1 ∷ [])
    ∷ writes e3 3 2
    ∷ writes r1 0 1361
    ∷ gives r1
    ∷ gives e3
    ∷ []

-- to an Initialized one: it is offered, 3 + 4 * 4 + 64 * 21
abbrev pub assign_offers : List (Action × Outcome)
assign_offers =
    takes e3 (enclave_row e3_initialized)
    ++ takes r1 (0 ∷ 0 ∷ [])
    ++ draws (calls.Assign 1 3) done (e3 ∷ r1 ∷ [])
    ∷ writes r1 0 1363
    ∷ gives r1
    ∷ gives e3
    ∷ []

-- an Owned region is not assigned
abbrev pub assign_refused : List (Action × Outcome)
assign_refused =
    takes r1 (1 ∷ 0 ∷ []) ++ draws (calls.Assign 1 os_word) replies.InvalidState (r1 ∷ []) ∷ gives r1 ∷ []

-- ---- flush

-- the core's cell gets the ticket
abbrev pub flush_ok : List (Action × Outcome)
flush_ok = takes c1 (7 ∷ []) ++ draws calls.Flush done (c1 ∷ []) ∷ writes c1 0 21 ∷ gives c1 ∷ []

-- an enclave may not flush: refused early
abbrev pub flush_refused : List (Action × Outcome)
flush_refused = draws calls.Flush replies.AccessDenied [] ∷ []

-- ---- region_info

-- Blocked, by the OS, since 0, at 5
abbrev pub region_info_ok : List (Action × Outcome)
region_info_ok =
    takes r1 (2 ∷ 5 ∷ []) ++ draws (calls.RegionInfo 1) (ok_with_four 2 os_word 0 5) (r1 ∷ []) ∷ gives r1 ∷ []

-- there is no region 8: refused early
abbrev pub region_info_refused : List (Action × Outcome)
region_info_refused = draws (calls.RegionInfo 8) replies.InvalidValue [] ∷ []

-- ---- accept_region

-- the region is the enclave's, 1 + 4 * 4 + 64 * 21 where 3 + 4 * 4 + 64 * 9 stood, and its set gains it
abbrev pub accept_region_ok : List (Action × Outcome)
accept_region_ok =
    takes e3 (enclave_row e3_initialized)
    ++ takes r1 (595 ∷ 0 ∷ [])
    ++ draws (calls.AcceptRegion 1) done (e3 ∷ r1 ∷ [])
    ∷ writes e3 3 2
    ∷ writes r1 0 1361
    ∷ gives r1
    ∷ gives e3
    ∷ []

-- a region that is not offered
abbrev pub accept_region_refused : List (Action × Outcome)
accept_region_refused =
    takes e3 (enclave_row e3_initialized)
    ++ takes r1 (0 ∷ 0 ∷ [])
    ++ draws (calls.AcceptRegion 1) replies.InvalidState (e3 ∷ r1 ∷ [])
    ∷ gives r1
    ∷ gives e3
    ∷ []
