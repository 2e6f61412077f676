-- The moves of create, init, delete, enclave_info and set_satp, written down by hand. This project's own.
use Rattle.std.specs.Prelude.{ℕ, ◌+◌, ◌*◌, ◌^◌, List, [], ◌∷◌, ◌++◌, Some}
use Rattle.mon_types.specs.Replies.{done, ok_with_eight}
use Rattle.mon_types.specs.Enclaves.{empty_enclave, enclave_row}
use Rattle.mon_types.specs.declared.region.Owner.TheVariants as owners
use Rattle.mon_types.specs.declared.region.Region.TheVariants as regions
use Rattle.mon_types.specs.declared.enclave.Enclave.{Enclave}
use Rattle.mon_types.specs.declared.enclave.Stage.TheVariants as stages
use Rattle.mon_types.specs.declared.call.Call.TheVariants as calls
use Rattle.mon_types.specs.declared.reply.Reply.TheVariants as replies
use Rattle.mon_model.specs.State.{State, with_region, with_enclave}
use Rattle.protocol.specs.declared.action.Action.{Action}
use Rattle.protocol.specs.declared.action.Outcome.{Outcome}
use Rattle.mon_model.specs.Examples.{r1, r2}
use Rattle.protocol.specs.Alone.{begin, takes, writes, draws, gives, e3}

-- ---- states

-- slot 3 has this enclave
abbrev pub with_e3 : Enclave → State
with_e3 enclave = with_enclave begin 3 enclave

-- a Loading enclave with regions 1 and 2, a root in page 1, and this many threads
abbrev pub loading_with : ℕ → Enclave
loading_with threads =
    record empty_enclave {
      stage = stages.Loading;
      base = 0;
      size = 4194304;
      regions = 6;
      root = Some 1;
      next_page = 2;
      threads = threads;
      measure = 11 ∷ 12 ∷ 13 ∷ 14 ∷ [];
    }

-- the same initialized, with one thread
abbrev pub running : Enclave
running = record (loading_with 1) { stage = stages.Initialized }

-- slot 3 has a Loading enclave without threads, and its regions are its own since tickets 7 and 8
abbrev pub deletable : State
deletable =
    with_region (with_region (with_e3 (loading_with 0)) 1 (regions.Owned (owners.Enclave 3) 7)) 2
    (regions.Owned (owners.Enclave 3) 8)

-- ---- create: up to the measurement, whose words are SHA-256's to say

-- stage, base and size are the first words that differ
abbrev pub create_ok : List (Action × Outcome)
create_ok =
    takes e3 (enclave_row empty_enclave)
    ++ draws (calls.Create 3 4096 8192) done (e3 ∷ [])
    ∷ writes e3 0 1
    ∷ writes e3 1 4096
    ∷ writes e3 2 8192
    ∷ []

-- the slot is taken
abbrev pub create_refused : List (Action × Outcome)
create_refused =
    takes e3 (enclave_row running)
    ++ draws (calls.Create 3 4096 8192) replies.InvalidState (e3 ∷ [])
    ∷ gives e3
    ∷ []

-- ---- init: up to the measurement

-- the stage
abbrev pub init_ok : List (Action × Outcome)
init_ok = takes e3 (enclave_row (loading_with 1)) ++ draws (calls.Init 3) done (e3 ∷ []) ∷ writes e3 0 2 ∷ []

-- there is no thread
abbrev pub init_refused : List (Action × Outcome)
init_refused =
    takes e3 (enclave_row (loading_with 0))
    ++ draws (calls.Init 3) replies.InvalidState (e3 ∷ [])
    ∷ gives e3
    ∷ []

-- ---- delete

-- Both own-words are written before the Draw, ascending. After it the slot's words that were not 0, then the ticket of
-- each blocking. The row of the slot is this.
abbrev pub delete_from : List ℕ → List (Action × Outcome)
delete_from row =
    takes e3 row
    ++ takes r1 (465 ∷ 0 ∷ [])
    ++ takes r2 (529 ∷ 0 ∷ [])
    ++ writes r1 0 466
    ∷ writes r2 0 530
    ∷ draws (calls.Delete 3) done (e3 ∷ r1 ∷ r2 ∷ [])
    ∷ writes e3 0 0
    ∷ writes e3 2 0
    ∷ writes e3 3 0
    ∷ writes e3 4 0
    ∷ writes e3 5 0
    ∷ writes e3 7 0
    ∷ writes e3 8 0
    ∷ writes e3 9 0
    ∷ writes e3 10 0
    ∷ writes r1 1 21
    ∷ writes r2 1 21
    ∷ gives r2
    ∷ gives r1
    ∷ gives e3
    ∷ []

-- that of an enclave with two regions
abbrev pub delete_ok : List (Action × Outcome)
delete_ok = delete_from (enclave_row (loading_with 0))

-- it has a thread: its regions are tried all the same, and nothing is written
abbrev pub delete_refused : List (Action × Outcome)
delete_refused =
    takes e3 (enclave_row running)
    ++ takes r1 (1 ∷ 0 ∷ [])
    ++ takes r2 (1 ∷ 0 ∷ [])
    ++ draws (calls.Delete 3) replies.InvalidState (e3 ∷ r1 ∷ r2 ∷ [])
    ∷ gives r2
    ∷ gives r1
    ∷ gives e3
    ∷ []

-- ---- enclave_info

-- stage, base, size, set, measurement
abbrev pub enclave_info_ok : List (Action × Outcome)
enclave_info_ok =
    takes e3 (enclave_row running)
    ++ draws (calls.EnclaveInfo 3) (ok_with_eight (2 ∷ 0 ∷ 4194304 ∷ 6 ∷ 11 ∷ 12 ∷ 13 ∷ 14 ∷ [])) (e3 ∷ [])
    ∷ gives e3
    ∷ []

-- there is no slot 8
abbrev pub enclave_info_refused : List (Action × Outcome)
enclave_info_refused = draws (calls.EnclaveInfo 8) replies.InvalidValue [] ∷ []

-- ---- set_satp: Ok and refused it draws alone

-- mode 8, ASID 0, root 0x80001
abbrev pub good_satp : ℕ
good_satp = 8 * 2 ^ 60 + 0x80001

-- it tries nothing
abbrev pub set_satp_ok : List (Action × Outcome)
set_satp_ok = draws (calls.SetSatp good_satp) done [] ∷ []

-- mode 9
abbrev pub set_satp_refused : List (Action × Outcome)
set_satp_refused = draws (calls.SetSatp (9 * 2 ^ 60)) replies.InvalidValue [] ∷ []
