-- Rows of words that are no record, and entries that lead to no page: how calls read them. By the invariant such words
-- never come. This project's own.
use Rattle.std.specs.Prelude.{ℕ, ◌+◌, ◌^◌, List, [], ◌∷◌, ◌++◌, slice_set}
use Rattle.mon_types.specs.Owns.{os_word}
use Rattle.mon_types.specs.Replies.{done, ok_with_four}
use Rattle.mon_types.specs.Enclaves.{enclave_row}
use Rattle.mon_types.specs.declared.call.Call.TheVariants as calls
use Rattle.mon_types.specs.declared.reply.Reply.TheVariants as replies
use Rattle.protocol.specs.declared.action.Action.{Action}
use Rattle.protocol.specs.declared.action.Outcome.{Outcome}
use Rattle.mon_model.specs.Examples.{r1, c0, c1}
use Rattle.protocol.specs.Alone.{takes, writes, draws, gives, loads, e3}
use Rattle.protocol_runs.specs.EnclaveRuns.{loading_with, delete_from}
use Rattle.protocol.specs.LoadRuns.{with_root}

-- ---- regions: two words that are no region's row are Free

-- the own-word of owner 9, whom there is not: 1 + 4 * 9
abbrev pub owned_by_nobody : ℕ
owned_by_nobody = 37

-- it reads as Free, and the word that is to stand there, 0, is written
abbrev pub odd_region_info : List (Action × Outcome)
odd_region_info =
    takes r1 (owned_by_nobody ∷ 0 ∷ [])
    ++ draws (calls.RegionInfo 1) (ok_with_four 0 os_word 0 0) (r1 ∷ [])
    ∷ writes r1 0 0
    ∷ gives r1
    ∷ []

-- it is not blocked; and a refused call writes nothing, though 0 is to stand there
abbrev pub odd_block : List (Action × Outcome)
odd_block =
    takes r1 (owned_by_nobody ∷ 0 ∷ []) ++ draws (calls.Block 1) replies.InvalidState (r1 ∷ []) ∷ gives r1 ∷ []

-- Owned by the OS since 0, and yet blocked at 5: it is given, and both words are written
abbrev pub odd_assign : List (Action × Outcome)
odd_assign =
    takes r1 (1 ∷ 5 ∷ [])
    ++ draws (calls.Assign 1 os_word) done (r1 ∷ [])
    ∷ writes r1 0 1345
    ∷ writes r1 1 0
    ∷ gives r1
    ∷ []

-- ---- cells: a word above the greatest u32 is 0

-- so the core has not flushed since 5
abbrev pub odd_free : List (Action × Outcome)
odd_free =
    takes r1 (2 ∷ 5 ∷ [])
    ++ takes c0 (6 ∷ [])
    ++ takes c1 ((2 ^ 32 + 7) ∷ [])
    ++ draws (calls.Free 1) replies.NotFlushed (r1 ∷ c0 ∷ c1 ∷ [])
    ∷ gives c1
    ∷ gives c0
    ∷ gives r1
    ∷ []

-- ---- enclaves

-- the set has region 8 too, which there is not: it is not tried
abbrev pub odd_delete : List (Action × Outcome)
odd_delete = delete_from (slice_set (enclave_row (loading_with 0)) 3 262)

-- a root in page 8, which there is not, is none
abbrev pub odd_load_table : List (Action × Outcome)
odd_load_table =
    takes e3 (slice_set (enclave_row with_root) 4 9)
    ++ draws (calls.LoadTable 3 0 1 4) replies.InvalidState (e3 ∷ [])
    ∷ gives e3
    ∷ []

-- ---- entries

-- the pte that leads to page 8
abbrev pub to_page_8 : ℕ
to_page_8 = 536879105

-- it leads to no page of DRAM, so the table is missing
abbrev pub odd_path : List (Action × Outcome)
odd_path =
    takes e3 (enclave_row with_root)
    ++ loads 512 to_page_8
    ∷ draws (calls.LoadTable 3 0 0 4) replies.InvalidState (e3 ∷ [])
    ∷ gives e3
    ∷ []
