-- Walks, touches, and looks at a region that is being withdrawn. This project's own.
use Rattle.std.specs.Prelude.{ℕ, ◌+◌, ◌*◌, ◌^◌, List, [], ◌∷◌}
use Rattle.mon_types.specs.Replies.{done}
use Rattle.mon_types.specs.declared.region.Owner.TheVariants as owners
use Rattle.mon_types.specs.declared.call.Call.{Call}
use Rattle.mon_types.specs.declared.call.Call.TheVariants as calls
use Rattle.mon_types.specs.declared.script.Line.{Line}
use Rattle.mon_types.specs.declared.script.Line.TheVariants as lines
use Rattle.hist.specs.declared.event.Event.{Event}
use Rattle.hist.specs.declared.event.Event.TheVariants as events
use Rattle.hist.specs.declared.event.Why.TheVariants as whys
use Rattle.protocol.specs.declared.action.Action.TheVariants as actions
use Rattle.protocol.specs.declared.action.Move.{Move}
use Rattle.protocol.specs.declared.action.Move.TheVariants as moves
use Rattle.protocol.specs.declared.action.Outcome.{Outcome}
use Rattle.protocol.specs.declared.action.Outcome.TheVariants as outcomes
use Rattle.protocol.specs.Views.{entry_of}
use Rattle.protocol.specs.Runs.{Made}
use Rattle.core_behaviour.specs.Runs.{run_by}
use Rattle.core_behaviour_runs.specs.Machines.{small, draft, r1, c0}
use Rattle.core_behaviour_runs.specs.Parts.{begun}
use Rattle.core_behaviour_runs.specs.Shown.{words_with, told_on}

-- ---- a walk

-- Sv39, with its root on page 1
abbrev pub tables_satp : ℕ
tables_satp = 8 * 2 ^ 60 + 0x80001

-- the address whose page-table entries are entry 2 of the root, entry 3 of the next table, and entry 4 of the last one
abbrev pub by_three_tables : ℕ
by_three_tables = 0x8060_4000

-- a page-table entry that leads to the table on page 1
abbrev pub to_page_1 : ℕ
to_page_1 = 0x2000_0401

-- that of a leaf on page 0, which the OS may use for every access
abbrev pub on_page_0 : ℕ
on_page_0 = 0x2000_00CF

-- the OS sets satp, and loads two words of one page; page 1 is all three tables, with this entry in the middle one
abbrev pub walked_by : ℕ → List Move
walked_by middle =
    told_on (words_with ((514, to_page_1) ∷ (515, middle) ∷ (516, on_page_0) ∷ [])) begun
    (lines.Make (calls.SetSatp tables_satp)
    ∷ lines.LoadWord by_three_tables
    ∷ lines.LoadWord (by_three_tables + 8)
    ∷ [])

-- the call, which tries no object, and the walk down to the middle table
abbrev pub walk_begins : List Move
walk_begins =
    moves.InCall (actions.Draw (draft 0 (calls.SetSatp tables_satp) done []))
    ∷ moves.Look 1 owners.Os
    ∷ moves.Load 514
    ∷ moves.Look 1 owners.Os
    ∷ moves.Load 515
    ∷ []

-- from there on to the page; the second word is found by the translation cache
abbrev pub walk_ends : List Move
walk_ends =
    moves.Look 1 owners.Os ∷ moves.Load 516 ∷ moves.Look 0 owners.Os ∷ moves.Load 0 ∷ moves.Load 1 ∷ []

-- both loads end with a page fault; the second one is behind another walk
abbrev pub walk_faults : List Move
walk_faults =
    moves.Stop 2 (whys.Trap 13 by_three_tables)
    ∷ moves.Look 1 owners.Os
    ∷ moves.Load 514
    ∷ moves.Look 1 owners.Os
    ∷ moves.Load 515
    ∷ moves.Stop 3 (whys.Trap 13 (by_three_tables + 8))
    ∷ []

-- ---- touches

-- a word is loaded before this call and behind it
abbrev pub loaded_round : Call → List Made
loaded_round call =
    run_by (small 1 [])
    ((lines.LoadWord 0x8000_0000 ∷ lines.Make call ∷ lines.LoadWord 0x8000_0000 ∷ []) ∷ []) [] 11

-- behind a flush the region is touched again
abbrev pub touched_twice : List Event
touched_twice =
    events.Touch 0 0 ∷ events.Entry (entry_of 0 (draft 0 calls.Flush done (c0 ∷ [])) 1) ∷ events.Touch 0 0 ∷ []

-- behind a block of another region it is not
abbrev pub touched_once : List Event
touched_once = events.Touch 0 0 ∷ events.Entry (entry_of 0 (draft 0 (calls.Block 1) done (r1 ∷ [])) 1) ∷ []

-- ---- a region that is being withdrawn

-- core 0 blocks region 1, and core 1 loads its first word
abbrev pub block_and_load : List (List Line)
block_and_load = (lines.Make (calls.Block 1) ∷ []) ∷ (lines.LoadWord 0x8000_1000 ∷ []) ∷ []

-- core 0 has the lock and has read both words, when core 1 looks
abbrev pub looked_before : List Made
looked_before = run_by (small 2 []) block_and_load (0 ∷ 0 ∷ 0 ∷ 1 ∷ []) 4

-- it has besides written that the region is Blocked, and has drawn no ticket yet
abbrev pub looked_behind : List Made
looked_behind = run_by (small 2 []) block_and_load (0 ∷ 0 ∷ 0 ∷ 0 ∷ 1 ∷ []) 4

-- a good look, and the load
abbrev pub load_is_made : List (Move × Outcome)
load_is_made = (moves.Look 1 owners.Os, outcomes.Word 1) ∷ (moves.Load 512, outcomes.Word 0) ∷ []

-- a look that is not good, and the access fault
abbrev pub load_is_refused : List (Move × Outcome)
load_is_refused =
    (moves.Look 1 owners.Os, outcomes.Word 2) ∷ (moves.Stop 1 (whys.Trap 5 0x8000_1000), outcomes.Done) ∷ []

-- ---- rounds

-- core 0 flushes, and core 1 loads a word
abbrev pub flush_and_load : List (List Line)
flush_and_load = (lines.Make calls.Flush ∷ []) ∷ (lines.LoadWord 0x8000_1000 ∷ []) ∷ []

-- the run by an empty schedule
abbrev pub by_rounds : List Made
by_rounds = run_by (small 2 []) flush_and_load [] 7

-- the cores of its moves: they step in turn, from core 0, and one that has ended makes none
abbrev pub in_turn : List ℕ
in_turn = 0 ∷ 1 ∷ 0 ∷ 1 ∷ 0 ∷ 0 ∷ 0 ∷ []
