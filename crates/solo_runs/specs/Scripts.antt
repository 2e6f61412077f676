-- Ends of runs that lines of scripts make. This project's own.
use Rattle.std.specs.Prelude.{true, [], ◌∷◌}
use Rattle.mon_types.specs.declared.call.Call.TheVariants as calls
use Rattle.mon_types.specs.declared.script.Line.TheVariants as lines
use Rattle.solo.specs.Core.{Core}
use Rattle.solo_runs.specs.Machines.{at, two, count, ebreak, os_core, counting, ready_core, inside_core, after_lines}

-- three turns of a program that counts
abbrev pub three_turns : Core
three_turns = after_lines counting (lines.Run 3 ∷ [])

-- the second instruction is a breakpoint; two lines of five turns, and one that sets a register
abbrev pub twice_at_breakpoint : Core
twice_at_breakpoint =
    after_lines (os_core (at 0 (two count ebreak) ∷ []))
    (lines.Run 5 ∷ lines.Run 5 ∷ lines.SetReg 9 1 ∷ [])

-- a word is stored and loaded
abbrev pub stored_and_loaded : Core
stored_and_loaded = after_lines counting (lines.StoreWord 0x8000_1008 77 ∷ lines.LoadWord 0x8000_1008 ∷ [])

-- a load and a store outside DRAM
abbrev pub both_outside : Core
both_outside = after_lines counting (lines.LoadWord 0x7000 ∷ lines.StoreWord 0x7000 1 ∷ [])

-- the pc and a register are set in OS mode
abbrev pub both_set : Core
both_set = after_lines counting (lines.SetPc 0x8000_0010 ∷ lines.SetReg 5 9 ∷ [])

-- the same in an enclave
abbrev pub both_set_inside : Core
both_set_inside = after_lines (inside_core true 0) (lines.SetPc 0x8000_0010 ∷ lines.SetReg 5 9 ∷ [])

-- a call that has words to tell, and one that is refused
abbrev pub two_calls : Core
two_calls = after_lines counting (lines.Make (calls.RegionInfo 3) ∷ lines.Make (calls.Block 0) ∷ [])

-- a call of the OS, made in an enclave
abbrev pub created_inside : Core
created_inside = after_lines (inside_core true 0) (lines.Make (calls.Create 1 4096 4096) ∷ [])

-- an enclave is entered
abbrev pub entered_by_line : Core
entered_by_line = after_lines (ready_core 0) (lines.SetReg 12 9 ∷ lines.Make (calls.Enter 0 0) ∷ [])

-- and left
abbrev pub left_by_line : Core
left_by_line =
    after_lines (ready_core 0) (lines.SetReg 12 9 ∷ lines.Make (calls.Enter 0 0) ∷ lines.Make calls.Exit ∷ [])

-- an enclave is entered, left by a tick, and entered again
abbrev pub entered_again : Core
entered_again =
    after_lines (ready_core 0) (lines.Make (calls.Enter 0 0) ∷ lines.Tick ∷ lines.Make (calls.Enter 0 0) ∷ [])

-- and what the tick saved is restored
abbrev pub restored_by_line : Core
restored_by_line = after_lines entered_again (lines.Make calls.Restore ∷ [])
