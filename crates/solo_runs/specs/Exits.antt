-- Ends of runs that leave an enclave, or stay in it. This project's own.
use Rattle.std.specs.Prelude.{ℕ, Bool, true, [], ◌∷◌}
use Rattle.mon_types.specs.declared.call.Call.TheVariants as calls
use Rattle.mon_types.specs.declared.script.Line.TheVariants as lines
use Rattle.solo.specs.Core.{Core, set_register}
use Rattle.solo_runs.specs.Machines.{at, two, count, ecall, sfence, os_core, ready_state, own_tables, inside_core, after_lines}

-- no instruction
abbrev pub no_instruction : ℕ
no_instruction = 0xFFFF_FFFF

-- a tick
abbrev pub ticked_inside : Core
ticked_inside = after_lines (inside_core true 0) (lines.Tick ∷ [])

-- five turns, of which the first traps in the enclave
abbrev pub trapped_inside : Bool → Core
trapped_inside by_line = after_lines (inside_core by_line no_instruction) (lines.Run 5 ∷ [])

-- five turns, of which the first is the enclave's own exit
abbrev pub returned : Bool → Core
returned by_line = after_lines (set_register (inside_core by_line ecall) 17 14) (lines.Run 5 ∷ [])

-- A line enters the enclave and a tick leaves it; then, in four turns, the OS's code enters it, it traps, and the OS's
-- code counts twice.
abbrev pub entered_twice : Core
entered_twice =
    after_lines
    (record (os_core (at 0 (two ecall count) ∷ at 1 (two count count) ∷ at 2560 no_instruction ∷ own_tables))
    { state = ready_state })
    (lines.Make (calls.Enter 0 0) ∷ lines.Tick ∷ lines.SetReg 11 0 ∷ lines.SetReg 17 13 ∷ lines.Run 4 ∷ [])

-- a line loads a word of the enclave
abbrev pub loaded_inside : Core
loaded_inside = after_lines (inside_core true 77) (lines.LoadWord 0x10000 ∷ [])

-- a line loads where the enclave has no page
abbrev pub no_page_inside : Core
no_page_inside = after_lines (inside_core true 77) (lines.LoadWord 0x13000 ∷ [])

-- the enclave would clear the translation cache
abbrev pub fenced_inside : Core
fenced_inside = after_lines (inside_core true sfence) (lines.Run 1 ∷ [])
