-- Ends of runs that trap. This project's own.
use Rattle.std.specs.Prelude.{ℕ, [], ◌∷◌}
use Rattle.mon_types.specs.declared.script.Line.TheVariants as lines
use Rattle.solo.specs.Core.{Core}
use Rattle.solo_runs.specs.Machines.{at, two, count, back, load, os_core, counting, with_x6_x7, after_lines}

-- jal x1, 2
abbrev pub jump_by_2 : ℕ
jump_by_2 = 0x002000EF

-- a jump to an address that is no multiple of 4
abbrev pub jumped : Core
jumped = after_lines (os_core (at 0 jump_by_2 ∷ [])) (lines.Run 1 ∷ [])

-- a fetch from such an address
abbrev pub fetched_between : Core
fetched_between = after_lines counting (lines.SetPc 0x8000_0002 ∷ lines.Run 1 ∷ [])

-- a second instruction that is none
abbrev pub at_no_instruction : Core
at_no_instruction = after_lines (os_core (at 0 (two count 0xFFFF_FFFE) ∷ [])) (lines.Run 2 ∷ [])

-- a load that faults, with 9 in the register that it would write
abbrev pub load_faulted : Core
load_faulted =
    after_lines (with_x6_x7 (os_core (at 0 (two load back) ∷ [])) 0x7000 0)
    (lines.SetReg 5 9 ∷ lines.Run 1 ∷ [])
