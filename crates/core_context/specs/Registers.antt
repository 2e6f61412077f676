-- The pc and the registers of a core. This project's own; the registers are those of RV64I, chapter 2 of the
-- RISC-V Unprivileged ISA.
use Rattle.std.specs.Prelude.{ℕ, Bool, ◌==◌, if◌then◌else◌, List, [], ◌∷◌, ◌++◌, replicate, take, drop, slice_index, slice_set}
use Rattle.mon_types.specs.declared.image.Start.{Start}
use Rattle.core_context.specs.declared.context.Context.{Context}

-- registers x0 to x31, all 0
abbrev pub no_regs : List ℕ
no_regs = replicate 32 0

-- a core at its start: x2 is its stack pointer, and x10 the core's number
abbrev pub begun : ℕ → Start → Context
begun core start = record { pc = start.pc; regs = slice_set (slice_set no_regs 2 start.sp) 10 core }

-- a thread that is entered: at its entry, x2 its stack pointer, x10 1 where something is saved, and all others 0
abbrev pub entered : ℕ → ℕ → Bool → Context
entered entry sp saved = record { pc = entry; regs = slice_set (slice_set no_regs 2 sp) 10 (if saved then 1 else 0) }

-- the OS's registers given back: x10 is 0, x11 is how the enclave was left (0 by exit, 1 by aex), x12 and x13 are the
-- cause and the value of an aex
abbrev pub returned : Context → ℕ → ℕ → ℕ → Context
returned os how cause value =
    record os { regs = slice_set (slice_set (slice_set (slice_set os.regs 10 0) 11 how) 12 cause) 13 value }

-- one register set; x0 is never changed
abbrev pub with_register : Context → ℕ → ℕ → Context
with_register context x value =
    if x == 0 then context else record context { regs = slice_set context.regs x value }

-- the words that an aex saves: pc, x1 to x31, cause
abbrev pub saved_context : Context → ℕ → List ℕ
saved_context context cause = context.pc ∷ drop 1 context.regs ++ cause ∷ []

-- pc and x1 to x31 as they were saved
abbrev pub restored_context : List ℕ → Context
restored_context saved = record { pc = slice_index saved 0; regs = 0 ∷ take 31 (drop 1 saved) }
