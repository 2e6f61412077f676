-- The causes of traps, after the RISC-V Privileged ISA, "Supervisor Cause (scause) Register". An atomic instruction's
-- access is a store. Which value goes with a trap is this project's own.
use Rattle.std.specs.Prelude.{ℕ, ◌%◌, Bool, ◌==◌}
use Rattle.sv39_pte.specs.declared.pte.Access.{Access}
use Rattle.sv39_pte.specs.declared.pte.Access.TheVariants as accesses

-- an access to an address that is no multiple of its size; its value is the address
abbrev pub misaligned : Access → ℕ
misaligned accesses.Fetch = 0
misaligned accesses.Load = 4
misaligned accesses.Store = 6

-- an access that leads outside DRAM, or to a region at which the look is not good; its value is the virtual address
abbrev pub access_fault : Access → ℕ
access_fault accesses.Fetch = 1
access_fault accesses.Load = 5
access_fault accesses.Store = 7

-- an access whose walk ends in a page fault; its value is the virtual address
abbrev pub page_fault : Access → ℕ
page_fault accesses.Fetch = 12
page_fault accesses.Load = 13
page_fault accesses.Store = 15

-- a word that is no instruction, or none for the mode; its value is the word
abbrev pub illegal_instruction : ℕ
illegal_instruction = 2

-- whether an access of so many bytes is aligned
abbrev pub is_aligned : ℕ → ℕ → Bool
is_aligned va size = va % size == 0
