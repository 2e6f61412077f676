-- A page-table entry (pte) of Sv39, after the RISC-V Privileged ISA, "Sv39: Page-Based 39-bit Virtual-Memory
-- System" and "Virtual Address Translation Process": its fields, and the six rules that say what it is at a
-- level. Every fault is a page fault. That a set bit among 63 to 54, or A, D or U in a pointer, is a fault,
-- and that A = 0, or D = 0 on a store, is one, is this project's choice. SUM and MXR are 0.
use Rattle.std.specs.Prelude.{ℕ, ◌*◌, ◌/◌, ◌%◌, ◌^◌, Bool, ◌==◌, ◌&&◌, ◌||◌, not, nat_lt, ⊤, ◌<◌, if◌then◌else◌}
use Rattle.mon_types.specs.Bits.{has_bit}
use Rattle.mon_types.specs.declared.thread.Mode.{Mode}
use Rattle.mon_types.specs.declared.thread.Mode.TheVariants as modes
use Rattle.sv39_pte.specs.declared.pte.Access.{Access}
use Rattle.sv39_pte.specs.declared.pte.Access.TheVariants as accesses
use Rattle.sv39_pte.specs.declared.pte.Kind.{Kind}
use Rattle.sv39_pte.specs.declared.pte.Kind.TheVariants as kinds

-- ---- fields

-- V, bit 0: the pte says something
abbrev pub is_valid : ℕ → Bool
is_valid pte = has_bit pte 0

-- R, bit 1
abbrev pub is_readable : ℕ → Bool
is_readable pte = has_bit pte 1

-- W, bit 2
abbrev pub is_writable : ℕ → Bool
is_writable pte = has_bit pte 2

-- X, bit 3
abbrev pub is_executable : ℕ → Bool
is_executable pte = has_bit pte 3

-- U, bit 4: a page of user mode
abbrev pub is_user : ℕ → Bool
is_user pte = has_bit pte 4

-- A, bit 6: the page was accessed
abbrev pub is_accessed : ℕ → Bool
is_accessed pte = has_bit pte 6

-- D, bit 7: the page was written
abbrev pub is_dirty : ℕ → Bool
is_dirty pte = has_bit pte 7

-- the page frame number, bits 53 to 10
abbrev pub ppn_of : ℕ → ℕ
ppn_of pte = pte / 2 ^ 10 % 2 ^ 44

-- bits 63 to 54
abbrev pub high_bits : ℕ → ℕ
high_bits pte = pte / 2 ^ 54

-- ---- rules

-- 1. V = 0, or R = 0 with W = 1, or any of bits 63 to 54 set: a fault
abbrev pub is_invalid : ℕ → Bool
is_invalid pte = not (is_valid pte) || (not (is_readable pte) && is_writable pte) || not (high_bits pte == 0)

-- 2. R = 0 and X = 0: a pointer to the table of the next level
abbrev pub is_pointer : ℕ → Bool
is_pointer pte = not (is_readable pte) && not (is_executable pte)

-- a pointer with A, D or U set, or one at level 0: a fault
abbrev pub is_bad_pointer : ℕ → ℕ → Bool
is_bad_pointer pte level = is_accessed pte || is_dirty pte || is_user pte || level == 0

-- what a pte with R = 0 and X = 0 is
abbrev pub pointer_kind : ℕ → ℕ → Kind
pointer_kind pte level = if is_bad_pointer pte level then kinds.Fault else kinds.Pointer (ppn_of pte)

-- 3. a leaf of the other mode: a fault in OS mode, which is S, where U = 1, and in an enclave, which runs in
-- U mode, where U = 0
abbrev pub is_of_other_mode : ℕ → Mode → Bool
is_of_other_mode pte modes.Os = is_user pte
is_of_other_mode pte (modes.Inside enclave thread) = not (is_user pte)

-- 4. a fetch without X, a load without R, a store without W: a fault
abbrev pub is_forbidden : ℕ → Access → Bool
is_forbidden pte accesses.Fetch = not (is_executable pte)
is_forbidden pte accesses.Load = not (is_readable pte)
is_forbidden pte accesses.Store = not (is_writable pte)

-- 5. lower parts of the page frame number that are not zero, above level 0, where the leaf is of many pages:
-- each level below has a part of 9 bits; a fault
abbrev pub is_misaligned : ℕ → ℕ → Bool
is_misaligned pte level = nat_lt 0 level && not (ppn_of pte % 2 ^ (9 * level) == 0)

-- 6. A = 0, or a store with D = 0: a fault
abbrev pub is_untouched : ℕ → Access → Bool
is_untouched pte accesses.Fetch = not (is_accessed pte)
is_untouched pte accesses.Load = not (is_accessed pte)
is_untouched pte accesses.Store = not (is_accessed pte) || not (is_dirty pte)

-- what a leaf lets later accesses do: load with R, store with W and D, fetch with X
abbrev pub leaf_kind : ℕ → Kind
leaf_kind pte = kinds.Leaf (ppn_of pte) (is_readable pte) (is_writable pte && is_dirty pte) (is_executable pte)

-- what a pte of a table of this level is for an access: the rules, one after the other
abbrev pub classified : ℕ → ℕ → Access → Mode → Kind
classified pte level access mode =
    if is_invalid pte then kinds.Fault
    else if is_pointer pte then pointer_kind pte level
    else if is_of_other_mode pte mode then kinds.Fault
    else if is_forbidden pte access then kinds.Fault
    else if is_misaligned pte level then kinds.Fault
    else if is_untouched pte access then kinds.Fault
    else leaf_kind pte

-- a page frame number has 44 bits
abbrev pub HasFrame : Kind → Type 0
HasFrame (kinds.Pointer ppn) = ppn < 2 ^ 44
HasFrame (kinds.Leaf ppn load store fetch) = ppn < 2 ^ 44
HasFrame kinds.Fault = ⊤
