-- Laws of the ptes that the monitor writes.
use Rattle.std.specs.Prelude.{◌≡◌, ℕ, ◌^◌, ◌<◌, ◌≤◌, Bool, true, if◌then◌else◌}
use Rattle.mon_types.specs.Bits.{has_bit}
use Rattle.mon_types.specs.Shape.{Shape, is_shape, page_total}
use Rattle.mon_types.specs.declared.thread.Mode.{Mode}
use Rattle.mon_types.specs.declared.thread.Mode.TheVariants as modes
use Rattle.dram_map.specs.Addresses.{frame_of}
use Rattle.sv39_pte.specs.declared.pte.Access.{Access}
use Rattle.sv39_pte.specs.declared.pte.Access.TheVariants as accesses
use Rattle.sv39_pte.specs.declared.pte.Kind.{Kind}
use Rattle.sv39_pte.specs.declared.pte.Kind.TheVariants as kinds
use Rattle.sv39_pte.specs.Pte.{ppn_of, classified}
use Rattle.sv39_pte.specs.Tables.{leads_to_table, page_led_to, pointer_pte, leaf_pte, are_perms}

-- the monitor's pte of a table leads to the table's page
abbrev pub PointerLeads : Type 0
PointerLeads = (shape : Shape) (page : ℕ) → is_shape shape ≡ true → page < page_total shape
    → (leads_to_table shape (pointer_pte page) ≡ true) × (page_led_to (pointer_pte page) ≡ page)

-- the frame of the monitor's pte of a leaf is the page's
abbrev pub LeafHasFrame : Type 0
LeafHasFrame = (page perms : ℕ) → page < 2 ^ 16 → perms < 8 → ppn_of (leaf_pte page perms) ≡ frame_of page

-- the monitor's pte of a table is a pointer at levels 2 and 1, for every access and in every mode
abbrev pub PointerIsPointer : Type 0
PointerIsPointer = (page level : ℕ) (access : Access) (mode : Mode) → page < 2 ^ 16 → 1 ≤ level → level ≤ 2
    → classified (pointer_pte page) level access mode ≡ kinds.Pointer (frame_of page)

-- whether the permissions of a leaf allow an access
abbrev pub perms_allow : ℕ → Access → Bool
perms_allow perms accesses.Fetch = has_bit perms 2
perms_allow perms accesses.Load = has_bit perms 0
perms_allow perms accesses.Store = has_bit perms 1

-- what a leaf of these permissions is for an access of an enclave: a fault where they do not allow it
abbrev pub allowed : ℕ → ℕ → Access → Kind
allowed page perms access =
    if perms_allow perms access
    then kinds.Leaf (frame_of page) (has_bit perms 0) (has_bit perms 1) (has_bit perms 2)
    else kinds.Fault

-- the monitor's pte of a leaf is that at level 0 in an enclave
abbrev pub LeafIsLeaf : Type 0
LeafIsLeaf = (page perms enclave thread : ℕ) (access : Access) → page < 2 ^ 16 → are_perms perms ≡ true
    → classified (leaf_pte page perms) 0 access (modes.Inside enclave thread) ≡ allowed page perms access

-- for the OS it is a fault
abbrev pub LeafIsNotTheOs : Type 0
LeafIsNotTheOs = (page perms : ℕ) (access : Access) → page < 2 ^ 16 → are_perms perms ≡ true
    → classified (leaf_pte page perms) 0 access modes.Os ≡ kinds.Fault
