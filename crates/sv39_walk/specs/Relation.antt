-- The page walk of Sv39, all levels at once, after the RISC-V Privileged ISA, "Sv39: Page-Based 39-bit
-- Virtual-Memory System" and "Virtual Address Translation Process". What one page-table entry (pte) is, and at
-- which index it stands, is said by crate sv39_pte.
use Rattle.std.specs.Prelude.{◌≡◌, ℕ, ◌+◌, ◌-◌, ◌*◌, ◌/◌, ◌%◌, ◌^◌, Bool, true, false, ◌==◌, if◌then◌else◌, List, [], ◌∷◌}
use Rattle.mon_types.specs.Bits.{has_bit}
use Rattle.mon_types.specs.declared.thread.Mode.{Mode}
use Rattle.mon_types.specs.Sizes.{page_bytes}
use Rattle.sv39_pte.specs.declared.pte.Access.{Access}
use Rattle.sv39_pte.specs.declared.pte.Kind.{Kind}
use Rattle.sv39_pte.specs.declared.pte.Kind.TheVariants as kinds
use Rattle.sv39_pte.specs.Pte.{ppn_of, classified}
use Rattle.sv39_pte.specs.Tables.{pte_index}
use Rattle.sv39_walk.specs.declared.walk.WalkState.{WalkState}
use Rattle.sv39_walk.specs.declared.walk.WalkState.TheVariants as states

-- ---- addresses

-- the virtual page number of an address
abbrev pub vpn_of : ℕ → ℕ
vpn_of va = va / page_bytes

-- whether a virtual address has a page at all: its bits 63 to 39 equal bit 38
abbrev pub is_canonical : ℕ → Bool
is_canonical va = va / 2 ^ 39 == (if has_bit va 38 then 2 ^ 25 - 1 else 0)

-- the physical address of an address's pte, in the table of this level that has this page frame number
abbrev pub pte_address : ℕ → ℕ → ℕ → ℕ
pte_address frame level va = page_bytes * frame + 8 * pte_index level va

-- the page frame number of an address's page, where a leaf of this level has the given one: the leaf's, with its
-- lower parts, one of 9 bits for each level below, taken from the address
abbrev pub page_in_leaf : ℕ → ℕ → ℕ → ℕ
page_in_leaf ppn level va = ppn / 2 ^ (9 * level) * 2 ^ (9 * level) + vpn_of va % 2 ^ (9 * level)

-- ---- the walk

-- a pte of a table of this level leads down, to the table that its page frame number names
abbrev pub LeadsDown : ℕ → ℕ → Access → Mode → Type 0
LeadsDown pte level access mode = classified pte level access mode ≡ kinds.Pointer (ppn_of pte)

-- The end of a walk at a pte of this kind, in a table of this level: at a leaf the address's page is found, and later
-- accesses may use it as the leaf says; at a fault the access has a page fault. A pointer is no end.
abbrev pub EndsAt : Kind → ℕ → ℕ → WalkState → Type 0
EndsAt (kinds.Pointer ppn) level va end = ⊥
EndsAt (kinds.Leaf ppn load store fetch) level va end =
    end ≡ states.Found (page_in_leaf ppn level va) load store fetch
EndsAt kinds.Fault level va end = end ≡ states.PageFault

-- The page walk: from the root's page frame number, an address, an access, a mode, and the ptes found at levels 2, 1
-- and 0, as many as are asked for, to the addresses of these ptes and to the walk's end. No pte is asked for where the
-- address has no page, and a further one exactly where those before lead down. Two of them may come from one address
-- and differ.
abbrev pub WalkRelation : ℕ → ℕ → Access → Mode → List ℕ → List ℕ → WalkState → Type 0
WalkRelation root va access mode [] addresses end =
    (is_canonical va ≡ false) × (addresses ≡ []) × (end ≡ states.PageFault)
WalkRelation root va access mode (pte2 ∷ []) addresses end =
    (is_canonical va ≡ true)
    × (addresses ≡ pte_address root 2 va ∷ [])
    × EndsAt (classified pte2 2 access mode) 2 va end
WalkRelation root va access mode (pte2 ∷ pte1 ∷ []) addresses end =
    (is_canonical va ≡ true)
    × LeadsDown pte2 2 access mode
    × (addresses ≡ pte_address root 2 va ∷ pte_address (ppn_of pte2) 1 va ∷ [])
    × EndsAt (classified pte1 1 access mode) 1 va end
WalkRelation root va access mode (pte2 ∷ pte1 ∷ pte0 ∷ []) addresses end =
    (is_canonical va ≡ true)
    × LeadsDown pte2 2 access mode
    × LeadsDown pte1 1 access mode
    × (addresses ≡ pte_address root 2 va ∷ pte_address (ppn_of pte2) 1 va ∷ pte_address (ppn_of pte1) 0 va ∷ [])
    × EndsAt (classified pte0 0 access mode) 0 va end
WalkRelation root va access mode (pte2 ∷ pte1 ∷ pte0 ∷ further ∷ ptes) addresses end = ⊥
