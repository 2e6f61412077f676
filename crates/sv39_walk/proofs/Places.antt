-- The addresses of a walk, and the places of ptes in DRAM.
use Rattle.std.proofs.Common.{◌≡◌, ℕ, ◌+◌, ◌-◌, ◌*◌, ◌/◌, ◌<◌, ◌≤◌, Bool, true, cond, Some, None, arith}
use Rattle.std.proofs.lemmas.Bool.Decides.{nat_tests}
use Rattle.mon_types.specs.Shape.{page_total}
use Rattle.dram_map.specs.Addresses.{frame_of, is_in_dram}
use Rattle.sv39_pte.specs.Tables.{pte_index}
use Rattle.sv39_walk.specs.Relation.{pte_address}
use Rattle.sv39_walk.specs.Laws.{AddressesArePlaces}

-- by the index in the table
by_index : (total page i : ℕ) → page < total → i < 512
    → (0x8000_0000 ≤ 4096 * (0x80000 + page) + 8 * i)
    × (4096 * (0x80000 + page) + 8 * i < 0x8000_0000 + 4096 * total)
    × ((4096 * (0x80000 + page) + 8 * i - 0x8000_0000) / 8 ≡ 512 * page + i)
by_index total page i few small = (omega arith, omega arith, omega arith)

chosen : (b : Bool) (x y : ℕ) → b ≡ true → x ≡ y → cond b (Some x) None ≡ Some y
chosen b x y p q = cc

pub addresses_are_places : AddressesArePlaces
addresses_are_places shape page level va few =
    let i : ℕ = pte_index level va in
    let small : pte_index level va < 512 = omega arith in
    let f : (0x8000_0000 ≤ 4096 * (0x80000 + page) + 8 * pte_index level va)
    × (4096 * (0x80000 + page) + 8 * pte_index level va < 0x8000_0000 + 4096 * page_total shape)
    × ((4096 * (0x80000 + page) + 8 * pte_index level va - 0x8000_0000) / 8 ≡ 512 * page + pte_index level va) =
    by_index (page_total shape) page (pte_index level va) few small in
    let inside : is_in_dram shape (pte_address (frame_of page) level va) ≡ true = grind (arith, nat_tests, f.0, f.1) in
    chosen (is_in_dram shape (pte_address (frame_of page) level va)) _ _ inside f.2
