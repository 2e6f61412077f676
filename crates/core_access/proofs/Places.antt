-- Places of virtual addresses on pages of DRAM.
use Rattle.std.proofs.Common.{◌≡◌, ℕ, ◌+◌, ◌-◌, ◌*◌, ◌/◌, ◌%◌, ◌<◌, ◌≤◌, Bool, true, cond, Some, None, arith}
use Rattle.std.proofs.lemmas.Bool.Decides.{nat_tests}
use Rattle.mon_types.specs.Shape.{page_total}
use Rattle.dram_map.specs.Addresses.{is_in_dram}
use Rattle.core_access.specs.Words.{physical, PlacesAreAddresses}

-- by the byte of the page
by_byte : (total page byte : ℕ) → page < total → byte < 4096
    → (0x8000_0000 ≤ 0x8000_0000 + 4096 * page + byte)
    × (0x8000_0000 + 4096 * page + byte < 0x8000_0000 + 4096 * total)
    × ((0x8000_0000 + 4096 * page + byte - 0x8000_0000) / 8 ≡ 512 * page + byte / 8)
by_byte total page byte few small = (omega arith, omega arith, omega arith)

chosen : (b : Bool) (x y : ℕ) → b ≡ true → x ≡ y → cond b (Some x) None ≡ Some y
chosen b x y p q = cc

pub places_are_addresses : PlacesAreAddresses
places_are_addresses shape page va few =
    let small : va % 4096 < 4096 = omega arith in
    let f : (0x8000_0000 ≤ 0x8000_0000 + 4096 * page + va % 4096)
    × (0x8000_0000 + 4096 * page + va % 4096 < 0x8000_0000 + 4096 * page_total shape)
    × ((0x8000_0000 + 4096 * page + va % 4096 - 0x8000_0000) / 8 ≡ 512 * page + va % 4096 / 8) =
    by_byte (page_total shape) page (va % 4096) few small in
    let inside : is_in_dram shape (physical page va) ≡ true = grind (arith, nat_tests, f.0, f.1) in
    chosen (is_in_dram shape (physical page va)) _ _ inside f.2
