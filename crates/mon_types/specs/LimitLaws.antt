-- Lemmas of how large a machine can be, for proofs of the crates above.
use Rattle.std.specs.Prelude.{◌≡◌, ◌≤◌, true}
use Rattle.std.proofs.Common.{arith}
use Rattle.std.proofs.lemmas.Bool.Decides.{nat_tests}
use Rattle.std.proofs.Math.Nat.{mul-le-mul}
use Rattle.mon_types.specs.Shape.{Shape, is_shape, page_total}

pub few_cores : (m : Shape) → is_shape m ≡ true → m.cores ≤ 16
few_cores m h = grind (arith, nat_tests)

pub few_regions : (m : Shape) → is_shape m ≡ true → m.regions ≤ 64
few_regions m h = grind (arith, nat_tests)

pub few_pages : (m : Shape) → is_shape m ≡ true → page_total m ≤ 1024
few_pages m h =
    let pages : m.pages ≤ 16 = grind (arith, nat_tests) in
    mul-le-mul (few_regions m h) pages
