-- What set_satp admits.
use Rattle.std.proofs.Common.{◌≡◌, ◌⊎◌, ℕ, ◌+◌, ◌*◌, ◌^◌, ◌<◌, false, refl, arith}
use Rattle.std.proofs.lemmas.Bool.Decides.{nat_tests}
use Rattle.mon_model.specs.Early.{is_bad_satp}
use Rattle.core_access.specs.declared.route.Paging.TheVariants as pagings
use Rattle.core_access.specs.Routes.{satp_mode, satp_root, paging_of, AdmittedPaging}

sv39_is : (root : ℕ) → root < 2 ^ 44 → paging_of (8 * 2 ^ 60 + root) ≡ pagings.Sv39 root
sv39_is root small =
    let mode : satp_mode (8 * 2 ^ 60 + root) ≡ 8 = omega arith in
    let low : satp_root (8 * 2 ^ 60 + root) ≡ root = omega arith in
    rw (mode, low) refl

no_other : (satp : ℕ) → is_bad_satp satp ≡ false → (satp ≡ 0) ⊎ (satp ≡ 8 * 2 ^ 60 + satp_root satp)
no_other satp h = grind (arith, nat_tests)

pub admitted_paging : AdmittedPaging
admitted_paging = record { bare = refl; sv39 = sv39_is; no_other = no_other }
