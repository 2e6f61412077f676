-- Who translates a virtual address: satp, which the OS sets, or the page tables of an enclave. Bare and Sv39 are modes
-- of satp in the RISC-V Privileged ISA, "Supervisor Address Translation and Protection (satp) Register"; the rest is
-- this project's own.
use Rattle.std.specs.Prelude.{◌≡◌, ◌⊎◌, ℕ, ◌+◌, ◌*◌, ◌/◌, ◌%◌, ◌^◌, ◌<◌, ⊤, Bool, false, ◌==◌, ◌&&◌, nat_lt, nat_le, if◌then◌else◌, unwrap_or}
use Rattle.mon_types.specs.declared.thread.Mode.{Mode}
use Rattle.mon_types.specs.declared.thread.Mode.TheVariants as modes
use Rattle.mon_types.specs.declared.region.Owner.TheVariants as owners
use Rattle.mon_types.specs.declared.enclave.Enclave.{Enclave}
use Rattle.mon_model.specs.Loading.{in_range}
use Rattle.mon_model.specs.Early.{is_bad_satp}
use Rattle.dram_map.specs.Addresses.{frame_of}
use Rattle.core_access.specs.declared.route.Paging.{Paging}
use Rattle.core_access.specs.declared.route.Paging.TheVariants as pagings
use Rattle.core_access.specs.declared.route.Space.{Space}
use Rattle.core_access.specs.declared.route.Route.{Route}

-- ---- satp

-- satp's mode, bits 63 to 60
abbrev pub satp_mode : ℕ → ℕ
satp_mode satp = satp / 2 ^ 60

-- the page frame number of satp's root table, bits 43 to 0
abbrev pub satp_root : ℕ → ℕ
satp_root satp = satp % 2 ^ 44

-- how satp translates: by Sv39 from its root where its mode is 8, and else not at all
abbrev pub paging_of : ℕ → Paging
paging_of satp = if satp_mode satp == 8 then pagings.Sv39 (satp_root satp) else pagings.Bare

-- the page frame number of a root has 44 bits
abbrev pub HasRoot : Paging → Type 0
HasRoot pagings.Bare = ⊤
HasRoot (pagings.Sv39 root) = root < 2 ^ 44

-- what set_satp admits is 0, which is Bare, or mode 8, ASID 0 and a root, which is Sv39 from this root
pub record AdmittedPaging : Type 0 where
  pub bare : paging_of 0 ≡ pagings.Bare
  pub sv39 : (root : ℕ) → root < 2 ^ 44 → paging_of (8 * 2 ^ 60 + root) ≡ pagings.Sv39 root
  pub no_other : (satp : ℕ) → is_bad_satp satp ≡ false → (satp ≡ 0) ⊎ (satp ≡ 8 * 2 ^ 60 + satp_root satp)

-- ---- the range of an enclave

-- the addresses of an enclave, and its root page; 0 where it has no root, which never comes inside
abbrev pub space_of : Enclave → Space
space_of enclave = record { base = enclave.base; size = enclave.size; root = unwrap_or enclave.root 0 }

-- whether an address lies in an enclave's range: from its base up to, and without, base plus size
abbrev pub is_inside : Space → ℕ → Bool
is_inside space va = nat_le space.base va && nat_lt va (space.base + space.size)

-- it is the range in which the monitor loads pages
abbrev pub RangeIsLoaded : Type 0
RangeIsLoaded = (enclave : Enclave) (va : ℕ) → is_inside (space_of enclave) va ≡ in_range enclave va

-- ---- routes

-- by satp: the tables and the page are to be the OS's
abbrev pub os_route : ℕ → Route
os_route satp = record { paging = paging_of satp; owner = owners.Os }

-- by the page tables of the enclave in slot e: they and the page are to be that enclave's
abbrev pub own_route : ℕ → Space → Route
own_route e space = record { paging = pagings.Sv39 (frame_of space.root); owner = owners.Enclave e }

-- Who translates an address in a mode. In OS mode satp decides, and so it does in an enclave for an address outside its
-- range; an address inside goes by the enclave's own tables.
abbrev pub route_of : Mode → Space → ℕ → ℕ → Route
route_of modes.Os space satp va = os_route satp
route_of (modes.Inside e t) space satp va = if is_inside space va then own_route e space else os_route satp
