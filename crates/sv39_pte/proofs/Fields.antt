-- What a pte is, by its fields; and the fields of the ptes that the monitor writes.
use Rattle.std.proofs.Common.{◌≡◌, ◌⊎◌, inl, inr, ℕ, ◌+◌, ◌*◌, ◌/◌, ◌%◌, ◌^◌, ◌<◌, ◌≤◌, Bool, true, false, cond, not, ◌&&◌, ◌||◌, nat_eq, nat_lt, refl, sym, ap, subst, ◌∙◌, arith}
use Rattle.std.proofs.lemmas.Bool.Decides.{nat_tests}
use Rattle.mon_types.specs.Shape.{Shape, page_total}
use Rattle.mon_types.specs.LimitLaws.{few_pages}
use Rattle.mon_types.specs.Bits.{has_bit}
use Rattle.mon_types.specs.declared.thread.Mode.{Mode}
use Rattle.mon_types.specs.declared.thread.Mode.TheVariants as modes
use Rattle.dram_map.specs.Addresses.{frame_of}
use Rattle.sv39_pte.specs.declared.pte.Access.{Access}
use Rattle.sv39_pte.specs.declared.pte.Access.TheVariants as accesses
use Rattle.sv39_pte.specs.declared.pte.Kind.{Kind}
use Rattle.sv39_pte.specs.declared.pte.Kind.TheVariants as kinds
use Rattle.sv39_pte.specs.Pte.{ppn_of, high_bits, classified}
use Rattle.sv39_pte.specs.Tables.{leads_to_table, page_led_to, pointer_pte, leaf_pte, are_perms}
use Rattle.sv39_pte.specs.Laws.{PointerLeads, PointerIsPointer, LeafHasFrame, allowed, LeafIsLeaf, LeafIsNotTheOs}

-- ---- by fields

abbrev wrong_mode : Bool → Mode → Bool
wrong_mode u modes.Os = u
wrong_mode u (modes.Inside enclave thread) = not u

abbrev forbidden : Bool → Bool → Bool → Access → Bool
forbidden r w x accesses.Fetch = not x
forbidden r w x accesses.Load = not r
forbidden r w x accesses.Store = not w

abbrev untouched : Bool → Bool → Access → Bool
untouched a d accesses.Fetch = not a
untouched a d accesses.Load = not a
untouched a d accesses.Store = not a || not d

-- the rules, of V, R, W, X, U, A, D, bits 63 to 54 and the page frame number
abbrev kind_by : Bool → Bool → Bool → Bool → Bool → Bool → Bool → ℕ → ℕ → ℕ → Access → Mode → Kind
kind_by v r w x u a d high ppn level access mode =
    cond (not v || (not r && w) || not (nat_eq high 0)) kinds.Fault
    (cond (not r && not x) (cond (a || d || u || nat_eq level 0) kinds.Fault (kinds.Pointer ppn))
    (cond (wrong_mode u mode) kinds.Fault
    (cond (forbidden r w x access) kinds.Fault
    (cond (nat_lt 0 level && not (nat_eq (ppn % 2 ^ (9 * level)) 0)) kinds.Fault
    (cond (untouched a d access) kinds.Fault (kinds.Leaf ppn r (w && d) x))))))

by_fields : (pte level : ℕ) (access : Access) (mode : Mode)
    → classified pte level access mode
    ≡ kind_by (has_bit pte 0) (has_bit pte 1) (has_bit pte 2) (has_bit pte 3) (has_bit pte 4) (has_bit pte 6) (has_bit pte 7) (high_bits pte) (ppn_of pte) level access mode
by_fields pte level accesses.Fetch modes.Os = refl
by_fields pte level accesses.Fetch (modes.Inside enclave thread) = refl
by_fields pte level accesses.Load modes.Os = refl
by_fields pte level accesses.Load (modes.Inside enclave thread) = refl
by_fields pte level accesses.Store modes.Os = refl
by_fields pte level accesses.Store (modes.Inside enclave thread) = refl

-- ---- a frame, and ten bits below it

bit : (pte low k : ℕ) → pte / k % 2 ≡ low / k % 2 → nat_eq (pte / k % 2) 1 ≡ nat_eq (low / k % 2) 1
bit pte low k e = ap (λ (n : ℕ). nat_eq n 1) e

pub frame_in : (frame low : ℕ) → frame < 2 ^ 44 → low < 2 ^ 10 → ppn_of (frame * 2 ^ 10 + low) ≡ frame
frame_in frame low few small = omega arith

-- what it is goes by these ten bits
by_low : (frame low level : ℕ) (access : Access) (mode : Mode) → frame < 2 ^ 44 → low < 2 ^ 10
    → classified (frame * 2 ^ 10 + low) level access mode
    ≡ kind_by (has_bit low 0) (has_bit low 1) (has_bit low 2) (has_bit low 3) (has_bit low 4) (has_bit low 6) (has_bit low 7) 0 frame level access mode
by_low frame low level access mode few small =
    let pte : ℕ = frame * 2 ^ 10 + low in
    let e0 : has_bit pte 0 ≡ has_bit low 0 = bit pte low 1 (omega arith) in
    let e1 : has_bit pte 1 ≡ has_bit low 1 = bit pte low 2 (omega arith) in
    let e2 : has_bit pte 2 ≡ has_bit low 2 = bit pte low 4 (omega arith) in
    let e3 : has_bit pte 3 ≡ has_bit low 3 = bit pte low 8 (omega arith) in
    let e4 : has_bit pte 4 ≡ has_bit low 4 = bit pte low 16 (omega arith) in
    let e6 : has_bit pte 6 ≡ has_bit low 6 = bit pte low 64 (omega arith) in
    let e7 : has_bit pte 7 ≡ has_bit low 7 = bit pte low 128 (omega arith) in
    let high : high_bits pte ≡ 0 = omega arith in
    let ppn : ppn_of pte ≡ frame = frame_in frame low few small in
    by_fields pte level access mode
    ∙ (λ i. kind_by (e0 i) (e1 i) (e2 i) (e3 i) (e4 i) (e6 i) (e7 i) (high i) (ppn i) level access mode)

-- ---- the ptes that the monitor writes

frame_fits : (page : ℕ) → page < 2 ^ 16 → frame_of page < 2 ^ 44
frame_fits page few = omega arith

pub pointer_is_pointer : PointerIsPointer
pointer_is_pointer page level access mode few above below =
    by_low (frame_of page) 1 level access mode (frame_fits page few) (omega arith)
    ∙ ap (λ (b : Bool). cond b kinds.Fault (kinds.Pointer (frame_of page))) (no_leaf level above)
  where
    no_leaf : (n : ℕ) → 1 ≤ n → nat_eq n 0 ≡ false
    no_leaf n h = grind (arith, nat_tests)

-- it leads to its page
pub leads-pointer_pte : (shape : Shape) (page : ℕ) → page < page_total shape → page_total shape ≤ 1024 → leads_to_table shape (pointer_pte page) ≡ true
leads-pointer_pte shape page h few =
    let e = frame_in (frame_of page) 1 (omega arith) (omega arith) in
    rw e (grind (arith, nat_tests))

pub page_led_to-pointer_pte : (page : ℕ) → page < 2 ^ 16 → page_led_to (pointer_pte page) ≡ page
page_led_to-pointer_pte page few =
    let e = frame_in (frame_of page) 1 (frame_fits page few) (omega arith) in
    rw e (omega arith)

pub pointer_leads : PointerLeads
pointer_leads shape page is h =
    (leads-pointer_pte shape page h (few_pages shape is), page_led_to-pointer_pte page (omega (arith, few_pages shape is)))

-- the pte of a leaf is its frame with ten bits below
low_of : (page perms : ℕ) → leaf_pte page perms ≡ frame_of page * 2 ^ 10 + (0xD1 + 2 * perms)
low_of page perms = omega arith

pub leaf_has_frame : LeafHasFrame
leaf_has_frame page perms few small = ap ppn_of (low_of page perms) ∙ frame_in (frame_of page) (0xD1 + 2 * perms) (frame_fits page few) (omega arith)

-- which permissions there are
which : (perms : ℕ) → are_perms perms ≡ true → (perms ≡ 1) ⊎ ((perms ≡ 3) ⊎ ((perms ≡ 4) ⊎ ((perms ≡ 5) ⊎ (perms ≡ 7))))
which perms h = grind (arith, nat_tests)

by_perms : (P : ℕ → Type 0) (perms : ℕ) → are_perms perms ≡ true → P 1 → P 3 → P 4 → P 5 → P 7 → P perms
by_perms P perms h r rw_ x rx rwx = elim (which perms h) [
  | inl e ↦ subst P (sym e) r
  | inr (inl e) ↦ subst P (sym e) rw_
  | inr (inr (inl e)) ↦ subst P (sym e) x
  | inr (inr (inr (inl e))) ↦ subst P (sym e) rx
  | inr (inr (inr (inr e))) ↦ subst P (sym e) rwx
]

at_leaf : (page perms : ℕ) (access : Access) (mode : Mode) → page < 2 ^ 16 → perms < 8
    → classified (leaf_pte page perms) 0 access mode
    ≡ kind_by (has_bit (0xD1 + 2 * perms) 0) (has_bit (0xD1 + 2 * perms) 1) (has_bit (0xD1 + 2 * perms) 2) (has_bit (0xD1 + 2 * perms) 3) (has_bit (0xD1 + 2 * perms) 4) (has_bit (0xD1 + 2 * perms) 6) (has_bit (0xD1 + 2 * perms) 7) 0 (frame_of page) 0 access mode
at_leaf page perms access mode few small =
    ap (λ (pte : ℕ). classified pte 0 access mode) (low_of page perms)
    ∙ by_low (frame_of page) (0xD1 + 2 * perms) 0 access mode (frame_fits page few) (omega arith)

pub leaf_is_leaf : LeafIsLeaf
leaf_is_leaf page perms enclave thread accesses.Fetch few h =
    by_perms (λ (p : ℕ). classified (leaf_pte page p) 0 accesses.Fetch (modes.Inside enclave thread) ≡ allowed page p accesses.Fetch) perms h
    (at_leaf page 1 accesses.Fetch (modes.Inside enclave thread) few (omega arith))
    (at_leaf page 3 accesses.Fetch (modes.Inside enclave thread) few (omega arith))
    (at_leaf page 4 accesses.Fetch (modes.Inside enclave thread) few (omega arith))
    (at_leaf page 5 accesses.Fetch (modes.Inside enclave thread) few (omega arith))
    (at_leaf page 7 accesses.Fetch (modes.Inside enclave thread) few (omega arith))
leaf_is_leaf page perms enclave thread accesses.Load few h =
    by_perms (λ (p : ℕ). classified (leaf_pte page p) 0 accesses.Load (modes.Inside enclave thread) ≡ allowed page p accesses.Load) perms h
    (at_leaf page 1 accesses.Load (modes.Inside enclave thread) few (omega arith))
    (at_leaf page 3 accesses.Load (modes.Inside enclave thread) few (omega arith))
    (at_leaf page 4 accesses.Load (modes.Inside enclave thread) few (omega arith))
    (at_leaf page 5 accesses.Load (modes.Inside enclave thread) few (omega arith))
    (at_leaf page 7 accesses.Load (modes.Inside enclave thread) few (omega arith))
leaf_is_leaf page perms enclave thread accesses.Store few h =
    by_perms (λ (p : ℕ). classified (leaf_pte page p) 0 accesses.Store (modes.Inside enclave thread) ≡ allowed page p accesses.Store) perms h
    (at_leaf page 1 accesses.Store (modes.Inside enclave thread) few (omega arith))
    (at_leaf page 3 accesses.Store (modes.Inside enclave thread) few (omega arith))
    (at_leaf page 4 accesses.Store (modes.Inside enclave thread) few (omega arith))
    (at_leaf page 5 accesses.Store (modes.Inside enclave thread) few (omega arith))
    (at_leaf page 7 accesses.Store (modes.Inside enclave thread) few (omega arith))

pub leaf_is_not_the_os : LeafIsNotTheOs
leaf_is_not_the_os page perms access few h =
    by_perms (λ (p : ℕ). classified (leaf_pte page p) 0 access modes.Os ≡ kinds.Fault) perms h
    (at_leaf page 1 access modes.Os few (omega arith))
    (at_leaf page 3 access modes.Os few (omega arith))
    (at_leaf page 4 access modes.Os few (omega arith))
    (at_leaf page 5 access modes.Os few (omega arith))
    (at_leaf page 7 access modes.Os few (omega arith))
