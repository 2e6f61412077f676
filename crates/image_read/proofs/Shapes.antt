-- The numbers of a configuration and their logarithms.
use Rattle.std.proofs.Common.{◌≡◌, ℕ, zero, suc, ◌^◌, ◌≤◌, Bool, true, false, leb, eqb, ◌&&◌, ◌||◌, refl, sym, subst, arith, inl, inr}
use Rattle.std.specs.Prelude.{◌==◌, ◌%◌}
use Rattle.std.proofs.lemmas.Bool.{cases_Bool, and_parts, and_from, eqb-true, leb-true, le-leb}
use Rattle.mon_types.proofs.Below.{by_eight}
use Rattle.mon_types.specs.Shape.{shape_of, is_core_count, is_region_count, is_page_count, is_shift, is_shape}
use Rattle.image_read.specs.Image.{log2_of, most_cores}

pub few_cores : (version : ℕ) → most_cores version ≤ 16
few_cores version =
    elim (cases_Bool (version == 1)) [
      | inl t ↦ rw t (omega arith)
      | inr f ↦ rw f (omega arith)
    ]

-- ---- from the logarithms

core_count : (n : ℕ) → 1 ≤ n → n ≤ 16 → is_core_count n ≡ true
core_count n least most = and_from (leb 1 n) (leb n 16) (le-leb 1 n least) (le-leb n 16 most)

region_power : (r : ℕ) → 1 ≤ r → r ≤ 6 → is_region_count (2 ^ r) ≡ true
region_power r least most =
    by_eight (λ k. 1 ≤ k → k ≤ 6 → is_region_count (2 ^ k) ≡ true) (λ l m. absurd (omega (arith, l)))
    (λ l m. refl) (λ l m. refl) (λ l m. refl) (λ l m. refl) (λ l m. refl) (λ l m. refl)
    (λ l m. absurd (omega (arith, m))) r (omega (arith, most)) least most

page_power : (p : ℕ) → p ≤ 4 → is_page_count (2 ^ p) ≡ true
page_power zero m = refl
page_power (suc zero) m = refl
page_power (suc (suc zero)) m = refl
page_power (suc (suc (suc zero))) m = refl
page_power (suc (suc (suc (suc zero)))) m = refl
page_power (suc (suc (suc (suc (suc p))))) m = absurd (omega (arith, m))

shift_power : (p s : ℕ) → p ≤ 4 → s ≤ p → is_shift (2 ^ p) s ≡ true
shift_power zero zero m l = refl
shift_power zero (suc s) m l = absurd (omega (arith, l))
shift_power (suc zero) zero m l = refl
shift_power (suc zero) (suc zero) m l = refl
shift_power (suc zero) (suc (suc s)) m l = absurd (omega (arith, l))
shift_power (suc (suc zero)) zero m l = refl
shift_power (suc (suc zero)) (suc zero) m l = refl
shift_power (suc (suc zero)) (suc (suc zero)) m l = refl
shift_power (suc (suc zero)) (suc (suc (suc s))) m l = absurd (omega (arith, l))
shift_power (suc (suc (suc zero))) zero m l = refl
shift_power (suc (suc (suc zero))) (suc zero) m l = refl
shift_power (suc (suc (suc zero))) (suc (suc zero)) m l = refl
shift_power (suc (suc (suc zero))) (suc (suc (suc zero))) m l = refl
shift_power (suc (suc (suc zero))) (suc (suc (suc (suc s)))) m l = absurd (omega (arith, l))
shift_power (suc (suc (suc (suc zero)))) zero m l = refl
shift_power (suc (suc (suc (suc zero)))) (suc zero) m l = refl
shift_power (suc (suc (suc (suc zero)))) (suc (suc zero)) m l = refl
shift_power (suc (suc (suc (suc zero)))) (suc (suc (suc zero))) m l = refl
shift_power (suc (suc (suc (suc zero)))) (suc (suc (suc (suc zero)))) m l = refl
shift_power (suc (suc (suc (suc zero)))) (suc (suc (suc (suc (suc s))))) m l = absurd (omega (arith, l))
shift_power (suc (suc (suc (suc (suc p))))) s m l = absurd (omega (arith, m))

pub made_shape : (version cores regions pages shift : ℕ) → 1 ≤ cores → cores ≤ most_cores version → 1 ≤ regions → regions ≤ 6 → pages ≤ 4 → shift ≤ pages
    → is_shape (shape_of cores (2 ^ regions) (2 ^ pages) shift) ≡ true
made_shape version cores regions pages shift c0 c1 r0 r1 p s =
    and_from (is_core_count cores && is_region_count (2 ^ regions) && is_page_count (2 ^ pages)) (is_shift (2 ^ pages) shift)
    (and_from (is_core_count cores && is_region_count (2 ^ regions)) (is_page_count (2 ^ pages))
    (and_from (is_core_count cores) (is_region_count (2 ^ regions)) (core_count cores c0 (omega (arith, c1, few_cores version))) (region_power regions r0 r1))
    (page_power pages p)) (shift_power pages shift p s)

pub log_power : (r : ℕ) → r ≤ 6 → log2_of (2 ^ r) ≡ r
log_power r most =
    by_eight (λ k. k ≤ 6 → log2_of (2 ^ k) ≡ k)
    (λ m. refl) (λ m. refl) (λ m. refl) (λ m. refl) (λ m. refl) (λ m. refl) (λ m. refl)
    (λ m. absurd (omega (arith, m))) r (omega (arith, most)) most

-- ---- back to the logarithms

or_next : (b c : Bool) → b ≡ false → (b || c) ≡ true → c ≡ true
or_next true c f h = absurd cc
or_next false c f h = h

pub record IsPower (n least most : ℕ) : Type 0 where
  pub least_is : least ≤ log2_of n
  pub most_is : log2_of n ≤ most
  pub power_is : 2 ^ log2_of n ≡ n

power_at : (n m least most : ℕ) → eqb n m ≡ true → IsPower m least most → IsPower n least most
power_at n m least most t p = subst (λ (x : ℕ). IsPower x least most) (sym (eqb-true n m t)) p

made : (m least most : ℕ) → least ≤ log2_of m → log2_of m ≤ most → 2 ^ log2_of m ≡ m → IsPower m least most
made m least most l u e = record { least_is = l; most_is = u; power_is = e }

either : (b c : Bool) (P : Type 0) → (b ≡ true → P) → (c ≡ true → P) → (b || c) ≡ true → P
either true c P f g h = f refl
either false c P f g h = g h

pub region_log : (n : ℕ) → is_region_count n ≡ true → IsPower n 1 6
region_log n = (either (eqb n 2 || eqb n 4 || eqb n 8 || eqb n 16 || eqb n 32) (eqb n 64) (IsPower n 1 6) (either (eqb n 2 || eqb n 4 || eqb n 8 || eqb n 16) (eqb n 32) (IsPower n 1 6) (either (eqb n 2 || eqb n 4 || eqb n 8) (eqb n 16) (IsPower n 1 6) (either (eqb n 2 || eqb n 4) (eqb n 8) (IsPower n 1 6) (either (eqb n 2) (eqb n 4) (IsPower n 1 6) (λ t. power_at n 2 1 6 t (made 2 1 6 (omega arith) (omega arith) refl)) (λ t. power_at n 4 1 6 t (made 4 1 6 (omega arith) (omega arith) refl))) (λ t. power_at n 8 1 6 t (made 8 1 6 (omega arith) (omega arith) refl))) (λ t. power_at n 16 1 6 t (made 16 1 6 (omega arith) (omega arith) refl))) (λ t. power_at n 32 1 6 t (made 32 1 6 (omega arith) (omega arith) refl))) (λ t. power_at n 64 1 6 t (made 64 1 6 (omega arith) (omega arith) refl)))

pub page_log : (n : ℕ) → is_page_count n ≡ true → IsPower n 0 4
page_log n = (either (eqb n 1 || eqb n 2 || eqb n 4 || eqb n 8) (eqb n 16) (IsPower n 0 4) (either (eqb n 1 || eqb n 2 || eqb n 4) (eqb n 8) (IsPower n 0 4) (either (eqb n 1 || eqb n 2) (eqb n 4) (IsPower n 0 4) (either (eqb n 1) (eqb n 2) (IsPower n 0 4) (λ t. power_at n 1 0 4 t (made 1 0 4 (omega arith) (omega arith) refl)) (λ t. power_at n 2 0 4 t (made 2 0 4 (omega arith) (omega arith) refl))) (λ t. power_at n 4 0 4 t (made 4 0 4 (omega arith) (omega arith) refl))) (λ t. power_at n 8 0 4 t (made 8 0 4 (omega arith) (omega arith) refl))) (λ t. power_at n 16 0 4 t (made 16 0 4 (omega arith) (omega arith) refl)))

small_shift : (p s : ℕ) → p ≤ 4 → s ≤ 4 → is_shift (2 ^ p) s ≡ true → s ≤ p
small_shift zero zero m l h = omega arith
small_shift zero (suc zero) m l h = absurd cc
small_shift zero (suc (suc zero)) m l h = absurd cc
small_shift zero (suc (suc (suc zero))) m l h = absurd cc
small_shift zero (suc (suc (suc (suc zero)))) m l h = absurd cc
small_shift zero (suc (suc (suc (suc (suc s))))) m l h = absurd (omega (arith, l))
small_shift (suc zero) zero m l h = omega arith
small_shift (suc zero) (suc zero) m l h = omega arith
small_shift (suc zero) (suc (suc zero)) m l h = absurd cc
small_shift (suc zero) (suc (suc (suc zero))) m l h = absurd cc
small_shift (suc zero) (suc (suc (suc (suc zero)))) m l h = absurd cc
small_shift (suc zero) (suc (suc (suc (suc (suc s))))) m l h = absurd (omega (arith, l))
small_shift (suc (suc zero)) zero m l h = omega arith
small_shift (suc (suc zero)) (suc zero) m l h = omega arith
small_shift (suc (suc zero)) (suc (suc zero)) m l h = omega arith
small_shift (suc (suc zero)) (suc (suc (suc zero))) m l h = absurd cc
small_shift (suc (suc zero)) (suc (suc (suc (suc zero)))) m l h = absurd cc
small_shift (suc (suc zero)) (suc (suc (suc (suc (suc s))))) m l h = absurd (omega (arith, l))
small_shift (suc (suc (suc zero))) zero m l h = omega arith
small_shift (suc (suc (suc zero))) (suc zero) m l h = omega arith
small_shift (suc (suc (suc zero))) (suc (suc zero)) m l h = omega arith
small_shift (suc (suc (suc zero))) (suc (suc (suc zero))) m l h = omega arith
small_shift (suc (suc (suc zero))) (suc (suc (suc (suc zero)))) m l h = absurd cc
small_shift (suc (suc (suc zero))) (suc (suc (suc (suc (suc s))))) m l h = absurd (omega (arith, l))
small_shift (suc (suc (suc (suc zero)))) zero m l h = omega arith
small_shift (suc (suc (suc (suc zero)))) (suc zero) m l h = omega arith
small_shift (suc (suc (suc (suc zero)))) (suc (suc zero)) m l h = omega arith
small_shift (suc (suc (suc (suc zero)))) (suc (suc (suc zero))) m l h = omega arith
small_shift (suc (suc (suc (suc zero)))) (suc (suc (suc (suc zero)))) m l h = omega arith
small_shift (suc (suc (suc (suc zero)))) (suc (suc (suc (suc (suc s))))) m l h = absurd (omega (arith, l))
small_shift (suc (suc (suc (suc (suc p))))) s m l h = absurd (omega (arith, m))

pub shift_log : (n s : ℕ) → is_page_count n ≡ true → is_shift n s ≡ true → s ≤ log2_of n
shift_log n s c h =
    let p = page_log n c in
    let q = and_parts (leb s 4) (n % 2 ^ s == 0) h in
    small_shift (log2_of n) s p.most_is (leb-true s 4 q.0) (rw p.power_is h)
