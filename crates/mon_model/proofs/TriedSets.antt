-- The sets of tried cells and of tried regions.
use Rattle.std.proofs.Common.{◌≡◌, ℕ, zero, suc, ◌+◌, ◌-◌, ◌*◌, ◌/◌, ◌%◌, ◌^◌, ◌<◌, ◌==◌, Bool, true, false, cond, List, [], ◌∷◌, refl, sym, ap, ◌∙◌, arith, add-zero, add-one, zero-add, ◌≤◌, inl, inr}
use Rattle.std.specs.Prelude.{map, sum_by}
use Rattle.std.specs.List.{range_with_len}
use Rattle.std.specs.Int.{bit_at}
use Rattle.std.proofs.Math.Nat.{pow-succ', div-add-mod'}
use Rattle.std.proofs.Math.Pow.{pow-lt, pow_mono}
use Rattle.std.proofs.lemmas.Nat.{mod-pow-add}
use Rattle.std.proofs.lemmas.Nat.Bits.{bit_at_cat_low}
use Rattle.std.proofs.lemmas.Bool.{eqb-true, eqb-false}
use Rattle.std.proofs.lemmas.Bool.Decides.{leb_tells}
use Rattle.std.proofs.lemmas.List.Sums.{sum_by-append, sum_by-cons}
use Rattle.mon_types.specs.declared.object.ObjectId.TheVariants as objects
use Rattle.mon_types.specs.declared.object.Tried.{Tried}
use Rattle.mon_types.specs.Bits.{has_bit, member, members}
use Rattle.mon_model.specs.Tries.{all_cells, add_tried, tried_set}

abbrev pub tried_of : ℕ → ℕ → ℕ → ℕ → Tried
tried_of e t r c = record { enclaves = e; threads = t; regions = r; cells = c }

-- ---- cells

-- n powers of two, from that of a on
abbrev powers : ℕ → ℕ → ℕ
powers a zero = 0
powers a (suc n) = powers (a + 1) n + 2 ^ a

cells_from : (a n : ℕ) → tried_set (map (λ core. objects.Cell core) (range_with_len a n)) ≡ tried_of 0 0 0 (powers a n)
cells_from a zero = refl
cells_from a (suc n) = ap (add_tried (objects.Cell a)) (cells_from (a + 1) n)

powers_up : (a n : ℕ) → powers a n + 2 ^ a ≡ 2 ^ (a + n)
powers_up a zero = omega (arith, ap (λ (k : ℕ). 2 ^ k) (sym (add-zero a)))
powers_up a (suc n) =
    let further : powers (a + 1) n + 2 ^ (a + 1) ≡ 2 ^ (a + 1 + n) = powers_up (a + 1) n in
    let twice : 2 ^ (a + 1) ≡ 2 * 2 ^ a = ap (λ (k : ℕ). 2 ^ k) (add-one a) ∙ pow-succ' 2 a in
    let same : 2 ^ (a + 1 + n) ≡ 2 ^ (a + suc n) = ap (λ (k : ℕ). 2 ^ k) {x = a + 1 + n} {y = a + suc n} (omega arith) in
    omega arith

pub cells_all : (n : ℕ) → tried_set (all_cells n) ≡ tried_of 0 0 0 (2 ^ n - 1)
cells_all n =
    let up : powers 0 n + 1 ≡ 2 ^ (0 + n) = powers_up 0 n in
    let same : 2 ^ (0 + n) ≡ 2 ^ n = ap (λ (k : ℕ). 2 ^ k) {x = 0 + n} {y = n} (omega arith) in
    cells_from 0 n ∙ ap (λ (x : ℕ). tried_of 0 0 0 x) {x = powers 0 n} {y = 2 ^ n - 1} (omega arith)

-- ---- regions

regions_are : (rs : List ℕ) → tried_set (map (λ r. objects.Region r) rs) ≡ tried_of 0 0 (sum_by (λ r. 2 ^ r) rs) 0
regions_are [] = refl
regions_are (r ∷ rs) =
    ap (add_tried (objects.Region r)) (regions_are rs)
    ∙ ap (λ (x : ℕ). tried_of 0 0 x 0) {x = sum_by (λ r. 2 ^ r) rs + 2 ^ r} {y = sum_by (λ r. 2 ^ r) (r ∷ rs)} (omega (arith, sum_by-cons (λ (r : ℕ). 2 ^ r) r rs))

chosen_sum : (b : Bool) (d n : ℕ) → (b ≡ true → d ≡ 1) → (b ≡ false → d ≡ 0) → sum_by (λ r. 2 ^ r) (cond b (n ∷ []) []) ≡ d * 2 ^ n
chosen_sum true d n one none =
    let e : d * 2 ^ n ≡ 1 * 2 ^ n = ap (λ (x : ℕ). x * 2 ^ n) (one refl) in
    omega arith
chosen_sum false d n one none =
    let e : d * 2 ^ n ≡ 0 * 2 ^ n = ap (λ (x : ℕ). x * 2 ^ n) (none refl) in
    omega arith

member_sum : (word n : ℕ) → sum_by (λ r. 2 ^ r) (member word n) ≡ (word / 2 ^ n % 2) * 2 ^ n
member_sum word n = chosen_sum (has_bit word n) (word / 2 ^ n % 2) n (eqb-true _ 1) (λ f. omega (arith, eqb-false (word / 2 ^ n % 2) 1 f))

members_sum : (word n : ℕ) → sum_by (λ r. 2 ^ r) (members word n) ≡ word % 2 ^ n
unfolding members
members_sum word zero = omega arith
members_sum word (suc n) =
    let more = sum_by-append (λ (r : ℕ). 2 ^ r) (members word n) (member word n) in
    let last = member_sum word n in
    let below = members_sum word n in
    let cut : word % 2 ^ suc n ≡ (word / 2 ^ n % 2) * 2 ^ n + word % 2 ^ n =
    ap (λ (k : ℕ). word % 2 ^ k) {x = suc n} {y = 1 + n} (omega arith) ∙ mod-pow-add word 1 n in
    omega arith

pub regions_below : (word n : ℕ) → tried_set (map (λ r. objects.Region r) (members word n)) ≡ tried_of 0 0 (word % 2 ^ n) 0
regions_below word n = regions_are (members word n) ∙ ap (λ (x : ℕ). tried_of 0 0 x 0) (members_sum word n)

-- ---- with another object

pub region_and_cells : (r n : ℕ) → tried_set (objects.Region r ∷ all_cells n) ≡ tried_of 0 0 (2 ^ r) (2 ^ n - 1)
region_and_cells r n = ap (add_tried (objects.Region r)) (cells_all n) ∙ ap (λ (x : ℕ). tried_of 0 0 x (2 ^ n - 1)) (zero-add (2 ^ r))

pub slot_and_regions : (e word n : ℕ) → tried_set (objects.Enclave e ∷ map (λ r. objects.Region r) (members word n)) ≡ tried_of (2 ^ e) 0 (word % 2 ^ n) 0
slot_and_regions e word n = ap (add_tried (objects.Enclave e)) (regions_below word n) ∙ ap (λ (x : ℕ). tried_of x 0 (word % 2 ^ n) 0) (zero-add (2 ^ e))

low_bit : (word n i : ℕ) → i < n → bit_at (word % 2 ^ n) i ≡ bit_at word i
low_bit word n i lt =
    let whole : word / 2 ^ n * 2 ^ n + word % 2 ^ n ≡ word = div-add-mod' word (2 ^ n) in
    sym (bit_at_cat_low (word / 2 ^ n) n (word % 2 ^ n) i lt) ∙ ap (λ (x : ℕ). bit_at x i) whole

-- whether region r is among those that a delete tried, is whether it is in the enclave's set
pub tried_region : (e word n r : ℕ) → r < n → has_bit (tried_set (objects.Enclave e ∷ map (λ r. objects.Region r) (members word n))).regions r ≡ has_bit word r
tried_region e word n r lt = ap (λ (t : Tried). has_bit t.regions r) (slot_and_regions e word n) ∙ ap (λ (x : ℕ). x == 1) (low_bit word n r lt)

-- two different powers of two below a third add up to less than it
ascending : (a b n : ℕ) → a < b → b ≤ n → 2 ^ a + 2 ^ b < 2 ^ suc n
ascending a b n lt le =
    let less : 2 ^ a < 2 ^ b = pow-lt lt in
    let most : 2 ^ b ≤ 2 ^ n = pow_mono le in
    let twice : 2 ^ suc n ≡ 2 * 2 ^ n = pow-succ' 2 n in
    omega arith

pub two_slots : (a b : ℕ) → a < 8 → b < 8 → (a ≡ b → ⊥) → 2 ^ a + 2 ^ b < 256
two_slots a b p q ne =
    elim (leb_tells a b) [
      | inl (t, le) ↦ ascending a b 7 (omega arith) (omega arith)
      | inr (f, lt) ↦ omega (arith, ascending b a 7 lt (omega arith))
    ]
