-- The sets of objects that rise.
use Rattle.std.proofs.Common.{◌≡◌, ℕ, ◌+◌, ◌-◌, ◌*◌, ◌^◌, ◌<◌, ◌≤◌, List, [], ◌∷◌, ◌++◌, refl, ap, ◌∙◌, subst, arith, add-one}
use Rattle.std.proofs.Math.Nat.{pow-succ'}
use Rattle.std.proofs.Math.Pow.{pow_mono}
use Rattle.mon_types.specs.Shape.{Shape}
use Rattle.mon_types.specs.LimitLaws.{few_cores, few_regions}
use Rattle.mon_types.specs.Objects.{object_number}
use Rattle.mon_types.specs.declared.object.ObjectId.{ObjectId}
use Rattle.mon_types.specs.declared.object.ObjectId.TheVariants as objects
use Rattle.mon_types.specs.declared.object.Tried.{Tried}
use Rattle.mon_model.specs.Tries.{add_tried, tried_set}
use Rattle.lock_plan.specs.Objects.{HasObject, HasPlace}
use Rattle.lock_plan.specs.Laws.{OneMoreIsTried}
use Rattle.lock_plan.proofs.Order.{Rises, every_rises}

-- ---- the sets of what rises

-- a sum that leaves room for a power leaves it for a lower one, and with half of it added for a lower one too
lower : (x y a b : ℕ) → a ≤ b → x + 2 ^ b ≤ y → x + 2 ^ a ≤ y
lower x y a b le h = omega (arith, pow_mono le)

half : (x y a b : ℕ) → a ≤ b → x + 2 ^ (b + 1) ≤ y → x + 2 ^ b + 2 ^ a ≤ y
half x y a b le h =
    let twice : 2 ^ (b + 1) ≡ 2 * 2 ^ b = ap (λ (k : ℕ). 2 ^ k) (add-one b) ∙ pow-succ' 2 b in
    omega (arith, pow_mono le)

-- the sets leave room for all from lo up to hi
record Leaves (lo hi : ℕ) (t : Tried) : Type 0 where
  enclaves : t.enclaves + 2 ^ lo ≤ 2 ^ hi
  threads : t.threads + 2 ^ (lo - 16) ≤ 2 ^ (hi - 16)
  regions : t.regions + 2 ^ (lo - 64) ≤ 2 ^ (hi - 64)
  cells : t.cells + 2 ^ (lo - 128) ≤ 2 ^ (hi - 128)

leaves : (m : Shape) (lo hi : ℕ) (xs : List ObjectId) → Rises m lo hi xs → Leaves lo hi (tried_set xs)
leaves m lo hi [] h = record {
  enclaves = omega (arith, pow_mono {i = lo} {j = hi} h);
  threads = omega (arith, pow_mono {i = lo - 16} {j = hi - 16} (omega arith));
  regions = omega (arith, pow_mono {i = lo - 64} {j = hi - 64} (omega arith));
  cells = omega (arith, pow_mono {i = lo - 128} {j = hi - 128} (omega arith));
}
leaves m lo hi (objects.Enclave e ∷ xs) h =
    let more : Leaves (e + 1) hi (tried_set xs) = leaves m (e + 1) hi xs h.2 in
    let small : e < 8 = h.0 in record {
      enclaves = half _ _ lo e h.1 more.enclaves;
      threads = lower _ _ (lo - 16) (e + 1 - 16) (omega (arith, h.1)) more.threads;
      regions = lower _ _ (lo - 64) (e + 1 - 64) (omega (arith, h.1)) more.regions;
      cells = lower _ _ (lo - 128) (e + 1 - 128) (omega (arith, h.1)) more.cells;
    }
leaves m lo hi (objects.Thread t ∷ xs) h =
    let more : Leaves (16 + t + 1) hi (tried_set xs) = leaves m (16 + t + 1) hi xs h.2 in
    let place : 16 + t + 1 - 16 ≡ t + 1 = omega arith in record {
      enclaves = lower _ _ lo (16 + t + 1) (omega (arith, h.1)) more.enclaves;
      threads = half _ _ (lo - 16) t (omega (arith, h.1)) (subst (λ (k : ℕ). (tried_set xs).threads + 2 ^ k ≤ 2 ^ (hi - 16)) place more.threads);
      regions = lower _ _ (lo - 64) (16 + t + 1 - 64) (omega (arith, h.1)) more.regions;
      cells = lower _ _ (lo - 128) (16 + t + 1 - 128) (omega (arith, h.1)) more.cells;
    }
leaves m lo hi (objects.Region r ∷ xs) h =
    let more : Leaves (64 + r + 1) hi (tried_set xs) = leaves m (64 + r + 1) hi xs h.2 in
    let place : 64 + r + 1 - 64 ≡ r + 1 = omega arith in record {
      enclaves = lower _ _ lo (64 + r + 1) (omega (arith, h.1)) more.enclaves;
      threads = lower _ _ (lo - 16) (64 + r + 1 - 16) (omega (arith, h.1)) more.threads;
      regions = half _ _ (lo - 64) r (omega (arith, h.1)) (subst (λ (k : ℕ). (tried_set xs).regions + 2 ^ k ≤ 2 ^ (hi - 64)) place more.regions);
      cells = lower _ _ (lo - 128) (64 + r + 1 - 128) (omega (arith, h.1)) more.cells;
    }
leaves m lo hi (objects.Cell c ∷ xs) h =
    let more : Leaves (128 + c + 1) hi (tried_set xs) = leaves m (128 + c + 1) hi xs h.2 in
    let place : 128 + c + 1 - 128 ≡ c + 1 = omega arith in record {
      enclaves = lower _ _ lo (128 + c + 1) (omega (arith, h.1)) more.enclaves;
      threads = lower _ _ (lo - 16) (128 + c + 1 - 16) (omega (arith, h.1)) more.threads;
      regions = lower _ _ (lo - 64) (128 + c + 1 - 64) (omega (arith, h.1)) more.regions;
      cells = half _ _ (lo - 128) c (omega (arith, h.1)) (subst (λ (k : ℕ). (tried_set xs).cells + 2 ^ k ≤ 2 ^ (hi - 128)) place more.cells);
    }

-- ---- the next object

-- what comes before an object, and the object
record Parts (m : Shape) (lo : ℕ) (front : List ObjectId) (x : ObjectId) : Type 0 where
  before : Rises m lo (object_number x) front
  there : HasObject m x

parts : (m : Shape) (lo : ℕ) (front : List ObjectId) (x : ObjectId) (rest : List ObjectId) → Rises m lo 144 (front ++ x ∷ rest) → Parts m lo front x
parts m lo [] x rest h = record { before = h.1; there = h.0 }
parts m lo (y ∷ front) x rest h =
    let more : Parts m (object_number y + 1) front x = parts m (object_number y + 1) front x rest h.2 in
    record { before = (h.0, h.1, more.before); there = more.there }

has_place : (m : Shape) (t : Tried) (x : ObjectId) → m.regions ≤ 64 → m.cores ≤ 16 → HasObject m x → Leaves 0 (object_number x) t → HasPlace t x
has_place m t (objects.Enclave e) few_r few_c there h = (there, omega (arith, h.enclaves))
has_place m t (objects.Thread u) few_r few_c there h =
    let room : t.threads + 1 ≤ 2 ^ u = subst (λ (k : ℕ). t.threads + 1 ≤ 2 ^ k) {x = 16 + u - 16} {y = u} (omega arith) h.threads in (there, omega arith)
has_place m t (objects.Region r) few_r few_c there h =
    let room : t.regions + 1 ≤ 2 ^ r = subst (λ (k : ℕ). t.regions + 1 ≤ 2 ^ k) {x = 64 + r - 64} {y = r} (omega arith) h.regions in (omega (arith, there), omega arith)
has_place m t (objects.Cell c) few_r few_c there h =
    let room : t.cells + 1 ≤ 2 ^ c = subst (λ (k : ℕ). t.cells + 1 ≤ 2 ^ k) {x = 128 + c - 128} {y = c} (omega arith) h.cells in (omega (arith, there), omega arith)

-- it does not matter which of two is added first
swapped : (x y : ObjectId) (t : Tried) → add_tried x (add_tried y t) ≡ add_tried y (add_tried x t)
swapped (objects.Enclave e) (objects.Enclave d) t = ap (λ (n : ℕ). record t { enclaves = n }) {x = t.enclaves + 2 ^ d + 2 ^ e} {y = t.enclaves + 2 ^ e + 2 ^ d} (omega arith)
swapped (objects.Enclave e) (objects.Thread u) t = refl
swapped (objects.Enclave e) (objects.Region r) t = refl
swapped (objects.Enclave e) (objects.Cell c) t = refl
swapped (objects.Thread u) (objects.Enclave e) t = refl
swapped (objects.Thread u) (objects.Thread v) t = ap (λ (n : ℕ). record t { threads = n }) {x = t.threads + 2 ^ v + 2 ^ u} {y = t.threads + 2 ^ u + 2 ^ v} (omega arith)
swapped (objects.Thread u) (objects.Region r) t = refl
swapped (objects.Thread u) (objects.Cell c) t = refl
swapped (objects.Region r) (objects.Enclave e) t = refl
swapped (objects.Region r) (objects.Thread u) t = refl
swapped (objects.Region r) (objects.Region q) t = ap (λ (n : ℕ). record t { regions = n }) {x = t.regions + 2 ^ q + 2 ^ r} {y = t.regions + 2 ^ r + 2 ^ q} (omega arith)
swapped (objects.Region r) (objects.Cell c) t = refl
swapped (objects.Cell c) (objects.Enclave e) t = refl
swapped (objects.Cell c) (objects.Thread u) t = refl
swapped (objects.Cell c) (objects.Region r) t = refl
swapped (objects.Cell c) (objects.Cell d) t = ap (λ (n : ℕ). record t { cells = n }) {x = t.cells + 2 ^ d + 2 ^ c} {y = t.cells + 2 ^ c + 2 ^ d} (omega arith)

added_last : (x : ObjectId) (front : List ObjectId) → add_tried x (tried_set front) ≡ tried_set (front ++ x ∷ [])
added_last x [] = refl
added_last x (y ∷ front) = swapped x y (tried_set front) ∙ ap (add_tried y) (added_last x front)

pub one_more_is_tried : OneMoreIsTried
one_more_is_tried s core call front x rest valid caller e =
    let all : Rises s.shape 0 144 (front ++ x ∷ rest) = subst (λ (xs : List ObjectId). Rises s.shape 0 144 xs) e (every_rises s core call valid caller) in
    let here : Parts s.shape 0 front x = parts s.shape 0 front x rest all in record {
      place = has_place s.shape (tried_set front) x (few_regions s.shape valid) (few_cores s.shape valid) here.there (leaves s.shape 0 (object_number x) front here.before);
      added = added_last x front;
    }
