-- There is room for the records of all objects that a call tries.
use Rattle.std.proofs.Common.{◌≡◌, ℕ, zero, suc, ◌+◌, ◌≤◌, Bool, true, false, cond, ◌==◌, ◌&&◌, nat_le, nat_lt, List, [], ◌∷◌, ◌++◌, map, length, None, slice_get, IfSome, refl, sym, ap, ◌∙◌, subst, arith, length-append}
use Rattle.std.specs.List.{range_with_len}
use Rattle.std.proofs.lemmas.Bool.Decides.{nat_tests}
use Rattle.arrayvec.specs.ArrayVec.{array_vec_len}
use Rattle.mon_types.specs.Shape.{Shape, is_shape}
use Rattle.mon_types.specs.declared.region.Region.{Region}
use Rattle.mon_types.specs.declared.region.Region.TheVariants as regions
use Rattle.mon_types.specs.declared.thread.Mode.{Mode}
use Rattle.mon_types.specs.declared.thread.Mode.TheVariants as modes
use Rattle.mon_types.specs.declared.call.Call.{Call}
use Rattle.mon_types.specs.declared.call.Call.TheVariants as calls
use Rattle.mon_types.specs.declared.object.ObjectId.{ObjectId}
use Rattle.mon_types.specs.declared.object.ObjectId.TheVariants as objects
use Rattle.mon_model.specs.State.{State, region_at, enclave_at, mode_of}
use Rattle.mon_types.specs.Bits.{has_bit, member, members}
use Rattle.mon_types.specs.Owns.{os_word}
use Rattle.mon_model.specs.Early.{early}
use Rattle.mon_types.specs.Modes.{own_slot}
use Rattle.mon_model.specs.Tries.{own_enclave, free_tries, all_cells, held_tries}
use Rattle.lock_plan.specs.declared.held.Held.{Held}
use Rattle.lock_plan.specs.Plan.{planned}
use Rattle.lock_plan.specs.Records.{records_of, HasRoom, LeavesRoom}
use Rattle.lock_plan.specs.EveryPlan.{tries_held, is_next}
use Rattle.mon_types.specs.LimitLaws.{few_cores, few_regions}

-- no more records than there is room for
pub record Fits (h : Held) : Type 0 where
  pub enclaves : array_vec_len h.enclaves ≤ 2
  pub threads : array_vec_len h.threads ≤ 1
  pub regions : array_vec_len h.regions ≤ 64
  pub cells : array_vec_len h.cells ≤ 16

-- ---- room before the last

record Sum (a b c : Held) : Type 0 where
  enclaves : array_vec_len c.enclaves ≡ array_vec_len a.enclaves + array_vec_len b.enclaves
  threads : array_vec_len c.threads ≡ array_vec_len a.threads + array_vec_len b.threads
  regions : array_vec_len c.regions ≡ array_vec_len a.regions + array_vec_len b.regions
  cells : array_vec_len c.cells ≡ array_vec_len a.cells + array_vec_len b.cells

summed : (s : State) (xs ys : List ObjectId) → Sum (records_of s xs) (records_of s ys) (records_of s (xs ++ ys))
summed s [] ys = record { enclaves = omega arith; threads = omega arith; regions = omega arith; cells = omega arith }
summed s (objects.Enclave e ∷ xs) ys = let more : Sum (records_of s xs) (records_of s ys) (records_of s (xs ++ ys)) = summed s xs ys in record { enclaves = omega arith; threads = omega arith; regions = omega arith; cells = omega arith }
summed s (objects.Thread t ∷ xs) ys = let more : Sum (records_of s xs) (records_of s ys) (records_of s (xs ++ ys)) = summed s xs ys in record { enclaves = omega arith; threads = omega arith; regions = omega arith; cells = omega arith }
summed s (objects.Region r ∷ xs) ys = let more : Sum (records_of s xs) (records_of s ys) (records_of s (xs ++ ys)) = summed s xs ys in record { enclaves = omega arith; threads = omega arith; regions = omega arith; cells = omega arith }
summed s (objects.Cell c ∷ xs) ys = let more : Sum (records_of s xs) (records_of s ys) (records_of s (xs ++ ys)) = summed s xs ys in record { enclaves = omega arith; threads = omega arith; regions = omega arith; cells = omega arith }

pub room_before : (s : State) (front : List ObjectId) (x : ObjectId) (rest : List ObjectId) → Fits (records_of s (front ++ x ∷ rest)) → HasRoom (records_of s front) x
room_before s front (objects.Enclave e) rest fits = omega (arith, (summed s front (objects.Enclave e ∷ rest)).enclaves)
room_before s front (objects.Thread t) rest fits = omega (arith, (summed s front (objects.Thread t ∷ rest)).threads)
room_before s front (objects.Region r) rest fits = omega (arith, (summed s front (objects.Region r ∷ rest)).regions)
room_before s front (objects.Cell c) rest fits = omega (arith, (summed s front (objects.Cell c ∷ rest)).cells)

room_for : (s : State) (front rest : List ObjectId) → Fits (records_of s (front ++ rest)) → IfSome (slice_get rest 0) (HasRoom (records_of s front))
room_for s front [] fits = tt
room_for s front (x ∷ rest) fits = room_before s front x rest fits

-- ---- all that a call tries

abbrev is_fit : Held → Bool
is_fit h = nat_le (array_vec_len h.enclaves) 2 && nat_le (array_vec_len h.threads) 1 && nat_le (array_vec_len h.regions) 64 && nat_le (array_vec_len h.cells) 16

fit : (h : Held) → is_fit h ≡ true → Fits h
fit h e = record { enclaves = grind (arith, nat_tests); threads = grind (arith, nat_tests); regions = grind (arith, nat_tests); cells = grind (arith, nat_tests) }

own_fit : (s : State) (mode : Mode) → Fits (records_of s (own_enclave mode))
own_fit s modes.Os = fit _ refl
own_fit s (modes.Inside e t) = fit _ refl

own_and_region_fit : (s : State) (mode : Mode) (r : ℕ) → Fits (records_of s (own_enclave mode ++ objects.Region r ∷ []))
own_and_region_fit s modes.Os r = fit _ refl
own_and_region_fit s (modes.Inside e t) r = fit _ refl

chosen_fit : (s : State) (b : Bool) (xs ys : List ObjectId) → Fits (records_of s xs) → Fits (records_of s ys) → Fits (records_of s (cond b xs ys))
chosen_fit s true xs ys p q = p
chosen_fit s false xs ys p q = q

-- these are so many cells, or so many regions, and nothing else
record Only (cells regions : ℕ) (h : Held) : Type 0 where
  no_enclave : array_vec_len h.enclaves ≡ 0
  no_thread : array_vec_len h.threads ≡ 0
  all_regions : array_vec_len h.regions ≡ regions
  every_cell : array_vec_len h.cells ≡ cells

only_cells : (s : State) (a n : ℕ) → Only n 0 (records_of s (map (λ core. objects.Cell core) (range_with_len a n)))
only_cells s a zero = record { no_enclave = refl; no_thread = refl; all_regions = refl; every_cell = refl }
only_cells s a (suc n) =
    let more : Only n 0 (records_of s (map (λ core. objects.Cell core) (range_with_len (a + 1) n))) = only_cells s (a + 1) n in
    record { no_enclave = more.no_enclave; no_thread = more.no_thread; all_regions = more.all_regions; every_cell = ap suc more.every_cell }

only_regions : (s : State) (rs : List ℕ) → Only 0 (length rs) (records_of s (map (λ r. objects.Region r) rs))
only_regions s [] = record { no_enclave = refl; no_thread = refl; all_regions = refl; every_cell = refl }
only_regions s (r ∷ rs) =
    let more : Only 0 (length rs) (records_of s (map (λ r. objects.Region r) rs)) = only_regions s rs in
    record { no_enclave = more.no_enclave; no_thread = more.no_thread; all_regions = ap suc more.all_regions; every_cell = more.every_cell }

free_fit : (s : State) (cores r : ℕ) (region : Region) → cores ≤ 16 → Fits (records_of s (free_tries cores r region))
free_fit s cores r regions.Free few = fit _ refl
free_fit s cores r (regions.Owned owner since) few = fit _ refl
free_fit s cores r (regions.Blocked owner since at) few =
    let all : Only cores 0 (records_of s (all_cells cores)) = only_cells s 0 cores in
    record { enclaves = omega arith; threads = omega arith; regions = omega arith; cells = omega arith }
free_fit s cores r (regions.Offered to at) few = fit _ refl

member_few : (set n : ℕ) (b : Bool) → length (cond b (n ∷ []) []) ≤ 1
member_few set n true = omega arith
member_few set n false = omega arith

members_few : (set n : ℕ) → length (members set n) ≤ n
unfolding members
members_few set zero = omega arith
members_few set (suc n) = omega (arith, length-append (members set n) (member set n), members_few set n, member_few set n (has_bit set n))

delete_fit : (s : State) (e set count : ℕ) → count ≤ 64 → Fits (records_of s (objects.Enclave e ∷ map (λ r. objects.Region r) (members set count)))
delete_fit s e set count few =
    let all : Only 0 (length (members set count)) (records_of s (map (λ r. objects.Region r) (members set count))) = only_regions s (members set count) in
    let most : length (members set count) ≤ count = members_few set count in
    record { enclaves = omega arith; threads = omega arith; regions = omega arith; cells = omega arith }

tries_fit : (s : State) (core : ℕ) (call : Call) → s.shape.cores ≤ 16 → s.shape.regions ≤ 64 → Fits (records_of s (held_tries s core call))
tries_fit s core (calls.Block r) few_cores few_regions = own_and_region_fit s (mode_of s core) r
tries_fit s core (calls.Free r) few_cores few_regions = free_fit s s.shape.cores r (region_at s r) few_cores
tries_fit s core (calls.Assign r to) few_cores few_regions = chosen_fit s (to == os_word) (objects.Region r ∷ []) (objects.Enclave to ∷ objects.Region r ∷ []) (fit _ refl) (fit _ refl)
tries_fit s core (calls.Delete e) few_cores few_regions = delete_fit s e (enclave_at s e).regions s.shape.regions few_regions
tries_fit s core (calls.Accept m from) few_cores few_regions = own_fit s (mode_of s core)
tries_fit s core (calls.Send to m w0 w1 w2 w3) few_cores few_regions =
    let own = own_slot (mode_of s core) in
    chosen_fit s (own == to) (objects.Enclave own ∷ []) (cond (nat_lt own to) (objects.Enclave own ∷ objects.Enclave to ∷ []) (objects.Enclave to ∷ objects.Enclave own ∷ [])) (fit _ refl)
    (chosen_fit s (nat_lt own to) (objects.Enclave own ∷ objects.Enclave to ∷ []) (objects.Enclave to ∷ objects.Enclave own ∷ []) (fit _ refl) (fit _ refl))
tries_fit s core (calls.Read m) few_cores few_regions = own_fit s (mode_of s core)
tries_fit s core (calls.AcceptRegion r) few_cores few_regions = own_and_region_fit s (mode_of s core) r
tries_fit s core _ few_cores few_regions = fit _ refl

pub leaves_room : (shape : Shape) (core : ℕ) (mode : Mode) (call : Call) (held : Held) → is_shape shape ≡ true → early shape mode call ≡ None → LeavesRoom shape core mode call held (planned shape core mode call held)
leaves_room shape core mode call held valid none s front rest there in_mode h =
    let early_in : early s.shape (mode_of s core) call ≡ None = ap (λ (m : Shape). early m (mode_of s core) call) there ∙ ap (λ (m : Mode). early shape m call) in_mode ∙ none in
    let all : held_tries s core call ≡ front ++ rest = sym (tries_held s core call early_in) ∙ h.plan in
    let cores : s.shape.cores ≤ 16 = rw there (few_cores shape valid) in
    let regions : s.shape.regions ≤ 64 = rw there (few_regions shape valid) in
    let fits : Fits (records_of s (front ++ rest)) = subst (λ (xs : List ObjectId). Fits (records_of s xs)) all (tries_fit s core call cores regions) in
    rw (is_next shape core mode call held none s front rest there in_mode h, h.records) (room_for s front rest fits)
