-- What a call tries are objects of the machine, in order.
use Rattle.std.proofs.Common.{◌≡◌, ℕ, zero, suc, ◌+◌, ◌<◌, ◌≤◌, Bool, true, false, cond, ◌==◌, ◌&&◌, not, nat_lt, List, [], ◌∷◌, ◌++◌, map, Option, Some, None, IfSome, slice_get, refl, sym, ◌∙◌, subst, arith}
use Rattle.std.specs.Prelude.{All}
use Rattle.std.specs.List.{AllPairs, range_with_len}
use Rattle.std.proofs.Math.Nat.{mod-lt}
use Rattle.std.proofs.lemmas.List.{map-append}
use Rattle.std.proofs.lemmas.Bool.{or_parts, leb-false, ltb-true, ltb-false, eqb-false}
use Rattle.std.proofs.lemmas.Bool.Decides.{nat_tests}
use Rattle.std.proofs.lemmas.List.Elements.{All-nil, All-cons}
use Rattle.std.proofs.lemmas.List.Kept.{AllPairs-cons}
use Rattle.mon_types.specs.Shape.{Shape, is_shape, region_of_page}
use Rattle.mon_types.specs.Objects.{object_number}
use Rattle.mon_types.specs.declared.region.Region.{Region}
use Rattle.mon_types.specs.declared.region.Region.TheVariants as regions
use Rattle.mon_types.specs.declared.thread.Mode.{Mode}
use Rattle.mon_types.specs.declared.thread.Mode.TheVariants as modes
use Rattle.mon_types.specs.declared.call.Call.{Call}
use Rattle.mon_types.specs.declared.call.Call.TheVariants as calls
use Rattle.mon_types.specs.declared.reply.Reply.{Reply}
use Rattle.mon_types.specs.declared.object.ObjectId.{ObjectId}
use Rattle.mon_types.specs.declared.object.ObjectId.TheVariants as objects
use Rattle.mon_model.specs.State.{State, mode_of}
use Rattle.mon_types.specs.Bits.{has_bit, member, members}
use Rattle.mon_types.specs.Owns.{os_word}
use Rattle.mon_model.specs.Early.{is_no_slot, is_unsupported, is_wrong_mode, is_bad_value, early}
use Rattle.mon_types.specs.Modes.{own_slot, own_thread}
use Rattle.mon_model.specs.Tries.{own_enclave, free_tries, all_cells, held_tries, unless_refused, tries}
use Rattle.lock_plan.specs.declared.held.Held.{Held}
use Rattle.lock_plan.specs.Plan.{first_region, first_enclave, plan_of}
use Rattle.lock_plan.specs.Records.{nothing_held, and_records}
use Rattle.lock_plan.specs.Laws.{TriesAscend}
use Rattle.lock_plan.specs.EveryPlan.{settled}
use Rattle.lock_plan.specs.Objects.{HasObject, IsCaller, IsBefore, AreInOrder}
use Rattle.mon_types.specs.LimitLaws.{few_cores, few_regions}

-- objects of the machine, with rising numbers, from lo on and below hi
abbrev pub Rises : Shape → ℕ → ℕ → List ObjectId → Type 0
Rises m lo hi [] = lo ≤ hi
Rises m lo hi (x ∷ xs) = HasObject m x × (lo ≤ object_number x) × Rises m (object_number x + 1) hi xs

rises_from : (m : Shape) (lo lo' hi : ℕ) (xs : List ObjectId) → lo' ≤ lo → Rises m lo hi xs → Rises m lo' hi xs
rises_from m lo lo' hi [] le h = omega arith
rises_from m lo lo' hi (x ∷ xs) le h = (h.0, omega (arith, h.1), h.2)

rises_to : (m : Shape) (lo hi hi' : ℕ) (xs : List ObjectId) → hi ≤ hi' → Rises m lo hi xs → Rises m lo hi' xs
rises_to m lo hi hi' [] le h = omega arith
rises_to m lo hi hi' (x ∷ xs) le h = (h.0, h.1, rises_to m (object_number x + 1) hi hi' xs le h.2)

rises_append : (m : Shape) (lo mid hi : ℕ) (xs ys : List ObjectId) → Rises m lo mid xs → Rises m mid hi ys → Rises m lo hi (xs ++ ys)
rises_append m lo mid hi [] ys h k = rises_from m mid lo hi ys h k
rises_append m lo mid hi (x ∷ xs) ys h k = (h.0, h.1, rises_append m (object_number x + 1) mid hi xs ys h.2 k)

-- ---- what rises is in order

all_there : (m : Shape) (lo hi : ℕ) (xs : List ObjectId) → Rises m lo hi xs → All (HasObject m) xs
all_there m lo hi [] h = All-nil (HasObject m)
all_there m lo hi (x ∷ xs) h = All-cons (HasObject m) x xs h.0 (all_there m (object_number x + 1) hi xs h.2)

all_above : (m : Shape) (x : ObjectId) (lo hi : ℕ) (xs : List ObjectId) → object_number x < lo → Rises m lo hi xs → All (IsBefore x) xs
all_above m x lo hi [] lt h = All-nil (IsBefore x)
all_above m x lo hi (y ∷ ys) lt h = All-cons (IsBefore x) y ys (omega (arith, h.1)) (all_above m x (object_number y + 1) hi ys (omega (arith, h.1)) h.2)

ascending : (m : Shape) (lo hi : ℕ) (xs : List ObjectId) → Rises m lo hi xs → AllPairs IsBefore xs
ascending m lo hi [] h = λ i j d lt within. absurd (omega arith)
ascending m lo hi (x ∷ xs) h = AllPairs-cons IsBefore x xs (all_above m x (object_number x + 1) hi xs (omega arith) h.2) (ascending m (object_number x + 1) hi xs h.2)

pub in_order : (m : Shape) (lo hi : ℕ) (xs : List ObjectId) → Rises m lo hi xs → AreInOrder m xs
in_order m lo hi xs h = record { there = all_there m lo hi xs h; ascending = ascending m lo hi xs h }

pub has_nth : (m : Shape) (lo hi : ℕ) (xs : List ObjectId) (n : ℕ) → Rises m lo hi xs → IfSome (slice_get xs n) (HasObject m)
has_nth m lo hi [] n h = tt
has_nth m lo hi (x ∷ xs) zero h = h.0
has_nth m lo hi (x ∷ xs) (suc n) h = has_nth m (object_number x + 1) hi xs n h.2

-- ---- the plans

of_slot : (m : Shape) (e : ℕ) → e < 8 → Rises m 0 144 (objects.Enclave e ∷ [])
of_slot m e small = (small, omega arith, omega arith)

of_slots : (m : Shape) (e d : ℕ) → e < d → d < 8 → Rises m 0 144 (objects.Enclave e ∷ objects.Enclave d ∷ [])
of_slots m e d lt small = (omega arith, omega arith, (small, omega arith, omega arith))

of_thread : (m : Shape) (t : ℕ) → t < 16 → Rises m 0 144 (objects.Thread t ∷ [])
of_thread m t small = (small, omega arith, omega arith)

of_slot_and_thread : (m : Shape) (e t : ℕ) → e < 8 → t < 16 → Rises m 0 144 (objects.Enclave e ∷ objects.Thread t ∷ [])
of_slot_and_thread m e t slot thread = (slot, omega arith, (thread, omega arith, omega arith))

of_region : (m : Shape) (r : ℕ) → m.regions ≤ 64 → r < m.regions → Rises m 0 144 (objects.Region r ∷ [])
of_region m r few there = (there, omega arith, omega arith)

of_slot_and_region : (m : Shape) (e r : ℕ) → m.regions ≤ 64 → e < 8 → r < m.regions → Rises m 0 144 (objects.Enclave e ∷ objects.Region r ∷ [])
of_slot_and_region m e r few slot there = (slot, omega arith, (there, omega arith, omega arith))

of_own : (m : Shape) (mode : Mode) → own_slot mode < 8 → Rises m 0 144 (own_enclave mode)
of_own m modes.Os small = omega arith
of_own m (modes.Inside e t) small = of_slot m e small

of_own_and_region : (m : Shape) (mode : Mode) (r : ℕ) → m.regions ≤ 64 → own_slot mode < 8 → r < m.regions → Rises m 0 144 (own_enclave mode ++ objects.Region r ∷ [])
of_own_and_region m modes.Os r few small there = of_region m r few there
of_own_and_region m (modes.Inside e t) r few small there = of_slot_and_region m e r few small there

of_assign : (m : Shape) (r to : ℕ) (b : Bool) → m.regions ≤ 64 → r < m.regions → (b ≡ false → to < 8) → Rises m 0 144 (cond b (objects.Region r ∷ []) (objects.Enclave to ∷ objects.Region r ∷ []))
of_assign m r to true few there slot = of_region m r few there
of_assign m r to false few there slot = of_slot_and_region m to r few (slot refl) there

of_send : (m : Shape) (own to : ℕ) (b d : Bool) → own < 8 → to < 8 → (b ≡ false → own ≡ to → ⊥) → (d ≡ true → own < to) → (d ≡ false → to ≤ own)
    → Rises m 0 144 (cond b (objects.Enclave own ∷ []) (cond d (objects.Enclave own ∷ objects.Enclave to ∷ []) (objects.Enclave to ∷ objects.Enclave own ∷ [])))
of_send m own to true d small there differ lower upper = of_slot m own small
of_send m own to false true small there differ lower upper = of_slots m own to (lower refl) there
of_send m own to false false small there differ lower upper = of_slots m to own (omega (arith, differ refl, upper refl)) small

cells_rise : (m : Shape) (a n : ℕ) → a + n ≤ m.cores → m.cores ≤ 16 → Rises m (128 + a) 144 (map (λ core. objects.Cell core) (range_with_len a n))
cells_rise m a zero within few = omega arith
cells_rise m a (suc n) within few = (omega arith, omega arith, subst (λ (k : ℕ). Rises m k 144 (map (λ core. objects.Cell core) (range_with_len (a + 1) n))) {x = 128 + (a + 1)} {y = 128 + a + 1} (omega arith) (cells_rise m (a + 1) n (omega arith) few))

of_free : (m : Shape) (r : ℕ) (region : Region) → m.cores ≤ 16 → m.regions ≤ 64 → r < m.regions → Rises m 0 144 (free_tries m.cores r region)
of_free m r regions.Free few_c few there = of_region m r few there
of_free m r (regions.Owned owner since) few_c few there = of_region m r few there
of_free m r (regions.Blocked owner since at) few_c few there = (there, omega arith, rises_from m 128 (64 + r + 1) 144 (all_cells m.cores) (omega arith) (cells_rise m 0 m.cores (omega arith) few_c))
of_free m r (regions.Offered to at) few_c few there = of_region m r few there

member_rises : (m : Shape) (n : ℕ) (b : Bool) → n < m.regions → Rises m (64 + n) (64 + n + 1) (map (λ r. objects.Region r) (cond b (n ∷ []) []))
member_rises m n true there = (there, omega arith, omega arith)
member_rises m n false there = omega arith

members_rise : (m : Shape) (set n : ℕ) → n ≤ m.regions → Rises m 64 (64 + n) (map (λ r. objects.Region r) (members set n))
unfolding members
members_rise m set zero within = omega arith
members_rise m set (suc n) within =
    let both : map (λ r. objects.Region r) (members set n ++ member set n) ≡ map (λ r. objects.Region r) (members set n) ++ map (λ r. objects.Region r) (member set n) = map-append (λ r. objects.Region r) (members set n) (member set n) in
    let last : Rises m (64 + n) (64 + suc n) (map (λ r. objects.Region r) (member set n)) = subst (λ (hi : ℕ). Rises m (64 + n) hi (map (λ r. objects.Region r) (member set n))) {x = 64 + n + 1} {y = 64 + suc n} (omega arith) (member_rises m n (has_bit set n) (omega arith)) in
    subst (λ (xs : List ObjectId). Rises m 64 (64 + suc n) xs) (sym both)
    (rises_append m 64 (64 + n) (64 + suc n) (map (λ r. objects.Region r) (members set n)) (map (λ r. objects.Region r) (member set n)) (members_rise m set n (omega arith)) last)

of_delete : (m : Shape) (e set : ℕ) → m.regions ≤ 64 → e < 8 → Rises m 0 144 (objects.Enclave e ∷ map (λ r. objects.Region r) (members set m.regions))
of_delete m e set few small =
    let regions : List ObjectId = map (λ r. objects.Region r) (members set m.regions) in
    let rise : Rises m 64 (64 + m.regions) regions = members_rise m set m.regions (omega arith) in
    (small, omega arith, rises_from m 64 (e + 1) 144 regions (omega arith) (rises_to m 64 (64 + m.regions) 144 regions (omega arith) rise))

-- ---- calls that are not refused early

slot_unless_os : (no_slot os : Bool) (to : ℕ) → (no_slot && not os) ≡ false → (no_slot ≡ false → to < 8) → os ≡ false → to < 8
slot_unless_os false os to h slot other = slot refl
slot_unless_os true false to h slot other = absurd (cc)
slot_unless_os true true to h slot other = absurd (cc)

some_region : (m : Shape) → is_shape m ≡ true → 0 < m.regions
some_region m valid = grind (arith, nat_tests)

not_refused : (a b c : Bool) (x y z : Reply) → cond a (Some x) (cond b (Some y) (cond c (Some z) None)) ≡ None → c ≡ false
not_refused true b c x y z e = absurd (cc)
not_refused false true c x y z e = absurd (cc)
not_refused false false true x y z e = absurd (cc)
not_refused false false false x y z e = refl

-- what the plan of such a call tries
pub plan_rises : (m : Shape) (core : ℕ) (mode : Mode) (call : Call) (held : Held) → is_shape m ≡ true → IsCaller m core mode → is_bad_value m call ≡ false → Rises m 0 144 (plan_of m core mode call held)
plan_rises m core mode (calls.Block r) held valid caller fine = of_own_and_region m mode r (few_regions m valid) caller.slot (leb-false _ _ (or_parts _ _ fine).1)
plan_rises m core mode (calls.Free r) held valid caller fine = of_free m r (first_region held) (few_cores m valid) (few_regions m valid) (leb-false _ _ (or_parts _ _ fine).1)
plan_rises m core mode (calls.Assign r to) held valid caller fine =
    of_assign m r to (to == os_word) (few_regions m valid) (leb-false _ _ (or_parts _ _ (or_parts _ _ fine).0).1) (slot_unless_os (is_no_slot to) (to == os_word) to (or_parts _ _ fine).1 (leb-false 8 to))
plan_rises m core mode calls.Flush held valid caller fine = (caller.there, omega arith, omega (arith, few_cores m valid, caller.there))
plan_rises m core mode (calls.RegionInfo r) held valid caller fine = of_region m r (few_regions m valid) (leb-false _ _ fine)
plan_rises m core mode (calls.Create e base size) held valid caller fine = of_slot m e (leb-false _ _ (or_parts _ _ fine).0)
plan_rises m core mode (calls.LoadTable e va level page) held valid caller fine = of_slot m e (leb-false _ _ (or_parts _ _ (or_parts _ _ (or_parts _ _ fine).0).0).0)
plan_rises m core mode (calls.LoadPage e va page src perms) held valid caller fine =
    of_slot_and_region m e (region_of_page m src) (few_regions m valid) (leb-false _ _ (or_parts _ _ (or_parts _ _ (or_parts _ _ (or_parts _ _ fine).0).0).0).0) (mod-lt _ (some_region m valid))
plan_rises m core mode (calls.LoadThread e t entry sp) held valid caller fine = of_slot_and_thread m e t (leb-false _ _ (or_parts _ _ (or_parts _ _ fine).0).0) (leb-false _ _ (or_parts _ _ (or_parts _ _ fine).0).1)
plan_rises m core mode (calls.Init e) held valid caller fine = of_slot m e (leb-false _ _ fine)
plan_rises m core mode (calls.DeleteThread e t) held valid caller fine = of_slot_and_thread m e t (leb-false _ _ (or_parts _ _ fine).0) (leb-false _ _ (or_parts _ _ fine).1)
plan_rises m core mode (calls.Delete e) held valid caller fine = of_delete m e (first_enclave held).regions (few_regions m valid) (leb-false _ _ fine)
plan_rises m core mode (calls.Enter e t) held valid caller fine = of_slot_and_thread m e t (leb-false _ _ (or_parts _ _ fine).0) (leb-false _ _ (or_parts _ _ fine).1)
plan_rises m core mode calls.Exit held valid caller fine = of_thread m (own_thread mode) caller.thread
plan_rises m core mode (calls.Aex saved) held valid caller fine = of_thread m (own_thread mode) caller.thread
plan_rises m core mode calls.Restore held valid caller fine = of_thread m (own_thread mode) caller.thread
plan_rises m core mode (calls.Accept b from) held valid caller fine = of_own m mode caller.slot
plan_rises m core mode (calls.Send to b w0 w1 w2 w3) held valid caller fine =
    of_send m (own_slot mode) to (own_slot mode == to) (nat_lt (own_slot mode) to) caller.slot (leb-false _ _ (or_parts _ _ fine).0) (eqb-false (own_slot mode) to) (ltb-true (own_slot mode) to) (ltb-false (own_slot mode) to)
plan_rises m core mode (calls.Read b) held valid caller fine = of_own m mode caller.slot
plan_rises m core mode (calls.EnclaveInfo e) held valid caller fine = of_slot m e (leb-false _ _ fine)
plan_rises m core mode (calls.SetSatp v) held valid caller fine = omega arith
plan_rises m core mode (calls.AcceptRegion r) held valid caller fine = of_own_and_region m mode r (few_regions m valid) caller.slot (leb-false _ _ (or_parts _ _ fine).1)
plan_rises m core mode (calls.Reserve e va page perms) held valid caller fine = of_slot m e (leb-false _ _ (or_parts _ _ (or_parts _ _ (or_parts _ _ fine).0).0).0)
plan_rises m core mode (calls.Unknown number args) held valid caller fine = omega arith

pub planned_there : (m : Shape) (core : ℕ) (mode : Mode) (call : Call) (held : Held) (n : ℕ) → is_shape m ≡ true → early m mode call ≡ None → IsCaller m core mode → IfSome (slice_get (plan_of m core mode call held) n) (HasObject m)
planned_there m core mode call held n valid none caller =
    has_nth m 0 144 (plan_of m core mode call held) n (plan_rises m core mode call held valid caller (not_refused (is_unsupported call) (is_wrong_mode mode call) (is_bad_value m call) _ _ _ none))

-- ---- what a call tries in a state

tries_rise : (s : State) (core : ℕ) (call : Call) (tried : List ObjectId) → is_shape s.shape ≡ true → IsCaller s.shape core (mode_of s core) → is_bad_value s.shape call ≡ false → held_tries s core call ≡ tried → Rises s.shape 0 144 tried
tries_rise s core call [] valid caller fine e = omega arith
tries_rise s core call (x ∷ rest) valid caller fine e =
    subst (λ (xs : List ObjectId). Rises s.shape 0 144 xs) (settled s core call x rest nothing_held e ∙ e) (plan_rises s.shape core (mode_of s core) call (and_records s x nothing_held) valid caller fine)

unless_rises : (m : Shape) (o : Option Reply) (tried : List ObjectId) → (o ≡ None → Rises m 0 144 tried) → Rises m 0 144 (unless_refused o tried)
unless_rises m None tried h = h refl
unless_rises m (Some refusal) tried h = omega arith

pub every_rises : (s : State) (core : ℕ) (call : Call) → is_shape s.shape ≡ true → IsCaller s.shape core (mode_of s core) → Rises s.shape 0 144 (tries s core call)
every_rises s core call valid caller =
    unless_rises s.shape (early s.shape (mode_of s core) call) (held_tries s core call)
    (λ none. tries_rise s core call (held_tries s core call) valid caller (not_refused (is_unsupported call) (is_wrong_mode (mode_of s core) call) (is_bad_value s.shape call) _ _ _ none) refl)

pub tries_ascend : TriesAscend
tries_ascend s core call valid caller = in_order s.shape 0 144 (tries s core call) (every_rises s core call valid caller)
