-- What stands at a place of a plan.
use Rattle.std.proofs.Common.{◌≡◌, ℕ, zero, suc, ◌+◌, ◌-◌, ◌<◌, ◌≤◌, Bool, true, false, cond, List, [], ◌∷◌, ◌++◌, map, length, Some, None, slice_get, refl, sym, ap, ◌∙◌, arith, add-one, add-zero, append_assoc, length-append}
use Rattle.std.specs.Option.{option_map}
use Rattle.std.specs.List.{range_with_len}
use Rattle.std.proofs.lemmas.Option.{slice_get-map, slice_get-get_or, slice_get_past}
use Rattle.std.proofs.lemmas.List.{append-nil}
use Rattle.std.proofs.lemmas.List.FromFn.{length-range_with_len, get_or-range_with_len}
use Rattle.mon_types.specs.declared.object.ObjectId.TheVariants as objects
use Rattle.mon_types.specs.Bits.{has_bit, member, members}
use Rattle.mon_model.specs.Tries.{all_cells}
use Rattle.lock_plan.specs.EveryPlan.{slice_get_seam}

-- ---- cells

pub cell_here : (count n : ℕ) → n < count → slice_get (all_cells count) n ≡ Some (objects.Cell n)
cell_here count n lt =
    let long : n < length (range_with_len 0 count) = omega (arith, length-range_with_len 0 count) in
    let at : slice_get (range_with_len 0 count) n ≡ Some n = slice_get-get_or (range_with_len 0 count) n 0 long ∙ ap Some (get_or-range_with_len 0 count n 0 lt ∙ omega arith) in
    slice_get-map (λ core. objects.Cell core) (range_with_len 0 count) n ∙ ap (option_map (λ core. objects.Cell core)) at

pub cell_past : (count n : ℕ) → count ≤ n → slice_get (all_cells count) n ≡ None
cell_past count n le =
    slice_get-map (λ core. objects.Cell core) (range_with_len 0 count) n ∙ ap (option_map (λ core. objects.Cell core)) (slice_get_past (range_with_len 0 count) n (omega (arith, length-range_with_len 0 count)))

-- ---- regions

-- the members below a larger number begin with those below a smaller one
members_begin : (set a b : ℕ) → (tail : List ℕ) × (members set (a + b) ≡ members set a ++ tail)
unfolding members
members_begin set a zero = ([], ap (members set) (add-zero a) ∙ sym (append-nil (members set a)))
members_begin set a (suc b) =
    let before : (tail : List ℕ) × (members set (a + b) ≡ members set a ++ tail) = members_begin set a b in (
      before.0 ++ member set (a + b),
      ap (members set) {x = a + suc b} {y = suc (a + b)} (omega arith)
          ∙ ap (λ (xs : List ℕ). xs ++ member set (a + b)) before.1
          ∙ append_assoc (members set a) before.0 (member set (a + b)),
    )

-- one more number, which is in the set or not
members_with : (set r : ℕ) → has_bit set r ≡ true → members set (r + 1) ≡ members set r ++ r ∷ []
unfolding members
members_with set r h = ap (members set) (add-one r) ∙ ap (λ (b : Bool). members set r ++ cond b (r ∷ []) []) h

members_without : (set r : ℕ) → has_bit set r ≡ false → members set (r + 1) ≡ members set r
unfolding members
members_without set r h = ap (members set) (add-one r) ∙ ap (λ (b : Bool). members set r ++ cond b (r ∷ []) []) h ∙ append-nil (members set r)

pub none_below : (set : ℕ) → length (members set 0) ≡ 0
unfolding members
none_below set = refl

pub one_more : (set r : ℕ) → has_bit set r ≡ true → length (members set (r + 1)) ≡ length (members set r) + 1
one_more set r h = ap length (members_with set r h) ∙ length-append (members set r) (r ∷ [])

pub no_more : (set r : ℕ) → has_bit set r ≡ false → length (members set (r + 1)) ≡ length (members set r)
no_more set r h = ap length (members_without set r h)

-- a member stands after as many as are below it
member_at : (set count r : ℕ) → r < count → has_bit set r ≡ true → slice_get (members set count) (length (members set r)) ≡ Some r
member_at set count r lt h =
    let more : (tail : List ℕ) × (members set (r + 1 + (count - (r + 1))) ≡ members set (r + 1) ++ tail) = members_begin set (r + 1) (count - (r + 1)) in
    let all : members set count ≡ members set r ++ (r ∷ more.0) =
    ap (members set) {x = count} {y = r + 1 + (count - (r + 1))} (omega arith) ∙ more.1 ∙ ap (λ (xs : List ℕ). xs ++ more.0) (members_with set r h) ∙ append_assoc (members set r) (r ∷ []) more.0 in
    ap (λ (xs : List ℕ). slice_get xs (length (members set r))) all ∙ slice_get_seam (members set r) (r ∷ more.0)

pub region_here : (set count r n : ℕ) → r < count → has_bit set r ≡ true → length (members set r) ≡ n → slice_get (map (λ r. objects.Region r) (members set count)) n ≡ Some (objects.Region r)
region_here set count r n lt h before =
    slice_get-map (λ r. objects.Region r) (members set count) n
    ∙ ap (λ (k : ℕ). option_map (λ r. objects.Region r) (slice_get (members set count) k)) (sym before)
    ∙ ap (option_map (λ r. objects.Region r)) (member_at set count r lt h)

pub region_past : (set count r n : ℕ) → r ≡ count → length (members set r) ≤ n → slice_get (map (λ r. objects.Region r) (members set count)) n ≡ None
region_past set count r n end le =
    let all : length (members set count) ≡ length (members set r) = ap (λ (k : ℕ). length (members set k)) (sym end) in
    slice_get-map (λ r. objects.Region r) (members set count) n ∙ ap (option_map (λ r. objects.Region r)) (slice_get_past (members set count) n (omega arith))
