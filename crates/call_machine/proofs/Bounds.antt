-- How many objects and words a call tries and reads, and how many moves it makes.
use Rattle.std.proofs.Common.{◌≡◌, ◌+◌, ◌*◌, ◌≤◌, ℕ, zero, suc, Bool, true, false, cond, eqb, Option, Some, None, List, [], ◌∷◌, ◌++◌, length, map, refl, arith, length-append}
use Rattle.std.proofs.lemmas.List.{length-map}
use Rattle.std.specs.Prelude.{nat_lt}
use Rattle.std.specs.List.{range_with_len}
use Rattle.mon_types.specs.Shape.{Shape, is_shape}
use Rattle.mon_types.specs.LimitLaws.{few_cores, few_regions}
use Rattle.mon_types.specs.Objects.{width}
use Rattle.mon_types.specs.Owns.{os_word}
use Rattle.mon_types.specs.Modes.{own_slot}
use Rattle.mon_types.specs.Bits.{has_bit, member, members}
use Rattle.mon_types.specs.declared.region.Region.{Region}
use Rattle.mon_types.specs.declared.region.Region.TheVariants as regions
use Rattle.mon_types.specs.declared.thread.Mode.{Mode}
use Rattle.mon_types.specs.declared.thread.Mode.TheVariants as modes
use Rattle.mon_types.specs.declared.call.Call.{Call}
use Rattle.mon_types.specs.declared.call.Call.TheVariants as calls
use Rattle.mon_types.specs.declared.reply.Reply.{Reply}
use Rattle.mon_types.specs.declared.object.ObjectId.{ObjectId}
use Rattle.mon_types.specs.declared.object.ObjectId.TheVariants as objects
use Rattle.mon_model.specs.State.{State, region_at, enclave_at, mode_of}
use Rattle.mon_model.specs.Early.{early}
use Rattle.mon_model.specs.Tries.{plan, free_tries, own_enclave, freed_by, deleted_by, held_tries, unless_refused, tries}
use Rattle.call_machine.specs.Found.{widths}
use Rattle.call_machine.specs.Count.{most_moves, most_locks, most_words, most_decided}

-- these are no more objects, with no more words, than the call may try
pub record AreFew (call : Call) (os : List ObjectId) : Type 0 where
  pub locks : length os ≤ most_locks call
  pub words : widths os ≤ most_words call

pub widths_append : (xs ys : List ObjectId) → widths (xs ++ ys) ≡ widths xs + widths ys
unfolding widths
widths_append [] ys = omega arith
widths_append (x ∷ xs) ys = omega (arith, widths_append xs ys)

few_if : (call : Call) (b : Bool) (xs ys : List ObjectId) → AreFew call xs → AreFew call ys → AreFew call (cond b xs ys)
few_if call true xs ys h k = h
few_if call false xs ys h k = k

cells_many : (a n : ℕ) → length (map (λ core. objects.Cell core) (range_with_len a n)) ≡ n
cells_many a zero = refl
cells_many a (suc n) = omega (arith, cells_many (a + 1) n)

cells_wide : (a n : ℕ) → widths (map (λ core. objects.Cell core) (range_with_len a n)) ≡ n
unfolding widths width
cells_wide a zero = refl
cells_wide a (suc n) = omega (arith, cells_wide (a + 1) n)

regions_wide : (rs : List ℕ) → widths (map (λ r. objects.Region r) rs) ≡ 2 * length rs
unfolding widths width
regions_wide [] = refl
regions_wide (r ∷ rs) = omega (arith, regions_wide rs)

members_few : (set n : ℕ) → length (members set n) ≤ n
unfolding members
members_few set zero = omega arith
members_few set (suc n) = omega (arith, length-append (members set n) (member set n), members_few set n, one (has_bit set n))
  where
    one : (b : Bool) → length (cond b (n ∷ []) []) ≤ 1
    one true = omega arith
    one false = omega arith

own_few : (call : Call) (mode : Mode) (r : ℕ) → most_locks call ≡ 2 → most_words call ≡ 66 → AreFew call (own_enclave mode ++ objects.Region r ∷ [])
unfolding widths width
own_few call modes.Os r e f = record { locks = omega (arith, e); words = omega (arith, f) }
own_few call (modes.Inside o t) r e f = record { locks = omega (arith, e); words = omega (arith, f) }

slot_few : (call : Call) (mode : Mode) → most_locks call ≡ 2 → most_words call ≡ 66 → AreFew call (own_enclave mode)
unfolding widths width
slot_few call modes.Os e f = record { locks = omega (arith, e); words = omega (arith, f) }
slot_few call (modes.Inside o t) e f = record { locks = omega (arith, e); words = omega (arith, f) }

free_few : (m : Shape) (r : ℕ) (x : Region) → m.cores ≤ 16 → AreFew (calls.Free r) (free_tries m.cores r x)
unfolding widths width
free_few m r regions.Free h = record { locks = omega arith; words = omega arith }
free_few m r (regions.Owned owner since) h = record { locks = omega arith; words = omega arith }
free_few m r (regions.Blocked owner since at) h = record { locks = omega (arith, h, cells_many 0 m.cores); words = omega (arith, h, cells_wide 0 m.cores) }
free_few m r (regions.Offered to at) h = record { locks = omega arith; words = omega arith }

plan_few : (m : Shape) (core : ℕ) (mode : Mode) (call : Call) (x : Region) (set : ℕ) → is_shape m ≡ true → AreFew call (plan m core mode call x set)
unfolding widths width
plan_few m core mode (calls.Block r) x set h = own_few (calls.Block r) mode r refl refl
plan_few m core mode (calls.AcceptRegion r) x set h = own_few (calls.AcceptRegion r) mode r refl refl
plan_few m core mode (calls.Free r) x set h = free_few m r x (few_cores m h)
plan_few m core mode (calls.Assign r to) x set h =
    few_if (calls.Assign r to) (eqb to os_word) _ _ (record { locks = omega arith; words = omega arith }) (record { locks = omega arith; words = omega arith })
plan_few m core mode (calls.Delete e) x set h = record {
  locks = omega (arith, few_regions m h, members_few set m.regions, length-map (members set m.regions) (λ r. objects.Region r));
  words = omega (arith, few_regions m h, members_few set m.regions, regions_wide (members set m.regions));
}
plan_few m core mode (calls.Send to b w0 w1 w2 w3) x set h =
    let call = calls.Send to b w0 w1 w2 w3 in
    few_if call (eqb (own_slot mode) to) _ _ (record { locks = omega arith; words = omega arith })
    (few_if call (nat_lt (own_slot mode) to) _ _ (record { locks = omega arith; words = omega arith }) (record { locks = omega arith; words = omega arith }))
plan_few m core mode (calls.Accept b from) x set h = slot_few (calls.Accept b from) mode refl refl
plan_few m core mode (calls.Read b) x set h = slot_few (calls.Read b) mode refl refl
plan_few m core mode _ x set h = record { locks = omega arith; words = omega arith }

none_few : (call : Call) → AreFew call []
unfolding widths
none_few call = record { locks = omega arith; words = omega arith }

-- what a call tries
pub tries_few : (s : State) (core : ℕ) (call : Call) → is_shape s.shape ≡ true → AreFew call (tries s core call)
tries_few s core call h = unless (early s.shape (mode_of s core) call)
  where
    unless : (o : Option Reply) → AreFew call (unless_refused o (held_tries s core call))
    unless None = plan_few s.shape core (mode_of s core) call (region_at s (freed_by call)) (enclave_at s (deleted_by call)).regions h
    unless (Some refusal) = none_few call

-- and all its moves
pub most_total : (m : Shape) (call : Call) → most_locks call + most_words call + most_decided m call ≤ most_moves m call
most_total m (calls.Free r) = omega arith
most_total m _ = omega arith

-- which are few of all calls
pub room_for_words : (call : Call) → most_words call ≤ 157
room_for_words (calls.Free r) = omega arith
room_for_words (calls.Delete e) = omega arith
room_for_words _ = omega arith

pub room_for_locks : (call : Call) → most_locks call ≤ 65
room_for_locks (calls.Free r) = omega arith
room_for_locks (calls.Delete e) = omega arith
room_for_locks _ = omega arith
