-- The tickets of regions after each call.
use Rattle.std.proofs.Common.{ℕ, ◌+◌, ◌<◌, ◌≤◌, Bool, true, false, cond, nat_eq, List, [], ◌∷◌, length, get_or, inl, inr, sym, subst, arith}
use Rattle.std.specs.Bool.{⊤}
use Rattle.std.specs.List.{All}
use Rattle.std.proofs.lemmas.List.{length-replicate, get_or_past, get_or-replicate}
use Rattle.std.proofs.lemmas.List.Elements.{All-set}
use Rattle.std.proofs.lemmas.Bool.Decides.{leb_tells}
use Rattle.mon_types.specs.Shape.{Shape}
use Rattle.mon_types.specs.declared.region.Owner.TheVariants as owners
use Rattle.mon_types.specs.declared.region.Region.{Region}
use Rattle.mon_types.specs.declared.region.Region.TheVariants as regions
use Rattle.mon_types.specs.declared.enclave.Enclave.{Enclave}
use Rattle.mon_types.specs.declared.enclave.Stage.{Stage}
use Rattle.mon_types.specs.declared.enclave.Stage.TheVariants as stages
use Rattle.mon_types.specs.declared.thread.Mode.{Mode}
use Rattle.mon_types.specs.declared.thread.Mode.TheVariants as modes
use Rattle.mon_types.specs.declared.call.Call.{Call}
use Rattle.mon_types.specs.declared.call.Call.TheVariants as calls
use Rattle.mon_model.specs.State.{State, start, region_at, enclave_at, mode_of, with_region, with_enclave}
use Rattle.mon_types.specs.Replies.{is_done}
use Rattle.mon_types.specs.Owns.{os_word}
use Rattle.mon_model.specs.RegionCalls.{blocked, assigned}
use Rattle.mon_model.specs.EnclaveCalls.{deleted}
use Rattle.mon_model.specs.Step.{effect, after, reply_of, without_own_region, with_deleted, regions_of}
use Rattle.mon_facts.specs.Tables.{IsDated, AreDated}

-- what all have, one at any place has, if what stands past the end has it
at_any : (P : Region → Type 0) (xs : List Region) (r : ℕ) → P regions.Free → All P xs → P (get_or xs r regions.Free)
at_any P xs r free h =
    elim (leb_tells (length xs) r) [
      | inl (t, past) ↦ subst P (sym (get_or_past xs r regions.Free past)) free
      | inr (f, lt) ↦ h r regions.Free lt
    ]

-- owned or offered up to ticket k, blocked up to the ticket after it
abbrev IsBefore : ℕ → Region → Type 0
IsBefore k regions.Free = ⊤
IsBefore k (regions.Owned owner since) = since ≤ k
IsBefore k (regions.Blocked owner since at) = (since < at) × (at ≤ k + 1)
IsBefore k (regions.Offered to at) = at ≤ k

before : (k : ℕ) (x : Region) → IsDated k x → IsBefore k x
before k regions.Free h = tt
before k (regions.Owned owner since) h = h
before k (regions.Blocked owner since at) h = (h.0, omega (arith, h.1))
before k (regions.Offered to at) h = h

dated : (k : ℕ) (x : Region) → IsBefore k x → IsDated (k + 1) x
dated k regions.Free h = tt
dated k (regions.Owned owner since) h = omega arith
dated k (regions.Blocked owner since at) h = h
dated k (regions.Offered to at) h = omega arith

blocked_dated : (k : ℕ) (x : Region) → IsBefore k x → IsDated (k + 1) (blocked x (k + 1))
blocked_dated k regions.Free h = tt
blocked_dated k (regions.Owned owner since) h = (omega arith, omega arith)
blocked_dated k (regions.Blocked owner since at) h = h
blocked_dated k (regions.Offered to at) h = (omega arith, omega arith)

deleted_before : (k : ℕ) (x : Region) → IsBefore k x → IsBefore k (deleted x (k + 1))
deleted_before k regions.Free h = tt
deleted_before k (regions.Owned owner since) h = (omega arith, omega arith)
deleted_before k (regions.Blocked owner since at) h = h
deleted_before k (regions.Offered to at) h = h

assigned_dated : (k : ℕ) (stage : Stage) (e : ℕ) → IsDated (k + 1) (assigned stage e (k + 1))
assigned_dated k stages.Empty e = omega arith
assigned_dated k stages.Loading e = omega arith
assigned_dated k stages.Initialized e = omega arith

-- ---- all regions

all_before : (k : ℕ) (xs : List Region) → All (IsDated k) xs → All (IsBefore k) xs
all_before k xs h = λ j d lt. before k _ (h j d lt)

all_dated : (k : ℕ) (xs : List Region) → All (IsBefore k) xs → All (IsDated (k + 1)) xs
all_dated k xs h = λ j d lt. dated k _ (h j d lt)

pub more_dated : (k : ℕ) (s : State) → AreDated k s → AreDated (k + 1) s
more_dated k s h = record { regions = all_dated k s.regions (all_before k s.regions h.regions) }

region_dated : (k : ℕ) (s : State) (r : ℕ) (x : Region) → IsDated (k + 1) x → AreDated (k + 1) s → AreDated (k + 1) (with_region s r x)
region_dated k s r x p h = record { regions = All-set (IsDated (k + 1)) s.regions r x p h.regions }

deleted_all_before : (k : ℕ) (s : State) (rs : List ℕ) → All (IsBefore k) s.regions → All (IsBefore k) (with_deleted s rs (k + 1)).regions
deleted_all_before k s [] h = h
deleted_all_before k s (r ∷ rs) h =
    deleted_all_before k (with_region s r (deleted (region_at s r) (k + 1))) rs (All-set (IsBefore k) s.regions r _ (deleted_before k (region_at s r) (at_any (IsBefore k) s.regions r tt h)) h)

own_dated : (k : ℕ) (s : State) (mode : Mode) (r : ℕ) → AreDated k s → AreDated k (without_own_region s mode r)
own_dated k s modes.Os r h = h
own_dated k s (modes.Inside e t) r h = record { regions = h.regions }

assign_dated : (k : ℕ) (b : Bool) (s : State) (r to : ℕ) (x y : Region) (z : Enclave) → IsDated (k + 1) x → IsDated (k + 1) y → AreDated (k + 1) s → AreDated (k + 1) (cond b (with_region s r x) (with_enclave (with_region s r y) to z))
assign_dated k true s r to x y z p q h = region_dated k s r x p h
assign_dated k false s r to x y z p q h = record { regions = (region_dated k s r y q h).regions }

effect_dated : (s : State) (core : ℕ) (call : Call) (digest : List ℕ) (k : ℕ) → AreDated k s → AreDated (k + 1) (effect s core call digest (k + 1))
effect_dated s core (calls.Block r) digest k h =
    region_dated k (without_own_region s (mode_of s core) r) r _ (blocked_dated k (region_at s r) (at_any (IsBefore k) s.regions r tt (all_before k s.regions h.regions))) (own_dated (k + 1) s (mode_of s core) r (more_dated k s h))
effect_dated s core (calls.Free r) digest k h = region_dated k s r regions.Free tt (more_dated k s h)
effect_dated s core (calls.Assign r to) digest k h =
    assign_dated k (nat_eq to os_word) s r to (regions.Owned owners.Os (k + 1)) _ _ (omega arith) (assigned_dated k (enclave_at s to).stage to) (more_dated k s h)
effect_dated s core (calls.Delete e) digest k h =
    record { regions = all_dated k _ (deleted_all_before k s (regions_of s e) (all_before k s.regions h.regions)) }
effect_dated s core (calls.AcceptRegion r) digest k h =
    record { regions = (region_dated k s r _ (omega arith) (more_dated k s h)).regions }
effect_dated s core _ digest k h = record { regions = (more_dated k s h).regions }

pub after_dated : (s : State) (core : ℕ) (call : Call) (digest : List ℕ) (k : ℕ) → AreDated k s → AreDated (k + 1) (after s core call digest (k + 1))
after_dated s core call digest k h = by (is_done (reply_of s core call))
  where
    by : (b : Bool) → AreDated (k + 1) (cond b (effect s core call digest (k + 1)) s)
    by true = effect_dated s core call digest k h
    by false = more_dated k s h

pub start_dated : (shape : Shape) → AreDated 0 (start shape)
start_dated shape = record {
  regions = λ j d lt. subst (IsDated 0) (sym (get_or-replicate shape.regions j (regions.Owned owners.Os 0) d (omega (arith, length-replicate shape.regions (regions.Owned owners.Os 0))))) (omega arith);
}
