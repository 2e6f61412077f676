-- What a call that answers Ok does to one region: the six cases of `RegionStep`, once over all calls.
use Rattle.std.proofs.Common.{◌≡◌, ℕ, zero, suc, ◌<◌, ◌≤◌, Bool, true, false, ◌==◌, ◌&&◌, nat_le, if◌then◌else◌, List, [], ◌∷◌, ◌++◌, length, get_or, Option, Some, None, refl, sym, ap, subst, ◌∙◌, ◌+◌, ◌^◌, inl, inr, arith}
use Rattle.std.proofs.Math.ListN.{set}
use Rattle.std.specs.List.{list_all}
use Rattle.std.proofs.lemmas.List.{length-set}
use Rattle.std.proofs.lemmas.Bool.{cases_eq, eq-eqb, eqb-true, ne_eqb}
use Rattle.mon_types.proofs.Below.{by_eight}
use Rattle.mon_types.specs.declared.region.Owner.{Owner}
use Rattle.mon_types.specs.declared.region.Owner.TheVariants as owners
use Rattle.mon_types.specs.declared.region.Region.{Region}
use Rattle.mon_types.specs.declared.region.Region.TheVariants as regions
use Rattle.mon_types.specs.declared.enclave.Enclave.{Enclave}
use Rattle.mon_types.specs.declared.enclave.Stage.{Stage}
use Rattle.mon_types.specs.declared.enclave.Stage.TheVariants as stages
use Rattle.mon_types.specs.declared.thread.Mode.{Mode}
use Rattle.mon_types.specs.declared.thread.Mode.TheVariants as modes
use Rattle.mon_types.specs.declared.call.Call.{Call}
use Rattle.mon_types.specs.declared.call.Call.TheVariants as calls
use Rattle.mon_types.specs.declared.reply.Reply.{Reply}
use Rattle.mon_types.specs.declared.reply.Reply.TheVariants as replies
use Rattle.mon_types.specs.declared.object.ObjectId.TheVariants as objects
use Rattle.mon_types.specs.declared.object.Tried.{Tried}
use Rattle.mon_model.specs.State.{State, IsWhole, region_at, enclave_at, mode_of, with_region, with_enclave}
use Rattle.mon_types.specs.Bits.{has_bit, member, members}
use Rattle.mon_types.specs.Replies.{done, is_done}
use Rattle.mon_types.specs.Owns.{os_word}
use Rattle.mon_model.specs.Early.{is_unsupported, is_wrong_mode, is_bad_value, shuts_out, AnEnclave}
use Rattle.mon_model.specs.RegionCalls.{block_reply, blocked, free_reply, is_free, is_empty, is_loading, is_initialized, assign_reply, assigned, accept_region_reply}
use Rattle.mon_model.specs.EnclaveCalls.{deleted}
use Rattle.mon_types.specs.Modes.{own_slot}
use Rattle.mon_model.specs.Step.{held_reply, without_own_region, with_deleted, effect, or_else, reply_of}
use Rattle.mon_model.specs.Tries.{held_tries, unless_refused, tried_set, own_enclave}
use Rattle.mon_model.specs.OnRegion.{owner_made, withdraws, frees, sole_slot}
use Rattle.mon_model.specs.RegionStep.{MayBecome, RegionStep, Stays, Ends, Withdrawn, Frees, Begins, Offers, FlagsStages, AreInsideSlots}
use Rattle.mon_model.specs.CallLaws.{StepsAsTold}
use Rattle.mon_model.proofs.Writes.{at_one}
use Rattle.mon_model.proofs.TriedSets.{tried_region}

pub refused : {P : Type 0} → false ≡ true → P
refused e = cc

-- ---- what the reply says

if_done : (b : Bool) (r : Reply) → is_done r ≡ false → is_done (if b then done else r) ≡ true → b ≡ true
if_done true r no_r is = refl
if_done false r no_r is = refused (sym no_r ∙ is)

block_case : (k : ℕ) (fl : List ℕ) (mode : Mode) (x : Region) → is_done (block_reply mode x) ≡ true → RegionStep k fl true false None x (blocked x k)
block_case k fl mode regions.Free ok = refused ok
block_case k fl mode (regions.Owned owner a) ok = Ends owner a refl refl refl refl refl
block_case k fl mode (regions.Blocked owner a b) ok = refused ok
block_case k fl modes.Os (regions.Offered to a) ok = Withdrawn to a refl refl refl refl refl
block_case k fl (modes.Inside e t) (regions.Offered to a) ok = refused ok

free_case : (k : ℕ) (fl : List ℕ) (x : Region) → is_done (free_reply x fl) ≡ true → RegionStep k fl false true None x regions.Free
free_case k fl regions.Free ok = refused ok
free_case k fl (regions.Owned owner a) ok = refused ok
free_case k fl (regions.Blocked owner a b) ok = Frees owner a b refl refl (if_done (list_all (λ ticket. nat_le b ticket) fl) replies.NotFlushed refl ok) refl refl refl
free_case k fl (regions.Offered to a) ok = refused ok

free_is : (x : Region) → is_free x ≡ true → x ≡ regions.Free
free_is regions.Free is = refl
free_is (regions.Owned owner a) is = refused is
free_is (regions.Blocked owner a b) is = refused is
free_is (regions.Offered to a) is = refused is

begins_free : (k : ℕ) (fl : List ℕ) (owner : Owner) (x : Region) → x ≡ regions.Free → RegionStep k fl false false (Some owner) x (regions.Owned owner k)
begins_free k fl owner x is = Begins owner (subst (MayBecome owner) (sym is) tt) refl refl refl refl

slot_case : (k : ℕ) (fl : List ℕ) (to : ℕ) (flag : Bool) (stage : Stage) (x : Region) → (is_loading stage ≡ true → flag ≡ false) → (is_initialized stage ≡ true → flag ≡ true)
    → is_done (if is_empty stage then replies.InvalidState else if is_free x then done else replies.InvalidState) ≡ true
    → RegionStep k fl false false (if flag then None else Some (owners.Enclave to)) x (assigned stage to k)
slot_case k fl to flag stages.Empty x loading running ok = refused ok
slot_case k fl to flag stages.Loading x loading running ok =
    subst (λ b. RegionStep k fl false false (if b then None else Some (owners.Enclave to)) x (regions.Owned (owners.Enclave to) k)) (sym (loading refl))
    (begins_free k fl (owners.Enclave to) x (free_is x (if_done (is_free x) replies.InvalidState refl ok)))
slot_case k fl to flag stages.Initialized x loading running ok =
    subst (λ b. RegionStep k fl false false (if b then None else Some (owners.Enclave to)) x (regions.Offered to k)) (sym (running refl))
    (Offers to (free_is x (if_done (is_free x) replies.InvalidState refl ok)) refl refl refl refl)

assign_case : (os : Bool) (k : ℕ) (fl : List ℕ) (to : ℕ) (flag : Bool) (enclave : Enclave) (x : Region) → (is_loading enclave.stage ≡ true → flag ≡ false) → (is_initialized enclave.stage ≡ true → flag ≡ true)
    → is_done (assign_reply (if os then None else Some enclave) x) ≡ true
    → RegionStep k fl false false (if os then Some owners.Os else if flag then None else Some (owners.Enclave to)) x (if os then regions.Owned owners.Os k else assigned enclave.stage to k)
assign_case true k fl to flag enclave x loading running ok = begins_free k fl owners.Os x (free_is x (if_done (is_free x) replies.InvalidState refl ok))
assign_case false k fl to flag enclave x loading running ok = slot_case k fl to flag enclave.stage x loading running ok

accept_case : (k : ℕ) (fl : List ℕ) (own : ℕ) (x : Region) → is_done (accept_region_reply own x) ≡ true → RegionStep k fl false false (Some (owners.Enclave own)) x (regions.Owned (owners.Enclave own) k)
accept_case k fl own regions.Free ok = refused ok
accept_case k fl own (regions.Owned owner a) ok = refused ok
accept_case k fl own (regions.Blocked owner a b) ok = refused ok
accept_case k fl own (regions.Offered to a) ok = Begins (owners.Enclave own) (ap (λ (e : ℕ). owners.Enclave e) (eqb-true own to (if_done (own == to) replies.AccessDenied refl ok))) refl refl refl refl

deleted_case : (k : ℕ) (fl : List ℕ) (x : Region) → RegionStep k fl true false None x (deleted x k)
deleted_case k fl regions.Free = Stays refl refl refl refl
deleted_case k fl (regions.Owned owner a) = Ends owner a refl refl refl refl refl
deleted_case k fl (regions.Blocked owner a b) = Stays refl refl refl refl
deleted_case k fl (regions.Offered to a) = Stays refl refl refl refl

-- ---- where the effect does it

block_table : (s : State) (mode : Mode) (r : ℕ) → (without_own_region s mode r).regions ≡ s.regions
block_table s modes.Os r = refl
block_table s (modes.Inside e t) r = refl

assign_table : (os : Bool) (s : State) (r to : ℕ) (x y : Region) (z : Enclave) → (if os then with_region s r x else with_enclave (with_region s r y) to z).regions ≡ set s.regions r (if os then x else y)
assign_table true s r to x y z = refl
assign_table false s r to x y z = refl

sole : (e : ℕ) → e < 8 → sole_slot (0 + 2 ^ e) ≡ e
sole = by_eight (λ e. sole_slot (0 + 2 ^ e) ≡ e) refl refl refl refl refl refl refl refl

own_sole : (mode : Mode) (r : ℕ) → shuts_out AnEnclave mode ≡ false → ((e t : ℕ) → mode ≡ modes.Inside e t → e < 8) → sole_slot (tried_set (own_enclave mode ++ objects.Region r ∷ [])).enclaves ≡ own_slot mode
own_sole modes.Os r inside small = refused (sym inside)
own_sole (modes.Inside e t) r inside small = sole e (small e t refl)

-- ---- delete

deleted_both : (s : State) (xs ys : List ℕ) (k : ℕ) → with_deleted s (xs ++ ys) k ≡ with_deleted (with_deleted s xs k) ys k
deleted_both s [] ys k = refl
deleted_both s (x ∷ xs) ys k = deleted_both (with_region s x (deleted (region_at s x) k)) xs ys k

deleted_length : (s : State) (xs : List ℕ) (k : ℕ) → length (with_deleted s xs k).regions ≡ length s.regions
deleted_length s [] k = refl
deleted_length s (x ∷ xs) k = deleted_length (with_region s x (deleted (region_at s x) k)) xs k ∙ length-set s.regions x (deleted (region_at s x) k)

one_deleted : (b : Bool) (s : State) (n k r : ℕ) → r < length s.regions
    → region_at (with_deleted s (if b then n ∷ [] else []) k) r ≡ (if n == r && b then deleted (region_at s r) k else region_at s r)
one_deleted true s n k r lt =
    at_one (λ c y. y ≡ (if c && true then deleted (region_at s r) k else region_at s r)) s.regions n r (deleted (region_at s n) k) regions.Free lt
    (λ is. ap (λ (i : ℕ). deleted (region_at s i) k) is) (λ ne. refl)
one_deleted false s n k r lt = elim (n == r) as (λ c. region_at s r ≡ (if c && false then deleted (region_at s r) k else region_at s r)) [ true ↦ refl | false ↦ refl ]

-- a region from n on is as it was
deleted_above : (s : State) (w n k r : ℕ) → r < length s.regions → n ≤ r → region_at (with_deleted s (members w n) k) r ≡ region_at s r
unfolding members
deleted_above s w zero k r lt le = refl
deleted_above s w (suc n) k r lt le =
    let t : State = with_deleted s (members w n) k in
    let lt_t : r < length t.regions = omega (arith, deleted_length s (members w n) k) in
    ap (λ (u : State). region_at u r) (deleted_both s (members w n) (member w n) k)
    ∙ one_deleted (has_bit w n) t n k r lt_t
    ∙ ap (λ b. if b && has_bit w n then deleted (region_at t r) k else region_at t r) (ne_eqb n r (omega arith))
    ∙ deleted_above s w n k r lt (omega arith)

deleted_here : (s : State) (w n k r : ℕ) → r < length s.regions → r < n → region_at (with_deleted s (members w n) k) r ≡ (if has_bit w r then deleted (region_at s r) k else region_at s r)
unfolding members
deleted_here s w zero k r lt below = absurd (omega arith)
deleted_here s w (suc n) k r lt below =
    let t : State = with_deleted s (members w n) k in
    let lt_t : r < length t.regions = omega (arith, deleted_length s (members w n) k) in
    ap (λ (u : State). region_at u r) (deleted_both s (members w n) (member w n) k)
    ∙ one_deleted (has_bit w n) t n k r lt_t
    ∙ (elim (cases_eq n r) [
      | inl is ↦
          ap (λ b. if b && has_bit w n then deleted (region_at t r) k else region_at t r) (eq-eqb n r is)
          ∙ ap (λ (x : Region). if has_bit w n then deleted x k else x) (deleted_above s w n k r lt (omega arith))
          ∙ ap (λ (i : ℕ). if has_bit w i then deleted (region_at s r) k else region_at s r) is
      | inr ne ↦
          ap (λ b. if b && has_bit w n then deleted (region_at t r) k else region_at t r) (ne_eqb n r ne)
          ∙ deleted_here s w n k r lt (omega arith)
    ])

chosen_case : (b : Bool) (k : ℕ) (fl : List ℕ) (x : Region) → RegionStep k fl b false None x (if b then deleted x k else x)
chosen_case true k fl x = deleted_case k fl x
chosen_case false k fl x = Stays refl refl refl refl

-- ---- any call that holds its objects

module _ (s : State) (core : ℕ) (k r : ℕ) (flags : ℕ → Bool) (whole : IsWhole s) (lt : r < s.shape.regions) (right : FlagsStages flags s) (inside : AreInsideSlots s) where
  in_table : r < length s.regions
  in_table = omega (arith, whole.regions)

  held_step : (call : Call) (digest : List ℕ) → is_wrong_mode (mode_of s core) call ≡ false → is_done (held_reply s core call) ≡ true
      → RegionStep k s.flushed (withdraws r call (tried_set (held_tries s core call))) (frees r call) (owner_made r flags call (tried_set (held_tries s core call))) (region_at s r) (region_at (effect s core call digest k) r)
  held_step (calls.Block q) digest mode ok =
      subst (λ (rs : List Region). RegionStep k s.flushed (q == r) false None (region_at s r) (get_or (set rs q (blocked (region_at s q) k)) r regions.Free)) (sym (block_table s (mode_of s core) q))
      (at_one (λ b y. RegionStep k s.flushed b false None (region_at s r) y) s.regions q r (blocked (region_at s q) k) regions.Free in_table
      (λ is. subst (λ (i : ℕ). RegionStep k s.flushed true false None (region_at s i) (blocked (region_at s q) k)) is (block_case k s.flushed (mode_of s core) (region_at s q) ok))
      (λ ne. Stays refl refl refl refl))
  held_step (calls.Free q) digest mode ok =
      at_one (λ b y. RegionStep k s.flushed false b None (region_at s r) y) s.regions q r regions.Free regions.Free in_table
      (λ is. subst (λ (i : ℕ). RegionStep k s.flushed false true None (region_at s i) regions.Free) is (free_case k s.flushed (region_at s q) ok))
      (λ ne. Stays refl refl refl refl)
  held_step (calls.Assign q to) digest mode ok =
      let made : Option Owner = if to == os_word then Some owners.Os else if flags to then None else Some (owners.Enclave to) in
      let new : Region = if to == os_word then regions.Owned owners.Os k else assigned (enclave_at s to).stage to k in
      subst (λ (rs : List Region). RegionStep k s.flushed false false (if q == r then made else None) (region_at s r) (get_or rs r regions.Free)) (sym (assign_table (to == os_word) s q to _ _ _))
      (at_one (λ b y. RegionStep k s.flushed false false (if b then made else None) (region_at s r) y) s.regions q r new regions.Free in_table
      (λ is. subst (λ (i : ℕ). RegionStep k s.flushed false false made (region_at s i) new) is (assign_case (to == os_word) k s.flushed to (flags to) (enclave_at s to) (region_at s q) (right to).loading (right to).initialized ok))
      (λ ne. Stays refl refl refl refl))
  held_step (calls.Delete e) digest mode ok =
      let w : ℕ = (enclave_at s e).regions in
      subst (λ b. RegionStep k s.flushed b false None (region_at s r) (region_at (with_deleted s (members w s.shape.regions) k) r)) (sym (tried_region e w s.shape.regions r lt))
      (subst (λ (y : Region). RegionStep k s.flushed (has_bit w r) false None (region_at s r) y) (sym (deleted_here s w s.shape.regions k r in_table lt)) (chosen_case (has_bit w r) k s.flushed (region_at s r)))
  held_step (calls.AcceptRegion q) digest mode ok =
      let own : ℕ = own_slot (mode_of s core) in
      let new : Region = regions.Owned (owners.Enclave own) k in
      subst (λ (i : ℕ). RegionStep k s.flushed false false (if q == r then Some (owners.Enclave i) else None) (region_at s r) (get_or (set s.regions q new) r regions.Free)) (sym (own_sole (mode_of s core) q mode (inside core)))
      (at_one (λ b y. RegionStep k s.flushed false false (if b then Some (owners.Enclave own) else None) (region_at s r) y) s.regions q r new regions.Free in_table
      (λ is. subst (λ (i : ℕ). RegionStep k s.flushed false false (Some (owners.Enclave own)) (region_at s i) new) is (accept_case k s.flushed own (region_at s q) ok))
      (λ ne. Stays refl refl refl refl))
  held_step _ digest mode ok = Stays refl refl refl refl

  -- whether it is unsupported, of the wrong mode, of bad values
  unless_early : (u w b : Bool) (call : Call) (digest : List ℕ) → is_wrong_mode (mode_of s core) call ≡ w →
      let refusal : Option Reply = if u then Some replies.Unsupported else if w then Some replies.AccessDenied else if b then Some replies.InvalidValue else None in
      let tried : Tried = tried_set (unless_refused refusal (held_tries s core call)) in
      is_done (or_else refusal (held_reply s core call)) ≡ true
      → RegionStep k s.flushed (withdraws r call tried) (frees r call) (owner_made r flags call tried) (region_at s r) (region_at (effect s core call digest k) r)
  unless_early true w b call digest is ok = refused ok
  unless_early false true b call digest is ok = refused ok
  unless_early false false true call digest is ok = refused ok
  unless_early false false false call digest is ok = held_step call digest is ok

  pub region_step : (call : Call) (digest : List ℕ) → is_done (reply_of s core call) ≡ true → StepsAsTold s core call digest k flags r
  region_step call digest ok = unless_early (is_unsupported call) (is_wrong_mode (mode_of s core) call) (is_bad_value s.shape call) call digest refl ok
