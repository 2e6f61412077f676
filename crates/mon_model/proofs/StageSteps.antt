-- What a call that answers Ok does to the stages of enclave slots, once over all calls.
use Rattle.std.proofs.Common.{◌≡◌, ℕ, ◌≤◌, Bool, true, false, ◌==◌, if◌then◌else◌, List, length, get_or, refl, sym, ap, subst, ◌∙◌, inl, inr, arith}
use Rattle.std.proofs.Math.ListN.{set}
use Rattle.std.proofs.lemmas.List.{length-set, get_or-set_same, get_or-set_other, get_or_past}
use Rattle.std.proofs.lemmas.Bool.{cases_eq, cases_lt, eq-eqb, ne_eqb}
use Rattle.mon_types.specs.Enclaves.{empty_enclave}
use Rattle.mon_types.specs.declared.region.Region.{Region}
use Rattle.mon_types.specs.declared.enclave.Enclave.{Enclave}
use Rattle.mon_types.specs.declared.enclave.Stage.TheVariants as stages
use Rattle.mon_types.specs.declared.thread.Mode.{Mode}
use Rattle.mon_types.specs.declared.thread.Mode.TheVariants as modes
use Rattle.mon_types.specs.declared.call.Call.{Call}
use Rattle.mon_types.specs.declared.call.Call.TheVariants as calls
use Rattle.mon_model.specs.State.{State, enclave_at, mode_of, with_region, with_enclave}
use Rattle.mon_types.specs.Owns.{os_word}
use Rattle.mon_model.specs.RegionCalls.{is_initialized, loses_region, gains_region, with_assigned}
use Rattle.mon_model.specs.EnclaveCalls.{created, initialized}
use Rattle.mon_types.specs.Modes.{own_slot}
use Rattle.mon_model.specs.EveryStep.{deleted_field}
use Rattle.mon_model.specs.Step.{without_own_region, regions_of, effect}
use Rattle.mon_model.specs.OnRegion.{initialized_by}
use Rattle.mon_model.specs.RegionStep.{FlagsStage}
use Rattle.mon_model.proofs.Writes.{at_any}
use Rattle.mon_model.proofs.RegionSteps.{refused}

-- a record with the same stage
kept : (es : List Enclave) (b : Bool) (q f : ℕ) (x : Enclave) → x.stage ≡ (get_or es q empty_enclave).stage → FlagsStage b (get_or es f empty_enclave).stage → FlagsStage b (get_or (set es q x) f empty_enclave).stage
kept es b q f x same h =
    at_any (λ (y : Enclave). FlagsStage b y.stage) es q f x empty_enclave
    (λ is. subst (FlagsStage b) (sym (same ∙ ap (λ (i : ℕ). (get_or es i empty_enclave).stage) is)) h) h

none_flagged : (b : Bool) → FlagsStage b stages.Empty
none_flagged b = record { loading = λ no_stage. refused no_stage; initialized = λ no_stage. refused no_stage }

-- a record with another stage, by whether it is this slot's
anew : (es : List Enclave) (b flag : Bool) (q f : ℕ) (x : Enclave) → FlagsStage flag x.stage → FlagsStage b (get_or es f empty_enclave).stage
    → FlagsStage (if q == f then flag else b) (get_or (set es q x) f empty_enclave).stage
anew es b flag q f x new h =
    elim (cases_eq q f) [
      | inl is ↦
          subst (λ c. FlagsStage (if c then flag else b) (get_or (set es q x) f empty_enclave).stage) (sym (eq-eqb q f is))
          (elim (cases_lt f (length es)) [
            | inl lt ↦
                subst (λ (y : Enclave). FlagsStage flag y.stage) (sym (ap (λ (i : ℕ). get_or (set es i x) f empty_enclave) is ∙ get_or-set_same es f x empty_enclave lt)) new
            | inr past ↦
                let beyond : length (set es q x) ≤ f = omega (arith, length-set es q x) in
                subst (λ (y : Enclave). FlagsStage flag y.stage) (sym (get_or_past (set es q x) f empty_enclave beyond)) (none_flagged flag)
          ])
      | inr ne ↦
          subst (λ c. FlagsStage (if c then flag else b) (get_or (set es q x) f empty_enclave).stage) (sym (ne_eqb q f ne))
          (subst (λ (y : Enclave). FlagsStage b y.stage) (sym (get_or-set_other es q f x empty_enclave (λ e. ne (sym e)))) h)
    ]

emptied : (es : List Enclave) (b : Bool) (q f : ℕ) → FlagsStage b (get_or es f empty_enclave).stage → FlagsStage b (get_or (set es q empty_enclave) f empty_enclave).stage
emptied es b q f h = at_any (λ (y : Enclave). FlagsStage b y.stage) es q f empty_enclave empty_enclave (λ is. none_flagged b) h

block_slot : (s : State) (mode : Mode) (r : ℕ) (b : Bool) (f : ℕ) → FlagsStage b (enclave_at s f).stage → FlagsStage b (enclave_at (without_own_region s mode r) f).stage
block_slot s modes.Os r b f h = h
block_slot s (modes.Inside e t) r b f h = kept s.enclaves b e f (loses_region (enclave_at s e) r) refl h

assigned_stage : (x : Enclave) (r : ℕ) → (with_assigned x r).stage ≡ x.stage
assigned_stage x r = elim (is_initialized x.stage) as (λ b. (if b then x else gains_region x r).stage ≡ x.stage) [ true ↦ refl | false ↦ refl ]

assign_slot : (os : Bool) (s : State) (r to : ℕ) (x y : Region) (b : Bool) (f : ℕ) → FlagsStage b (enclave_at s f).stage
    → FlagsStage b (enclave_at (if os then with_region s r x else with_enclave (with_region s r y) to (with_assigned (enclave_at s to) r)) f).stage
assign_slot true s r to x y b f h = h
assign_slot false s r to x y b f h = kept s.enclaves b to f (with_assigned (enclave_at s to) r) (assigned_stage (enclave_at s to) r) h

pub slot_after : (s : State) (core : ℕ) (call : Call) (digest : List ℕ) (k f : ℕ) (b : Bool) → FlagsStage b (enclave_at s f).stage → FlagsStage (initialized_by f call b) (enclave_at (effect s core call digest k) f).stage
slot_after s core (calls.Create e base size) digest k f b h = anew s.enclaves b false e f (created base size) (record { loading = λ is. refl; initialized = λ no_stage. refused no_stage }) h
slot_after s core (calls.Init e) digest k f b h = anew s.enclaves b true e f (initialized (enclave_at s e)) (record { loading = λ no_stage. refused no_stage; initialized = λ is. refl }) h
slot_after s core (calls.Delete e) digest k f b h =
    subst (λ (es : List Enclave). FlagsStage b (get_or (set es e empty_enclave) f empty_enclave).stage) (sym (deleted_field (λ x. x.enclaves) (λ t r x. refl) s (regions_of s e) k)) (emptied s.enclaves b e f h)
slot_after s core (calls.Block r) digest k f b h = block_slot s (mode_of s core) r b f h
slot_after s core (calls.Assign r to) digest k f b h = assign_slot (to == os_word) s r to _ _ b f h
slot_after s core (calls.LoadTable e va level page) digest k f b h = kept s.enclaves b e f _ refl h
slot_after s core (calls.LoadPage e va page src perms) digest k f b h = kept s.enclaves b e f _ refl h
slot_after s core (calls.LoadThread e t entry sp) digest k f b h = kept s.enclaves b e f _ refl h
slot_after s core (calls.DeleteThread e t) digest k f b h = kept s.enclaves b e f _ refl h
slot_after s core (calls.Accept m from) digest k f b h = kept s.enclaves b (own_slot (mode_of s core)) f _ refl h
slot_after s core (calls.Send to m w0 w1 w2 w3) digest k f b h = kept s.enclaves b to f _ refl h
slot_after s core (calls.Read m) digest k f b h = kept s.enclaves b (own_slot (mode_of s core)) f _ refl h
slot_after s core (calls.AcceptRegion r) digest k f b h = kept s.enclaves b (own_slot (mode_of s core)) f _ refl h
slot_after s core (calls.Reserve e va page perms) digest k f b h = kept s.enclaves b e f _ refl h
slot_after s core _ digest k f b h = h
