-- What every step of the sequential monitor leaves as it was. This project's own.
use Rattle.std.specs.Prelude.{◌≡◌, ℕ, Bool, true, false, cond, List, [], ◌∷◌, refl}
use Rattle.std.proofs.Common.{◌∙◌}
use Rattle.mon_types.specs.declared.region.Region.{Region}
use Rattle.mon_types.specs.declared.enclave.Enclave.{Enclave}
use Rattle.mon_types.specs.declared.thread.Mode.{Mode}
use Rattle.mon_types.specs.declared.thread.Mode.TheVariants as modes
use Rattle.mon_types.specs.declared.call.Call.{Call}
use Rattle.mon_types.specs.declared.call.Call.TheVariants as calls
use Rattle.mon_model.specs.State.{State, mode_of, region_at, enclave_at, with_region, with_enclave}
use Rattle.mon_types.specs.Replies.{is_done}
use Rattle.mon_model.specs.RegionCalls.{loses_region}
use Rattle.mon_model.specs.EnclaveCalls.{deleted}
use Rattle.mon_model.specs.Step.{without_own_region, with_deleted, regions_of, effect, reply_of, after}

-- ---- fields of the state that a call leaves

-- what two states share, the chosen one shares
pub chosen_field : {X : Type 0} (field : State → X) (b : Bool) (s x y : State) → field x ≡ field s → field y ≡ field s → field (cond b x y) ≡ field s
chosen_field field true s x y p q = p
chosen_field field false s x y p q = q

-- where an enclave blocks a region of its own, a field that no other record of an enclave changes stays
pub own_field : {X : Type 0} (field : State → X) → ((s : State) (e : ℕ) (x : Enclave) → field (with_enclave s e x) ≡ field s) → (s : State) (mode : Mode) (r : ℕ) → field (without_own_region s mode r) ≡ field s
own_field field keeps s modes.Os r = refl
own_field field keeps s (modes.Inside e t) r = keeps s e (loses_region (enclave_at s e) r)

-- where regions are deleted, a field that no other record of a region changes stays
pub deleted_field : {X : Type 0} (field : State → X) → ((s : State) (r : ℕ) (x : Region) → field (with_region s r x) ≡ field s) → (s : State) (rs : List ℕ) (k : ℕ) → field (with_deleted s rs k) ≡ field s
deleted_field field keeps s [] k = refl
deleted_field field keeps s (r ∷ rs) k = deleted_field field keeps (with_region s r (deleted (region_at s r) k)) rs k ∙ keeps s r (deleted (region_at s r) k)

-- ---- the machine's shape

effect_shape : (s : State) (core : ℕ) (call : Call) (digest : List ℕ) (k : ℕ) → (effect s core call digest k).shape ≡ s.shape
effect_shape s core (calls.Block r) digest k = own_field (λ x. x.shape) (λ t e x. refl) s (mode_of s core) r
effect_shape s core (calls.Assign r to) digest k = chosen_field (λ x. x.shape) _ s _ _ refl refl
effect_shape s core (calls.Delete e) digest k = deleted_field (λ x. x.shape) (λ t r x. refl) s (regions_of s e) k
effect_shape s core _ digest k = refl

-- a step leaves the machine's shape as it was
pub after_shape : (s : State) (core : ℕ) (call : Call) (digest : List ℕ) (k : ℕ) → (after s core call digest k).shape ≡ s.shape
after_shape s core call digest k = chosen_field (λ x. x.shape) (is_done (reply_of s core call)) s (effect s core call digest k) s (effect_shape s core call digest k) refl
