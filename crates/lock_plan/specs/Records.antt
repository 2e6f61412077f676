-- Records that are held of the objects that a call tries in a state. This project's own.
use Rattle.std.specs.Prelude.{◌≡◌, ℕ, ◌<◌, List, [], ◌∷◌, ◌++◌, Option, slice_get, IfSome}
use Rattle.arrayvec.specs.ArrayVec.{array_vec_len}
use Rattle.mon_types.specs.Shape.{Shape}
use Rattle.mon_types.specs.declared.thread.Mode.{Mode}
use Rattle.mon_types.specs.declared.call.Call.{Call}
use Rattle.mon_types.specs.declared.object.ObjectId.{ObjectId}
use Rattle.mon_types.specs.declared.object.ObjectId.TheVariants as objects
use Rattle.mon_model.specs.State.{State, region_at, enclave_at, thread_at, flushed_at, mode_of}
use Rattle.mon_model.specs.Tries.{tries}
use Rattle.lock_plan.specs.declared.held.Held.{Held}

-- nothing is held
abbrev pub nothing_held : Held
nothing_held = record {
  enclaves = record { items = [] };
  threads = record { items = [] };
  regions = record { items = [] };
  cells = record { items = [] };
}

-- the record of an object in a state, and then these records
abbrev pub and_records : State → ObjectId → Held → Held
and_records s (objects.Enclave e) h = record h { enclaves = record { items = (e, enclave_at s e) ∷ h.enclaves.items } }
and_records s (objects.Thread t) h = record h { threads = record { items = (t, thread_at s t) ∷ h.threads.items } }
and_records s (objects.Region r) h = record h { regions = record { items = (r, region_at s r) ∷ h.regions.items } }
and_records s (objects.Cell c) h = record h { cells = record { items = (c, flushed_at s c) ∷ h.cells.items } }

-- the records of these objects in a state
abbrev pub records_of : State → List ObjectId → Held
records_of s [] = nothing_held
records_of s (x ∷ xs) = and_records s x (records_of s xs)

-- these records, and then the record of an object in a state
abbrev pub with_record : State → ObjectId → Held → Held
with_record s (objects.Enclave e) h =
    record h { enclaves = record { items = h.enclaves.items ++ (e, enclave_at s e) ∷ [] } }
with_record s (objects.Thread t) h =
    record h { threads = record { items = h.threads.items ++ (t, thread_at s t) ∷ [] } }
with_record s (objects.Region r) h =
    record h { regions = record { items = h.regions.items ++ (r, region_at s r) ∷ [] } }
with_record s (objects.Cell c) h = record h { cells = record { items = h.cells.items ++ (c, flushed_at s c) ∷ [] } }

-- The call tries `front` in state s and then `rest`, and the records of `front` are held.
pub record HoldsFront (s : State) (core : ℕ) (call : Call) (held : Held) (front rest : List ObjectId) : Type 0 where
  pub plan : tries s core call ≡ front ++ rest
  pub records : held ≡ records_of s front

-- In every state of this machine in which the core is in this mode, where the records of the first
-- objects that the call tries are held, the answer is the first of the others, None where all are held.
abbrev pub IsNext : Shape → ℕ → Mode → Call → Held → Option ObjectId → Type 0
IsNext shape core mode call held answer =
    (s : State) (front rest : List ObjectId) → s.shape ≡ shape → mode_of s core ≡ mode
    → HoldsFront s core call held front rest → answer ≡ slice_get rest 0

-- there is room for the record of the object
abbrev pub HasRoom : Held → ObjectId → Type 0
HasRoom h (objects.Enclave e) = array_vec_len h.enclaves < 2
HasRoom h (objects.Thread t) = array_vec_len h.threads < 1
HasRoom h (objects.Region r) = array_vec_len h.regions < 64
HasRoom h (objects.Cell c) = array_vec_len h.cells < 16

-- where the records of the first objects that the call tries in such a state are held, there is room for
-- the next one
abbrev pub LeavesRoom : Shape → ℕ → Mode → Call → Held → Option ObjectId → Type 0
LeavesRoom shape core mode call held answer =
    (s : State) (front rest : List ObjectId) → s.shape ≡ shape → mode_of s core ≡ mode
    → HoldsFront s core call held front rest → IfSome answer (HasRoom held)
