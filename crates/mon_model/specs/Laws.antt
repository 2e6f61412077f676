-- Laws of the sequential monitor. This project's own.
use Rattle.std.specs.Prelude.{◌≡◌, ◌≢◌, ℕ, false, List, Contains}
use Rattle.mon_types.specs.Shape.{Shape}
use Rattle.mon_types.specs.declared.call.Call.{Call}
use Rattle.mon_types.specs.declared.object.ObjectId.{ObjectId}
use Rattle.mon_types.specs.declared.object.ObjectId.TheVariants as objects
use Rattle.mon_model.specs.State.{State, IsWhole, start, region_at, enclave_at, thread_at, flushed_at, mode_of, loaded_at}
use Rattle.mon_model.specs.Tries.{tries}
use Rattle.mon_types.specs.Replies.{is_done, is_concurrent}
use Rattle.mon_model.specs.Step.{monitor_step}

-- a refusal leaves the state as it was
abbrev pub RefusalChangesNothing : Type 0
RefusalChangesNothing =
    (s : State) (core : ℕ) (call : Call) (digest : List ℕ) (ticket : ℕ)
    → is_done (monitor_step s core call digest ticket).1 ≡ false → (monitor_step s core call digest ticket).0 ≡ s

-- no call of the sequential monitor meets a lock that another core holds
abbrev pub NeverConcurrent : Type 0
NeverConcurrent =
    (s : State) (core : ℕ) (call : Call) (digest : List ℕ) (ticket : ℕ)
    → is_concurrent (monitor_step s core call digest ticket).1 ≡ false

-- From state s to state t a call of this core changed no more than the records of these objects, the
-- items of these enclaves, and the mode of the core.
pub record ChangesOnly (s t : State) (core : ℕ) (tried : List ObjectId) : Type 0 where
  pub shape : t.shape ≡ s.shape
  pub region : (r : ℕ) → ¬ Contains tried (objects.Region r) → region_at t r ≡ region_at s r
  pub enclave : (e : ℕ) → ¬ Contains tried (objects.Enclave e) → enclave_at t e ≡ enclave_at s e
  pub items : (e : ℕ) → ¬ Contains tried (objects.Enclave e) → loaded_at t e ≡ loaded_at s e
  pub thread : (h : ℕ) → ¬ Contains tried (objects.Thread h) → thread_at t h ≡ thread_at s h
  pub cell : (c : ℕ) → ¬ Contains tried (objects.Cell c) → flushed_at t c ≡ flushed_at s c
  pub mode : (c : ℕ) → c ≢ core → mode_of t c ≡ mode_of s c

-- a call changes no record but those of the objects that it tries, and its core's mode
abbrev pub ChangesOnlyTried : Type 0
ChangesOnlyTried =
    (s : State) (core : ℕ) (call : Call) (digest : List ℕ) (ticket : ℕ)
    → ChangesOnly s (monitor_step s core call digest ticket).0 core (tries s core call)

-- States s and t agree on the records of these objects, on the items of these enclaves, and on the mode
-- of this core.
pub record AgreeOn (s t : State) (core : ℕ) (tried : List ObjectId) : Type 0 where
  pub shape : t.shape ≡ s.shape
  pub region : (r : ℕ) → Contains tried (objects.Region r) → region_at t r ≡ region_at s r
  pub enclave : (e : ℕ) → Contains tried (objects.Enclave e) → enclave_at t e ≡ enclave_at s e
  pub items : (e : ℕ) → Contains tried (objects.Enclave e) → loaded_at t e ≡ loaded_at s e
  pub thread : (h : ℕ) → Contains tried (objects.Thread h) → thread_at t h ≡ thread_at s h
  pub cell : (c : ℕ) → Contains tried (objects.Cell c) → flushed_at t c ≡ flushed_at s c
  pub mode : mode_of t core ≡ mode_of s core

-- In states s and t a call has the same reply, tries the same objects, and makes the same of their
-- records.
pub record SameCall (s t : State) (core : ℕ) (call : Call) (digest : List ℕ) (ticket : ℕ) : Type 0 where
  pub reply : (monitor_step t core call digest ticket).1 ≡ (monitor_step s core call digest ticket).1
  pub objects : tries t core call ≡ tries s core call
  pub records :
      AgreeOn (monitor_step s core call digest ticket).0 (monitor_step t core call digest ticket).0 core
      (tries s core call)

-- a call reads no record but those of the objects that it tries, and its core's mode
abbrev pub ReadsOnlyTried : Type 0
ReadsOnlyTried =
    (s t : State) (core : ℕ) (call : Call) (digest : List ℕ) (ticket : ℕ) → IsWhole s → IsWhole t
    → AgreeOn s t core (tries s core call) → SameCall s t core call digest ticket

-- the start is whole
abbrev pub StartIsWhole : Type 0
StartIsWhole = (shape : Shape) → IsWhole (start shape)

-- each call leaves a whole state whole
abbrev pub StaysWhole : Type 0
StaysWhole =
    (s : State) (core : ℕ) (call : Call) (digest : List ℕ) (ticket : ℕ) → IsWhole s
    → IsWhole (monitor_step s core call digest ticket).0
