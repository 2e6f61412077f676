-- The lengths of the tables.
use Rattle.std.proofs.Common.{ℕ, Bool, true, false, ◌==◌, if◌then◌else◌, List, [], ◌∷◌, refl, ◌∙◌}
use Rattle.std.proofs.lemmas.List.{length-set, length-replicate}
use Rattle.mon_types.specs.Shape.{Shape}
use Rattle.mon_types.specs.declared.region.Region.{Region}
use Rattle.mon_types.specs.declared.enclave.Enclave.{Enclave}
use Rattle.mon_types.specs.declared.enclave.Loaded.{Loaded}
use Rattle.mon_types.specs.declared.thread.Thread.{Thread}
use Rattle.mon_types.specs.declared.thread.Mode.{Mode}
use Rattle.mon_types.specs.declared.thread.Mode.TheVariants as modes
use Rattle.mon_types.specs.declared.call.Call.{Call}
use Rattle.mon_types.specs.declared.call.Call.TheVariants as calls
use Rattle.mon_types.specs.Replies.{is_done}
use Rattle.mon_types.specs.Owns.{os_word}
use Rattle.mon_model.specs.State.{State, IsWhole, start, mode_of, with_region, with_enclave, with_thread, with_flushed, with_mode, with_slot}
use Rattle.mon_model.specs.Step.{effect, after, reply_of, without_own_region, with_deleted, regions_of}

pub region_whole : (s : State) (r : ℕ) (x : Region) → IsWhole s → IsWhole (with_region s r x)
region_whole s r x h = record {
  regions = length-set _ _ _ ∙ h.regions;
  enclaves = h.enclaves;
  threads = h.threads;
  flushed = h.flushed;
  modes = h.modes;
  loaded = h.loaded;
}

pub enclave_whole : (s : State) (e : ℕ) (x : Enclave) → IsWhole s → IsWhole (with_enclave s e x)
enclave_whole s e x h = record {
  regions = h.regions;
  enclaves = length-set _ _ _ ∙ h.enclaves;
  threads = h.threads;
  flushed = h.flushed;
  modes = h.modes;
  loaded = h.loaded;
}

pub slot_whole : (s : State) (e : ℕ) (x : Enclave) (xs : List Loaded) → IsWhole s → IsWhole (with_slot s e x xs)
slot_whole s e x xs h = record {
  regions = h.regions;
  enclaves = length-set _ _ _ ∙ h.enclaves;
  threads = h.threads;
  flushed = h.flushed;
  modes = h.modes;
  loaded = length-set _ _ _ ∙ h.loaded;
}

pub thread_whole : (s : State) (t : ℕ) (x : Thread) → IsWhole s → IsWhole (with_thread s t x)
thread_whole s t x h = record {
  regions = h.regions;
  enclaves = h.enclaves;
  threads = length-set _ _ _ ∙ h.threads;
  flushed = h.flushed;
  modes = h.modes;
  loaded = h.loaded;
}

pub cell_whole : (s : State) (c k : ℕ) → IsWhole s → IsWhole (with_flushed s c k)
cell_whole s c k h = record {
  regions = h.regions;
  enclaves = h.enclaves;
  threads = h.threads;
  flushed = length-set _ _ _ ∙ h.flushed;
  modes = h.modes;
  loaded = h.loaded;
}

pub mode_whole : (s : State) (c : ℕ) (x : Mode) → IsWhole s → IsWhole (with_mode s c x)
mode_whole s c x h = record {
  regions = h.regions;
  enclaves = h.enclaves;
  threads = h.threads;
  flushed = h.flushed;
  modes = length-set _ _ _ ∙ h.modes;
  loaded = h.loaded;
}

own_whole : (s : State) (mode : Mode) (r : ℕ) → IsWhole s → IsWhole (without_own_region s mode r)
own_whole s modes.Os r h = h
own_whole s (modes.Inside e t) r h = enclave_whole s e _ h

either_whole : (b : Bool) (s t : State) → IsWhole s → IsWhole t → IsWhole (if b then s else t)
either_whole true s t h g = h
either_whole false s t h g = g

deleted_whole : (s : State) (rs : List ℕ) (k : ℕ) → IsWhole s → IsWhole (with_deleted s rs k)
deleted_whole s [] k h = h
deleted_whole s (r ∷ rs) k h = deleted_whole _ rs k (region_whole s r _ h)

effect_whole : (s : State) (core : ℕ) (call : Call) (digest : List ℕ) (k : ℕ) → IsWhole s → IsWhole (effect s core call digest k)
effect_whole s core (calls.Block r) digest k h = region_whole _ r _ (own_whole s (mode_of s core) r h)
effect_whole s core (calls.Free r) digest k h = region_whole s r _ h
effect_whole s core (calls.Assign r to) digest k h =
    either_whole (to == os_word) _ _ (region_whole s r _ h) (enclave_whole _ to _ (region_whole s r _ h))
effect_whole s core calls.Flush digest k h = cell_whole s core k h
effect_whole s core (calls.RegionInfo r) digest k h = h
effect_whole s core (calls.Create e base size) digest k h = slot_whole s e _ _ h
effect_whole s core (calls.LoadTable e va level page) digest k h = slot_whole s e _ _ h
effect_whole s core (calls.LoadPage e va page src perms) digest k h = slot_whole s e _ _ h
effect_whole s core (calls.LoadThread e t entry sp) digest k h = thread_whole _ t _ (enclave_whole s e _ h)
effect_whole s core (calls.Init e) digest k h = enclave_whole s e _ h
effect_whole s core (calls.DeleteThread e t) digest k h = thread_whole _ t _ (enclave_whole s e _ h)
effect_whole s core (calls.Delete e) digest k h = slot_whole _ e _ _ (deleted_whole s (regions_of s e) k h)
effect_whole s core (calls.Enter e t) digest k h = mode_whole _ core _ (thread_whole s t _ h)
effect_whole s core calls.Exit digest k h = mode_whole _ core _ (thread_whole s _ _ h)
effect_whole s core (calls.Aex saved) digest k h = mode_whole _ core _ (thread_whole s _ _ h)
effect_whole s core calls.Restore digest k h = thread_whole s _ _ h
effect_whole s core (calls.Accept m from) digest k h = enclave_whole s _ _ h
effect_whole s core (calls.Send to m w0 w1 w2 w3) digest k h = enclave_whole s to _ h
effect_whole s core (calls.Read m) digest k h = enclave_whole s _ _ h
effect_whole s core (calls.EnclaveInfo e) digest k h = h
effect_whole s core (calls.SetSatp v) digest k h = h
effect_whole s core (calls.AcceptRegion r) digest k h = enclave_whole _ _ _ (region_whole s r _ h)
effect_whole s core (calls.Reserve e va page perms) digest k h = slot_whole s e _ _ h
effect_whole s core (calls.Unknown number args) digest k h = h

pub stays : (s : State) (core : ℕ) (call : Call) (digest : List ℕ) (k : ℕ) → IsWhole s → IsWhole (after s core call digest k)
stays s core call digest k h =
    either_whole (is_done (reply_of s core call)) (effect s core call digest k) s (effect_whole s core call digest k h) h

pub starts : (shape : Shape) → IsWhole (start shape)
starts shape = record {
  regions = length-replicate _ _;
  enclaves = refl;
  threads = refl;
  flushed = length-replicate _ _;
  modes = length-replicate _ _;
  loaded = refl;
}
