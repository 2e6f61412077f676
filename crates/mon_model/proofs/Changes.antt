-- What a call does not change.
use Rattle.std.proofs.Common.{◌≡◌, ◌≢◌, ℕ, Bool, true, false, ◌==◌, if◌then◌else◌, List, [], ◌∷◌, ◌++◌, Option, Some, None, refl, ◌∙◌}
use Rattle.std.specs.List.{Contains}
use Rattle.std.proofs.lemmas.List.{get_or-set_other}
use Rattle.mon_types.specs.Enclaves.{empty_enclave}
use Rattle.mon_types.specs.Threads.{empty_thread}
use Rattle.mon_types.specs.declared.region.Region.{Region}
use Rattle.mon_types.specs.declared.region.Region.TheVariants as regions
use Rattle.mon_types.specs.declared.enclave.Enclave.{Enclave}
use Rattle.mon_types.specs.declared.enclave.Loaded.{Loaded}
use Rattle.mon_types.specs.declared.thread.Thread.{Thread}
use Rattle.mon_types.specs.declared.thread.Mode.{Mode}
use Rattle.mon_types.specs.declared.thread.Mode.TheVariants as modes
use Rattle.mon_types.specs.declared.call.Call.{Call}
use Rattle.mon_types.specs.declared.call.Call.TheVariants as calls
use Rattle.mon_types.specs.declared.reply.Reply.{Reply}
use Rattle.mon_types.specs.declared.reply.Reply.TheVariants as replies
use Rattle.mon_types.specs.declared.object.ObjectId.{ObjectId}
use Rattle.mon_types.specs.declared.object.ObjectId.TheVariants as objects
use Rattle.mon_model.specs.State.{State, mode_of, with_region, with_enclave, with_thread, with_flushed, with_mode, with_slot}
use Rattle.mon_types.specs.Replies.{is_done}
use Rattle.mon_types.specs.Owns.{os_word}
use Rattle.mon_model.specs.Early.{is_unsupported, is_wrong_mode, is_bad_value}
use Rattle.mon_types.specs.Modes.{own_thread}
use Rattle.mon_model.specs.Step.{or_else, held_reply, effect, after, without_own_region, with_deleted, regions_of}
use Rattle.mon_model.specs.Tries.{tries, held_tries, own_enclave, unless_refused}
use Rattle.mon_model.specs.Laws.{ChangesOnly}
use Rattle.mon_model.proofs.Members.{IsIn, here, there, in_map}
use Rattle.mon_model.proofs.Tried.{own_in, own_alone, behind_own, freed_in, receiver_in}

-- ---- one change, and one after the other

pub changes_nothing : (s : State) (core : ℕ) (tried : List ObjectId) → ChangesOnly s s core tried
changes_nothing s core tried = record {
  shape = refl;
  region = λ j h. refl;
  enclave = λ j h. refl;
  items = λ j h. refl;
  thread = λ j h. refl;
  cell = λ j h. refl;
  mode = λ j h. refl;
}

both : (s t u : State) (core : ℕ) (tried : List ObjectId) → ChangesOnly s t core tried → ChangesOnly t u core tried → ChangesOnly s u core tried
both s t u core tried a b = record {
  shape = b.shape ∙ a.shape;
  region = λ j h. b.region j h ∙ a.region j h;
  enclave = λ j h. b.enclave j h ∙ a.enclave j h;
  items = λ j h. b.items j h ∙ a.items j h;
  thread = λ j h. b.thread j h ∙ a.thread j h;
  cell = λ j h. b.cell j h ∙ a.cell j h;
  mode = λ j h. b.mode j h ∙ a.mode j h;
}

-- another number than that of an object that is tried
other : (object : ℕ → ObjectId) (tried : List ObjectId) (i j : ℕ) → IsIn tried (object i) → ¬ Contains tried (object j) → j ≢ i
other object tried i j m h e = h (rw e m.place)

set_region : (s : State) (core : ℕ) (tried : List ObjectId) (r : ℕ) (x : Region) → IsIn tried (objects.Region r) → ChangesOnly s (with_region s r x) core tried
set_region s core tried r x m = record {
  shape = refl;
  region = λ j h. get_or-set_other s.regions r j x regions.Free (other (λ i. objects.Region i) tried r j m h);
  enclave = λ j h. refl;
  items = λ j h. refl;
  thread = λ j h. refl;
  cell = λ j h. refl;
  mode = λ j h. refl;
}

set_enclave : (s : State) (core : ℕ) (tried : List ObjectId) (e : ℕ) (x : Enclave) → IsIn tried (objects.Enclave e) → ChangesOnly s (with_enclave s e x) core tried
set_enclave s core tried e x m = record {
  shape = refl;
  region = λ j h. refl;
  enclave = λ j h. get_or-set_other s.enclaves e j x empty_enclave (other (λ i. objects.Enclave i) tried e j m h);
  items = λ j h. refl;
  thread = λ j h. refl;
  cell = λ j h. refl;
  mode = λ j h. refl;
}

set_slot : (s : State) (core : ℕ) (tried : List ObjectId) (e : ℕ) (x : Enclave) (xs : List Loaded) → IsIn tried (objects.Enclave e) → ChangesOnly s (with_slot s e x xs) core tried
set_slot s core tried e x xs m = record {
  shape = refl;
  region = λ j h. refl;
  enclave = λ j h. get_or-set_other s.enclaves e j x empty_enclave (other (λ i. objects.Enclave i) tried e j m h);
  items = λ j h. get_or-set_other s.loaded e j xs [] (other (λ i. objects.Enclave i) tried e j m h);
  thread = λ j h. refl;
  cell = λ j h. refl;
  mode = λ j h. refl;
}

set_thread : (s : State) (core : ℕ) (tried : List ObjectId) (t : ℕ) (x : Thread) → IsIn tried (objects.Thread t) → ChangesOnly s (with_thread s t x) core tried
set_thread s core tried t x m = record {
  shape = refl;
  region = λ j h. refl;
  enclave = λ j h. refl;
  items = λ j h. refl;
  thread = λ j h. get_or-set_other s.threads t j x empty_thread (other (λ i. objects.Thread i) tried t j m h);
  cell = λ j h. refl;
  mode = λ j h. refl;
}

set_cell : (s : State) (core : ℕ) (tried : List ObjectId) (c k : ℕ) → IsIn tried (objects.Cell c) → ChangesOnly s (with_flushed s c k) core tried
set_cell s core tried c k m = record {
  shape = refl;
  region = λ j h. refl;
  enclave = λ j h. refl;
  items = λ j h. refl;
  thread = λ j h. refl;
  cell = λ j h. get_or-set_other s.flushed c j k 0 (other (λ i. objects.Cell i) tried c j m h);
  mode = λ j h. refl;
}

set_mode : (s : State) (core : ℕ) (tried : List ObjectId) (x : Mode) → ChangesOnly s (with_mode s core x) core tried
set_mode s core tried x = record {
  shape = refl;
  region = λ j h. refl;
  enclave = λ j h. refl;
  items = λ j h. refl;
  thread = λ j h. refl;
  cell = λ j h. refl;
  mode = λ j h. get_or-set_other s.modes core j x modes.Os h;
}

-- ---- the calls whose changes go by cases

block_changes : (s : State) (core : ℕ) (mode : Mode) (r : ℕ) (x : Region) → ChangesOnly s (with_region (without_own_region s mode r) r x) core (own_enclave mode ++ objects.Region r ∷ [])
block_changes s core modes.Os r x = set_region s core _ r x here
block_changes s core (modes.Inside e t) r x =
    both s _ _ core _ (set_enclave s core _ e _ here) (set_region _ core _ r x (there here))

-- whether it is assigned to the OS
assign_changes : (b : Bool) (s : State) (core r to : ℕ) (x y : Region) (z : Enclave) → ChangesOnly s (if b then with_region s r x else with_enclave (with_region s r y) to z) core (if b then objects.Region r ∷ [] else objects.Enclave to ∷ objects.Region r ∷ [])
assign_changes true s core r to x y z = set_region s core _ r x here
assign_changes false s core r to x y z =
    both s _ _ core _ (set_region s core _ r y (there here)) (set_enclave _ core _ to z here)

delete_changes : (s : State) (core : ℕ) (tried : List ObjectId) (rs : List ℕ) (k : ℕ) → ((r : ℕ) → IsIn rs r → IsIn tried (objects.Region r)) → ChangesOnly s (with_deleted s rs k) core tried
delete_changes s core tried [] k m = changes_nothing s core tried
delete_changes s core tried (r ∷ rs) k m =
    both s _ _ core tried (set_region s core tried r _ (m r here)) (delete_changes _ core tried rs k (λ i h. m i (there h)))

-- ---- a call that holds its objects

held_changes : (s : State) (core : ℕ) (call : Call) (digest : List ℕ) (k : ℕ) → is_wrong_mode (mode_of s core) call ≡ false → ChangesOnly s (effect s core call digest k) core (held_tries s core call)
held_changes s core (calls.Block r) digest k h = block_changes s core (mode_of s core) r _
held_changes s core (calls.Free r) digest k h = set_region s core _ r _ (freed_in _ r _)
held_changes s core (calls.Assign r to) digest k h = assign_changes (to == os_word) s core r to _ _ _
held_changes s core calls.Flush digest k h = set_cell s core _ core k here
held_changes s core (calls.RegionInfo r) digest k h = changes_nothing s core _
held_changes s core (calls.Create e base size) digest k h = set_slot s core _ e _ _ here
held_changes s core (calls.LoadTable e va level page) digest k h = set_slot s core _ e _ _ here
held_changes s core (calls.LoadPage e va page src perms) digest k h = set_slot s core _ e _ _ here
held_changes s core (calls.LoadThread e t entry sp) digest k h =
    both s _ _ core _ (set_enclave s core _ e _ here) (set_thread _ core _ t _ (there here))
held_changes s core (calls.Init e) digest k h = set_enclave s core _ e _ here
held_changes s core (calls.DeleteThread e t) digest k h =
    both s _ _ core _ (set_enclave s core _ e _ here) (set_thread _ core _ t _ (there here))
held_changes s core (calls.Delete e) digest k h =
    both s _ _ core _ (delete_changes s core _ (regions_of s e) k (λ r m. there (in_map (λ i. objects.Region i) r (regions_of s e) m))) (set_slot _ core _ e _ _ here)
held_changes s core (calls.Enter e t) digest k h =
    both s _ _ core _ (set_thread s core _ t _ (there here)) (set_mode _ core _ _)
held_changes s core calls.Exit digest k h =
    both s _ _ core _ (set_thread s core _ (own_thread (mode_of s core)) _ here) (set_mode _ core _ _)
held_changes s core (calls.Aex saved) digest k h =
    both s _ _ core _ (set_thread s core _ (own_thread (mode_of s core)) _ here) (set_mode _ core _ _)
held_changes s core calls.Restore digest k h = set_thread s core _ (own_thread (mode_of s core)) _ here
held_changes s core (calls.Accept m from) digest k h = set_enclave s core _ _ _ (own_alone _ h)
held_changes s core (calls.Send to m w0 w1 w2 w3) digest k h = set_enclave s core _ to _ (receiver_in _ to)
held_changes s core (calls.Read m) digest k h = set_enclave s core _ _ _ (own_alone _ h)
held_changes s core (calls.EnclaveInfo e) digest k h = changes_nothing s core _
held_changes s core (calls.SetSatp v) digest k h = changes_nothing s core _
held_changes s core (calls.AcceptRegion r) digest k h =
    both s _ _ core _ (set_region s core _ r _ (behind_own _ r)) (set_enclave _ core _ _ _ (own_in _ _ h))
held_changes s core (calls.Reserve e va page perms) digest k h = set_slot s core _ e _ _ here
held_changes s core (calls.Unknown number args) digest k h = changes_nothing s core _

-- ---- any call

if_done : (b : Bool) (s t : State) (core : ℕ) (tried : List ObjectId) → ChangesOnly s t core tried → ChangesOnly s (if b then t else s) core tried
if_done true s t core tried h = h
if_done false s t core tried h = changes_nothing s core tried

-- whether it is unsupported, of the wrong mode, of bad values
unless_early : (u w b : Bool) (held : Reply) (s t : State) (core : ℕ) (tried : List ObjectId) → (w ≡ false → ChangesOnly s t core tried) →
    let refusal : Option Reply = if u then Some replies.Unsupported else if w then Some replies.AccessDenied else if b then Some replies.InvalidValue else None in
    ChangesOnly s (if is_done (or_else refusal held) then t else s) core (unless_refused refusal tried)
unless_early true w b held s t core tried h = changes_nothing s core _
unless_early false true b held s t core tried h = changes_nothing s core _
unless_early false false true held s t core tried h = changes_nothing s core _
unless_early false false false held s t core tried h = if_done (is_done held) s t core tried (h refl)

pub changes : (s : State) (core : ℕ) (call : Call) (digest : List ℕ) (k : ℕ) → ChangesOnly s (after s core call digest k) core (tries s core call)
changes s core call digest k =
    unless_early (is_unsupported call) (is_wrong_mode (mode_of s core) call) (is_bad_value s.shape call) (held_reply s core call) s (effect s core call digest k) core (held_tries s core call) (held_changes s core call digest k)
