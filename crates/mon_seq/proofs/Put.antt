-- Records put back give the tables that a call leaves.
use Rattle.std.proofs.Common.{◌≡◌, ℕ, zero, suc, ◌<◌, Bool, true, cond, List, [], ◌∷◌, length, get_or, slice_set, refl, sym, ap, ◌∙◌, subst, inl, inr, arith}
use Rattle.std.specs.List.{Contains}
use Rattle.std.proofs.lemmas.List.{ext_get_or, get_or-set_same, get_or-set_other, get_or_past, length-set}
use Rattle.std.proofs.lemmas.Bool.Decides.{eqb_tells, leb_tells}
use Rattle.mon_types.specs.Shape.{Shape}
use Rattle.mon_types.specs.LimitLaws.{few_pages}
use Rattle.mon_types.specs.Replies.{is_done}
use Rattle.mon_types.specs.Enclaves.{empty_enclave}
use Rattle.mon_types.specs.Threads.{empty_thread}
use Rattle.mon_types.specs.declared.region.Region.{Region}
use Rattle.mon_types.specs.declared.region.Region.TheVariants as regions
use Rattle.mon_types.specs.declared.enclave.Enclave.{Enclave}
use Rattle.mon_types.specs.declared.enclave.Loaded.{Loaded}
use Rattle.mon_types.specs.declared.thread.Thread.{Thread}
use Rattle.mon_types.specs.declared.thread.Mode.{Mode}
use Rattle.mon_types.specs.declared.call.Call.{Call}
use Rattle.mon_types.specs.declared.call.Call.TheVariants as calls
use Rattle.mon_types.specs.declared.object.ObjectId.{ObjectId}
use Rattle.mon_types.specs.declared.object.ObjectId.TheVariants as objects
use Rattle.mon_model.specs.State.{State, IsWhole, region_at, enclave_at, thread_at, flushed_at, mode_of, loaded_at, with_region, with_enclave, with_thread, with_flushed}
use Rattle.mon_model.specs.InRange.{IsInRange}
use Rattle.mon_model.specs.Tries.{tries}
use Rattle.mon_model.specs.Step.{regions_of, held_reply, effect, reply_of, after}
use Rattle.mon_model.specs.EveryStep.{chosen_field, own_field, deleted_field, after_shape}
use Rattle.mon_model.proofs.Whole.{stays}
use Rattle.mon_model.specs.OnCore.{mode_by}
use Rattle.mon_model.specs.Laws.{ChangesOnly}
use Rattle.mon_model.proofs.Changes.{changes}
use Rattle.mon_model.proofs.CoreSteps.{modes_after}
use Rattle.mon_facts.specs.Tables.{AreTables}
use Rattle.mon_facts.proofs.TablesKept.{table_takes, page_takes, reserve_takes}
use Rattle.lock_plan.specs.declared.held.Held.{Held}
use Rattle.lock_plan.specs.Records.{records_of}
use Rattle.mon_seq.specs.Put.{with_held, loaded_after, HasRoomFor}

-- ---- one record

-- what another table has at its number, past the end of both too
set_here : {X : Type 0} (s t : List X) (i : ℕ) (d : X) → length s ≡ length t → get_or t i d ≡ get_or (slice_set s i (get_or t i d)) i d
set_here s t i d long =
    elim (leb_tells (length s) i) [
      | inl (t_, past) ↦ get_or_past t i d (omega arith) ∙ sym (get_or_past (slice_set s i (get_or t i d)) i d (omega (arith, length-set s i (get_or t i d))))
      | inr (f, lt) ↦ sym (get_or-set_same s i (get_or t i d) d lt)
    ]

-- a table into which what another one has at i was put has at j what the other has, if it had so before or j is i
one_set : {X : Type 0} (s t : List X) (i j : ℕ) (d : X) → length s ≡ length t → ((j ≡ i → ⊥) → get_or t j d ≡ get_or s j d) → get_or t j d ≡ get_or (slice_set s i (get_or t i d)) j d
one_set s t i j d long other =
    elim (eqb_tells j i) [
      | inl (t_, is) ↦ subst (λ (n : ℕ). get_or t n d ≡ get_or (slice_set s i (get_or t i d)) n d) (sym is) (set_here s t i d long)
      | inr (f, apart) ↦ other apart ∙ sym (get_or-set_other s i j (get_or t i d) d apart)
    ]

not_in : {X : Type 0} (x y : X) (xs : List X) → (y ≡ x → ⊥) → (Contains xs y → ⊥) → Contains (x ∷ xs) y → ⊥
not_in x y xs apart none c = at c.0 c.1 c.2
  where
    at : (n : ℕ) → n < length (x ∷ xs) → get_or (x ∷ xs) n y ≡ y → ⊥
    at zero lt e = apart (sym e)
    at (suc n) lt e = none (n, omega arith, e)

nothing_in : {X : Type 0} (x : X) → Contains [] x → ⊥
nothing_in x c = omega (arith, c.1)

-- ---- all records

-- the tables of two states are equally long
record AsLong (s t : State) : Type 0 where
  regions : length s.regions ≡ length t.regions
  enclaves : length s.enclaves ≡ length t.enclaves
  threads : length s.threads ≡ length t.threads
  flushed : length s.flushed ≡ length t.flushed

-- two states have the same records but those of these objects
record SameBut (tried : List ObjectId) (s t : State) : Type 0 where
  region : (r : ℕ) → (Contains tried (objects.Region r) → ⊥) → region_at t r ≡ region_at s r
  enclave : (e : ℕ) → (Contains tried (objects.Enclave e) → ⊥) → enclave_at t e ≡ enclave_at s e
  thread : (h : ℕ) → (Contains tried (objects.Thread h) → ⊥) → thread_at t h ≡ thread_at s h
  cell : (c : ℕ) → (Contains tried (objects.Cell c) → ⊥) → flushed_at t c ≡ flushed_at s c

record SameTables (s t : State) : Type 0 where
  regions : s.regions ≡ t.regions
  enclaves : s.enclaves ≡ t.enclaves
  threads : s.threads ≡ t.threads
  flushed : s.flushed ≡ t.flushed

put_is : (tried : List ObjectId) (s t : State) → AsLong s t → SameBut tried s t → SameTables (with_held s (records_of t tried)) t
put_is [] s t long same = record {
  regions = ext_get_or regions.Free s.regions t.regions long.regions (λ r lt. sym (same.region r (nothing_in (objects.Region r))));
  enclaves = ext_get_or empty_enclave s.enclaves t.enclaves long.enclaves (λ e lt. sym (same.enclave e (nothing_in (objects.Enclave e))));
  threads = ext_get_or empty_thread s.threads t.threads long.threads (λ h lt. sym (same.thread h (nothing_in (objects.Thread h))));
  flushed = ext_get_or 0 s.flushed t.flushed long.flushed (λ c lt. sym (same.cell c (nothing_in (objects.Cell c))));
}
put_is (objects.Region i ∷ xs) s t long same =
    put_is xs (with_region s i (region_at t i)) t
    (record { regions = length-set s.regions i (region_at t i) ∙ long.regions; enclaves = long.enclaves; threads = long.threads; flushed = long.flushed })
    (record {
      region = λ r none. one_set s.regions t.regions i r regions.Free long.regions (λ apart. same.region r (not_in _ _ _ (λ e. apart (cc)) none));
      enclave = λ e none. same.enclave e (not_in _ _ _ (λ e. cc) none);
      thread = λ h none. same.thread h (not_in _ _ _ (λ e. cc) none);
      cell = λ c none. same.cell c (not_in _ _ _ (λ e. cc) none);
    })
put_is (objects.Enclave i ∷ xs) s t long same =
    put_is xs (with_enclave s i (enclave_at t i)) t
    (record { regions = long.regions; enclaves = length-set s.enclaves i (enclave_at t i) ∙ long.enclaves; threads = long.threads; flushed = long.flushed })
    (record {
      region = λ r none. same.region r (not_in _ _ _ (λ e. cc) none);
      enclave = λ j none. one_set s.enclaves t.enclaves i j empty_enclave long.enclaves (λ apart. same.enclave j (not_in _ _ _ (λ e. apart (cc)) none));
      thread = λ h none. same.thread h (not_in _ _ _ (λ e. cc) none);
      cell = λ c none. same.cell c (not_in _ _ _ (λ e. cc) none);
    })
put_is (objects.Thread i ∷ xs) s t long same =
    put_is xs (with_thread s i (thread_at t i)) t
    (record { regions = long.regions; enclaves = long.enclaves; threads = length-set s.threads i (thread_at t i) ∙ long.threads; flushed = long.flushed })
    (record {
      region = λ r none. same.region r (not_in _ _ _ (λ e. cc) none);
      enclave = λ j none. same.enclave j (not_in _ _ _ (λ e. cc) none);
      thread = λ h none. one_set s.threads t.threads i h empty_thread long.threads (λ apart. same.thread h (not_in _ _ _ (λ e. apart (cc)) none));
      cell = λ c none. same.cell c (not_in _ _ _ (λ e. cc) none);
    })
put_is (objects.Cell i ∷ xs) s t long same =
    put_is xs (with_flushed s i (flushed_at t i)) t
    (record { regions = long.regions; enclaves = long.enclaves; threads = long.threads; flushed = length-set s.flushed i (flushed_at t i) ∙ long.flushed })
    (record {
      region = λ r none. same.region r (not_in _ _ _ (λ e. cc) none);
      enclave = λ j none. same.enclave j (not_in _ _ _ (λ e. cc) none);
      thread = λ h none. same.thread h (not_in _ _ _ (λ e. cc) none);
      cell = λ c none. one_set s.flushed t.flushed i c 0 long.flushed (λ apart. same.cell c (not_in _ _ _ (λ e. apart (cc)) none));
    })

-- ---- items

items_are : (s : State) (core : ℕ) (call : Call) (digest : List ℕ) (k : ℕ) → (effect s core call digest k).loaded ≡ loaded_after call s.loaded
items_are s core (calls.Block r) digest k = own_field (λ x. x.loaded) (λ t e x. refl) s (mode_of s core) r
items_are s core (calls.Assign r to) digest k = chosen_field (λ x. x.loaded) _ s _ _ refl refl
items_are s core (calls.Delete e) digest k = ap (λ (ls : List (List Loaded)). slice_set ls e []) (deleted_field (λ x. x.loaded) (λ t r x. refl) s (regions_of s e) k)
items_are s core _ digest k = refl

-- there is room for an item that is loaded
pub item_room : (s : State) (core : ℕ) (call : Call) → AreTables s → IsInRange s.shape call → is_done (held_reply s core call) ≡ true → HasRoomFor s call
item_room s core (calls.LoadTable e va level page) tables a d =
    omega (arith, few_pages s.shape tables.machine, a.2, (tables.items e).count, table_takes s.shape (enclave_at s e) (loaded_at s e) va level page d)
item_room s core (calls.LoadPage e va page src perms) tables a d =
    omega (arith, few_pages s.shape tables.machine, a.1, (tables.items e).count, page_takes s.shape (enclave_at s e) (loaded_at s e) _ va page d)
item_room s core (calls.Reserve e va page perms) tables a d =
    omega (arith, few_pages s.shape tables.machine, a.1, (tables.items e).count, reserve_takes s.shape (enclave_at s e) (loaded_at s e) va page d)
item_room s core _ tables a d = tt

-- ---- the state

state_of_parts : (t : State) (shape : Shape) (rs : List Region) (es : List Enclave) (ts : List Thread) (fs : List ℕ) (ms : List Mode) (ls : List (List Loaded))
    → shape ≡ t.shape → rs ≡ t.regions → es ≡ t.enclaves → ts ≡ t.threads → fs ≡ t.flushed → ms ≡ t.modes → ls ≡ t.loaded
    → record { shape = shape; regions = rs; enclaves = es; threads = ts; flushed = fs; modes = ms; loaded = ls } ≡ t
state_of_parts t shape rs es ts fs ms ls p q r u v w x = rw (p, q, r, u, v, w, x) refl

as_long : (s t : State) → IsWhole s → IsWhole t → t.shape ≡ s.shape → AsLong s t
as_long s t p q shape = record {
  regions = p.regions ∙ ap (λ (m : Shape). m.regions) (sym shape) ∙ sym q.regions;
  enclaves = p.enclaves ∙ sym q.enclaves;
  threads = p.threads ∙ sym q.threads;
  flushed = p.flushed ∙ ap (λ (m : Shape). m.cores) (sym shape) ∙ sym q.flushed;
}

same_but : (s t : State) (core : ℕ) (tried : List ObjectId) → ChangesOnly s t core tried → SameBut tried s t
same_but s t core tried h = record { region = h.region; enclave = h.enclave; thread = h.thread; cell = h.cell }

-- a state with the records of another one that a call left, with its items and its modes
pub put_all_back : (s : State) (core : ℕ) (call : Call) (digest : List ℕ) (k : ℕ) → IsWhole s → is_done (reply_of s core call) ≡ true
    → (let p = with_held s (records_of (after s core call digest k) (tries s core call)) in
    record p { loaded = loaded_after call s.loaded; modes = slice_set s.modes core (mode_by call (mode_of s core)) }) ≡ after s core call digest k
put_all_back s core call digest k whole is_ok =
    let t : State = after s core call digest k in
    let left : t ≡ effect s core call digest k = ap (λ (b : Bool). cond b (effect s core call digest k) s) is_ok in
    let shape : t.shape ≡ s.shape = after_shape s core call digest k in
    let same : SameTables (with_held s (records_of t (tries s core call))) t =
    put_is (tries s core call) s t (as_long s t whole (stays s core call digest k whole) shape) (same_but s t core (tries s core call) (changes s core call digest k)) in
    state_of_parts t _ _ _ _ _ _ _ (sym shape) same.regions same.enclaves same.threads same.flushed
    (sym (modes_after s core call digest k) ∙ ap (λ (x : State). x.modes) (sym left))
    (sym (items_are s core call digest k) ∙ ap (λ (x : State). x.loaded) (sym left))

-- records that are put back leave the room for items
pub room_held : (s : State) (h : Held) (call : Call) → HasRoomFor s call → HasRoomFor (with_held s h) call
room_held s h (calls.LoadTable e va level page) room = room
room_held s h (calls.LoadPage e va page src perms) room = room
room_held s h (calls.Reserve e va page perms) room = room
room_held s h _ room = tt
