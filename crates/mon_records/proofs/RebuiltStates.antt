-- The state rebuilt from the words that a call has read, against every state that has these rows.
use Rattle.std.proofs.Common.{◌≡◌, inl, inr, ◌<◌, ◌^◌, ◌∙◌, ℕ, true, false, cond, Option, Some, None, List, [], ◌∷◌, ◌++◌, length, ap, sym, refl, subst, arith}
use Rattle.std.specs.Prelude.{slice_get}
use Rattle.std.specs.List.{Contains}
use Rattle.std.proofs.lemmas.Bool.{eqb-true, eq-eqb, cases_Bool}
use Rattle.std.proofs.lemmas.List.{get_or-replicate, length-replicate}
use Rattle.std.proofs.lemmas.List.FromFn.{length-map-range_with_len, get_or-map-range_with_len}
use Rattle.mon_types.specs.Shape.{Shape}
use Rattle.mon_types.specs.Owns.{region_row, region_from}
use Rattle.mon_types.specs.Enclaves.{empty_enclave, enclave_row, enclave_from, enclave_within}
use Rattle.mon_types.specs.Threads.{empty_thread, thread_row, thread_from}
use Rattle.mon_types.specs.Cells.{cell_row, cell_from}
use Rattle.mon_types.specs.Objects.{width}
use Rattle.mon_types.specs.Modes.{own_slot, own_thread}
use Rattle.mon_types.proofs.Rows.{fitting_is}
use Rattle.mon_types.proofs.RegionRows.{region_back}
use Rattle.mon_types.proofs.EnclaveRows.{enclave_back, enclave_long}
use Rattle.mon_types.proofs.ThreadRows.{thread_back}
use Rattle.mon_types.specs.declared.region.Region.{Region}
use Rattle.mon_types.specs.declared.region.Region.TheVariants as regions
use Rattle.mon_types.specs.declared.thread.Mode.{Mode}
use Rattle.mon_types.specs.declared.thread.Mode.TheVariants as modes
use Rattle.mon_types.specs.declared.call.Call.{Call}
use Rattle.mon_types.specs.declared.call.Call.TheVariants as calls
use Rattle.mon_types.specs.declared.reply.Reply.{Reply}
use Rattle.mon_types.specs.declared.enclave.Loaded.{Loaded}
use Rattle.mon_types.specs.declared.object.ObjectId.{ObjectId}
use Rattle.mon_types.specs.declared.object.ObjectId.TheVariants as objects
use Rattle.mon_model.specs.State.{State, IsWhole, region_at, enclave_at, thread_at, flushed_at, mode_of}
use Rattle.mon_model.specs.Early.{early}
use Rattle.mon_model.specs.Step.{changed, reply_of, after}
use Rattle.mon_model.specs.Tries.{tries, held_tries, unless_refused, own_enclave, free_tries, send_tries}
use Rattle.mon_model.specs.Laws.{AgreeOn, SameCall}
use Rattle.mon_model.proofs.Agree.{reads}
use Rattle.lock_plan.specs.Objects.{HasObject, AreInOrder, IsCaller}
use Rattle.lock_plan.specs.Records.{records_of}
use Rattle.lock_plan.specs.EveryPlan.{first_settles}
use Rattle.lock_plan.proofs.Order.{tries_ascend}
use Rattle.mon_records.specs.Rows.{Found, row_words, objects_of, same_object, words_of}
use Rattle.mon_records.specs.Rebuilt.{found_region, found_enclave, found_thread, found_cell, state_of}
use Rattle.mon_records.specs.WithoutItems.{IsDecidedByRecords}
use Rattle.mon_records.specs.RebuiltLaws.{IsReadable, AreRowsOf, HasFound, rebuilt}
use Rattle.mon_records.specs.Members.{In}
use Rattle.mon_records.proofs.Members.{contains_in, in_contains}
use Rattle.mon_records.proofs.Items.{same_reply, same_rows, with_items, other_items, with_items_tries, with_items_change}

-- ---- the words that were found

pub same_object-true : (a b : ObjectId) → same_object a b ≡ true → a ≡ b
unfolding same_object
same_object-true (objects.Enclave a) (objects.Enclave b) e = ap (λ x. objects.Enclave x) (eqb-true a b e)
same_object-true (objects.Thread a) (objects.Thread b) e = ap (λ x. objects.Thread x) (eqb-true a b e)
same_object-true (objects.Region a) (objects.Region b) e = ap (λ x. objects.Region x) (eqb-true a b e)
same_object-true (objects.Cell a) (objects.Cell b) e = ap (λ x. objects.Cell x) (eqb-true a b e)
same_object-true _ _ e = absurd (cc)

pub same_object-refl : (a : ObjectId) → same_object a a ≡ true
unfolding same_object
same_object-refl (objects.Enclave a) = eq-eqb a a refl
same_object-refl (objects.Thread a) = eq-eqb a a refl
same_object-refl (objects.Region a) = eq-eqb a a refl
same_object-refl (objects.Cell a) = eq-eqb a a refl

pub words_known : (found : Found) (s : State) (o : ObjectId) → AreRowsOf s found → In o (objects_of found) → words_of found o ≡ row_words s o
unfolding words_of objects_of
words_known [] s o rows h = absurd h
words_known (p ∷ ps) s o rows h = elim (cases_Bool (same_object p.0 o)) [
  | inl e ↦ ap (λ b. cond b p.1 (words_of ps o)) e ∙ rows.0 ∙ ap (row_words s) (same_object-true p.0 o e)
  | inr e ↦ ap (λ b. cond b p.1 (words_of ps o)) e ∙ words_known ps s o rows.1 (elim h [
    | inl f ↦ absurd (clash (sym e ∙ ap (same_object p.0) f ∙ same_object-refl p.0))
    | inr g ↦ g
  ])
]
  where
    clash : false ≡ true → ⊥
    clash e = cc

-- ---- the rebuilt records

module _ (s : State) (core : ℕ) (found : Found) (can : IsReadable s) (rows : AreRowsOf s found) where
  pub region_known : (r : ℕ) → In (objects.Region r) (objects_of found) → r < s.shape.regions → region_at (rebuilt s core found) r ≡ region_at s r
  unfolding state_of row_words
  region_known r h l =
      get_or-map-range_with_len (found_region found) 0 s.shape.regions r r regions.Free l (omega arith)
      ∙ ap region_from (words_known found s (objects.Region r) rows h) ∙ region_back (region_at s r) (can.ranges.region r)

  pub enclave_known : (e : ℕ) → In (objects.Enclave e) (objects_of found) → e < 8 → enclave_at (rebuilt s core found) e ≡ enclave_at s e
  unfolding state_of row_words
  enclave_known e h l =
      get_or-map-range_with_len (found_enclave s.shape found) 0 8 e e empty_enclave l (omega arith)
      ∙ ap (λ ws. enclave_within s.shape (enclave_from ws)) (words_known found s (objects.Enclave e) rows h)
      ∙ ap (enclave_within s.shape) (enclave_back (enclave_at s e) (can.ranges.enclave e)) ∙ can.within e

  thread_known : (t : ℕ) → In (objects.Thread t) (objects_of found) → t < 16 → thread_at (rebuilt s core found) t ≡ thread_at s t
  unfolding state_of row_words
  thread_known t h l =
      get_or-map-range_with_len (found_thread found) 0 16 t t empty_thread l (omega arith)
      ∙ ap thread_from (words_known found s (objects.Thread t) rows h) ∙ thread_back (thread_at s t) (can.ranges.thread t)

  cell_known : (c : ℕ) → In (objects.Cell c) (objects_of found) → c < s.shape.cores → flushed_at (rebuilt s core found) c ≡ flushed_at s c
  unfolding state_of row_words cell_from
  cell_known c h l =
      get_or-map-range_with_len (found_cell found) 0 s.shape.cores c c 0 l (omega arith)
      ∙ ap cell_from (words_known found s (objects.Cell c) rows h) ∙ fitting_is (2 ^ 32) (flushed_at s c) (can.ranges.cell c)

pub known_whole : (m : Shape) (mode : Mode) (found : Found) → IsWhole (state_of m mode found)
unfolding state_of
known_whole m mode found = record {
  regions = length-map-range_with_len (found_region found) 0 m.regions;
  enclaves = length-map-range_with_len (found_enclave m found) 0 8;
  threads = length-map-range_with_len (found_thread found) 0 16;
  flushed = length-map-range_with_len (found_cell found) 0 m.cores;
  modes = length-replicate m.cores mode;
  loaded = refl;
}

pub known_mode : (m : Shape) (core : ℕ) (mode : Mode) (found : Found) → core < m.cores → mode_of (state_of m mode found) core ≡ mode
unfolding state_of
known_mode m core mode found l = get_or-replicate m.cores core mode modes.Os l

pub known_shape : (m : Shape) (mode : Mode) (found : Found) → (state_of m mode found).shape ≡ m
unfolding state_of
known_shape m mode found = refl

-- ---- the whole call

-- an object that is tried is there
there : (m : Shape) (tried : List ObjectId) → AreInOrder m tried → (o : ObjectId) → Contains tried o → HasObject m o
there m tried h o c = subst (HasObject m) (c.2) (h.there c.0 o c.1)

-- the rebuilt state with the items of the state that has the rows
full_agrees : (s : State) (core : ℕ) (call : Call) (found : Found) → IsReadable s → HasFound s core call found → AgreeOn s (with_items (rebuilt s core found) s.loaded) core (tries s core call)
unfolding with_items
full_agrees s core call found can h =
    let tried = tries s core call in
    let order = tries_ascend s core call can.machine h.caller in
    let got : (o : ObjectId) → Contains tried o → In o (objects_of found) = λ o c. contains_in (objects_of found) o (h.all o c) in
    record {
      shape = known_shape s.shape (mode_of s core) found;
      region = λ r c. region_known s core found can h.rows r (got _ c) (there s.shape tried order _ c);
      enclave = λ e c. enclave_known s core found can h.rows e (got _ c) (there s.shape tried order _ c);
      items = λ e c. refl;
      thread = λ t c. thread_known s core found can h.rows t (got _ c) (there s.shape tried order _ c);
      cell = λ i c. cell_known s core found can h.rows i (got _ c) (there s.shape tried order _ c);
      mode = known_mode s.shape core (mode_of s core) found h.caller.there;
    }

full_whole : (s built : State) → IsWhole s → IsWhole built → IsWhole (with_items built s.loaded)
unfolding with_items
full_whole s built h k = record { regions = k.regions; enclaves = k.enclaves; threads = k.threads; flushed = k.flushed; modes = k.modes; loaded = h.loaded }

same_call : (s : State) (core : ℕ) (call : Call) (found : Found) (digest : List ℕ) (k : ℕ) → IsReadable s → HasFound s core call found → SameCall s (with_items (rebuilt s core found) s.loaded) core call digest k
same_call s core call found digest k can h =
    reads s (with_items (rebuilt s core found) s.loaded) core call digest k can.whole
    (full_whole s (rebuilt s core found) can.whole (known_whole s.shape (mode_of s core) found)) (full_agrees s core call found can h)

with_items_reply : (s : State) (core : ℕ) (call : Call) (items : List (List Loaded)) → IsDecidedByRecords call → reply_of (with_items s items) core call ≡ reply_of s core call
with_items_reply s core call items h =
    sym (same_reply (with_items s items) core call h) ∙ ap (λ z. reply_of z core call) (other_items s items) ∙ same_reply s core call h

pub rebuilt_answers : (s : State) (core : ℕ) (call : Call) (found : Found) → IsReadable s → HasFound s core call found → IsDecidedByRecords call → reply_of (rebuilt s core found) core call ≡ reply_of s core call
rebuilt_answers s core call found can h d =
    sym (with_items_reply (rebuilt s core found) core call s.loaded d) ∙ (same_call s core call found [] 0 can h).reply

pub rebuilt_tries : (s : State) (core : ℕ) (call : Call) (found : Found) → IsReadable s → HasFound s core call found → tries (rebuilt s core found) core call ≡ tries s core call
rebuilt_tries s core call found can h =
    sym (with_items_tries (rebuilt s core found) s.loaded core call) ∙ (same_call s core call found [] 0 can h).objects

pub agreed_row : (s t : State) (core : ℕ) (tried : List ObjectId) → AgreeOn s t core tried → (o : ObjectId) → Contains tried o → row_words t o ≡ row_words s o
unfolding row_words
agreed_row s t core tried h (objects.Enclave e) m = ap enclave_row (h.enclave e m)
agreed_row s t core tried h (objects.Thread i) m = ap thread_row (h.thread i m)
agreed_row s t core tried h (objects.Region r) m = ap region_row (h.region r m)
agreed_row s t core tried h (objects.Cell c) m = ap cell_row (h.cell c m)

pub found_stays : (s t : State) (core : ℕ) (tried : List ObjectId) (found : Found) → AgreeOn s t core tried → ((o : ObjectId) → Contains (objects_of found) o → Contains tried o) → AreRowsOf s found → AreRowsOf t found
unfolding objects_of
found_stays s t core tried [] agree sub rows = tt
found_stays s t core tried (p ∷ ps) agree sub rows =
    let first : Contains tried p.0 = sub p.0 (in_contains (objects_of (p ∷ ps)) p.0 (inl refl)) in (
      rows.0 ∙ sym (agreed_row s t core tried agree p.0 first),
      found_stays s t core tried ps agree (λ o m. sub o (in_contains (objects_of (p ∷ ps)) o (inr (contains_in (objects_of ps) o m)))) rows.1,
    )

pub rebuilt_changes : (s : State) (core : ℕ) (call : Call) (found : Found) (digest : List ℕ) (k : ℕ) (o : ObjectId) → IsReadable s → HasFound s core call found → Contains (tries s core call) o → row_words (changed (reply_of s core call) (rebuilt s core found) core call digest k) o ≡ row_words (after s core call digest k) o
rebuilt_changes s core call found digest k o can h m =
    let reply = reply_of s core call in
    let known = rebuilt s core found in
    let full = with_items known s.loaded in
    let same = same_call s core call found digest k can h in
    sym (same_rows (changed reply known core call digest k) o)
    ∙ ap (λ x. row_words x o) (sym (with_items_change reply known s.loaded core call digest k))
    ∙ same_rows (changed reply full core call digest k) o
    ∙ ap (λ r. row_words (changed r full core call digest k) o) (sym same.reply)
    ∙ agreed_row _ _ core _ same.records o m

-- ---- the plan

free_first : (cores r : ℕ) (region : Region) → slice_get (free_tries cores r region) 0 ≡ Some (objects.Region r)
free_first cores r regions.Free = refl
free_first cores r (regions.Owned owner since) = refl
free_first cores r (regions.Blocked owner since at) = refl
free_first cores r (regions.Offered to at) = refl

-- the first object depends on the core's mode and the call alone
first_tried : (s t : State) (core : ℕ) (call : Call) → mode_of t core ≡ mode_of s core → slice_get (held_tries t core call) 0 ≡ slice_get (held_tries s core call) 0
first_tried s t core (calls.Block r) m = ap (λ w. slice_get (own_enclave w ++ objects.Region r ∷ []) 0) m
first_tried s t core (calls.Free r) m = free_first t.shape.cores r (region_at t r) ∙ sym (free_first s.shape.cores r (region_at s r))
first_tried s t core calls.Exit m = ap (λ w. slice_get (objects.Thread (own_thread w) ∷ []) 0) m
first_tried s t core (calls.Aex saved) m = ap (λ w. slice_get (objects.Thread (own_thread w) ∷ []) 0) m
first_tried s t core calls.Restore m = ap (λ w. slice_get (objects.Thread (own_thread w) ∷ []) 0) m
first_tried s t core (calls.Accept box from) m = ap (λ w. slice_get (own_enclave w) 0) m
first_tried s t core (calls.Send to box w0 w1 w2 w3) m = ap (λ w. slice_get (send_tries (own_slot w) to) 0) m
first_tried s t core (calls.Read box) m = ap (λ w. slice_get (own_enclave w) 0) m
first_tried s t core (calls.AcceptRegion r) m = ap (λ w. slice_get (own_enclave w ++ objects.Region r ∷ []) 0) m
first_tried s t core _ m = refl

first_unless : (o : Option Reply) (xs ys : List ObjectId) → slice_get xs 0 ≡ slice_get ys 0 → slice_get (unless_refused o xs) 0 ≡ slice_get (unless_refused o ys) 0
first_unless None xs ys e = e
first_unless (Some refusal) xs ys e = refl

pub nothing_found : (s : State) (core : ℕ) (call : Call) → IsCaller s.shape core (mode_of s core) → slice_get (tries (rebuilt s core []) core call) 0 ≡ slice_get (tries s core call) 0
nothing_found s core call caller =
    let known = rebuilt s core [] in
    let mode : mode_of known core ≡ mode_of s core = known_mode s.shape core (mode_of s core) [] caller.there in
    ap (λ m. slice_get (unless_refused (early m (mode_of known core) call) (held_tries known core call)) 0) (known_shape s.shape (mode_of s core) [])
    ∙ ap (λ w. slice_get (unless_refused (early s.shape w call) (held_tries known core call)) 0) mode
    ∙ first_unless (early s.shape (mode_of s core) call) _ _ (first_tried s known core call mode)

record_known : (s : State) (core : ℕ) (found : Found) (x : ObjectId) → IsReadable s → AreRowsOf s found → In x (objects_of found) → HasObject s.shape x → records_of (rebuilt s core found) (x ∷ []) ≡ records_of s (x ∷ [])
record_known s core found (objects.Enclave e) can rows h l = let k = enclave_known s core found can rows e h l in rw k refl
record_known s core found (objects.Thread t) can rows h l = let k = thread_known s core found can rows t h l in rw k refl
record_known s core found (objects.Region r) can rows h l = let k = region_known s core found can rows r h l in rw k refl
record_known s core found (objects.Cell c) can rows h l = let k = cell_known s core found can rows c h l in rw k refl

pub first_found : (s : State) (core : ℕ) (call : Call) (found : Found) (x : ObjectId) (xs : List ObjectId) → IsReadable s → IsCaller s.shape core (mode_of s core) → tries s core call ≡ x ∷ xs → AreRowsOf s found → Contains (objects_of found) x → tries (rebuilt s core found) core call ≡ tries s core call
first_found s core call found x xs can caller plan rows h =
    let order = tries_ascend s core call can.machine caller in
    let is_tried : Contains (tries s core call) x = in_contains (tries s core call) x (subst (In x) (sym plan) (inl refl)) in
    first_settles s (rebuilt s core found) core call x xs
    (known_shape s.shape (mode_of s core) found) (known_mode s.shape core (mode_of s core) found caller.there) plan
    (record_known s core found x can rows (contains_in (objects_of found) x h) (there s.shape (tries s core call) order x is_tried))

-- ---- how long rows are

pub rows_long : (s : State) (o : ObjectId) → IsReadable s → length (row_words s o) ≡ width o
unfolding row_words width
rows_long s (objects.Enclave e) can = enclave_long (enclave_at s e) (can.ranges.enclave e)
rows_long s (objects.Thread t) can = omega (arith, (can.ranges.thread t).saved.many)
rows_long s (objects.Region r) can = refl
rows_long s (objects.Cell c) can = refl
