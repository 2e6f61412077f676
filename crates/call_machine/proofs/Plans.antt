-- The records that a call holds are those of the state that it rebuilds, and its locks those of that state's plan.
use Rattle.std.proofs.Common.{◌≡◌, ◌∙◌, ◌+◌, ◌<◌, ◌≤◌, ℕ, true, false, cond, Some, List, [], ◌∷◌, ◌++◌, length, drop, ap, sym, refl, subst, arith, add-zero}
use Rattle.std.specs.Prelude.{slice_get}
use Rattle.std.specs.List.{AllByRecursion}
use Rattle.std.proofs.Math.Path.{fun_ext}
use Rattle.std.proofs.Math.Seq.{drop-append_seam, drop-append-add, drop-length}
use Rattle.std.proofs.lemmas.Bool.{ne_eqb}
use Rattle.std.proofs.lemmas.List.FromFn.{get_or-map-range_with_len}
use Rattle.mon_types.specs.Shape.{Shape, is_shape}
use Rattle.mon_types.specs.Objects.{width, object_number}
use Rattle.mon_types.specs.Enclaves.{empty_enclave}
use Rattle.mon_types.specs.Threads.{empty_thread}
use Rattle.mon_types.specs.declared.region.Region.TheVariants as regions
use Rattle.mon_types.specs.declared.thread.Mode.{Mode}
use Rattle.mon_types.specs.declared.call.Call.{Call}
use Rattle.mon_types.specs.declared.object.ObjectId.{ObjectId}
use Rattle.mon_types.specs.declared.object.ObjectId.TheVariants as objects
use Rattle.mon_model.specs.State.{State, region_at, enclave_at, thread_at, flushed_at, mode_of}
use Rattle.mon_model.specs.Tries.{tries}
use Rattle.lock_plan.specs.declared.held.Held.{Held}
use Rattle.lock_plan.specs.Objects.{HasObject, IsCaller}
use Rattle.lock_plan.specs.Records.{records_of, and_records, with_record, nothing_held, HoldsFront}
use Rattle.lock_plan.specs.EveryPlan.{first_settles, one_more}
use Rattle.lock_plan.proofs.Order.{Rises, every_rises}
use Rattle.mon_records.specs.Rows.{Found, objects_of, same_object, words_of}
use Rattle.mon_records.specs.Rebuilt.{found_region, found_enclave, found_thread, found_cell, state_of}
use Rattle.mon_records.proofs.RebuiltStates.{same_object-refl, known_mode, known_shape, nothing_found}
use Rattle.protocol.specs.declared.action.Action.TheVariants as actions
use Rattle.protocol.specs.declared.action.Outcome.{Outcome}
use Rattle.protocol.specs.declared.action.Outcome.TheVariants as outcomes
use Rattle.protocol.specs.CallTree.{Tree, Makes, Issuer, onto, reads, after_try, lock, lock_all, lock_plan, plan_of, behind_first, decided}
use Rattle.call_machine.specs.Found.{with_row}
use Rattle.call_machine.specs.Meaning.{goes_on}
use Rattle.call_machine.proofs.Found.{onto_length}

-- ---- objects of a plan differ

differ : (o x : ObjectId) → object_number x < object_number o → same_object o x ≡ false
unfolding same_object
differ (objects.Enclave a) (objects.Enclave b) h = ne_eqb a b (λ e. absurd (omega (arith, h, e)))
differ (objects.Thread a) (objects.Thread b) h = ne_eqb a b (λ e. absurd (omega (arith, h, e)))
differ (objects.Region a) (objects.Region b) h = ne_eqb a b (λ e. absurd (omega (arith, h, e)))
differ (objects.Cell a) (objects.Cell b) h = ne_eqb a b (λ e. absurd (omega (arith, h, e)))
differ _ _ h = refl

-- an object of the machine that is not this one
pub record IsOther (m : Shape) (o x : ObjectId) : Type 0 where
  pub there : HasObject m x
  pub other : same_object o x ≡ false

behind : (m : Shape) (lo hi : ℕ) (front : List ObjectId) (o : ObjectId) (rest : List ObjectId) → Rises m lo hi (front ++ o ∷ rest) → HasObject m o × (lo ≤ object_number o)
behind m lo hi [] o rest h = (h.0, h.1)
behind m lo hi (x ∷ front) o rest h = let k = behind m (object_number x + 1) hi front o rest h.2 in (k.0, omega (arith, h.1, k.1))

pub others : (m : Shape) (lo hi : ℕ) (front : List ObjectId) (o : ObjectId) (rest : List ObjectId) → Rises m lo hi (front ++ o ∷ rest) → AllByRecursion (IsOther m o) front
others m lo hi [] o rest h = tt
others m lo hi (x ∷ front) o rest h =
    let k = behind m (object_number x + 1) hi front o rest h.2 in
    (record { there = h.0; other = differ o x (omega (arith, k.1)) }, others m (object_number x + 1) hi front o rest h.2)

-- ---- the state that is rebuilt, with one more object

module _ (m : Shape) (mode : Mode) (found : Found) (o : ObjectId) (words : List ℕ) where
  abbrev more : State
  more = state_of m mode ((o, words) ∷ found)

  words_here : words_of ((o, words) ∷ found) o ≡ words
  unfolding words_of
  words_here = ap (λ b. cond b words (words_of found o)) (same_object-refl o)

  words_other : (x : ObjectId) → same_object o x ≡ false → words_of ((o, words) ∷ found) x ≡ words_of found x
  unfolding words_of
  words_other x e = ap (λ b. cond b words (words_of found x)) e

  record_here : HasObject m o → (h : Held) → with_row m o words h ≡ with_record more o h
  unfolding with_row state_of
  record_here there h = row_is o there words_here
    where
      row_is : (p : ObjectId) → HasObject m p → words_of ((o, words) ∷ found) p ≡ words → with_row m p words h ≡ with_record more p h
      row_is (objects.Enclave e) l w =
          let is = get_or-map-range_with_len (found_enclave m ((o, words) ∷ found)) 0 8 e e empty_enclave l (omega arith) in rw (is, w) refl
      row_is (objects.Thread t) l w =
          let is = get_or-map-range_with_len (found_thread ((o, words) ∷ found)) 0 16 t t empty_thread l (omega arith) in rw (is, w) refl
      row_is (objects.Region r) l w =
          let is = get_or-map-range_with_len (found_region ((o, words) ∷ found)) 0 m.regions r r regions.Free l (omega arith) in rw (is, w) refl
      row_is (objects.Cell c) l w =
          let is = get_or-map-range_with_len (found_cell ((o, words) ∷ found)) 0 m.cores c c 0 l (omega arith) in rw (is, w) refl

  -- the records of other objects stay
  record_other : (x : ObjectId) → IsOther m o x → (h : Held) → and_records more x h ≡ and_records (state_of m mode found) x h
  unfolding state_of
  record_other (objects.Enclave e) k h =
      let w = words_other (objects.Enclave e) k.other in
      ap (λ x. record h { enclaves = record { items = (e, x) ∷ h.enclaves.items } }) (read_enclave e k.there w)
    where
      read_enclave : (e : ℕ) → e < 8 → words_of ((o, words) ∷ found) (objects.Enclave e) ≡ words_of found (objects.Enclave e) → enclave_at more e ≡ enclave_at (state_of m mode found) e
      read_enclave e l w =
          get_or-map-range_with_len (found_enclave m ((o, words) ∷ found)) 0 8 e e empty_enclave l (omega arith)
          ∙ rw w refl ∙ sym (get_or-map-range_with_len (found_enclave m found) 0 8 e e empty_enclave l (omega arith))
  record_other (objects.Thread t) k h =
      let w = words_other (objects.Thread t) k.other in
      ap (λ x. record h { threads = record { items = (t, x) ∷ h.threads.items } }) (read_thread t k.there w)
    where
      read_thread : (e : ℕ) → e < 16 → words_of ((o, words) ∷ found) (objects.Thread e) ≡ words_of found (objects.Thread e) → thread_at more e ≡ thread_at (state_of m mode found) e
      read_thread e l w =
          get_or-map-range_with_len (found_thread ((o, words) ∷ found)) 0 16 e e empty_thread l (omega arith)
          ∙ rw w refl ∙ sym (get_or-map-range_with_len (found_thread found) 0 16 e e empty_thread l (omega arith))
  record_other (objects.Region r) k h =
      let w = words_other (objects.Region r) k.other in
      ap (λ x. record h { regions = record { items = (r, x) ∷ h.regions.items } }) (read_region r k.there w)
    where
      read_region : (e : ℕ) → e < m.regions → words_of ((o, words) ∷ found) (objects.Region e) ≡ words_of found (objects.Region e) → region_at more e ≡ region_at (state_of m mode found) e
      read_region e l w =
          get_or-map-range_with_len (found_region ((o, words) ∷ found)) 0 m.regions e e regions.Free l (omega arith)
          ∙ rw w refl ∙ sym (get_or-map-range_with_len (found_region found) 0 m.regions e e regions.Free l (omega arith))
  record_other (objects.Cell c) k h =
      let w = words_other (objects.Cell c) k.other in
      ap (λ x. record h { cells = record { items = (c, x) ∷ h.cells.items } }) (read_cell c k.there w)
    where
      read_cell : (e : ℕ) → e < m.cores → words_of ((o, words) ∷ found) (objects.Cell e) ≡ words_of found (objects.Cell e) → flushed_at more e ≡ flushed_at (state_of m mode found) e
      read_cell e l w =
          get_or-map-range_with_len (found_cell ((o, words) ∷ found)) 0 m.cores e e 0 l (omega arith)
          ∙ rw w refl ∙ sym (get_or-map-range_with_len (found_cell found) 0 m.cores e e 0 l (omega arith))

  records_others : (front : List ObjectId) → AllByRecursion (IsOther m o) front → records_of more front ≡ records_of (state_of m mode found) front
  records_others [] k = refl
  records_others (x ∷ xs) k =
      record_other x k.0 (records_of more xs) ∙ ap (and_records (state_of m mode found) x) (records_others xs k.1)

-- ---- the plan, with one more object

begins_with : (xs : List ObjectId) (x : ObjectId) → slice_get xs 0 ≡ Some x → (rest : List ObjectId) × (xs ≡ x ∷ rest)
begins_with [] x e = absurd (cc)
begins_with (y ∷ ys) x e = (ys, cc)

-- where the core is one of the machine
module _ (m : Shape) (core : ℕ) (mode : Mode) (call : Call) (valid : is_shape m ≡ true) (caller : IsCaller m core mode) where
  -- what the call tries by what it has found
  abbrev planned_by : Found → List ObjectId
  planned_by found = tries (state_of m mode found) core call

  caller_known : (found : Found) → IsCaller (state_of m mode found).shape core (mode_of (state_of m mode found) core)
  caller_known found =
      subst (λ z. IsCaller z core (mode_of (state_of m mode found) core)) (sym (known_shape m mode found))
      (subst (λ z. IsCaller m core z) (sym (known_mode m core mode found caller.there)) caller)

  rises_known : (found : Found) → Rises m 0 144 (planned_by found)
  rises_known found =
      let s = state_of m mode found in
      subst (λ z. Rises z 0 144 (planned_by found)) (known_shape m mode found)
      (every_rises s core call (ap is_shape (known_shape m mode found) ∙ valid) (caller_known found))

  pub front_others : (found : Found) (front : List ObjectId) (o : ObjectId) (rest : List ObjectId) → planned_by found ≡ front ++ o ∷ rest → AllByRecursion (IsOther m o) front
  front_others found front o rest e = others m 0 144 front o rest (subst (Rises m 0 144) e (rises_known found))

  pub object_there : (found : Found) (front : List ObjectId) (o : ObjectId) (rest : List ObjectId) → planned_by found ≡ front ++ o ∷ rest → HasObject m o
  object_there found front o rest e = (behind m 0 144 front o rest (subst (Rises m 0 144) e (rises_known found))).0

  -- the first object is the same, whatever stands in its row
  first_stays : (o : ObjectId) (rest : List ObjectId) (words : List ℕ) → planned_by [] ≡ o ∷ rest → (more : List ObjectId) × (planned_by ((o, words) ∷ []) ≡ o ∷ more)
  first_stays o rest words e =
      let t = state_of m mode ((o, words) ∷ []) in
      let begin = nothing_found t core call (caller_known ((o, words) ∷ [])) in
      let same : state_of t.shape (mode_of t core) [] ≡ state_of m mode [] =
      ap (λ z. state_of z (mode_of t core) []) (known_shape m mode ((o, words) ∷ [])) ∙ ap (λ z. state_of m z []) (known_mode m core mode ((o, words) ∷ []) caller.there) in
      begins_with (planned_by ((o, words) ∷ [])) o
      (sym begin ∙ ap (λ z. slice_get (tries z core call) 0) same ∙ ap (λ l. slice_get l 0) e)

  -- and once it was read the plan stays
  pub plan_stays : (found : Found) (x : ObjectId) (front : List ObjectId) (o : ObjectId) (rest : List ObjectId) (words : List ℕ) → planned_by found ≡ x ∷ (front ++ o ∷ rest) → planned_by ((o, words) ∷ found) ≡ planned_by found
  plan_stays found x front o rest words e =
      let s = state_of m mode found in
      let t = state_of m mode ((o, words) ∷ found) in
      let k = front_others found (x ∷ front) o rest e in
      first_settles s t core call x (front ++ o ∷ rest)
      (known_shape m mode ((o, words) ∷ found) ∙ sym (known_shape m mode found))
      (known_mode m core mode ((o, words) ∷ found) caller.there ∙ sym (known_mode m core mode found caller.there)) e
      (record_other m mode found o words x k.0 nothing_held)

  -- one more object is held
  pub holds_more : (found : Found) (held : Held) (front : List ObjectId) (o : ObjectId) (rest : List ObjectId) (words : List ℕ) → HoldsFront (state_of m mode found) core call held front (o ∷ rest)
      → (found ≡ [] → front ≡ []) → (front ≡ [] → found ≡ [])
      → (more : List ObjectId) × HoldsFront (state_of m mode ((o, words) ∷ found)) core call (with_row m o words held) (front ++ o ∷ []) more
  holds_more found held front o rest words h empty none =
      let t = state_of m mode ((o, words) ∷ found) in
      let there = object_there found front o rest h.plan in
      let k = front_others found front o rest h.plan in
      let plan : (more : List ObjectId) × (tries t core call ≡ front ++ o ∷ more) = still front none h.plan in
      let old : HoldsFront t core call held front (o ∷ plan.0) = record {
        plan = plan.1;
        records = h.records ∙ sym (records_others m mode found o words front k);
      } in (
        plan.0,
        subst (λ z. HoldsFront t core call z (front ++ o ∷ []) plan.0) (sym (record_here m mode found o words there held))
            (one_more t core call held front o plan.0 old),
      )
    where
      still : (front : List ObjectId) → (front ≡ [] → found ≡ []) → planned_by found ≡ front ++ o ∷ rest → (more : List ObjectId) × (planned_by ((o, words) ∷ found) ≡ front ++ o ∷ more)
      still [] none e =
          let f = none refl in
          let first = first_stays o rest words (ap planned_by (sym f) ∙ e) in
          (first.0, ap (λ z. planned_by ((o, words) ∷ z)) f ∙ first.1)
      still (x ∷ xs) none e = (rest, plan_stays found x xs o rest words e ∙ e)

-- ---- trees

lock_ext : (by : Issuer) (call : Call) (found : Found) (o : ObjectId) (k l : Found → Tree) → ((words : List ℕ) → k ((o, words) ∷ found) ≡ l ((o, words) ∷ found)) → lock by call found o k ≡ lock by call found o l
unfolding lock after_try
lock_ext by call found o k l h = ap (Makes (actions.TryLock o)) (fun_ext each)
  where
    each : (outcome : Outcome) → after_try by call found o k outcome ≡ after_try by call found o l outcome
    each outcomes.Taken = ap (reads o (width o) 0) (fun_ext h)
    each (outcomes.HeldBy holder serial) = refl
    each (outcomes.Word word) = refl
    each (outcomes.Ticket ticket) = refl
    each outcomes.Done = refl
    each (outcomes.Again loaded word) = refl

first_dropped : (xs : List ObjectId) → behind_first xs ≡ drop 1 xs
first_dropped [] = refl
first_dropped (x ∷ xs) = refl

-- the objects that were found, in order, are those in front
front_long : (found : Found) (front : List ObjectId) → objects_of found ≡ onto front [] → length (objects_of found) ≡ length front
front_long found front e = ap (λ l. length l) e ∙ onto_length front [] ∙ add-zero (length front)

pub none_front : (front : List ObjectId) → [] ≡ onto front [] → front ≡ []
none_front [] e = refl
none_front (x ∷ xs) e = absurd (omega (arith, ap (λ (l : List ObjectId). length l) e, onto_length (x ∷ xs) []))

module _ (m : Shape) (by : Issuer) (call : Call) (valid : is_shape m ≡ true) (caller : IsCaller m by.core by.mode) where
  -- at the begin
  begins_next : (o : ObjectId) (rest : List ObjectId) → plan_of m by call [] ≡ o ∷ rest → goes_on m by call [] ≡ lock by call [] o (goes_on m by call)
  unfolding goes_on lock_plan objects_of
  begins_next o rest e =
      ap (λ l. lock_plan m by call l (decided m by call)) e
      ∙ lock_ext by call [] o _ (goes_on m by call)
      (λ words. ap (λ l. lock_all by call l ((o, words) ∷ []) (decided m by call)) (first_dropped (plan_of m by call ((o, words) ∷ []))))

  -- later
  later_next : (p : ObjectId × List ℕ) (ps : Found) (x : ObjectId) (front : List ObjectId) (o : ObjectId) (rest : List ObjectId) → length (objects_of (p ∷ ps)) ≡ length (x ∷ front) → plan_of m by call (p ∷ ps) ≡ x ∷ (front ++ o ∷ rest)
      → goes_on m by call (p ∷ ps) ≡ lock by call (p ∷ ps) o (goes_on m by call)
  unfolding goes_on lock_all objects_of
  later_next p ps x front o rest long e =
      let found : Found = p ∷ ps in
      ap (λ n. lock_all by call (drop n (plan_of m by call found)) found (decided m by call)) long
      ∙ ap (λ l. lock_all by call (drop (length (x ∷ front)) l) found (decided m by call)) e
      ∙ ap (λ l. lock_all by call l found (decided m by call)) (drop-append_seam (x ∷ front) (o ∷ rest))
      ∙ lock_ext by call found o _ (goes_on m by call) (λ words.
      let now : plan_of m by call ((o, words) ∷ found) ≡ x ∷ (front ++ o ∷ rest) = plan_stays m by.core by.mode call valid caller found x front o rest words e ∙ e in
      let many : length (objects_of ((o, words) ∷ found)) ≡ length (x ∷ front) + 1 = omega (arith, long) in
      ap (λ l. lock_all by call l ((o, words) ∷ found) (decided m by call))
      (sym (drop-append-add (x ∷ front) (o ∷ rest) 1) ∙ ap (λ n. drop n (x ∷ (front ++ o ∷ rest))) (sym many) ∙ ap (λ l. drop (length (objects_of ((o, words) ∷ found))) l) (sym now)))

  pub goes_next : (found : Found) (front : List ObjectId) (o : ObjectId) (rest : List ObjectId) → objects_of found ≡ onto front [] → plan_of m by call found ≡ front ++ o ∷ rest → goes_on m by call found ≡ lock by call found o (goes_on m by call)
  unfolding objects_of
  goes_next [] front o rest objs e = begins_next o rest (e ∙ ap (λ l. l ++ o ∷ rest) (none_front front objs))
  goes_next (p ∷ ps) [] o rest objs e = absurd (omega (arith, front_long (p ∷ ps) [] objs))
  goes_next (p ∷ ps) (x ∷ front) o rest objs e = later_next p ps x front o rest (front_long (p ∷ ps) (x ∷ front) objs) e

  -- all is held
  pub goes_end : (found : Found) (front : List ObjectId) → objects_of found ≡ onto front [] → plan_of m by call found ≡ front → goes_on m by call found ≡ decided m by call found
  unfolding goes_on lock_all lock_plan objects_of
  goes_end [] front objs e = ap (λ l. lock_plan m by call l (decided m by call)) (e ∙ none_front front objs)
  goes_end (p ∷ ps) front objs e =
      ap (λ n. lock_all by call (drop n (plan_of m by call (p ∷ ps))) (p ∷ ps) (decided m by call)) (front_long (p ∷ ps) front objs)
      ∙ ap (λ l. lock_all by call (drop (length front) l) (p ∷ ps) (decided m by call)) e
      ∙ ap (λ l. lock_all by call l (p ∷ ps) (decided m by call)) (drop-length front)
