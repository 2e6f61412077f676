-- Locks are tried and rows are read: what stands after each step.
use Rattle.std.proofs.Common.{◌≡◌, ◌∙◌, ◌+◌, ◌<◌, ◌≤◌, ◌^◌, ℕ, Some, None, IfSome, List, [], ◌∷◌, ◌++◌, length, drop, map, ap, sym, refl, subst, arith, append-nil, append_assoc, length-append, length-drop}
use Rattle.std.specs.Prelude.{slice_get}
use Rattle.std.specs.List.{AllByRecursion}
use Rattle.std.proofs.lemmas.List.{drop-append-le, map-append}
use Rattle.arrayvec.specs.ArrayVec.{ArrayVec}
use Rattle.mon_types.specs.Shape.{is_shape}
use Rattle.mon_types.specs.Objects.{width}
use Rattle.mon_types.specs.declared.object.ObjectId.{ObjectId}
use Rattle.mon_model.specs.State.{State, mode_of}
use Rattle.mon_model.specs.Tries.{tried_set, add_tried}
use Rattle.lock_plan.specs.declared.held.Held.{Held}
use Rattle.lock_plan.specs.Objects.{IsCaller, HasPlace}
use Rattle.lock_plan.specs.Records.{HoldsFront, HasRoom}
use Rattle.lock_plan.specs.EveryPlan.{is_next}
use Rattle.lock_plan.proofs.Room.{leaves_room}
use Rattle.lock_plan.proofs.Sets.{one_more_is_tried}
use Rattle.mon_records.specs.Rows.{objects_of}
use Rattle.mon_records.specs.Rebuilt.{state_of}
use Rattle.mon_records.proofs.RebuiltStates.{known_whole, known_mode, known_shape}
use Rattle.protocol.specs.CallTree.{number_in, onto, lock, decided}
use Rattle.protocol.specs.declared.action.Outcome.{Outcome}
use Rattle.call_machine.proofs.At.{objects_many}
use Rattle.call_machine.specs.declared.phase.Lock.{Lock}
use Rattle.call_machine.specs.declared.work.Work.{Work}
use Rattle.call_machine.specs.Found.{widths, found_with, with_row}
use Rattle.call_machine.specs.Meaning.{issuer, objects_in, found, known, row_part, goes_on}
use Rattle.call_machine.specs.Stands.{IsHolding, IsLocking, IsBetween, IsRowRead, IsLocked}
use Rattle.call_machine.proofs.Found.{objects_found, found_front, found_last, widths_last}
use Rattle.call_machine.proofs.Plans.{goes_next, goes_end, holds_more, none_front}
use Rattle.call_machine.proofs.Reading.{found_read, known_ranges, take_all}
use Rattle.call_machine.proofs.Bounds.{tries_few, widths_append}
use Rattle.call_machine.specs.Count.{most_locks, most_words}

first_of : (xs : List ObjectId) (o : ObjectId) → Some o ≡ slice_get xs 0 → (more : List ObjectId) × (xs ≡ o ∷ more)
first_of [] o e = absurd (cc)
first_of (x ∷ xs) o e = (xs, cc)

none_of : (xs : List ObjectId) → None ≡ slice_get xs 0 → xs ≡ []
none_of [] e = refl
none_of (x ∷ xs) e = absurd (cc)

module _ (w : Work) (b : IsBetween w) where
  holding : IsHolding w (known w) b.others
  holding = b.locking.holding

  objs : objects_of (found w) ≡ onto (objects_in w) []
  unfolding objects_of
  objs = objects_found (objects_in w) w.stood.items []

  known_is : (known w).shape ≡ w.config
  known_is = known_shape w.config w.mode (found w)

  -- the next object
  pub next_first : (o : ObjectId) → Some o ≡ slice_get b.others 0 → (more : List ObjectId) × (b.others ≡ o ∷ more)
  next_first o e = first_of b.others o e

  pub next_place : (o : ObjectId) → Some o ≡ slice_get b.others 0 → HasPlace w.tried o × (add_tried o w.tried ≡ tried_set (objects_in w ++ o ∷ []))
  next_place o e =
      let more = first_of b.others o e in
      let caller : IsCaller (known w).shape w.core (mode_of (known w) w.core) =
      subst (λ z. IsCaller z w.core (mode_of (known w) w.core)) (sym known_is) (subst (λ z. IsCaller w.config w.core z) (sym holding.mode) holding.based.caller) in
      let adds = one_more_is_tried (known w) w.core w.call (objects_in w) o more.0 (ap is_shape known_is ∙ holding.based.valid) caller (holding.front.plan ∙ ap (λ l. objects_in w ++ l) more.1) in (
        subst (λ t. HasPlace t o) (sym b.tried) adds.place,
        ap (add_tried o) b.tried ∙ adds.added,
      )

  pub next_tree : (o : ObjectId) → Some o ≡ slice_get b.others 0 → goes_on w.config (issuer w) w.call (found w) ≡ lock (issuer w) w.call (found w) o (goes_on w.config (issuer w) w.call)
  next_tree o e =
      let more = first_of b.others o e in
      goes_next w.config (issuer w) w.call holding.based.valid holding.based.caller (found w) (objects_in w) o more.0 objs (holding.front.plan ∙ ap (λ l. objects_in w ++ l) more.1)

  -- all is held
  pub end_tree : None ≡ slice_get b.others 0 → goes_on w.config (issuer w) w.call (found w) ≡ decided w.config (issuer w) w.call (found w)
  end_tree e = goes_end w.config (issuer w) w.call holding.based.valid holding.based.caller (found w) (objects_in w) objs (holding.front.plan ∙ ap (λ l. objects_in w ++ l) (none_of b.others e) ∙ append-nil (objects_in w))

  pub end_locked : None ≡ slice_get b.others 0 → IsLocked w
  end_locked e = record {
    locking = subst (λ l. IsLocking w l 0) (none_of b.others e) b.locking;
    tried = b.tried;
  }

-- ---- room

pub locks_few : (w : Work) (others : List ObjectId) (part : ℕ) → IsLocking w others part
    → (length (objects_in w) + length others ≤ most_locks w.call) × (widths (objects_in w) + widths others ≤ most_words w.call)
locks_few w others part l =
    let h = l.holding in
    let few = tries_few (known w) w.core w.call (ap is_shape h.machine ∙ h.based.valid) in
    (omega (arith, few.locks, ap (λ xs. length xs) h.front.plan, length-append (objects_in w) others), omega (arith, few.words, ap widths h.front.plan, widths_append (objects_in w) others))

-- ---- one more word

fits_more : (xs : List ℕ) (x : ℕ) → AllByRecursion (λ y. y < 2 ^ 64) xs → x < 2 ^ 64 → AllByRecursion (λ y. y < 2 ^ 64) (xs ++ x ∷ [])
fits_more [] x h l = (l, tt)
fits_more (y ∷ ys) x h l = (h.0, fits_more ys x h.1 l)

module _ (w : Work) (o : ObjectId) (others : List ObjectId) (part word : ℕ) (l : IsLocking w (o ∷ others) part) (less : word < 2 ^ 64) (stood : ArrayVec ℕ) (is : stood.items ≡ w.stood.items ++ word ∷ []) where
  pub read_found : found_with (objects_in w) stood.items [] ≡ found w
  read_found = ap (λ ws. found_with (objects_in w) ws []) is ∙ found_front (objects_in w) w.stood.items (word ∷ []) [] (omega (arith, l.long))

  pub read_part : drop (widths (objects_in w)) stood.items ≡ row_part w ++ word ∷ []
  read_part = ap (drop (widths (objects_in w))) is ∙ drop-append-le (widths (objects_in w)) w.stood.items (word ∷ []) (omega (arith, l.long))

  pub read_locking : IsLocking (record w { stood = stood }) (o ∷ others) (part + 1)
  read_locking =
      let h = l.holding in
      let same : state_of w.config w.mode (found_with (objects_in w) stood.items []) ≡ known w = ap (state_of w.config w.mode) read_found in
      record {
        holding = subst (λ s. IsHolding (record w { stood = stood }) s (o ∷ others)) (sym same) (record { based = record { valid = h.based.valid; caller = h.based.caller; is_call = h.based.is_call; few = h.based.few }; early = h.early; machine = h.machine; mode = h.mode; whole = h.whole; ranges = h.ranges; front = h.front });
        long = omega (arith, ap (λ ws. length ws) is, length-append w.stood.items (word ∷ []), l.long);
        fit = subst (AllByRecursion (λ x. x < 2 ^ 64)) (sym is) (fits_more w.stood.items word l.fit less);
        input = l.input;
        ends = l.ends;
        page = l.page;
      }

  -- it is the next word of the row
  pub read_tree : (outcome : Outcome) → word ≡ number_in outcome → (words : List ℕ)
      → goes_on w.config (issuer w) w.call ((o, drop (widths (objects_in w)) stood.items ++ words) ∷ found_with (objects_in w) stood.items [])
      ≡ goes_on w.config (issuer w) w.call ((o, row_part w ++ number_in outcome ∷ words) ∷ found w)
  read_tree outcome e words =
      ap (λ f. goes_on w.config (issuer w) w.call ((o, drop (widths (objects_in w)) stood.items ++ words) ∷ f)) read_found
      ∙ ap (λ ws. goes_on w.config (issuer w) w.call ((o, ws ++ words) ∷ found w)) read_part
      ∙ ap (λ ws. goes_on w.config (issuer w) w.call ((o, ws) ∷ found w)) (append_assoc (row_part w) (word ∷ []) words)
      ∙ ap (λ x. goes_on w.config (issuer w) w.call ((o, row_part w ++ x ∷ words) ∷ found w)) e

-- there is room for it
pub word_room : (w : Work) (o : ObjectId) (others : List ObjectId) (part : ℕ) → IsLocking w (o ∷ others) part → part < width o → length w.stood.items < most_words w.call
unfolding widths
word_room w o others part l h = omega (arith, l.long, h, (locks_few w (o ∷ others) part l).1)

pub lock_room : (w : Work) (o : ObjectId) (others : List ObjectId) (part : ℕ) → IsLocking w (o ∷ others) part → length w.locks.items < most_locks w.call
lock_room w o others part l = omega (arith, objects_many w, (locks_few w (o ∷ others) part l).0)

pub record_room : (w : Work) (o : ObjectId) (others : List ObjectId) (part : ℕ) → IsLocking w (o ∷ others) part → HasRoom w.held o
record_room w o others part l =
    let h = l.holding in
    let next = is_next w.config w.core w.mode w.call w.held h.early (known w) (objects_in w) (o ∷ others) h.machine h.mode h.front in
    subst (λ z. IfSome z (HasRoom w.held)) next (leaves_room w.config w.core w.mode w.call w.held h.based.valid h.early (known w) (objects_in w) (o ∷ others) h.machine h.mode h.front)

-- ---- one more row

module _ (w : Work) (o : ObjectId) (r : IsRowRead w o) (held : Held) (locks : ArrayVec Lock)
    (held_is : held ≡ with_row w.config o (row_part w) w.held) (locks_are : locks.items ≡ w.locks.items ++ record { object = o } ∷ []) where
  abbrev next_work : Work
  next_work = record w { held = held; locks = locks }

  row_holding : IsHolding w (known w) (o ∷ r.others)
  row_holding = r.locking.holding

  row_objects : objects_in next_work ≡ objects_in w ++ o ∷ []
  row_objects = ap (map (λ l. l.object)) locks_are ∙ map-append (λ l. l.object) w.locks.items (record { object = o } ∷ [])

  pub row_found : found next_work ≡ (o, row_part w) ∷ found w
  row_found =
      ap (λ os. found_with os w.stood.items []) row_objects
      ∙ found_last (objects_in w) o w.stood.items []
      ∙ ap (λ ws. (o, ws) ∷ found w) (take_all (row_part w) (width o) (omega (arith, length-drop (widths (objects_in w)) w.stood.items, r.locking.long)))

  pub row_tree : goes_on w.config (issuer w) w.call (found next_work) ≡ goes_on w.config (issuer w) w.call ((o, row_part w) ∷ found w)
  row_tree = ap (goes_on w.config (issuer w) w.call) row_found

  empty_front : (os : List ObjectId) → os ≡ [] → found_with os w.stood.items [] ≡ []
  unfolding found_with
  empty_front os e = ap (λ l. found_with l w.stood.items []) e

  empty_found : found w ≡ [] → objects_in w ≡ []
  unfolding objects_of
  empty_found e = none_front (objects_in w) (ap objects_of (sym e) ∙ objects_found (objects_in w) w.stood.items [])

  row_more : (more : List ObjectId) × HoldsFront (state_of w.config w.mode ((o, row_part w) ∷ found w)) w.core w.call (with_row w.config o (row_part w) w.held) (objects_in w ++ o ∷ []) more
  row_more =
      holds_more w.config w.core w.mode w.call row_holding.based.valid row_holding.based.caller (found w) w.held (objects_in w) o r.others (row_part w) row_holding.front
      empty_found (empty_front (objects_in w))

  pub row_between : IsBetween next_work
  row_between =
      let s : State = state_of w.config w.mode ((o, row_part w) ∷ found w) in
      let same : known next_work ≡ s = ap (state_of w.config w.mode) row_found in
      let front : HoldsFront (known next_work) w.core w.call held (objects_in next_work) row_more.0 =
      subst (λ z. HoldsFront z w.core w.call held (objects_in next_work) row_more.0) (sym same)
      (subst (λ h. HoldsFront s w.core w.call h (objects_in next_work) row_more.0) (sym held_is)
      (subst (λ os. HoldsFront s w.core w.call (with_row w.config o (row_part w) w.held) os row_more.0) (sym row_objects) row_more.1)) in
      let wide : widths (objects_in next_work) ≡ widths (objects_in w) + width o = ap widths row_objects ∙ widths_last (objects_in w) o in
      record {
        others = row_more.0;
        locking = record {
          holding = record {
            based = record { valid = row_holding.based.valid; caller = row_holding.based.caller; is_call = row_holding.based.is_call; few = row_holding.based.few };
            early = row_holding.early;
            machine = known_shape w.config w.mode (found next_work);
            mode = known_mode w.config w.core w.mode (found next_work) row_holding.based.caller.there;
            whole = known_whole w.config w.mode (found next_work);
            ranges = known_ranges w.config w.mode (found next_work) (found_read (objects_in next_work) w.stood.items [] (omega (arith, wide, r.locking.long)) r.locking.fit tt);
            front = front;
          };
          long = omega (arith, wide, r.locking.long);
          fit = r.locking.fit;
          input = r.locking.input;
          ends = r.locking.ends;
          page = r.locking.page;
        };
        tried = r.tried ∙ ap tried_set (sym row_objects);
        unloaded = record { places = r.unloaded.places; ptes = r.unloaded.ptes };
      }
