-- Every step of the sequential monitor leaves each enclave slot with the measurement of its items.
-- This project's own.
use Rattle.std.specs.Prelude.{◌≡◌, ℕ, ◌≢◌, Bool, true, false, cond, ◌&&◌, ◌||◌, not, ◌==◌, nat_eq, nat_le, List, [], ◌∷◌, ◌++◌, length, replicate, slice_set, Some, None, refl}
use Rattle.std.specs.List.{slice_index_or}
use Rattle.std.proofs.Common.{sym, ap, subst, ◌∙◌, inl, inr, arith}
use Rattle.std.proofs.lemmas.List.{length-set, get_or-set_same, get_or-set_other, get_or-replicate, get_or_past}
use Rattle.std.proofs.lemmas.List.Sums.{fold_push}
use Rattle.std.proofs.lemmas.Bool.{and_parts, cases_lt, cond_both}
use Rattle.std.proofs.lemmas.Bool.Decides.{eqb_tells}
use Rattle.mon_types.specs.Shape.{Shape, region_of_page}
use Rattle.mon_types.specs.Enclaves.{empty_enclave}
use Rattle.mon_types.specs.declared.region.Region.{Region}
use Rattle.mon_types.specs.declared.enclave.Enclave.{Enclave}
use Rattle.mon_types.specs.declared.enclave.Stage.{Stage}
use Rattle.mon_types.specs.declared.enclave.Stage.TheVariants as stages
use Rattle.mon_types.specs.declared.enclave.Loaded.{Loaded}
use Rattle.mon_types.specs.declared.thread.Thread.{Thread as ThreadRecord}
use Rattle.mon_types.specs.declared.thread.Mode.{Mode}
use Rattle.mon_types.specs.declared.thread.Mode.TheVariants as modes
use Rattle.mon_types.specs.declared.call.Call.{Call}
use Rattle.mon_types.specs.declared.call.Call.TheVariants as calls
use Rattle.mon_types.specs.declared.reply.Reply.{Reply}
use Rattle.mon_types.specs.declared.reply.Reply.TheVariants as replies
use Rattle.mon_model.specs.State.{State, start, enclave_at, thread_at, region_at, loaded_at, mode_of}
use Rattle.mon_types.specs.Bits.{has_bit}
use Rattle.mon_types.specs.Replies.{is_done, done_if}
use Rattle.mon_types.specs.Owns.{os_word}
use Rattle.mon_model.specs.Early.{is_unsupported, is_wrong_mode, is_bad_value}
use Rattle.mon_model.specs.RegionCalls.{is_empty, is_loading, is_initialized, gains_region, with_assigned}
use Rattle.mon_model.specs.Loading.{is_next_page, takes_page, reserves_page, has_root, has_place_for_leaf, has_place_for_table}
use Rattle.mon_model.specs.Measure.{Item, Create, Table, Page, Thread, Init, reserved_level, chain_start, extend, to_words, measure_created, measure_with}
use Rattle.mon_model.specs.EnclaveCalls.{created, table_fits, leaf_fits, is_os_owned, load_table_reply, load_page_reply, reserve_reply, init_reply}
use Rattle.mon_model.specs.ThreadCalls.{is_no_state, load_thread_reply}
use Rattle.mon_types.specs.Modes.{own_slot}
use Rattle.mon_model.specs.EveryStep.{deleted_field}
use Rattle.mon_model.specs.Step.{without_own_region, assign_effect, regions_of, held_reply, or_else, reply_of, effect, after}
use Rattle.mon_model.specs.MeasureWords.{to_bytes-to_words}
use Rattle.mon_model.specs.Digests.{chain_digest}
use Rattle.mon_model.specs.Measured.{Answered, answered_in, items_by, items_after, items_of, chain_of, measure_of, IsMeasured}

-- one more item, on words
measure_more : (items : List Item) (item : Item) → measure_with (measure_of items) item ≡ measure_of (items ++ item ∷ [])
unfolding measure_with
measure_more items item =
    let d = chain_digest items in
    ap (λ (m : List ℕ). to_words (extend m item)) (to_bytes-to_words (chain_of items) d.count d.bytes)
    ∙ ap to_words (sym (fold_push extend chain_start items item))

measure_first : (base size : ℕ) → measure_created base size ≡ measure_of (Create base size ∷ [])
unfolding measure_created
measure_first base size = refl

-- ---- one slot

-- the record of a slot that is not Empty has the measurement of these items
abbrev Tells : List Item → Enclave → Type 0
Tells items x = is_empty x.stage ≡ false → x.measure ≡ measure_of items

abbrev slot_at : List Enclave → ℕ → Enclave
slot_at xs e = slice_index_or xs e empty_enclave

tells_empty : (items : List Item) → Tells items empty_enclave
tells_empty items h = absurd (cc)

-- slot e where slot f is written: at f the new record stands there, unless f is past the last slot
written : (items : List Item) (xs : List Enclave) (f e : ℕ) (x : Enclave) → (f ≡ e → Tells items x) → (f ≢ e → Tells items (slot_at xs e)) → Tells items (slot_at (slice_set xs f x) e)
written items xs f e x new old =
    elim (eqb_tells f e) [
      | inl (t, same) ↦ elim (cases_lt e (length xs)) [
        | inl lt ↦ subst (λ (g : ℕ). Tells items (slot_at (slice_set xs g x) e)) (sym same) (subst (Tells items) (sym (get_or-set_same xs e x empty_enclave lt)) (new same))
        | inr past ↦ subst (Tells items) (sym (get_or_past (slice_set xs f x) e empty_enclave (omega (arith, length-set xs f x)))) (tells_empty items)
      ]
      | inr (t, differ) ↦ subst (Tells items) (sym (get_or-set_other xs f e x empty_enclave (λ same. differ (sym same)))) (old differ)
    ]

-- slot e where slot f gets a record of the same stage and measurement
kept : (items : List Item) (xs : List Enclave) (f e : ℕ) (x : Enclave) → x.stage ≡ (slot_at xs f).stage → x.measure ≡ (slot_at xs f).measure → Tells items (slot_at xs e) → Tells items (slot_at (slice_set xs f x) e)
kept items xs f e x stage measure before =
    written items xs f e x (λ same filled. measure ∙ subst (λ (g : ℕ). Tells items (slot_at xs g)) (sym same) before (ap is_empty (sym stage) ∙ filled)) (λ differ. before)

-- where slot f has other items
changed : (items more : List Item) (xs : List Enclave) (f e : ℕ) (x : Enclave) → (f ≡ e → Tells more x) → Tells items (slot_at xs e) → Tells (cond (nat_eq f e) more items) (slot_at (slice_set xs f x) e)
changed items more xs f e x new before =
    elim (eqb_tells f e) [
      | inl (t, same) ↦ rw t (written more xs f e x new (λ differ. absurd (differ same)))
      | inr (t, differ) ↦ rw t (written items xs f e x (λ same. absurd (differ same)) (λ d. before))
    ]

-- where slot f, which is not Empty, has one more item
added : (items : List Item) (item : Item) (xs : List Enclave) (f e : ℕ) (x : Enclave) → is_empty (slot_at xs f).stage ≡ false → x.measure ≡ measure_with (slot_at xs f).measure item → Tells items (slot_at xs e)
    → Tells (cond (nat_eq f e) (items ++ item ∷ []) items) (slot_at (slice_set xs f x) e)
added items item xs f e x filled measure before =
    changed items (items ++ item ∷ []) xs f e x
    (λ same still. measure ∙ ap (λ (m : List ℕ). measure_with m item) (subst (λ (g : ℕ). Tells items (slot_at xs g)) (sym same) before filled) ∙ measure_more items item)
    before

-- ---- one call that answers Ok

done_if_done : (b : Bool) → is_done (done_if b) ≡ true → b ≡ true
done_if_done true h = refl
done_if_done false h = h

cond_done : (b : Bool) (reply : Reply) → is_done (cond b reply replies.InvalidState) ≡ true → b ≡ true
cond_done true reply h = refl
cond_done false reply h = h

-- a slot that is Loading is not Empty
loading_filled : (stage : Stage) → is_loading stage ≡ true → is_empty stage ≡ false
loading_filled stages.Empty h = absurd (cc)
loading_filled stages.Loading h = refl
loading_filled stages.Initialized h = refl

first_of_two : (a b : Bool) → (a && b) ≡ true → a ≡ true
first_of_two a b h = (and_parts a b h).0

next_page_filled : (enclave : Enclave) (page : ℕ) → is_next_page enclave page ≡ true → is_empty enclave.stage ≡ false
next_page_filled enclave page h = loading_filled enclave.stage (first_of_two (is_loading enclave.stage) (nat_le enclave.next_page page) h)

takes_filled : (shape : Shape) (enclave : Enclave) (page : ℕ) → takes_page shape enclave page ≡ true → is_empty enclave.stage ≡ false
takes_filled shape enclave page h = next_page_filled enclave page (first_of_two (is_next_page enclave page) (has_bit enclave.regions (region_of_page shape page)) h)

reserves_filled : (shape : Shape) (enclave : Enclave) (page : ℕ) → reserves_page shape enclave page ≡ true → is_empty enclave.stage ≡ false
reserves_filled shape enclave page h = next_page_filled enclave page (first_of_two (is_next_page enclave page) (not (has_bit enclave.regions (region_of_page shape page))) h)

table_filled : (shape : Shape) (enclave : Enclave) (items : List Loaded) (va level page : ℕ) → is_done (load_table_reply shape enclave items va level page) ≡ true → is_empty enclave.stage ≡ false
table_filled shape enclave items va level page h =
    let all = done_if_done (takes_page shape enclave page && table_fits enclave va level && (level == 2 || has_place_for_table items va level)) h in
    takes_filled shape enclave page (first_of_two (takes_page shape enclave page) (table_fits enclave va level) (first_of_two (takes_page shape enclave page && table_fits enclave va level) (level == 2 || has_place_for_table items va level) all))

page_filled : (shape : Shape) (enclave : Enclave) (items : List Loaded) (source : Region) (va page : ℕ) → is_done (load_page_reply shape enclave items source va page) ≡ true → is_empty enclave.stage ≡ false
page_filled shape enclave items source va page h =
    takes_filled shape enclave page (first_of_two (takes_page shape enclave page) (leaf_fits enclave va) (cond_done (takes_page shape enclave page && leaf_fits enclave va) (cond (is_os_owned source) (done_if (has_place_for_leaf items va)) replies.AccessDenied) h))

reserve_filled : (shape : Shape) (enclave : Enclave) (items : List Loaded) (va page : ℕ) → is_done (reserve_reply shape enclave items va page) ≡ true → is_empty enclave.stage ≡ false
reserve_filled shape enclave items va page h =
    let all = done_if_done (reserves_page shape enclave page && leaf_fits enclave va && has_place_for_leaf items va) h in
    reserves_filled shape enclave page (first_of_two (reserves_page shape enclave page) (leaf_fits enclave va) (first_of_two (reserves_page shape enclave page && leaf_fits enclave va) (has_place_for_leaf items va) all))

thread_filled : (enclave : Enclave) (thread : ThreadRecord) → is_done (load_thread_reply enclave thread) ≡ true → is_empty enclave.stage ≡ false
thread_filled enclave thread h =
    loading_filled enclave.stage (first_of_two (is_loading enclave.stage) (is_no_state thread.state) (done_if_done (is_loading enclave.stage && is_no_state thread.state) h))

init_filled : (enclave : Enclave) → is_done (init_reply enclave) ≡ true → is_empty enclave.stage ≡ false
init_filled enclave h =
    let all = done_if_done (is_loading enclave.stage && has_root enclave && not (enclave.threads == 0)) h in
    loading_filled enclave.stage (first_of_two (is_loading enclave.stage) (has_root enclave) (first_of_two (is_loading enclave.stage && has_root enclave) (not (enclave.threads == 0)) all))

assigned_stage : (enclave : Enclave) (r : ℕ) → (with_assigned enclave r).stage ≡ enclave.stage
assigned_stage enclave r = cond_both (is_initialized enclave.stage) enclave (gains_region enclave r) (λ x. x.stage ≡ enclave.stage) (λ _. refl) (λ _. refl)

assigned_measure : (enclave : Enclave) (r : ℕ) → (with_assigned enclave r).measure ≡ enclave.measure
assigned_measure enclave r = cond_both (is_initialized enclave.stage) enclave (gains_region enclave r) (λ x. x.measure ≡ enclave.measure) (λ _. refl) (λ _. refl)

block_tells : (items : List Item) (s : State) (mode : Mode) (r e : ℕ) → Tells items (enclave_at s e) → Tells items (enclave_at (without_own_region s mode r) e)
block_tells items s modes.Os r e before = before
block_tells items s (modes.Inside f t) r e before = kept items s.enclaves f e _ refl refl before

assign_tells : (items : List Item) (s : State) (r to k e : ℕ) → Tells items (enclave_at s e) → Tells items (enclave_at (assign_effect s r to k) e)
assign_tells items s r to k e before =
    cond_both (nat_eq to os_word) _ _ (λ x. Tells items (enclave_at x e)) (λ _. before)
    (λ _. kept items s.enclaves to e (with_assigned (enclave_at s to) r) (assigned_stage (enclave_at s to) r) (assigned_measure (enclave_at s to) r) before)

delete_tells : (items : List Item) (xs ys : List Enclave) (f e : ℕ) → ys ≡ xs → Tells items (slot_at xs e) → Tells items (slot_at (slice_set ys f empty_enclave) e)
delete_tells items xs ys f e same before =
    subst (λ (zs : List Enclave). Tells items (slot_at (slice_set zs f empty_enclave) e)) (sym same) (written items xs f e empty_enclave (λ _. tells_empty items) (λ _. before))

effect_tells : (s : State) (core : ℕ) (call : Call) (digest : List ℕ) (k e : ℕ) (items : List Item) → is_done (held_reply s core call) ≡ true → Tells items (enclave_at s e)
    → Tells (items_by e call digest items) (enclave_at (effect s core call digest k) e)
effect_tells s core (calls.Block r) digest k e items ok before = block_tells items s (mode_of s core) r e before
effect_tells s core (calls.Assign r to) digest k e items ok before = assign_tells items s r to k e before
effect_tells s core (calls.Create f base size) digest k e items ok before =
    changed items (Create base size ∷ []) s.enclaves f e (created base size) (λ same filled. measure_first base size) before
effect_tells s core (calls.LoadTable f va level page) digest k e items ok before =
    added items (Table va level) s.enclaves f e _ (table_filled s.shape (enclave_at s f) (loaded_at s f) va level page ok) refl before
effect_tells s core (calls.LoadPage f va page src perms) digest k e items ok before =
    added items (Page va perms digest) s.enclaves f e _ (page_filled s.shape (enclave_at s f) (loaded_at s f) (region_at s (region_of_page s.shape src)) va page ok) refl before
effect_tells s core (calls.LoadThread f t entry sp) digest k e items ok before =
    added items (Thread entry sp) s.enclaves f e _ (thread_filled (enclave_at s f) (thread_at s t) ok) refl before
effect_tells s core (calls.Init f) digest k e items ok before =
    added items Init s.enclaves f e _ (init_filled (enclave_at s f) ok) refl before
effect_tells s core (calls.Reserve f va page perms) digest k e items ok before =
    added items (Table va (reserved_level perms)) s.enclaves f e _ (reserve_filled s.shape (enclave_at s f) (loaded_at s f) va page ok) refl before
effect_tells s core (calls.DeleteThread f t) digest k e items ok before = kept items s.enclaves f e _ refl refl before
effect_tells s core (calls.Delete f) digest k e items ok before = delete_tells items s.enclaves _ f e (deleted_field (λ x. x.enclaves) (λ t r x. refl) s (regions_of s f) k) before
effect_tells s core (calls.Accept m from) digest k e items ok before = kept items s.enclaves (own_slot (mode_of s core)) e _ refl refl before
effect_tells s core (calls.Send to m w0 w1 w2 w3) digest k e items ok before = kept items s.enclaves to e _ refl refl before
effect_tells s core (calls.Read m) digest k e items ok before = kept items s.enclaves (own_slot (mode_of s core)) e _ refl refl before
effect_tells s core (calls.AcceptRegion r) digest k e items ok before = kept items s.enclaves (own_slot (mode_of s core)) e _ refl refl before
effect_tells s core _ digest k e items ok before = before

-- ---- any call

early_done : (a b c : Bool) (reply : Reply) → is_done (or_else (cond a (Some replies.Unsupported) (cond b (Some replies.AccessDenied) (cond c (Some replies.InvalidValue) None))) reply) ≡ true → is_done reply ≡ true
early_done true b c reply h = absurd (cc)
early_done false true c reply h = absurd (cc)
early_done false false true reply h = absurd (cc)
early_done false false false reply h = h

-- a call that answers Ok was not refused early
held_done : (s : State) (core : ℕ) (call : Call) → is_done (reply_of s core call) ≡ true → is_done (held_reply s core call) ≡ true
held_done s core call h = early_done (is_unsupported call) (is_wrong_mode (mode_of s core) call) (is_bad_value s.shape call) (held_reply s core call) h

after_tells : (s : State) (core : ℕ) (call : Call) (digest : List ℕ) (k e : ℕ) (items : List Item) → Tells items (enclave_at s e)
    → Tells (cond (is_done (reply_of s core call)) (items_by e call digest items) items) (enclave_at (after s core call digest k) e)
after_tells s core call digest k e items before = by (is_done (reply_of s core call)) (held_done s core call)
  where
    by : (b : Bool) → (b ≡ true → is_done (held_reply s core call) ≡ true) → Tells (cond b (items_by e call digest items) items) (enclave_at (cond b (effect s core call digest k) s) e)
    by true held = effect_tells s core call digest k e items (held refl) before
    by false held = before

empty_at : (e : ℕ) → slot_at (replicate 8 empty_enclave) e ≡ empty_enclave
empty_at e =
    elim (cases_lt e 8) [
      | inl lt ↦ get_or-replicate {A = Enclave} 8 e empty_enclave empty_enclave lt
      | inr past ↦ get_or_past {X = Enclave} (replicate 8 empty_enclave) e empty_enclave past
    ]

-- at the start every slot is Empty
pub start_measured : (shape : Shape) → IsMeasured [] (start shape)
start_measured shape = record { slots = λ e. subst (Tells []) (sym (empty_at e)) (tells_empty []) }

-- after one more call each slot that is not Empty has the measurement of its items
pub after_measured : (h : List Answered) (s : State) (core : ℕ) (call : Call) (digest : List ℕ) (k : ℕ) → IsMeasured h s → IsMeasured (h ++ answered_in s core call digest ∷ []) (after s core call digest k)
after_measured h s core call digest k before = record {
  slots = λ e.
      subst (λ (items : List Item). Tells items (enclave_at (after s core call digest k) e)) (sym (fold_push (items_after e) [] h (answered_in s core call digest)))
      (after_tells s core call digest k e (items_of h e) (before.slots e));
}

-- what was not Ok adds nothing
pub refused_measured : (h : List Answered) (s : State) (x : Answered) → is_done x.reply ≡ false → IsMeasured h s → IsMeasured (h ++ x ∷ []) s
refused_measured h s x refused before = record {
  slots = λ e.
      subst (λ (items : List Item). Tells items (enclave_at s e))
      (sym (fold_push (items_after e) [] h x ∙ ap (λ (b : Bool). cond b (items_by e x.call x.digest (items_of h e)) (items_of h e)) refused))
      (before.slots e);
}
