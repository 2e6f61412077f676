-- What always holds of the tables still holds after each call.
use Rattle.std.proofs.Common.{◌≡◌, ℕ, ◌+◌, ◌<◌, ◌≤◌, Bool, true, false, cond, ◌&&◌, nat_le, nat_eq, List, [], ◌∷◌, ◌++◌, length, get_or, slice_set, replicate, inl, inr, refl, sym, ap, ◌∙◌, arith, length-append}
use Rattle.std.proofs.lemmas.List.{length-replicate, get_or_past, get_or-replicate, get_or-set_same, get_or-set_other}
use Rattle.std.proofs.lemmas.List.Elements.{All-set}
use Rattle.std.proofs.lemmas.Bool.{eqb-false}
use Rattle.std.proofs.lemmas.Bool.Decides.{eqb_tells, leb_tells, nat_tests}
use Rattle.mon_types.specs.Shape.{Shape, is_shape, page_total}
use Rattle.mon_types.specs.Enclaves.{empty_enclave}
use Rattle.mon_types.specs.declared.region.Region.{Region}
use Rattle.mon_types.specs.declared.enclave.Enclave.{Enclave}
use Rattle.mon_types.specs.declared.enclave.Stage.{Stage}
use Rattle.mon_types.specs.declared.enclave.Stage.TheVariants as stages
use Rattle.mon_types.specs.declared.enclave.Loaded.{Loaded}
use Rattle.mon_types.specs.declared.enclave.LoadedKind.{LoadedKind}
use Rattle.mon_types.specs.declared.enclave.LoadedKind.TheVariants as kinds
use Rattle.mon_types.specs.declared.thread.Thread.{Thread}
use Rattle.mon_types.specs.declared.thread.Mode.{Mode}
use Rattle.mon_types.specs.declared.thread.Mode.TheVariants as modes
use Rattle.mon_types.specs.declared.call.Call.{Call}
use Rattle.mon_types.specs.declared.call.Call.TheVariants as calls
use Rattle.mon_types.specs.declared.reply.Reply.{Reply}
use Rattle.mon_types.specs.declared.reply.Reply.TheVariants as replies
use Rattle.mon_model.specs.State.{State, start, enclave_at, loaded_at, mode_of, with_region, with_enclave, with_thread, with_flushed, with_mode, with_slot}
use Rattle.mon_types.specs.Replies.{is_done, done_if}
use Rattle.mon_types.specs.Owns.{os_word}
use Rattle.mon_model.specs.RegionCalls.{is_loading, is_initialized, gains_region, with_assigned}
use Rattle.mon_model.specs.Loading.{StandInPages, has_root, is_next_page, takes_page, has_place_for_leaf}
use Rattle.mon_model.specs.EnclaveCalls.{init_reply, is_os_owned, leaf_fits, load_table_reply, load_page_reply, reserve_reply}
use Rattle.mon_types.specs.Modes.{own_slot}
use Rattle.mon_model.specs.Step.{held_reply, effect, reply_of, after, with_item, with_deleted, regions_of, without_own_region}
use Rattle.mon_facts.specs.Tables.{NamesSlots, IsRooted, IsSlot, AreTables}
use Rattle.mon_model.specs.InRange.{IsInRange}
use Rattle.mon_model.proofs.InRange.{in_range}
use Rattle.mon_model.proofs.Carried.{carried}
use Rattle.mon_model.proofs.Whole.{region_whole, enclave_whole, slot_whole, thread_whole, cell_whole, mode_whole, starts}

-- ---- which page is taken

pub done-if : (b : Bool) → is_done (done_if b) ≡ true → b ≡ true
done-if true h = refl
done-if false h = h

pub first : (a b : Bool) → (a && b) ≡ true → a ≡ true
first true b h = refl
first false b h = h

pub second : (a b : Bool) → (a && b) ≡ true → b ≡ true
second true b h = h
second false b h = cc

pub next_page : (enclave : Enclave) (page : ℕ) → is_next_page enclave page ≡ true → enclave.next_page ≤ page
next_page enclave page h =
    let le : nat_le enclave.next_page page ≡ true = second (is_loading enclave.stage) (nat_le enclave.next_page page) h in
    grind (arith, nat_tests)

pub loading : (enclave : Enclave) (page : ℕ) → is_next_page enclave page ≡ true → is_loading enclave.stage ≡ true
loading enclave page h = first (is_loading enclave.stage) (nat_le enclave.next_page page) h

-- a page that a call fills, or makes a table, lies in a region of the enclave and is not below the next one
pub table_taken : (shape : Shape) (enclave : Enclave) (items : List Loaded) (va level page : ℕ) → is_done (load_table_reply shape enclave items va level page) ≡ true → takes_page shape enclave page ≡ true
table_taken shape enclave items va level page h = first _ _ (first _ _ (done-if _ h))

-- what load_page asks of the enclave's record
page_asks : (shape : Shape) (enclave : Enclave) (items : List Loaded) (source : Region) (va page : ℕ) → is_done (load_page_reply shape enclave items source va page) ≡ true → (takes_page shape enclave page && leaf_fits enclave va) ≡ true
page_asks shape enclave items source va page h = asked (takes_page shape enclave page && leaf_fits enclave va) (cond (is_os_owned source) (done_if (has_place_for_leaf items va)) replies.AccessDenied) h
  where
    asked : (b : Bool) (x : Reply) → is_done (cond b x replies.InvalidState) ≡ true → b ≡ true
    asked true x h = refl
    asked false x h = h

pub page_taken : (shape : Shape) (enclave : Enclave) (items : List Loaded) (source : Region) (va page : ℕ) → is_done (load_page_reply shape enclave items source va page) ≡ true → takes_page shape enclave page ≡ true
page_taken shape enclave items source va page h = first _ _ (page_asks shape enclave items source va page h)

pub page_fits : (shape : Shape) (enclave : Enclave) (items : List Loaded) (source : Region) (va page : ℕ) → is_done (load_page_reply shape enclave items source va page) ≡ true → leaf_fits enclave va ≡ true
page_fits shape enclave items source va page h = second (takes_page shape enclave page) _ (page_asks shape enclave items source va page h)

table_next : (shape : Shape) (enclave : Enclave) (items : List Loaded) (va level page : ℕ) → is_done (load_table_reply shape enclave items va level page) ≡ true → is_next_page enclave page ≡ true
table_next shape enclave items va level page h = first _ _ (table_taken shape enclave items va level page h)

page_next : (shape : Shape) (enclave : Enclave) (items : List Loaded) (source : Region) (va page : ℕ) → is_done (load_page_reply shape enclave items source va page) ≡ true → is_next_page enclave page ≡ true
page_next shape enclave items source va page h = first _ _ (page_taken shape enclave items source va page h)

pub reserve_next : (shape : Shape) (enclave : Enclave) (items : List Loaded) (va page : ℕ) → is_done (reserve_reply shape enclave items va page) ≡ true → is_next_page enclave page ≡ true
reserve_next shape enclave items va page h = first _ _ (first _ _ (first _ _ (done-if _ h)))

pub table_takes : (shape : Shape) (enclave : Enclave) (items : List Loaded) (va level page : ℕ) → is_done (load_table_reply shape enclave items va level page) ≡ true → enclave.next_page ≤ page
table_takes shape enclave items va level page h = next_page enclave page (table_next shape enclave items va level page h)

pub page_takes : (shape : Shape) (enclave : Enclave) (items : List Loaded) (source : Region) (va page : ℕ) → is_done (load_page_reply shape enclave items source va page) ≡ true → enclave.next_page ≤ page
page_takes shape enclave items source va page h = next_page enclave page (page_next shape enclave items source va page h)

pub reserve_takes : (shape : Shape) (enclave : Enclave) (items : List Loaded) (va page : ℕ) → is_done (reserve_reply shape enclave items va page) ≡ true → enclave.next_page ≤ page
reserve_takes shape enclave items va page h = next_page enclave page (reserve_next shape enclave items va page h)

-- ---- roots

loading_rooted : (x : Enclave) → is_loading x.stage ≡ true → IsRooted x
loading_rooted x h = by x.stage h
  where
    by : (stage : Stage) → is_loading stage ≡ true → is_initialized stage ≡ true → has_root x ≡ true
    by stages.Empty h i = cc
    by stages.Loading h i = cc
    by stages.Initialized h i = cc

init_rooted : (enclave : Enclave) → is_done (init_reply enclave) ≡ true → has_root enclave ≡ true
init_rooted enclave h = second (is_loading enclave.stage) (has_root enclave) (first _ _ (done-if _ h))

-- ---- one change

abbrev AreSlots : Shape → List Enclave → List (List Loaded) → Type 0
AreSlots shape es ls = (e : ℕ) → IsSlot shape (get_or es e empty_enclave) (get_or ls e [])

slots-set : (shape : Shape) (es : List Enclave) (ls : List (List Loaded)) (e : ℕ) (x : Enclave) (xs : List Loaded) → e < length es → e < length ls → IsSlot shape x xs → AreSlots shape es ls → AreSlots shape (slice_set es e x) (slice_set ls e xs)
slots-set shape es ls e x xs p q h all j =
    elim (eqb_tells j e) [
      | inl (t, is) ↦ rw (is, get_or-set_same es e x empty_enclave p, get_or-set_same ls e xs [] q) h
      | inr (f, ne) ↦ rw (get_or-set_other es e j x empty_enclave ne, get_or-set_other ls e j xs [] ne) (all j)
    ]

slots-set_enclave : (shape : Shape) (es : List Enclave) (ls : List (List Loaded)) (e : ℕ) (x : Enclave) → e < length es → IsSlot shape x (get_or ls e []) → AreSlots shape es ls → AreSlots shape (slice_set es e x) ls
slots-set_enclave shape es ls e x p h all j =
    elim (eqb_tells j e) [
      | inl (t, is) ↦ rw (is, get_or-set_same es e x empty_enclave p) h
      | inr (f, ne) ↦ rw (get_or-set_other es e j x empty_enclave ne) (all j)
    ]

region_sound : (s : State) (r : ℕ) (x : Region) → AreTables s → AreTables (with_region s r x)
region_sound s r x h = record { machine = h.machine; whole = region_whole s r x h.whole; slots = h.slots; items = h.items }

slot_sound : (s : State) (e : ℕ) (x : Enclave) (xs : List Loaded) → e < 8 → IsSlot s.shape x xs → AreTables s → AreTables (with_slot s e x xs)
slot_sound s e x xs p is h = record {
  machine = h.machine;
  whole = slot_whole s e x xs h.whole;
  slots = h.slots;
  items = slots-set s.shape s.enclaves s.loaded e x xs (omega (arith, h.whole.enclaves)) (omega (arith, h.whole.loaded)) is h.items;
}

-- a slot with the same next page
enclave_sound : (s : State) (e : ℕ) (x : Enclave) → e < 8 → x.next_page ≡ (enclave_at s e).next_page → (IsRooted (enclave_at s e) → IsRooted x) → AreTables s → AreTables (with_enclave s e x)
enclave_sound s e x p same root h =
    let was = h.items e in
    let is : IsSlot s.shape x (loaded_at s e) = record { count = rw same was.count; next = rw same was.next; pages = was.pages; root = root was.root } in
    record {
      machine = h.machine;
      whole = enclave_whole s e x h.whole;
      slots = h.slots;
      items = slots-set_enclave s.shape s.enclaves s.loaded e x (omega (arith, h.whole.enclaves)) is h.items;
    }

thread_sound : (s : State) (t : ℕ) (x : Thread) → AreTables s → AreTables (with_thread s t x)
thread_sound s t x h = record { machine = h.machine; whole = thread_whole s t x h.whole; slots = h.slots; items = h.items }

cell_sound : (s : State) (c k : ℕ) → AreTables s → AreTables (with_flushed s c k)
cell_sound s c k h = record { machine = h.machine; whole = cell_whole s c k h.whole; slots = h.slots; items = h.items }

mode_sound : (s : State) (c : ℕ) (x : Mode) → NamesSlots x → AreTables s → AreTables (with_mode s c x)
mode_sound s c x n h = record {
  machine = h.machine;
  whole = mode_whole s c x h.whole;
  slots = All-set NamesSlots s.modes c x n h.slots;
  items = h.items;
}

-- ---- the calls whose changes go by cases

own_sound : (s : State) (mode : Mode) (r : ℕ) → NamesSlots mode → AreTables s → AreTables (without_own_region s mode r)
own_sound s modes.Os r n h = h
own_sound s (modes.Inside e t) r n h = enclave_sound s e _ n.0 refl (λ root. root) h

assigned-next : (enclave : Enclave) (r : ℕ) → (with_assigned enclave r).next_page ≡ enclave.next_page
assigned-next enclave r = by (is_initialized enclave.stage)
  where
    by : (b : Bool) → (cond b enclave (gains_region enclave r)).next_page ≡ enclave.next_page
    by true = refl
    by false = refl

assigned-rooted : (enclave : Enclave) (r : ℕ) → IsRooted enclave → IsRooted (with_assigned enclave r)
assigned-rooted enclave r root = by (is_initialized enclave.stage)
  where
    by : (b : Bool) → IsRooted (cond b enclave (gains_region enclave r))
    by true = root
    by false = root

assign_sound : (b : Bool) (s : State) (r to : ℕ) (x y : Region) (z : Enclave) → (b ≡ false → to < 8) → z.next_page ≡ (enclave_at s to).next_page → (IsRooted (enclave_at s to) → IsRooted z) → AreTables s → AreTables (cond b (with_region s r x) (with_enclave (with_region s r y) to z))
assign_sound true s r to x y z p same root h = region_sound s r x h
assign_sound false s r to x y z p same root h = enclave_sound (with_region s r y) to z (p refl) same root (region_sound s r y h)

deleted_sound : (s : State) (rs : List ℕ) (k : ℕ) → AreTables s → AreTables (with_deleted s rs k)
deleted_sound s [] k h = h
deleted_sound s (r ∷ rs) k h = deleted_sound _ rs k (region_sound s r _ h)

empty_slot : (shape : Shape) (enclave : Enclave) → enclave.next_page ≡ 0 → is_initialized enclave.stage ≡ false → IsSlot shape enclave []
empty_slot shape enclave none early = record { count = omega arith; next = omega arith; pages = tt; root = λ i. cc }

stand-more : (shape : Shape) (xs : List Loaded) (x : Loaded) → StandInPages shape xs → x.page < page_total shape → StandInPages shape (xs ++ x ∷ [])
stand-more shape [] x h p = (p, tt)
stand-more shape (y ∷ ys) x h p = (h.0, stand-more shape ys x h.1 p)

-- one more item, in a page that is not below the next
item_sound : (s : State) (e : ℕ) (x : Enclave) (kind : LoadedKind) (va page : ℕ) → e < 8 → page < page_total s.shape → (enclave_at s e).next_page ≤ page → x.next_page ≡ page + 1 → is_loading x.stage ≡ true → AreTables s → AreTables (with_item s e x kind va page)
item_sound s e x kind va page p q le next load h =
    let was = h.items e in
    let count : length (loaded_at s e) ≤ (enclave_at s e).next_page = was.count in
    let more : length (loaded_at s e ++ record { kind = kind; va = va; page = page } ∷ []) ≡ length (loaded_at s e) + 1 = length-append _ _ in
    slot_sound s e x _ p (record {
      count = omega arith;
      next = omega arith;
      pages = stand-more s.shape (loaded_at s e) _ was.pages q;
      root = loading_rooted x load;
    }) h

pub own_small : (mode : Mode) → NamesSlots mode → own_slot mode < 8
own_small modes.Os n = omega arith
own_small (modes.Inside e t) n = n.0

pub not_os : (to : ℕ) → ((to ≡ os_word → ⊥) → to < 8) → (nat_eq to os_word) ≡ false → to < 8
not_os to h f = h (eqb-false to os_word f)

-- ---- every call

pub effect_sound : (s : State) (core : ℕ) (call : Call) (digest : List ℕ) (k : ℕ) → NamesSlots (mode_of s core) → IsInRange s.shape call → is_done (held_reply s core call) ≡ true → AreTables s → AreTables (effect s core call digest k)
effect_sound s core (calls.Block r) digest k n a d h = region_sound _ r _ (own_sound s (mode_of s core) r n h)
effect_sound s core (calls.Free r) digest k n a d h = region_sound s r _ h
effect_sound s core (calls.Assign r to) digest k n a d h = assign_sound (nat_eq to os_word) s r to _ _ _ (not_os to a.1) (assigned-next (enclave_at s to) r) (assigned-rooted (enclave_at s to) r) h
effect_sound s core calls.Flush digest k n a d h = cell_sound s core k h
effect_sound s core (calls.RegionInfo r) digest k n a d h = h
effect_sound s core (calls.Create e base size) digest k n a d h = slot_sound s e _ [] a (empty_slot s.shape _ refl refl) h
effect_sound s core (calls.LoadTable e va level page) digest k n a d h = item_sound s e _ _ va page a.0 a.2 (table_takes s.shape (enclave_at s e) (loaded_at s e) va level page d) refl (loading (enclave_at s e) page (table_next s.shape (enclave_at s e) (loaded_at s e) va level page d)) h
effect_sound s core (calls.LoadPage e va page src perms) digest k n a d h = item_sound s e _ kinds.Page va page a.0 a.1 (page_takes s.shape (enclave_at s e) (loaded_at s e) _ va page d) refl (loading (enclave_at s e) page (page_next s.shape (enclave_at s e) (loaded_at s e) _ va page d)) h
effect_sound s core (calls.LoadThread e t entry sp) digest k n a d h = thread_sound _ t _ (enclave_sound s e _ a.0 refl (λ root. root) h)
effect_sound s core (calls.Init e) digest k n a d h = enclave_sound s e _ a refl (λ root i. init_rooted (enclave_at s e) d) h
effect_sound s core (calls.DeleteThread e t) digest k n a d h = thread_sound _ t _ (enclave_sound s e _ a.0 refl (λ root. root) h)
effect_sound s core (calls.Delete e) digest k n a d h =
    slot_sound _ e empty_enclave [] a (empty_slot _ empty_enclave refl refl) (deleted_sound s (regions_of s e) k h)
effect_sound s core (calls.Enter e t) digest k n a d h = mode_sound _ core (modes.Inside e t) a (thread_sound s t _ h)
effect_sound s core calls.Exit digest k n a d h = mode_sound _ core modes.Os tt (thread_sound s _ _ h)
effect_sound s core (calls.Aex saved) digest k n a d h = mode_sound _ core modes.Os tt (thread_sound s _ _ h)
effect_sound s core calls.Restore digest k n a d h = thread_sound s _ _ h
effect_sound s core (calls.Accept m from) digest k n a d h = enclave_sound s _ _ (own_small (mode_of s core) n) refl (λ root. root) h
effect_sound s core (calls.Send to m w0 w1 w2 w3) digest k n a d h = enclave_sound s to _ a.0 refl (λ root. root) h
effect_sound s core (calls.Read m) digest k n a d h = enclave_sound s _ _ (own_small (mode_of s core) n) refl (λ root. root) h
effect_sound s core (calls.EnclaveInfo e) digest k n a d h = h
effect_sound s core (calls.SetSatp v) digest k n a d h = h
effect_sound s core (calls.AcceptRegion r) digest k n a d h =
    enclave_sound (with_region s r _) _ _ (own_small (mode_of s core) n) refl (λ root. root) (region_sound s r _ h)
effect_sound s core (calls.Reserve e va page perms) digest k n a d h = item_sound s e _ kinds.Reserved va page a.0 a.1 (reserve_takes s.shape (enclave_at s e) (loaded_at s e) va page d) refl (loading (enclave_at s e) page (reserve_next s.shape (enclave_at s e) (loaded_at s e) va page d)) h
effect_sound s core (calls.Unknown number args) digest k n a d h = h

pub after_sound : (s new : State) (core : ℕ) (call : Call) (digest : List ℕ) (k : ℕ) (reply : Reply) → NamesSlots (mode_of s core) → IsInRange s.shape call → reply ≡ held_reply s core call → new ≡ cond (is_done reply) (effect s core call digest k) s → AreTables s → AreTables new
after_sound s new core call digest k reply n a is left h =
    rw left (by (is_done reply) (λ e. effect_sound s core call digest k n a (ap is_done (sym is) ∙ e) h))
  where
    by : (b : Bool) → (b ≡ true → AreTables (effect s core call digest k)) → AreTables (cond b (effect s core call digest k) s)
    by true f = f refl
    by false f = h

pub after_tables : (s : State) (core : ℕ) (call : Call) (digest : List ℕ) (k : ℕ) → core < s.shape.cores → AreTables s → AreTables (after s core call digest k)
after_tables s core call digest k small h = by (is_done (reply_of s core call)) (λ d.
    let c = carried s core call d in
    effect_sound s core call digest k (h.slots core modes.Os (omega (arith, h.whole.modes))) (in_range s.shape call c.value) c.held h)
  where
    by : (b : Bool) → (b ≡ true → AreTables (effect s core call digest k)) → AreTables (cond b (effect s core call digest k) s)
    by true f = f refl
    by false f = h

-- ---- the start

pub same_everywhere : {X : Type 0} (n i : ℕ) (a : X) → get_or (replicate n a) i a ≡ a
same_everywhere n i a =
    elim (leb_tells n i) [
      | inl (t, past) ↦ get_or_past (replicate n a) i a (omega (arith, length-replicate n a))
      | inr (f, lt) ↦ get_or-replicate n i a a lt
    ]

pub start_sound : (shape : Shape) → is_shape shape ≡ true → AreTables (start shape)
start_sound shape is = record {
  machine = is;
  whole = starts shape;
  slots = λ k d h. rw (get_or-replicate shape.cores k modes.Os d (omega (arith, length-replicate shape.cores modes.Os))) tt;
  items = λ e. rw (same_everywhere 8 e empty_enclave, same_everywhere {X = List Loaded} 8 e []) (empty_slot shape empty_enclave refl refl);
}
