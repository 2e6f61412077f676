-- The facts of the tables still hold after each call.
use Rattle.std.proofs.Common.{◌≡◌, ℕ, ◌+◌, ◌<◌, ◌≤◌, Bool, true, false, cond, not, ◌&&◌, nat_eq, Option, Some, None, is_some, List, [], length, get_or, slice_set, replicate, refl, sym, ap, ◌∙◌, subst, arith, true≢false, inl, inr}
use Rattle.std.proofs.lemmas.List.{length-replicate, get_or_past, get_or-replicate}
use Rattle.std.proofs.lemmas.List.Sums.{count_by-le-length}
use Rattle.std.proofs.lemmas.Bool.{eqb-true}
use Rattle.std.proofs.lemmas.Bool.Decides.{eqb_tells, leb_tells}
use Rattle.mon_types.specs.Shape.{Shape, region_of_page}
use Rattle.mon_types.specs.Enclaves.{empty_enclave}
use Rattle.mon_types.specs.Threads.{empty_thread}
use Rattle.mon_types.specs.declared.region.Owner.TheVariants as owners
use Rattle.mon_types.specs.declared.region.Region.{Region}
use Rattle.mon_types.specs.declared.region.Region.TheVariants as regions
use Rattle.mon_types.specs.declared.enclave.Enclave.{Enclave}
use Rattle.mon_types.specs.declared.enclave.Stage.{Stage}
use Rattle.mon_types.specs.declared.enclave.Stage.TheVariants as stages
use Rattle.mon_types.specs.declared.enclave.Mailbox.{Mailbox}
use Rattle.mon_types.specs.declared.enclave.Loaded.{Loaded}
use Rattle.mon_types.specs.declared.enclave.LoadedKind.{LoadedKind}
use Rattle.mon_types.specs.declared.enclave.LoadedKind.TheVariants as kinds
use Rattle.mon_types.specs.declared.thread.ThreadState.{ThreadState}
use Rattle.mon_types.specs.declared.thread.ThreadState.TheVariants as states
use Rattle.mon_types.specs.declared.thread.Thread.{Thread}
use Rattle.mon_types.specs.declared.thread.Mode.{Mode}
use Rattle.mon_types.specs.declared.thread.Mode.TheVariants as modes
use Rattle.mon_types.specs.declared.call.Call.{Call}
use Rattle.mon_types.specs.declared.call.Call.TheVariants as calls
use Rattle.mon_types.specs.declared.reply.Reply.{Reply}
use Rattle.mon_types.specs.declared.reply.Reply.TheVariants as replies
use Rattle.mon_model.specs.State.{State, start, region_at, enclave_at, thread_at, mode_of, loaded_at, with_region, with_enclave, with_thread, with_mode, with_slot}
use Rattle.mon_types.specs.Bits.{has_bit, members}
use Rattle.mon_types.specs.Replies.{done, is_done}
use Rattle.mon_types.specs.Owns.{os_word}
use Rattle.mon_model.specs.Early.{AnEnclave, TheOs, shuts_out, is_wrong_mode}
use Rattle.mon_model.specs.RegionCalls.{is_empty, is_loading, is_initialized, is_free, loses_region, gains_region, block_reply, blocked, free_reply, assign_reply, assigned, with_assigned, accept_region_reply}
use Rattle.mon_model.specs.Loading.{in_range as in_enclave, has_root, is_next_page, takes_page, reserves_page, is_reserved}
use Rattle.mon_model.specs.EnclaveCalls.{created, create_reply, initialized, delete_reply}
use Rattle.mon_model.specs.ThreadCalls.{is_no_state, is_ready_in, ready, one_more, with_thread_loaded, without_thread, load_thread_reply, delete_thread_reply, enter_reply, running, stopped}
use Rattle.mon_model.specs.MailCalls.{with_mailbox}
use Rattle.mon_types.specs.Modes.{own_slot, own_thread}
use Rattle.mon_model.specs.Step.{held_reply, without_own_region, with_item, with_deleted, regions_of, effect, reply_of, after}
use Rattle.mon_model.specs.Deleted.{deleted_in}
use Rattle.mon_facts.specs.Facts.{is_owned_by, is_thread_of, FactsHold}
use Rattle.mon_facts.specs.Tables.{NamesSlots, AreTables}
use Rattle.mon_model.specs.InRange.{IsInRange}
use Rattle.mon_model.proofs.InRange.{in_range}
use Rattle.mon_model.proofs.Carried.{carried}
use Rattle.mon_model.proofs.Bits.{none-has, with-keeps}
use Rattle.mon_model.proofs.Deleting.{deleted_slot}
use Rattle.mon_facts.proofs.OneChanged.{same-is, other-is}
use Rattle.mon_facts.proofs.SetFacts.{owned-one, sets-enclave, sets-region, sets-gained, sets-lost, sets-deleted}
use Rattle.mon_facts.proofs.SlotFacts.{loading-not_empty, initialized-not_empty, initialized-not_loading, IsBlank, not_empty-blank, blank-set, placed-enclave, placed-slot, IsFilled, roots-enclave, rootless-enclave, rootless-slot, filled-weaker, some-none, filled-none, filled-more}
use Rattle.mon_facts.proofs.TablesKept.{done-if, not_os, own_small, same_everywhere, first, second, loading, table_taken, page_taken, page_fits, next_page, reserve_next, page_takes, reserve_takes}
use Rattle.mon_facts.proofs.ThreadFacts.{one_if, count-set, counts-enclave, counts-thread, counts-both, running-empty, same_slot, still-empty, still-ready, os-outside, running-kept, inside-kept, initialized-kept, initialized-enclave, initialized-emptied, running-entered, inside-entered, alone-entered, running-left, inside-left, alone-left}

-- ---- one change

not-true : {P : Type 0} (b : Bool) → b ≡ false → b ≡ true → P
not-true b f t = absurd (true≢false (sym t ∙ f))

filled_at : (s : State) (e : ℕ) → FactsHold s → IsFilled s.shape (enclave_at s e) (loaded_at s e)
filled_at s e h = record { placed = h.placed e; root_pages = h.root_pages e; rootless = h.rootless e }

-- an enclave's record, with the same set of regions and as many threads
enclave_kept : (s : State) (e : ℕ) (x : Enclave) → e < length s.enclaves → x.regions ≡ (enclave_at s e).regions → x.threads ≡ (enclave_at s e).threads → IsBlank x
    → (is_initialized (enclave_at s e).stage ≡ true → is_initialized x.stage ≡ true) → IsFilled s.shape x (loaded_at s e) → FactsHold s → FactsHold (with_enclave s e x)
enclave_kept s e x p set count blank init filled h = record {
  sets = sets-enclave s.enclaves s.regions e x p set h.sets;
  blank = blank-set s.enclaves e x p blank h.blank;
  counts = counts-enclave s.enclaves s.threads e x p count h.counts;
  inside = h.inside;
  running = h.running;
  alone = h.alone;
  initialized = initialized-enclave s.enclaves s.threads e x p init h.initialized;
  placed = placed-enclave s.shape s.enclaves s.loaded e x p filled.placed h.placed;
  root_pages = roots-enclave s.shape s.enclaves e x p filled.root_pages h.root_pages;
  rootless = rootless-enclave s.enclaves s.loaded e x p filled.rootless h.rootless;
}

-- the same with other items
slot_kept : (s : State) (e : ℕ) (x : Enclave) (items : List Loaded) → e < length s.enclaves → e < length s.loaded → x.regions ≡ (enclave_at s e).regions → x.threads ≡ (enclave_at s e).threads → IsBlank x
    → (is_initialized (enclave_at s e).stage ≡ true → is_initialized x.stage ≡ true) → IsFilled s.shape x items → FactsHold s → FactsHold (with_slot s e x items)
slot_kept s e x items p q set count blank init filled h = record {
  sets = sets-enclave s.enclaves s.regions e x p set h.sets;
  blank = blank-set s.enclaves e x p blank h.blank;
  counts = counts-enclave s.enclaves s.threads e x p count h.counts;
  inside = h.inside;
  running = h.running;
  alone = h.alone;
  initialized = initialized-enclave s.enclaves s.threads e x p init h.initialized;
  placed = placed-slot s.shape s.enclaves s.loaded e x items p q filled.placed h.placed;
  root_pages = roots-enclave s.shape s.enclaves e x p filled.root_pages h.root_pages;
  rootless = rootless-slot s.enclaves s.loaded e x items p q filled.rootless h.rootless;
}

-- a region that the same enclave owns, or none
region_kept : (s : State) (r : ℕ) (x : Region) → r < length s.regions → ((e : ℕ) → is_owned_by e x ≡ is_owned_by e (region_at s r)) → FactsHold s → FactsHold (with_region s r x)
region_kept s r x q same h = record {
  sets = sets-region s.enclaves s.regions r x q same h.sets;
  blank = h.blank;
  counts = h.counts;
  inside = h.inside;
  running = h.running;
  alone = h.alone;
  initialized = h.initialized;
  placed = h.placed;
  root_pages = h.root_pages;
  rootless = h.rootless;
}

-- a thread in the same state
thread_kept : (s : State) (t : ℕ) (x : Thread) → t < length s.threads → x.state ≡ (thread_at s t).state → FactsHold s → FactsHold (with_thread s t x)
thread_kept s t x q same h = record {
  sets = h.sets;
  blank = h.blank;
  counts = counts-thread s.enclaves s.threads t x q (λ e. ap (is_thread_of e) same) h.counts;
  inside = running-kept s.threads s.modes t x q (λ e r. same ∙ r) h.inside;
  running = inside-kept s.shape.cores s.threads s.modes t x q (λ e r. sym same ∙ r) h.running;
  alone = h.alone;
  initialized = initialized-kept s.enclaves s.threads t x q (λ e r. h.initialized e t (sym same ∙ r)) h.initialized;
  placed = h.placed;
  root_pages = h.root_pages;
  rootless = h.rootless;
}

-- ---- calls on regions

-- a region that an enclave which may gain some becomes owner of
gained_kept : (s : State) (e r k : ℕ) → e < length s.enclaves → r < length s.regions → ((f : ℕ) → is_owned_by f (region_at s r) ≡ false) → is_empty (enclave_at s e).stage ≡ false
    → FactsHold s → FactsHold (with_enclave (with_region s r (regions.Owned (owners.Enclave e) k)) e (gains_region (enclave_at s e) r))
gained_kept s e r k p q unowned there h = record {
  sets = sets-gained s.enclaves s.regions e r k x p q unowned refl h.sets;
  blank = blank-set s.enclaves e x p (not_empty-blank x there) h.blank;
  counts = counts-enclave s.enclaves s.threads e x p refl h.counts;
  inside = h.inside;
  running = h.running;
  alone = h.alone;
  initialized = initialized-enclave s.enclaves s.threads e x p (λ i. i) h.initialized;
  placed = placed-enclave s.shape s.enclaves s.loaded e x p filled.placed h.placed;
  root_pages = roots-enclave s.shape s.enclaves e x p filled.root_pages h.root_pages;
  rootless = rootless-enclave s.enclaves s.loaded e x p filled.rootless h.rootless;
}
  where
    x : Enclave
    x = gains_region (enclave_at s e) r

    filled : IsFilled s.shape x (loaded_at s e)
    filled = filled-weaker s.shape (enclave_at s e) x (loaded_at s e) refl refl (λ load. (load, λ j has. with-keeps (enclave_at s e).regions r j has)) (filled_at s e h)

own_initialized : (s : State) (core e t : ℕ) → mode_of s core ≡ modes.Inside e t → FactsHold s → is_initialized (enclave_at s e).stage ≡ true
own_initialized s core e t is h = h.initialized e t (h.inside core e t is)

blocked-unowned : (e k : ℕ) (x : Region) → is_owned_by e (blocked x k) ≡ false
blocked-unowned e k regions.Free = refl
blocked-unowned e k (regions.Owned owner since) = refl
blocked-unowned e k (regions.Blocked owner since at) = refl
blocked-unowned e k (regions.Offered to at) = refl

-- what the OS may block no enclave owns
os_block-unowned : (e : ℕ) (x : Region) → is_done (block_reply modes.Os x) ≡ true → is_owned_by e x ≡ false
os_block-unowned e regions.Free d = refl
os_block-unowned e (regions.Owned owners.Os since) d = refl
os_block-unowned e (regions.Owned (owners.Enclave f) since) d = absurd (true≢false (sym d))
os_block-unowned e (regions.Blocked owner since at) d = refl
os_block-unowned e (regions.Offered to at) d = refl

if_done : (b : Bool) (refusal : Reply) → is_done refusal ≡ false → is_done (cond b done refusal) ≡ true → b ≡ true
if_done true refusal f d = refl
if_done false refusal f d = absurd (true≢false (sym d ∙ f))

-- what an enclave may block it owns
own_block-owned : (e t : ℕ) (x : Region) → is_done (block_reply (modes.Inside e t) x) ≡ true → is_owned_by e x ≡ true
own_block-owned e t regions.Free d = absurd (true≢false (sym d))
own_block-owned e t (regions.Owned owners.Os since) d = absurd (true≢false (sym d))
own_block-owned e t (regions.Owned (owners.Enclave f) since) d = if_done (nat_eq e f) replies.AccessDenied refl d
own_block-owned e t (regions.Blocked owner since at) d = absurd (true≢false (sym d))
own_block-owned e t (regions.Offered to at) d = absurd (true≢false (sym d))

block_kept : (m : Mode) (s : State) (core r k : ℕ) → mode_of s core ≡ m → NamesSlots m → AreTables s → r < length s.regions → is_done (block_reply m (region_at s r)) ≡ true
    → FactsHold s → FactsHold (with_region (without_own_region s m r) r (blocked (region_at s r) k))
block_kept modes.Os s core r k is n t q d h = region_kept s r _ q (λ e. blocked-unowned e k (region_at s r) ∙ sym (os_block-unowned e (region_at s r) d)) h
block_kept (modes.Inside i j) s core r k is n t q d h =
    let x = loses_region (enclave_at s i) r in
    let small = n.0 in
    let p : i < length s.enclaves = omega (arith, t.whole.enclaves) in
    let init = own_initialized s core i j is h in
    let filled = filled-weaker s.shape (enclave_at s i) x (loaded_at s i) refl refl (λ load. not-true _ (initialized-not_loading _ init) load) (filled_at s i h) in
    record {
      sets = sets-lost s.enclaves s.regions i r x _ p q (λ e. blocked-unowned e k (region_at s r)) (λ e ne. owned-one e i (region_at s r) (own_block-owned i j (region_at s r) d) ne) refl h.sets;
      blank = blank-set s.enclaves i x p (not_empty-blank x (initialized-not_empty _ init)) h.blank;
      counts = counts-enclave s.enclaves s.threads i x p refl h.counts;
      inside = h.inside;
      running = h.running;
      alone = h.alone;
      initialized = initialized-enclave s.enclaves s.threads i x p (λ a. a) h.initialized;
      placed = placed-enclave s.shape s.enclaves s.loaded i x p filled.placed h.placed;
      root_pages = roots-enclave s.shape s.enclaves i x p filled.root_pages h.root_pages;
      rootless = rootless-enclave s.enclaves s.loaded i x p filled.rootless h.rootless;
    }

pub free-unowned : (e : ℕ) (x : Region) (flushed : List ℕ) → is_done (free_reply x flushed) ≡ true → is_owned_by e x ≡ false
free-unowned e regions.Free flushed d = refl
free-unowned e (regions.Owned owner since) flushed d = absurd (true≢false (sym d))
free-unowned e (regions.Blocked owner since at) flushed d = refl
free-unowned e (regions.Offered to at) flushed d = refl

pub is_free-unowned : (e : ℕ) (x : Region) → is_free x ≡ true → is_owned_by e x ≡ false
is_free-unowned e regions.Free f = refl
is_free-unowned e (regions.Owned owner since) f = absurd (true≢false (sym f))
is_free-unowned e (regions.Blocked owner since at) f = refl
is_free-unowned e (regions.Offered to at) f = refl

accept-unowned : (e own : ℕ) (x : Region) → is_done (accept_region_reply own x) ≡ true → is_owned_by e x ≡ false
accept-unowned e own regions.Free d = refl
accept-unowned e own (regions.Owned owner since) d = absurd (true≢false (sym d))
accept-unowned e own (regions.Blocked owner since at) d = refl
accept-unowned e own (regions.Offered to at) d = refl

-- a free region goes to an enclave in this stage
give_kept : (stage : Stage) (s : State) (r to k : ℕ) → (enclave_at s to).stage ≡ stage → to < length s.enclaves → r < length s.regions → ((e : ℕ) → is_owned_by e (region_at s r) ≡ false) → is_empty stage ≡ false
    → FactsHold s → FactsHold (with_enclave (with_region s r (assigned stage to k)) to (cond (is_initialized stage) (enclave_at s to) (gains_region (enclave_at s to) r)))
give_kept stages.Empty s r to k is p q unowned there h = absurd (true≢false there)
give_kept stages.Loading s r to k is p q unowned there h = gained_kept s to r k p q unowned (ap is_empty is) h
give_kept stages.Initialized s r to k is p q unowned there h =
    enclave_kept (with_region s r (regions.Offered to k)) to (enclave_at s to) p refl refl (h.blank to) (λ a. a) (filled_at s to h) (region_kept s r (regions.Offered to k) q (λ e. sym (unowned e)) h)

assign_kept : (b : Bool) (s : State) (r to k : ℕ) → (b ≡ false → to < 8) → AreTables s → r < length s.regions → is_done (assign_reply (cond b None (Some (enclave_at s to))) (region_at s r)) ≡ true
    → FactsHold s → FactsHold (cond b (with_region s r (regions.Owned owners.Os k)) (with_enclave (with_region s r (assigned (enclave_at s to).stage to k)) to (with_assigned (enclave_at s to) r)))
assign_kept true s r to k small t q d h = region_kept s r _ q (λ e. sym (is_free-unowned e (region_at s r) (if_done _ replies.InvalidState refl d))) h
assign_kept false s r to k small t q d h =
    let p : to < length s.enclaves = omega (arith, t.whole.enclaves, small refl) in
    let there = passed (is_empty (enclave_at s to).stage) (cond (is_free (region_at s r)) done replies.InvalidState) d in
    give_kept (enclave_at s to).stage s r to k refl p q (λ e. is_free-unowned e (region_at s r) (if_done _ replies.InvalidState refl there.1)) there.0 h
  where
    passed : (b : Bool) (x : Reply) → is_done (cond b replies.InvalidState x) ≡ true → (b ≡ false) × (is_done x ≡ true)
    passed true x d = absurd (true≢false (sym d))
    passed false x d = (refl, d)

-- ---- calls on enclaves

create_kept : (s : State) (e base size : ℕ) → AreTables s → e < 8 → is_done (create_reply (enclave_at s e)) ≡ true → FactsHold s → FactsHold (with_slot s e (created base size) [])
create_kept s e base size t small d h =
    let none : is_empty (enclave_at s e).stage ≡ true = done-if _ d in
    let is = sym (h.blank e none) in
    slot_kept s e (created base size) [] (omega (arith, t.whole.enclaves)) (omega (arith, t.whole.loaded)) (ap (λ (y : Enclave). y.regions) is) (ap (λ (y : Enclave). y.threads) is)
    (not_empty-blank _ refl) (λ i. not-true _ (initialized-not_empty _ i) none) (filled-none s.shape _ refl) h

-- one more item, in a page that is not below the next, with a root
item_kept : (s : State) (e : ℕ) (x : Enclave) (kind : LoadedKind) (va page root : ℕ) → AreTables s → e < 8 → is_loading (enclave_at s e).stage ≡ true → (enclave_at s e).next_page ≤ page
    → (is_reserved kind ≡ false → has_bit (enclave_at s e).regions (region_of_page s.shape page) ≡ true)
    → x.stage ≡ (enclave_at s e).stage → x.regions ≡ (enclave_at s e).regions → x.threads ≡ (enclave_at s e).threads → x.next_page ≡ page + 1
    → x.root ≡ Some root → root < x.next_page → has_bit (enclave_at s e).regions (region_of_page s.shape root) ≡ true → FactsHold s → FactsHold (with_item s e x kind va page)
item_kept s e x kind va page root t small load le lies stage set count next is low there h =
    slot_kept s e x _ (omega (arith, t.whole.enclaves)) (omega (arith, t.whole.loaded)) set count (not_empty-blank x (ap is_empty stage ∙ loading-not_empty _ load)) (λ i. ap is_initialized stage ∙ i)
    (filled-more s.shape (enclave_at s e) x (loaded_at s e) (record { kind = kind; va = va; page = page }) root load le set next lies is low there (filled_at s e h)) h

-- a root that is there
rooted : (x : Enclave) → has_root x ≡ true → (page : ℕ) × (x.root ≡ Some page)
rooted x h = by x.root h
  where
    by : (root : Option ℕ) → is_some root ≡ true → (page : ℕ) × (root ≡ Some page)
    by None h = absurd (true≢false (sym h))
    by (Some page) h = (page, refl)

-- the same with the root that was there
below_kept : (s : State) (e : ℕ) (x : Enclave) (kind : LoadedKind) (va page : ℕ) → AreTables s → e < 8 → is_loading (enclave_at s e).stage ≡ true → (enclave_at s e).next_page ≤ page
    → (is_reserved kind ≡ false → has_bit (enclave_at s e).regions (region_of_page s.shape page) ≡ true)
    → x.stage ≡ (enclave_at s e).stage → x.regions ≡ (enclave_at s e).regions → x.threads ≡ (enclave_at s e).threads → x.next_page ≡ page + 1
    → x.root ≡ (enclave_at s e).root → has_root (enclave_at s e) ≡ true → FactsHold s → FactsHold (with_item s e x kind va page)
below_kept s e x kind va page t small load le lies stage set count next same there h =
    let root = rooted (enclave_at s e) there in
    let was = h.root_pages e root.0 root.1 in
    item_kept s e x kind va page root.0 t small load le lies stage set count next (same ∙ root.1) (omega (arith, was.below)) (was.in_set load) h

-- a table: of level 2 it is the root
table_kept : (b : Bool) (s : State) (e : ℕ) (x : Enclave) (kind : LoadedKind) (va page : ℕ) → AreTables s → e < 8 → takes_page s.shape (enclave_at s e) page ≡ true
    → cond b (not (has_root (enclave_at s e))) (in_enclave (enclave_at s e) va && has_root (enclave_at s e)) ≡ true
    → x.stage ≡ (enclave_at s e).stage → x.regions ≡ (enclave_at s e).regions → x.threads ≡ (enclave_at s e).threads → x.next_page ≡ page + 1
    → x.root ≡ cond b (Some page) (enclave_at s e).root → FactsHold s → FactsHold (with_item s e x kind va page)
table_kept true s e x kind va page t small takes fits stage set count next root h =
    let nextp = first (is_next_page (enclave_at s e) page) _ takes in
    let lies = second (is_next_page (enclave_at s e) page) _ takes in
    item_kept s e x kind va page page t small (loading (enclave_at s e) page nextp) (next_page (enclave_at s e) page nextp) (λ _. lies) stage set count next root (omega (arith, next)) lies h
table_kept false s e x kind va page t small takes fits stage set count next root h =
    let nextp = first (is_next_page (enclave_at s e) page) _ takes in
    let lies = second (is_next_page (enclave_at s e) page) _ takes in
    below_kept s e x kind va page t small (loading (enclave_at s e) page nextp) (next_page (enclave_at s e) page nextp) (λ _. lies) stage set count next root (second (in_enclave (enclave_at s e) va) _ fits) h

init_kept : (s : State) (e : ℕ) → AreTables s → e < 8 → FactsHold s → FactsHold (with_enclave s e (initialized (enclave_at s e)))
init_kept s e t small h =
    enclave_kept s e (initialized (enclave_at s e)) (omega (arith, t.whole.enclaves)) refl refl (not_empty-blank _ refl) (λ _. refl)
    (filled-weaker s.shape (enclave_at s e) _ (loaded_at s e) refl refl (λ load. absurd (true≢false (sym load))) (filled_at s e h)) h

delete_kept : (s : State) (e k : ℕ) → AreTables s → e < 8 → is_done (delete_reply (enclave_at s e)) ≡ true → FactsHold s → FactsHold (with_slot (with_deleted s (regions_of s e) k) e empty_enclave [])
delete_kept s e k t small d h =
    subst FactsHold (sym (deleted_slot s e s.shape.regions k (deleted_in s.regions (members (enclave_at s e).regions s.shape.regions) k) refl refl)) (record {
      sets = sets-deleted s.enclaves s.regions e s.shape.regions k p t.whole.regions h.sets;
      blank = blank-set s.enclaves e empty_enclave p (λ _. refl) h.blank;
      counts = counts-enclave s.enclaves s.threads e empty_enclave p (sym none) h.counts;
      inside = h.inside;
      running = h.running;
      alone = h.alone;
      initialized = initialized-emptied s.enclaves s.threads e empty_enclave p (sym (h.counts e) ∙ none) h.initialized;
      placed = placed-slot s.shape s.enclaves s.loaded e empty_enclave [] p q (filled-none s.shape empty_enclave refl).placed h.placed;
      root_pages = roots-enclave s.shape s.enclaves e empty_enclave p (filled-none s.shape empty_enclave refl).root_pages h.root_pages;
      rootless = rootless-slot s.enclaves s.loaded e empty_enclave [] p q (λ _. refl) h.rootless;
    })
  where
    p : e < length s.enclaves
    p = omega (arith, t.whole.enclaves)

    q : e < length s.loaded
    q = omega (arith, t.whole.loaded)

    none : (enclave_at s e).threads ≡ 0
    none = eqb-true (enclave_at s e).threads 0 (second (not (is_empty (enclave_at s e).stage)) _ (done-if _ d))

mailbox_kept : (s : State) (e m : ℕ) (box : Mailbox) → AreTables s → e < 8 → is_initialized (enclave_at s e).stage ≡ true → FactsHold s → FactsHold (with_enclave s e (with_mailbox (enclave_at s e) m box))
mailbox_kept s e m box t small init h =
    enclave_kept s e (with_mailbox (enclave_at s e) m box) (omega (arith, t.whole.enclaves)) refl refl (not_empty-blank _ (initialized-not_empty _ init)) (λ a. a)
    (filled-weaker s.shape (enclave_at s e) _ (loaded_at s e) refl refl (λ load. (load, λ r has. has)) (filled_at s e h)) h

-- ---- calls on threads

no-state : (state : ThreadState) → is_no_state state ≡ true → state ≡ states.Empty
no-state states.Empty h = refl
no-state (states.Ready e) h = absurd (true≢false (sym h))
no-state (states.Running e) h = absurd (true≢false (sym h))

is-ready : (e : ℕ) (state : ThreadState) → is_ready_in e state ≡ true → state ≡ states.Ready e
is-ready e states.Empty h = absurd (true≢false (sym h))
is-ready e (states.Ready f) h = ap states.Ready (sym (eqb-true e f h))
is-ready e (states.Running f) h = absurd (true≢false (sym h))

-- a count that has not come to the end of its range
one-more : (n : ℕ) → n ≤ 16 → one_more n ≡ n + 1
one-more n le = elim (eqb_tells n 255) [ inl (t, is) ↦ absurd (omega arith) | inr (f, apart) ↦ rw f refl ]

few_threads : (s : State) (e : ℕ) → AreTables s → FactsHold s → (enclave_at s e).threads ≤ 16
few_threads s e t h = omega (arith, h.counts e, t.whole.threads, count_by-le-length (λ (thread : Thread). is_thread_of e thread.state) s.threads)

load_thread_kept : (s : State) (e t entry sp : ℕ) → AreTables s → e < 8 → t < 16 → is_done (load_thread_reply (enclave_at s e) (thread_at s t)) ≡ true
    → FactsHold s → FactsHold (with_thread (with_enclave s e (with_thread_loaded (enclave_at s e) entry sp)) t (ready e entry sp))
load_thread_kept s e t entry sp tables small low d h = record {
  sets = sets-enclave s.enclaves s.regions e x p refl h.sets;
  blank = blank-set s.enclaves e x p (not_empty-blank x (loading-not_empty _ load)) h.blank;
  counts = counts-both s.enclaves s.threads e t x y p q (λ f ne. other-is f e ne ∙ sym (ap (is_thread_of f) empty)) here h.counts;
  inside = running-kept s.threads s.modes t y q (λ f r. absurd (still-empty _ empty f r)) h.inside;
  running = inside-kept s.shape.cores s.threads s.modes t y q (λ f r. absurd (still-ready _ e refl f r)) h.running;
  alone = h.alone;
  initialized = initialized-kept (slice_set s.enclaves e x) s.threads t y q (λ f r. absurd (still-ready _ e refl f r)) (initialized-enclave s.enclaves s.threads e x p (λ i. i) h.initialized);
  placed = placed-enclave s.shape s.enclaves s.loaded e x p filled.placed h.placed;
  root_pages = roots-enclave s.shape s.enclaves e x p filled.root_pages h.root_pages;
  rootless = rootless-enclave s.enclaves s.loaded e x p filled.rootless h.rootless;
}
  where
    x : Enclave
    x = with_thread_loaded (enclave_at s e) entry sp

    filled : IsFilled s.shape x (loaded_at s e)
    filled = filled-weaker s.shape (enclave_at s e) x (loaded_at s e) refl refl (λ load. (load, λ r has. has)) (filled_at s e h)

    y : Thread
    y = ready e entry sp

    p : e < length s.enclaves
    p = omega (arith, tables.whole.enclaves)

    q : t < length s.threads
    q = omega (arith, tables.whole.threads)

    load : is_loading (enclave_at s e).stage ≡ true
    load = first _ _ (done-if _ d)

    empty : (thread_at s t).state ≡ states.Empty
    empty = no-state _ (second (is_loading (enclave_at s e).stage) _ (done-if _ d))

    here : x.threads + one_if (is_thread_of e (thread_at s t).state) ≡ (enclave_at s e).threads + one_if (is_thread_of e y.state)
    here = omega (arith, one-more (enclave_at s e).threads (few_threads s e tables h), ap one_if (ap (is_thread_of e) empty), ap one_if (same-is e))

delete_thread_kept : (s : State) (e t : ℕ) → AreTables s → e < 8 → t < 16 → is_done (delete_thread_reply e (thread_at s t)) ≡ true
    → FactsHold s → FactsHold (with_thread (with_enclave s e (without_thread (enclave_at s e))) t empty_thread)
delete_thread_kept s e t tables small low d h = record {
  sets = sets-enclave s.enclaves s.regions e x p refl h.sets;
  blank = blank-set s.enclaves e x p (λ i. ap without_thread (h.blank e i)) h.blank;
  counts = counts-both s.enclaves s.threads e t x empty_thread p q (λ f ne. sym (ap (is_thread_of f) was ∙ other-is f e ne)) here h.counts;
  inside = running-kept s.threads s.modes t empty_thread q (λ f r. absurd (still-ready _ e was f r)) h.inside;
  running = inside-kept s.shape.cores s.threads s.modes t empty_thread q (λ f r. absurd (running-empty f r)) h.running;
  alone = h.alone;
  initialized = initialized-kept (slice_set s.enclaves e x) s.threads t empty_thread q (λ f r. absurd (running-empty f r)) (initialized-enclave s.enclaves s.threads e x p (λ i. i) h.initialized);
  placed = placed-enclave s.shape s.enclaves s.loaded e x p filled.placed h.placed;
  root_pages = roots-enclave s.shape s.enclaves e x p filled.root_pages h.root_pages;
  rootless = rootless-enclave s.enclaves s.loaded e x p filled.rootless h.rootless;
}
  where
    x : Enclave
    x = without_thread (enclave_at s e)

    filled : IsFilled s.shape x (loaded_at s e)
    filled = filled-weaker s.shape (enclave_at s e) x (loaded_at s e) refl refl (λ load. (load, λ r has. has)) (filled_at s e h)

    p : e < length s.enclaves
    p = omega (arith, tables.whole.enclaves)

    q : t < length s.threads
    q = omega (arith, tables.whole.threads)

    was : (thread_at s t).state ≡ states.Ready e
    was = is-ready e _ (done-if _ d)

    of_e : one_if (is_thread_of e (thread_at s t).state) ≡ 1
    of_e = ap one_if (ap (is_thread_of e) was ∙ same-is e)

    here : x.threads + one_if (is_thread_of e (thread_at s t).state) ≡ (enclave_at s e).threads + one_if (is_thread_of e empty_thread.state)
    here = omega (arith, of_e, h.counts e, count-set e s.threads t empty_thread q)

enter_kept : (s : State) (core e t : ℕ) → AreTables s → core < s.shape.cores → t < 16 → mode_of s core ≡ modes.Os → is_done (enter_reply e (enclave_at s e) (thread_at s t)) ≡ true
    → FactsHold s → FactsHold (with_mode (with_thread s t (running e (thread_at s t))) core (modes.Inside e t))
enter_kept s core e t tables small low os d h = record {
  sets = h.sets;
  blank = h.blank;
  counts = counts-thread s.enclaves s.threads t x q (λ f. sym (ap (is_thread_of f) was)) h.counts;
  inside = running-entered s.threads s.modes core e t x q there (still-ready _ e was) refl h.inside;
  running = inside-entered s.shape.cores s.threads s.modes core e t x q there small os refl h.running;
  alone = alone-entered s.threads s.modes core e t there (still-ready _ e was) h.inside h.alone;
  initialized = initialized-kept s.enclaves s.threads t x q (λ f r. subst (λ (n : ℕ). is_initialized (enclave_at s n).stage ≡ true) (same_slot e f r) init) h.initialized;
  placed = h.placed;
  root_pages = h.root_pages;
  rootless = h.rootless;
}
  where
    x : Thread
    x = running e (thread_at s t)

    q : t < length s.threads
    q = omega (arith, tables.whole.threads)

    there : core < length s.modes
    there = omega (arith, tables.whole.modes)

    init : is_initialized (enclave_at s e).stage ≡ true
    init = first _ _ (done-if _ d)

    was : (thread_at s t).state ≡ states.Ready e
    was = is-ready e _ (second (is_initialized (enclave_at s e).stage) _ (done-if _ d))

-- the core leaves the enclave that it is inside, and its thread is left so
leave_kept : (s : State) (core e t : ℕ) (x : Thread) → AreTables s → core < s.shape.cores → t < 16 → mode_of s core ≡ modes.Inside e t → x.state ≡ stopped (thread_at s t).state
    → FactsHold s → FactsHold (with_mode (with_thread s t x) core modes.Os)
leave_kept s core e t x tables small low is state h = record {
  sets = h.sets;
  blank = h.blank;
  counts = counts-thread s.enclaves s.threads t x q (λ f. ap (is_thread_of f) new ∙ sym (ap (is_thread_of f) was)) h.counts;
  inside = running-left s.threads s.modes core e t x q there is h.alone h.inside;
  running = inside-left s.shape.cores s.threads s.modes core e t x q is (still-ready _ e new) h.running;
  alone = alone-left s.modes core there h.alone;
  initialized = initialized-kept s.enclaves s.threads t x q (λ f r. absurd (still-ready _ e new f r)) h.initialized;
  placed = h.placed;
  root_pages = h.root_pages;
  rootless = h.rootless;
}
  where
    q : t < length s.threads
    q = omega (arith, tables.whole.threads)

    there : core < length s.modes
    there = omega (arith, tables.whole.modes)

    was : (thread_at s t).state ≡ states.Running e
    was = h.inside core e t is

    new : x.state ≡ states.Ready e
    new = state ∙ ap stopped was

-- ---- every call

outside : (m : Mode) → shuts_out TheOs m ≡ false → m ≡ modes.Os
outside modes.Os w = refl
outside (modes.Inside e t) w = absurd (true≢false w)

inside : (m : Mode) → shuts_out AnEnclave m ≡ false → m ≡ modes.Inside (own_slot m) (own_thread m)
inside modes.Os w = absurd (true≢false w)
inside (modes.Inside e t) w = refl

own_thread_small : (m : Mode) → NamesSlots m → own_thread m < 16
own_thread_small modes.Os n = omega arith
own_thread_small (modes.Inside e t) n = n.1

-- the enclave that a core is inside is Initialized
insider : (s : State) (core : ℕ) → shuts_out AnEnclave (mode_of s core) ≡ false → FactsHold s → is_initialized (enclave_at s (own_slot (mode_of s core))).stage ≡ true
insider s core w h = own_initialized s core (own_slot (mode_of s core)) (own_thread (mode_of s core)) (inside (mode_of s core) w) h

effect_kept : (s : State) (core : ℕ) (call : Call) (digest : List ℕ) (k : ℕ) → AreTables s → core < s.shape.cores → NamesSlots (mode_of s core) → is_wrong_mode (mode_of s core) call ≡ false → IsInRange s.shape call → is_done (held_reply s core call) ≡ true
    → FactsHold s → FactsHold (effect s core call digest k)
effect_kept s core (calls.Block r) digest k t c n w a d h = block_kept (mode_of s core) s core r k refl n t (omega (arith, a, t.whole.regions)) d h
effect_kept s core (calls.Free r) digest k t c n w a d h = region_kept s r regions.Free (omega (arith, a, t.whole.regions)) (λ e. sym (free-unowned e (region_at s r) s.flushed d)) h
effect_kept s core (calls.Assign r to) digest k t c n w a d h = assign_kept (nat_eq to os_word) s r to k (not_os to a.1) t (omega (arith, a.0, t.whole.regions)) d h
effect_kept s core calls.Flush digest k t c n w a d h = record { sets = h.sets; blank = h.blank; counts = h.counts; inside = h.inside; running = h.running; alone = h.alone; initialized = h.initialized; placed = h.placed; root_pages = h.root_pages; rootless = h.rootless }
effect_kept s core (calls.RegionInfo r) digest k t c n w a d h = h
effect_kept s core (calls.Create e base size) digest k t c n w a d h = create_kept s e base size t a d h
effect_kept s core (calls.LoadTable e va level page) digest k t c n w a d h =
    let fits = second (takes_page s.shape (enclave_at s e) page) _ (first _ _ (done-if _ d)) in
    table_kept (nat_eq level 2) s e _ _ va page t a.0 (table_taken s.shape (enclave_at s e) (loaded_at s e) va level page d) fits refl refl refl refl refl h
effect_kept s core (calls.LoadPage e va page src perms) digest k t c n w a d h =
    let takes = page_taken s.shape (enclave_at s e) (loaded_at s e) _ va page d in
    let fits = page_fits s.shape (enclave_at s e) (loaded_at s e) _ va page d in
    below_kept s e _ kinds.Page va page t a.0 (loading (enclave_at s e) page (first _ _ takes)) (page_takes s.shape (enclave_at s e) (loaded_at s e) _ va page d) (λ _. second (is_next_page (enclave_at s e) page) _ takes)
    refl refl refl refl refl (second (in_enclave (enclave_at s e) va) _ fits) h
effect_kept s core (calls.LoadThread e j entry sp) digest k t c n w a d h = load_thread_kept s e j entry sp t a.0 a.1 d h
effect_kept s core (calls.Init e) digest k t c n w a d h = init_kept s e t a h
effect_kept s core (calls.DeleteThread e j) digest k t c n w a d h = delete_thread_kept s e j t a.0 a.1 d h
effect_kept s core (calls.Delete e) digest k t c n w a d h = delete_kept s e k t a d h
effect_kept s core (calls.Enter e j) digest k t c n w a d h = enter_kept s core e j t c a.1 (outside (mode_of s core) w) d h
effect_kept s core calls.Exit digest k t c n w a d h = leave_kept s core _ _ _ t c (own_thread_small (mode_of s core) n) (inside (mode_of s core) w) refl h
effect_kept s core (calls.Aex saved) digest k t c n w a d h = leave_kept s core _ _ _ t c (own_thread_small (mode_of s core) n) (inside (mode_of s core) w) refl h
effect_kept s core calls.Restore digest k t c n w a d h = thread_kept s _ _ (omega (arith, own_thread_small (mode_of s core) n, t.whole.threads)) refl h
effect_kept s core (calls.Accept m from) digest k t c n w a d h = mailbox_kept s _ m _ t (own_small (mode_of s core) n) (insider s core w h) h
effect_kept s core (calls.Send to m w0 w1 w2 w3) digest k t c n w a d h = mailbox_kept s to m _ t a.0 (first _ _ (done-if _ d)) h
effect_kept s core (calls.Read m) digest k t c n w a d h = mailbox_kept s _ m _ t (own_small (mode_of s core) n) (insider s core w h) h
effect_kept s core (calls.EnclaveInfo e) digest k t c n w a d h = h
effect_kept s core (calls.SetSatp v) digest k t c n w a d h = h
effect_kept s core (calls.AcceptRegion r) digest k t c n w a d h =
    gained_kept s (own_slot (mode_of s core)) r k (omega (arith, own_small (mode_of s core) n, t.whole.enclaves)) (omega (arith, a, t.whole.regions)) (λ e. accept-unowned e (own_slot (mode_of s core)) (region_at s r) d) (initialized-not_empty _ (insider s core w h)) h
effect_kept s core (calls.Reserve e va page perms) digest k t c n w a d h =
    let fits = second (reserves_page s.shape (enclave_at s e) page) _ (first _ _ (done-if _ d)) in
    below_kept s e _ kinds.Reserved va page t a.0 (loading (enclave_at s e) page (reserve_next s.shape (enclave_at s e) (loaded_at s e) va page d)) (reserve_takes s.shape (enclave_at s e) (loaded_at s e) va page d) (λ f. absurd (true≢false f))
    refl refl refl refl refl (second (in_enclave (enclave_at s e) va) _ fits) h
effect_kept s core (calls.Unknown number args) digest k t c n w a d h = h

pub after_kept : (s : State) (core : ℕ) (call : Call) (digest : List ℕ) (k : ℕ) → core < s.shape.cores → AreTables s → FactsHold s → FactsHold (after s core call digest k)
after_kept s core call digest k small t h = by (is_done (reply_of s core call)) carried_out
  where
    slots : NamesSlots (mode_of s core)
    slots = t.slots core modes.Os (omega (arith, t.whole.modes))

    carried_out : is_done (reply_of s core call) ≡ true → FactsHold (effect s core call digest k)
    carried_out d =
        let c = carried s core call d in
        effect_kept s core call digest k t small slots c.mode (in_range s.shape call c.value) c.held h

    by : (b : Bool) → (b ≡ true → FactsHold (effect s core call digest k)) → FactsHold (cond b (effect s core call digest k) s)
    by true f = f refl
    by false f = h

-- ---- the start

os_unowned : (n e r : ℕ) → is_owned_by e (get_or (replicate n (regions.Owned owners.Os 0)) r regions.Free) ≡ false
os_unowned n e r =
    let long = length-replicate n (regions.Owned owners.Os 0) in
    elim (leb_tells n r) [
      | inl (t, past) ↦ ap (is_owned_by e) (get_or_past (replicate n (regions.Owned owners.Os 0)) r regions.Free (omega arith))
      | inr (f, lt) ↦ ap (is_owned_by e) (get_or-replicate n r (regions.Owned owners.Os 0) regions.Free lt)
    ]

pub start_kept : (shape : Shape) → FactsHold (start shape)
start_kept shape = record {
  sets = λ e r. ap (λ (y : Enclave). has_bit y.regions r) (same_everywhere 8 e empty_enclave) ∙ none-has r ∙ sym (os_unowned shape.regions e r);
  blank = λ e empty. same_everywhere 8 e empty_enclave;
  counts = λ e. ap (λ (y : Enclave). y.threads) (same_everywhere 8 e empty_enclave);
  inside = λ core e t m. absurd (os-outside _ e t (same_everywhere shape.cores core modes.Os) m);
  running = λ e t r. absurd (still-empty _ (ap (λ (y : Thread). y.state) (same_everywhere 16 t empty_thread)) e r);
  alone = λ core other e t m o. absurd (os-outside _ e t (same_everywhere shape.cores core modes.Os) m);
  initialized = λ e t r. absurd (still-empty _ (ap (λ (y : Thread). y.state) (same_everywhere 16 t empty_thread)) e r);
  placed = λ e load. absurd (true≢false (sym load ∙ ap (λ (y : Enclave). is_loading y.stage) (same_everywhere 8 e empty_enclave)));
  root_pages = λ e page is. some-none page (sym (ap (λ (y : Enclave). y.root) (same_everywhere 8 e empty_enclave)) ∙ is);
  rootless = λ e none. same_everywhere {X = List Loaded} 8 e [];
}
