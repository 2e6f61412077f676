-- What a call does in two states that agree on what it tries.
use Rattle.std.proofs.Common.{◌≡◌, ℕ, Bool, true, false, ◌==◌, if◌then◌else◌, List, [], ◌∷◌, ◌++◌, map, Option, Some, None, refl, ◌∙◌, ap, arith}
use Rattle.std.proofs.lemmas.List.{ext_get_or}
use Rattle.mon_types.specs.Shape.{region_of_page}
use Rattle.mon_types.specs.declared.region.Owner.TheVariants as owners
use Rattle.mon_types.specs.declared.region.Region.{Region}
use Rattle.mon_types.specs.declared.region.Region.TheVariants as regions
use Rattle.mon_types.specs.declared.enclave.Mailbox.TheVariants as boxes
use Rattle.mon_types.specs.declared.enclave.Enclave.{Enclave}
use Rattle.mon_types.specs.declared.enclave.Loaded.{Loaded}
use Rattle.mon_types.specs.declared.thread.Thread.{Thread}
use Rattle.mon_types.specs.declared.thread.Mode.{Mode}
use Rattle.mon_types.specs.declared.thread.Mode.TheVariants as modes
use Rattle.mon_types.specs.declared.call.Call.{Call}
use Rattle.mon_types.specs.declared.call.Call.TheVariants as calls
use Rattle.mon_types.specs.declared.reply.Reply.{Reply}
use Rattle.mon_types.specs.declared.reply.Reply.TheVariants as replies
use Rattle.mon_types.specs.declared.object.ObjectId.{ObjectId}
use Rattle.mon_types.specs.declared.object.ObjectId.TheVariants as objects
use Rattle.mon_model.specs.State.{State, IsWhole, region_at, enclave_at, thread_at, loaded_at, mode_of, with_region, with_enclave, with_thread, with_slot}
use Rattle.mon_types.specs.Bits.{members}
use Rattle.mon_types.specs.Replies.{is_done}
use Rattle.mon_types.specs.Owns.{os_word}
use Rattle.mon_model.specs.Early.{is_unsupported, is_wrong_mode, is_bad_value}
use Rattle.mon_model.specs.RegionCalls.{loses_region, gains_region, block_reply, blocked, free_reply, assign_reply, assigned, with_assigned, region_info_reply, accept_region_reply}
use Rattle.mon_model.specs.EnclaveCalls.{create_reply, load_table_reply, load_page_reply, reserve_reply, with_table, with_page, with_reserved, init_reply, initialized, delete_reply, deleted, enclave_info_reply}
use Rattle.mon_model.specs.ThreadCalls.{load_thread_reply, with_thread_loaded, delete_thread_reply, without_thread, enter_reply, running, left, left_saving, restore_reply, restored}
use Rattle.mon_model.specs.MailCalls.{with_mailbox, send_reply, sent, read_reply}
use Rattle.mon_types.specs.Modes.{own_slot, own_thread}
use Rattle.mon_model.specs.Step.{or_else, held_reply, effect, reply_of, without_own_region, with_deleted, regions_of}
use Rattle.mon_model.specs.Tries.{tries, held_tries, own_enclave, free_tries, send_tries, unless_refused}
use Rattle.mon_model.specs.Laws.{AgreeOn, SameCall}
use Rattle.mon_model.proofs.Members.{IsIn, here, there, in_map}
use Rattle.mon_model.proofs.Tried.{own_in, own_alone, behind_own, freed_in, receiver_in, sender_in, cell_in}
use Rattle.mon_model.proofs.Pairs.{Pair, pair, agree, with_regions, with_enclaves, with_slots, with_threads, with_cells, with_modes}

-- ---- what is tried

regions_same : (s t : State) (core : ℕ) (tried : List ObjectId) (e : ℕ) → IsIn tried (objects.Enclave e) → Pair s t core tried → regions_of t e ≡ regions_of s e
regions_same s t core tried e m p =
    ap (λ x. members (enclave_at t e).regions x.regions) p.shape ∙ ap (λ x. members x.regions s.shape.regions) (p.enclaves.same e m)

held_tries_same : (s t : State) (core : ℕ) (call : Call) → Pair s t core (held_tries s core call) → held_tries t core call ≡ held_tries s core call
held_tries_same s t core (calls.Block r) p = ap (λ x. own_enclave x ++ objects.Region r ∷ []) (p.modes.same core refl)
held_tries_same s t core (calls.Free r) p =
    ap (λ x. free_tries x.cores r (region_at t r)) p.shape ∙ ap (λ x. free_tries s.shape.cores r x) (p.regions.same r (freed_in _ r _))
held_tries_same s t core (calls.Assign r to) p = refl
held_tries_same s t core calls.Flush p = refl
held_tries_same s t core (calls.RegionInfo r) p = refl
held_tries_same s t core (calls.Create e base size) p = refl
held_tries_same s t core (calls.LoadTable e va level page) p = refl
held_tries_same s t core (calls.LoadPage e va page src perms) p =
    ap (λ x. objects.Enclave e ∷ objects.Region (region_of_page x src) ∷ []) p.shape
held_tries_same s t core (calls.LoadThread e h entry sp) p = refl
held_tries_same s t core (calls.Init e) p = refl
held_tries_same s t core (calls.DeleteThread e h) p = refl
held_tries_same s t core (calls.Delete e) p =
    ap (λ x. objects.Enclave e ∷ map (λ r. objects.Region r) x) (regions_same s t core _ e here p)
held_tries_same s t core (calls.Enter e h) p = refl
held_tries_same s t core calls.Exit p = ap (λ x. objects.Thread (own_thread x) ∷ []) (p.modes.same core refl)
held_tries_same s t core (calls.Aex saved) p = ap (λ x. objects.Thread (own_thread x) ∷ []) (p.modes.same core refl)
held_tries_same s t core calls.Restore p = ap (λ x. objects.Thread (own_thread x) ∷ []) (p.modes.same core refl)
held_tries_same s t core (calls.Accept m from) p = ap own_enclave (p.modes.same core refl)
held_tries_same s t core (calls.Send to m w0 w1 w2 w3) p = ap (λ x. send_tries (own_slot x) to) (p.modes.same core refl)
held_tries_same s t core (calls.Read m) p = ap own_enclave (p.modes.same core refl)
held_tries_same s t core (calls.EnclaveInfo e) p = refl
held_tries_same s t core (calls.SetSatp v) p = refl
held_tries_same s t core (calls.AcceptRegion r) p = ap (λ x. own_enclave x ++ objects.Region r ∷ []) (p.modes.same core refl)
held_tries_same s t core (calls.Reserve e va page perms) p = refl
held_tries_same s t core (calls.Unknown number args) p = refl

-- ---- the reply

free_same : (s t : State) (core r : ℕ) (region : Region) → Pair s t core (free_tries s.shape.cores r region) → free_reply region t.flushed ≡ free_reply region s.flushed
free_same s t core r regions.Free p = refl
free_same s t core r (regions.Owned owner since) p = refl
free_same s t core r (regions.Blocked owner since at) p =
    ap (λ x. free_reply (regions.Blocked owner since at) x) (ext_get_or 0 t.flushed s.flushed p.flushed.long (λ c l. p.flushed.same c (there (cell_in s.shape.cores c (omega (arith, l, p.flushed.long, p.cores))))))
free_same s t core r (regions.Offered to at) p = refl

-- whether it is assigned to the OS
assign_same : (b : Bool) (s t : State) (core r to : ℕ) → Pair s t core (if b then objects.Region r ∷ [] else objects.Enclave to ∷ objects.Region r ∷ []) → assign_reply (if b then None else Some (enclave_at t to)) (region_at t r) ≡ assign_reply (if b then None else Some (enclave_at s to)) (region_at s r)
assign_same true s t core r to p = ap (λ x. assign_reply None x) (p.regions.same r here)
assign_same false s t core r to p =
    ap (λ x. assign_reply (Some x) (region_at t r)) (p.enclaves.same to here) ∙ ap (λ x. assign_reply (Some (enclave_at s to)) x) (p.regions.same r (there here))

held_reply_same : (s t : State) (core : ℕ) (call : Call) → is_wrong_mode (mode_of s core) call ≡ false → Pair s t core (held_tries s core call) → held_reply t core call ≡ held_reply s core call
held_reply_same s t core (calls.Block r) h p =
    ap (λ x. block_reply x (region_at t r)) (p.modes.same core refl) ∙ ap (λ x. block_reply (mode_of s core) x) (p.regions.same r (behind_own _ r))
held_reply_same s t core (calls.Free r) h p =
    ap (λ x. free_reply x t.flushed) (p.regions.same r (freed_in _ r _)) ∙ free_same s t core r (region_at s r) p
held_reply_same s t core (calls.Assign r to) h p = assign_same (to == os_word) s t core r to p
held_reply_same s t core calls.Flush h p = refl
held_reply_same s t core (calls.RegionInfo r) h p = ap region_info_reply (p.regions.same r here)
held_reply_same s t core (calls.Create e base size) h p = ap create_reply (p.enclaves.same e here)
held_reply_same s t core (calls.LoadTable e va level page) h p =
    ap (λ x. load_table_reply x (enclave_at t e) (loaded_at t e) va level page) p.shape
    ∙ ap (λ x. load_table_reply s.shape x (loaded_at t e) va level page) (p.enclaves.same e here)
    ∙ ap (λ x. load_table_reply s.shape (enclave_at s e) x va level page) (p.loaded.same e here)
held_reply_same s t core (calls.LoadPage e va page src perms) h p =
    ap (λ x. load_page_reply x (enclave_at t e) (loaded_at t e) (region_at t (region_of_page x src)) va page) p.shape
    ∙ ap (λ x. load_page_reply s.shape x (loaded_at t e) (region_at t (region_of_page s.shape src)) va page) (p.enclaves.same e here)
    ∙ ap (λ x. load_page_reply s.shape (enclave_at s e) x (region_at t (region_of_page s.shape src)) va page) (p.loaded.same e here)
    ∙ ap (λ x. load_page_reply s.shape (enclave_at s e) (loaded_at s e) x va page) (p.regions.same _ (there here))
held_reply_same s t core (calls.LoadThread e i entry sp) h p =
    ap (λ x. load_thread_reply x (thread_at t i)) (p.enclaves.same e here) ∙ ap (λ x. load_thread_reply (enclave_at s e) x) (p.threads.same i (there here))
held_reply_same s t core (calls.Init e) h p = ap init_reply (p.enclaves.same e here)
held_reply_same s t core (calls.DeleteThread e i) h p = ap (λ x. delete_thread_reply e x) (p.threads.same i (there here))
held_reply_same s t core (calls.Delete e) h p = ap delete_reply (p.enclaves.same e here)
held_reply_same s t core (calls.Enter e i) h p =
    ap (λ x. enter_reply e x (thread_at t i)) (p.enclaves.same e here) ∙ ap (λ x. enter_reply e (enclave_at s e) x) (p.threads.same i (there here))
held_reply_same s t core calls.Exit h p = refl
held_reply_same s t core (calls.Aex saved) h p = refl
held_reply_same s t core calls.Restore h p =
    ap (λ x. restore_reply (thread_at t (own_thread x))) (p.modes.same core refl) ∙ ap restore_reply (p.threads.same _ here)
held_reply_same s t core (calls.Accept m from) h p = refl
held_reply_same s t core (calls.Send to m w0 w1 w2 w3) h p =
    ap (λ x. send_reply (own_slot x) (enclave_at t to) m) (p.modes.same core refl) ∙ ap (λ x. send_reply (own_slot (mode_of s core)) x m) (p.enclaves.same to (receiver_in _ to))
held_reply_same s t core (calls.Read m) h p =
    ap (λ x. read_reply (enclave_at t (own_slot x)) m) (p.modes.same core refl) ∙ ap (λ x. read_reply x m) (p.enclaves.same _ (own_alone _ h))
held_reply_same s t core (calls.EnclaveInfo e) h p = ap enclave_info_reply (p.enclaves.same e here)
held_reply_same s t core (calls.SetSatp v) h p = refl
held_reply_same s t core (calls.AcceptRegion r) h p =
    ap (λ x. accept_region_reply (own_slot x) (region_at t r)) (p.modes.same core refl) ∙ ap (λ x. accept_region_reply (own_slot (mode_of s core)) x) (p.regions.same r (behind_own _ r))
held_reply_same s t core (calls.Reserve e va page perms) h p =
    ap (λ x. reserve_reply x (enclave_at t e) (loaded_at t e) va page) p.shape
    ∙ ap (λ x. reserve_reply s.shape x (loaded_at t e) va page) (p.enclaves.same e here)
    ∙ ap (λ x. reserve_reply s.shape (enclave_at s e) x va page) (p.loaded.same e here)
held_reply_same s t core (calls.Unknown number args) h p = refl

-- ---- the effect

region_pair : (s t : State) (core : ℕ) (tried : List ObjectId) (r : ℕ) (f : Region → Region) → IsIn tried (objects.Region r) → Pair s t core tried → Pair (with_region s r (f (region_at s r))) (with_region t r (f (region_at t r))) core tried
region_pair s t core tried r f m p = with_regions s t core tried r _ _ p (ap f (p.regions.same r m))

enclave_pair : (s t : State) (core : ℕ) (tried : List ObjectId) (e i : ℕ) (f : Enclave → Enclave) → i ≡ e → IsIn tried (objects.Enclave e) → Pair s t core tried → Pair (with_enclave s e (f (enclave_at s e))) (with_enclave t i (f (enclave_at t i))) core tried
enclave_pair s t core tried e i f g m p = rw g (with_enclaves s t core tried e _ _ p (ap f (p.enclaves.same e m)))

item_pair : (s t : State) (core : ℕ) (tried : List ObjectId) (e : ℕ) (f : Enclave → Enclave) (x : Loaded) → IsIn tried (objects.Enclave e) → Pair s t core tried → Pair (with_slot s e (f (enclave_at s e)) (loaded_at s e ++ x ∷ [])) (with_slot t e (f (enclave_at t e)) (loaded_at t e ++ x ∷ [])) core tried
item_pair s t core tried e f x m p =
    with_slots s t core tried e _ _ _ _ p (ap f (p.enclaves.same e m)) (ap (λ xs. xs ++ x ∷ []) (p.loaded.same e m))

thread_pair : (s t : State) (core : ℕ) (tried : List ObjectId) (h i : ℕ) (f : Thread → Thread) → i ≡ h → IsIn tried (objects.Thread h) → Pair s t core tried → Pair (with_thread s h (f (thread_at s h))) (with_thread t i (f (thread_at t i))) core tried
thread_pair s t core tried h i f g m p = rw g (with_threads s t core tried h _ _ p (ap f (p.threads.same h m)))

block_at : (s t : State) (core : ℕ) (mode : Mode) (r k : ℕ) → Pair s t core (own_enclave mode ++ objects.Region r ∷ []) → Pair (with_region (without_own_region s mode r) r (blocked (region_at s r) k)) (with_region (without_own_region t mode r) r (blocked (region_at t r) k)) core (own_enclave mode ++ objects.Region r ∷ [])
block_at s t core modes.Os r k p = region_pair s t core _ r (λ x. blocked x k) here p
block_at s t core (modes.Inside e h) r k p =
    with_regions _ _ core _ r _ _ (enclave_pair s t core _ e e (λ x. loses_region x r) refl here p) (ap (λ x. blocked x k) (p.regions.same r (there here)))

block_pair : (s t : State) (core : ℕ) (mode now : Mode) (r k : ℕ) → now ≡ mode → Pair s t core (own_enclave mode ++ objects.Region r ∷ []) → Pair (with_region (without_own_region s mode r) r (blocked (region_at s r) k)) (with_region (without_own_region t now r) r (blocked (region_at t r) k)) core (own_enclave mode ++ objects.Region r ∷ [])
block_pair s t core mode now r k g p = rw g (block_at s t core mode r k p)

assign_pair : (b : Bool) (s t : State) (core r to k : ℕ) → Pair s t core (if b then objects.Region r ∷ [] else objects.Enclave to ∷ objects.Region r ∷ []) →
    Pair (if b then with_region s r (regions.Owned owners.Os k) else with_enclave (with_region s r (assigned (enclave_at s to).stage to k)) to (with_assigned (enclave_at s to) r))
    (if b then with_region t r (regions.Owned owners.Os k) else with_enclave (with_region t r (assigned (enclave_at t to).stage to k)) to (with_assigned (enclave_at t to) r))
    core (if b then objects.Region r ∷ [] else objects.Enclave to ∷ objects.Region r ∷ [])
assign_pair true s t core r to k p = with_regions s t core _ r _ _ p refl
assign_pair false s t core r to k p =
    with_enclaves _ _ core _ to _ _ (with_regions s t core _ r _ _ p (ap (λ x. assigned x.stage to k) (p.enclaves.same to here))) (ap (λ x. with_assigned x r) (p.enclaves.same to here))

deleted_at : (s t : State) (core : ℕ) (tried : List ObjectId) (rs : List ℕ) (k : ℕ) → ((r : ℕ) → IsIn rs r → IsIn tried (objects.Region r)) → Pair s t core tried → Pair (with_deleted s rs k) (with_deleted t rs k) core tried
deleted_at s t core tried [] k m p = p
deleted_at s t core tried (r ∷ rs) k m p =
    deleted_at _ _ core tried rs k (λ i h. m i (there h)) (region_pair s t core tried r (λ x. deleted x k) (m r here) p)

deleted_pair : (s t : State) (core : ℕ) (tried : List ObjectId) (rs now : List ℕ) (k : ℕ) → now ≡ rs → ((r : ℕ) → IsIn rs r → IsIn tried (objects.Region r)) → Pair s t core tried → Pair (with_deleted s rs k) (with_deleted t now k) core tried
deleted_pair s t core tried rs now k g m p = rw g (deleted_at s t core tried rs k m p)

accept_pair : (s t : State) (core : ℕ) (tried : List ObjectId) (e i r k : ℕ) → i ≡ e → IsIn tried (objects.Enclave e) → Pair s t core tried → Pair (with_enclave (with_region s r (regions.Owned (owners.Enclave e) k)) e (gains_region (enclave_at s e) r)) (with_enclave (with_region t r (regions.Owned (owners.Enclave i) k)) i (gains_region (enclave_at t i) r)) core tried
accept_pair s t core tried e i r k g m p =
    rw g (with_enclaves _ _ core tried e _ _ (with_regions s t core tried r _ _ p refl) (ap (λ x. gains_region x r) (p.enclaves.same e m)))

send_pair : (s t : State) (core : ℕ) (tried : List ObjectId) (e i to m : ℕ) (words : List ℕ) → i ≡ e → IsIn tried (objects.Enclave e) → IsIn tried (objects.Enclave to) → Pair s t core tried → Pair (with_enclave s to (with_mailbox (enclave_at s to) m (sent e words (enclave_at s e).measure))) (with_enclave t to (with_mailbox (enclave_at t to) m (sent i words (enclave_at t i).measure))) core tried
send_pair s t core tried e i to m words g own other p =
    rw g (with_enclaves s t core tried to _ _ p (ap (λ x. with_mailbox x m (sent e words (enclave_at t e).measure)) (p.enclaves.same to other) ∙ ap (λ x. with_mailbox (enclave_at s to) m (sent e words x.measure)) (p.enclaves.same e own)))

held_pair : (s t : State) (core : ℕ) (call : Call) (digest : List ℕ) (k : ℕ) → is_wrong_mode (mode_of s core) call ≡ false → Pair s t core (held_tries s core call) → Pair (effect s core call digest k) (effect t core call digest k) core (held_tries s core call)
held_pair s t core (calls.Block r) digest k h p = block_pair s t core _ _ r k (p.modes.same core refl) p
held_pair s t core (calls.Free r) digest k h p = with_regions s t core _ r _ _ p refl
held_pair s t core (calls.Assign r to) digest k h p = assign_pair (to == os_word) s t core r to k p
held_pair s t core calls.Flush digest k h p = with_cells s t core _ core k p
held_pair s t core (calls.RegionInfo r) digest k h p = p
held_pair s t core (calls.Create e base size) digest k h p = with_slots s t core _ e _ _ _ _ p refl refl
held_pair s t core (calls.LoadTable e va level page) digest k h p = item_pair s t core _ e (λ x. with_table x va level page) _ here p
held_pair s t core (calls.LoadPage e va page src perms) digest k h p = item_pair s t core _ e (λ x. with_page x va page perms digest) _ here p
held_pair s t core (calls.LoadThread e i entry sp) digest k h p =
    with_threads _ _ core _ i _ _ (enclave_pair s t core _ e e (λ x. with_thread_loaded x entry sp) refl here p) refl
held_pair s t core (calls.Init e) digest k h p = enclave_pair s t core _ e e initialized refl here p
held_pair s t core (calls.DeleteThread e i) digest k h p =
    with_threads _ _ core _ i _ _ (enclave_pair s t core _ e e without_thread refl here p) refl
held_pair s t core (calls.Delete e) digest k h p =
    with_slots _ _ core _ e _ _ _ _ (deleted_pair s t core _ _ _ k (regions_same s t core _ e here p) (λ r m. there (in_map (λ i. objects.Region i) r (regions_of s e) m)) p) refl refl
held_pair s t core (calls.Enter e i) digest k h p =
    with_modes _ _ core _ _ (thread_pair s t core _ i i (λ x. running e x) refl (there here) p)
held_pair s t core calls.Exit digest k h p =
    with_modes _ _ core _ _ (thread_pair s t core _ _ _ left (ap own_thread (p.modes.same core refl)) here p)
held_pair s t core (calls.Aex saved) digest k h p =
    with_modes _ _ core _ _ (thread_pair s t core _ _ _ (λ x. left_saving x saved k) (ap own_thread (p.modes.same core refl)) here p)
held_pair s t core calls.Restore digest k h p = thread_pair s t core _ _ _ restored (ap own_thread (p.modes.same core refl)) here p
held_pair s t core (calls.Accept m from) digest k h p =
    enclave_pair s t core _ _ _ (λ x. with_mailbox x m (boxes.Expecting from)) (ap own_slot (p.modes.same core refl)) (own_alone _ h) p
held_pair s t core (calls.Send to m w0 w1 w2 w3) digest k h p =
    send_pair s t core _ _ _ to m _ (ap own_slot (p.modes.same core refl)) (sender_in _ to) (receiver_in _ to) p
held_pair s t core (calls.Read m) digest k h p =
    enclave_pair s t core _ _ _ (λ x. with_mailbox x m boxes.Closed) (ap own_slot (p.modes.same core refl)) (own_alone _ h) p
held_pair s t core (calls.EnclaveInfo e) digest k h p = p
held_pair s t core (calls.SetSatp v) digest k h p = p
held_pair s t core (calls.AcceptRegion r) digest k h p =
    accept_pair s t core _ _ _ r k (ap own_slot (p.modes.same core refl)) (own_in _ _ h) p
held_pair s t core (calls.Reserve e va page perms) digest k h p = item_pair s t core _ e (λ x. with_reserved x va page perms) _ here p
held_pair s t core (calls.Unknown number args) digest k h p = p

-- ---- any call

if_pair : (b : Bool) (s t u v : State) (core : ℕ) (tried : List ObjectId) → Pair s t core tried → Pair u v core tried → Pair (if b then u else s) (if b then v else t) core tried
if_pair true s t u v core tried p q = q
if_pair false s t u v core tried p q = p

-- whether it is unsupported, of the wrong mode, of bad values
abbrev refusal : Bool → Bool → Bool → Option Reply
refusal u w b = if u then Some replies.Unsupported else if w then Some replies.AccessDenied else if b then Some replies.InvalidValue else None

-- a call's reply, what it tried, and the states after it
record Same (s t u v : State) (core : ℕ) (tried tried_now : List ObjectId) (reply reply_now : Reply) : Type 0 where
  reply_same : reply_now ≡ reply
  tried_same : tried_now ≡ tried
  after_pair : Pair (if is_done reply then u else s) (if is_done reply_now then v else t) core tried

held_same : (s t u v : State) (core : ℕ) (tried tried_now : List ObjectId) (reply reply_now : Reply) → reply_now ≡ reply → tried_now ≡ tried → Pair s t core tried → Pair u v core tried → Same s t u v core tried tried_now reply reply_now
held_same s t u v core tried tried_now reply reply_now g h p q = record {
  reply_same = g;
  tried_same = h;
  after_pair = rw g (if_pair (is_done reply) s t u v core tried p q);
}

refused_same : (s t u v : State) (core : ℕ) (tried : List ObjectId) (reply : Reply) → is_done reply ≡ false → Pair s t core tried → Same s t u v core tried tried reply reply
refused_same s t u v core tried reply h p = record {
  reply_same = refl;
  tried_same = refl;
  after_pair = rw h p;
}

early_same : (u w b : Bool) (s t x y : State) (core : ℕ) (tried tried_now : List ObjectId) (held held_now : Reply) → Pair s t core (unless_refused (refusal u w b) tried) →
    (w ≡ false → Pair s t core tried → Same s t x y core tried tried_now held held_now) →
    Same s t x y core (unless_refused (refusal u w b) tried) (unless_refused (refusal u w b) tried_now) (or_else (refusal u w b) held) (or_else (refusal u w b) held_now)
early_same true w b s t x y core tried tried_now held held_now p h = refused_same s t x y core [] _ refl p
early_same false true b s t x y core tried tried_now held held_now p h = refused_same s t x y core [] _ refl p
early_same false false true s t x y core tried tried_now held held_now p h = refused_same s t x y core [] _ refl p
early_same false false false s t x y core tried tried_now held held_now p h = h refl p

early_now : (u w b w_now b_now : Bool) (s t x y : State) (core : ℕ) (tried tried_now : List ObjectId) (held held_now : Reply) → w_now ≡ w → b_now ≡ b → Pair s t core (unless_refused (refusal u w b) tried) →
    (w ≡ false → Pair s t core tried → Same s t x y core tried tried_now held held_now) →
    Same s t x y core (unless_refused (refusal u w b) tried) (unless_refused (refusal u w_now b_now) tried_now) (or_else (refusal u w b) held) (or_else (refusal u w_now b_now) held_now)
early_now u w b w_now b_now s t x y core tried tried_now held held_now f g p h =
    rw (f, g) (early_same u w b s t x y core tried tried_now held held_now p h)

call_same : (s t : State) (core : ℕ) (call : Call) (digest : List ℕ) (k : ℕ) → Pair s t core (tries s core call) → Same s t (effect s core call digest k) (effect t core call digest k) core (tries s core call) (tries t core call) (reply_of s core call) (reply_of t core call)
call_same s t core call digest k p =
    early_now (is_unsupported call) (is_wrong_mode (mode_of s core) call) (is_bad_value s.shape call) (is_wrong_mode (mode_of t core) call) (is_bad_value t.shape call)
    s t (effect s core call digest k) (effect t core call digest k) core (held_tries s core call) (held_tries t core call) (held_reply s core call) (held_reply t core call)
    (ap (λ x. is_wrong_mode x call) (p.modes.same core refl)) (ap (λ x. is_bad_value x call) p.shape) p
    (λ h q. held_same _ _ _ _ core _ _ _ _ (held_reply_same s t core call h q) (held_tries_same s t core call q) q (held_pair s t core call digest k h q))

pub reads : (s t : State) (core : ℕ) (call : Call) (digest : List ℕ) (k : ℕ) → IsWhole s → IsWhole t → AgreeOn s t core (tries s core call) → SameCall s t core call digest k
reads s t core call digest k a b h =
    let same = call_same s t core call digest k (pair s t core (tries s core call) a b h) in
    record { reply = same.reply_same; objects = same.tried_same; records = agree _ _ core _ same.after_pair }
