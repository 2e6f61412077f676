-- The numbers of a call are words: of its replies, of the rows that it writes, and of the state that it rebuilds from the
-- rows that it has read. And what it tries are objects of the machine.
use Rattle.std.proofs.Common.{◌≡◌, ◌⊎◌, inl, inr, ◌∙◌, ◌+◌, ◌<◌, ◌^◌, ◌%◌, ℕ, zero, suc, Bool, true, false, cond, ◌&&◌, ◌==◌, nat_lt, Option, Some, None, List, [], ◌∷◌, ◌++◌, length-append, replicate, map, get_or, ap, sym, refl, subst, arith}
use Rattle.std.specs.List.{AllByRecursion, range_with_len}
use Rattle.mon_types.specs.Shape.{Shape, is_shape, page_total, region_of_page}
use Rattle.mon_types.specs.LimitLaws.{few_cores, few_regions, few_pages}
use Rattle.mon_types.specs.Objects.{width, object_number}
use Rattle.mon_types.specs.Replies.{is_done, done_if}
use Rattle.mon_types.specs.Modes.{own_slot, own_thread}
use Rattle.mon_types.specs.Words.{AreWords}
use Rattle.mon_types.specs.Owns.{IsRegion, own_word, at_word, IsOwner}
use Rattle.mon_types.specs.Enclaves.{IsEnclave, IsMailbox, IsRoot, empty_enclave, stage_code, root_code, mailbox_row, mail_rows, enclave_from, enclave_parts, enclave_within, root_within}
use Rattle.mon_types.specs.Threads.{IsThread, StateNamesSlot, empty_thread, state_code, thread_from, thread_parts}
use Rattle.mon_types.specs.Cells.{cell_from}
use Rattle.mon_types.proofs.Rows.{part, zeros_fit, fitting_less}
use Rattle.mon_types.proofs.RegionRows.{region_valid}
use Rattle.mon_types.proofs.EnclaveRows.{enclave_valid, enclave_refused}
use Rattle.mon_types.proofs.ThreadRows.{thread_valid, thread_refused}
use Rattle.mon_types.specs.declared.region.Owner.{Owner}
use Rattle.mon_types.specs.declared.region.Owner.TheVariants as owners
use Rattle.mon_types.specs.declared.region.Region.{Region}
use Rattle.mon_types.specs.declared.region.Region.TheVariants as regions
use Rattle.mon_types.specs.declared.enclave.Stage.{Stage}
use Rattle.mon_types.specs.declared.enclave.Stage.TheVariants as stages
use Rattle.mon_types.specs.declared.enclave.Mailbox.{Mailbox}
use Rattle.mon_types.specs.declared.enclave.Mailbox.TheVariants as boxes
use Rattle.mon_types.specs.declared.enclave.Enclave.{Enclave}
use Rattle.mon_types.specs.declared.thread.ThreadState.{ThreadState}
use Rattle.mon_types.specs.declared.thread.ThreadState.TheVariants as states
use Rattle.mon_types.specs.declared.thread.Mode.{Mode}
use Rattle.mon_types.specs.declared.thread.Mode.TheVariants as modes
use Rattle.mon_types.specs.declared.call.Call.{Call}
use Rattle.mon_types.specs.declared.call.Call.TheVariants as calls
use Rattle.mon_types.specs.declared.reply.Reply.{Reply}
use Rattle.mon_types.specs.declared.reply.Reply.TheVariants as replies
use Rattle.mon_types.specs.declared.object.ObjectId.{ObjectId}
use Rattle.mon_types.specs.declared.object.ObjectId.TheVariants as objects
use Rattle.mon_model.specs.State.{State, region_at, enclave_at, thread_at, loaded_at, mode_of}
use Rattle.mon_model.specs.Early.{early, is_unsupported, is_wrong_mode, is_bad_value}
use Rattle.mon_model.specs.InRange.{IsInRange}
use Rattle.mon_model.specs.RegionCalls.{is_empty, block_reply, free_reply, assign_reply, region_info_reply, accept_region_reply, owner_word, is_free, acts_for, blocked}
use Rattle.mon_model.specs.EnclaveCalls.{is_os_owned, leaf_fits}
use Rattle.mon_model.specs.Loading.{takes_page, has_place_for_leaf}
use Rattle.mon_model.specs.MailCalls.{mail_reply}
use Rattle.mon_model.specs.Step.{assignee, reply_of, held_reply, or_else, effect, changed, regions_of}
use Rattle.mon_model.specs.Tries.{tries, held_tries, unless_refused, free_tries}
use Rattle.lock_plan.specs.Objects.{HasObject, IsCaller}
use Rattle.lock_plan.proofs.Order.{Rises, every_rises}
use Rattle.mon_enclaves.specs.ByWords.{leaf_path, words_fit}
use Rattle.mon_enclaves.specs.LoadReply.{words_reply}
use Rattle.loaded_pages.specs.Content.{loaded_pte}
use Rattle.loaded_pages.proofs.Cases.{some_same}
use Rattle.mon_records.specs.Ranges.{AreInRange, IsCall}
use Rattle.mon_records.specs.Rows.{Found, row_words, words_of, same_object}
use Rattle.mon_records.specs.Rebuilt.{found_region, found_enclave, found_thread, found_cell, state_of}
use Rattle.mon_records.specs.EarlyWords.{withdrawn_word, withdrawn_words, early_words}
use Rattle.mon_records.specs.Answers.{freed_where_ok}
use Rattle.mon_records.proofs.RangesKept.{effect_in}
use Rattle.mon_records.proofs.RebuiltStates.{same_object-true, known_mode, known_shape}
use Rattle.protocol.specs.CallTree.{Issuer, early_if, plan_of, behind_first}
use Rattle.core_laws.specs.Outcomes.{IsWord}
use Rattle.core_laws.proofs.Tidy.{IsReply, AreRows}

-- ---- lists

pub all_append : {X : Type 0} (P : X → Type 0) (xs ys : List X) → AllByRecursion P xs → AllByRecursion P ys → AllByRecursion P (xs ++ ys)
all_append P [] ys h k = k
all_append P (x ∷ xs) ys h k = (h.0, all_append P xs ys h.1 k)

pub all_get : {X : Type 0} (P : X → Type 0) (xs : List X) (i : ℕ) (d : X) → AllByRecursion P xs → P d → P (get_or xs i d)
all_get P [] i d h p = p
all_get P (x ∷ xs) zero d h p = h.0
all_get P (x ∷ xs) (suc i) d h p = all_get P xs i d h.1 p

pub all_map : {X Y : Type 0} (P : Y → Type 0) (f : X → Y) → ((x : X) → P (f x)) → (xs : List X) → AllByRecursion P (map f xs)
all_map P f h [] = tt
all_map P f h (x ∷ xs) = (h x, all_map P f h xs)

-- ---- replies

done_fits : (b : Bool) → IsReply (done_if b)
done_fits true = record { words = (omega arith, tt) }
done_fits false = record { words = (omega arith, tt) }

done_or_fits : (b : Bool) (r : Reply) → IsReply r → IsReply (cond b (done_if true) r)
done_or_fits true r h = done_fits true
done_or_fits false r h = h

no_state : IsReply replies.InvalidState
no_state = record { words = (omega arith, tt) }

denied : IsReply replies.AccessDenied
denied = record { words = (omega arith, tt) }

block_fits : (mode : Mode) (g : Region) → IsReply (block_reply mode g)
block_fits mode regions.Free = no_state
block_fits mode (regions.Owned owner since) = done_or_fits (acts_for mode owner) replies.AccessDenied denied
block_fits mode (regions.Blocked owner since at) = no_state
block_fits modes.Os (regions.Offered to at) = done_fits true
block_fits (modes.Inside e t) (regions.Offered to at) = denied

free_fits : (g : Region) (flushed : List ℕ) → IsReply (free_reply g flushed)
free_fits regions.Free flushed = no_state
free_fits (regions.Owned owner since) flushed = no_state
free_fits (regions.Blocked owner since at) flushed = done_or_fits _ replies.NotFlushed (record { words = (omega arith, tt) })
free_fits (regions.Offered to at) flushed = no_state

assign_fits : (to : Option Enclave) (g : Region) → IsReply (assign_reply to g)
assign_fits None g = done_or_fits (is_free g) replies.InvalidState no_state
assign_fits (Some x) g = by (is_empty x.stage)
  where
    by : (b : Bool) → IsReply (cond b replies.InvalidState (cond (is_free g) (done_if true) replies.InvalidState))
    by true = no_state
    by false = done_or_fits (is_free g) replies.InvalidState no_state

owner_fits : (owner : Owner) → IsOwner owner → IsWord (owner_word owner)
owner_fits owners.Os h = omega arith
owner_fits (owners.Enclave e) h = omega arith

info_fits : (g : Region) → IsRegion g → IsReply (region_info_reply g)
info_fits regions.Free h = record { words = (omega arith, (omega arith, (omega arith, (omega arith, (omega arith, tt))))) }
info_fits (regions.Owned owner since) h = record { words = (omega arith, (omega arith, (owner_fits owner h.0, ((let s = h.1 in omega arith), (omega arith, tt))))) }
info_fits (regions.Blocked owner since at) h = record { words = (omega arith, (omega arith, (owner_fits owner h.0, ((let s = h.1 in omega arith), ((let s = h.2 in omega arith), tt))))) }
info_fits (regions.Offered to at) h = record { words = (omega arith, (omega arith, ((let s = h.0 in omega arith), (omega arith, ((let s = h.1 in omega arith), tt))))) }

accept_fits : (own : ℕ) (g : Region) → IsReply (accept_region_reply own g)
accept_fits own regions.Free = no_state
accept_fits own (regions.Owned owner since) = no_state
accept_fits own (regions.Blocked owner since at) = no_state
accept_fits own (regions.Offered to at) = done_or_fits _ replies.AccessDenied denied

stage_less : (stage : Stage) → IsWord (stage_code stage)
stage_less stages.Empty = omega arith
stage_less stages.Loading = omega arith
stage_less stages.Initialized = omega arith

mail_fits : (m : Mailbox) → IsMailbox m → IsReply (mail_reply m)
mail_fits boxes.Closed h = no_state
mail_fits (boxes.Expecting from) h = no_state
mail_fits (boxes.Full from words measure) h =
    let both : AreWords 8 (words ++ measure) = record { many = (let a = h.1.many in let b = h.2.many in simp length-append (omega arith)); fit = all_append IsWord words measure h.1.fit h.2.fit } in
    record { words = (omega arith, (part (words ++ measure) 0 8 8 (omega arith) both).fit) }

page_fits : (a b c : Bool) → IsReply (cond a (cond b (done_if c) replies.AccessDenied) replies.InvalidState)
page_fits true true c = done_fits c
page_fits true false c = denied
page_fits false b c = no_state

copied_fits : (shape : Shape) (x : Enclave) (g : Region) (va page : ℕ) (c : Bool) → IsReply (cond (takes_page shape x page && leaf_fits x va) (cond (is_os_owned g) (done_if c) replies.AccessDenied) replies.InvalidState)
copied_fits shape x g va page c = page_fits (takes_page shape x page && leaf_fits x va) (is_os_owned g) c

restore_fits : (b : Bool) (k : ℕ) → k < 2 ^ 32 → IsReply (cond b replies.InvalidState (replies.Ok 1 (k ∷ 0 ∷ 0 ∷ 0 ∷ 0 ∷ 0 ∷ 0 ∷ 0 ∷ [])))
restore_fits true k h = no_state
restore_fits false k h = record { words = (omega arith, (omega arith, tt)) }

held_fits : (s : State) (core : ℕ) (call : Call) → AreInRange s → IsReply (held_reply s core call)
held_fits s core (calls.Block r) h = block_fits (mode_of s core) (region_at s r)
held_fits s core (calls.Free r) h = free_fits (region_at s r) s.flushed
held_fits s core (calls.Assign r to) h = assign_fits (assignee s to) (region_at s r)
held_fits s core calls.Flush h = done_fits true
held_fits s core (calls.RegionInfo r) h = info_fits (region_at s r) (h.region r)
held_fits s core (calls.Create e base size) h = done_fits _
held_fits s core (calls.LoadTable e va level page) h = done_fits _
held_fits s core (calls.LoadPage e va page src perms) h = copied_fits s.shape (enclave_at s e) (region_at s (region_of_page s.shape src)) va page (has_place_for_leaf (loaded_at s e) va)
held_fits s core (calls.LoadThread e t entry sp) h = done_fits _
held_fits s core (calls.Init e) h = done_fits _
held_fits s core (calls.DeleteThread e t) h = done_fits _
held_fits s core (calls.Delete e) h = done_fits _
held_fits s core (calls.Enter e t) h = done_fits _
held_fits s core calls.Exit h = done_fits true
held_fits s core (calls.Aex saved) h = done_fits true
held_fits s core calls.Restore h =
    let t : ℕ = own_thread (mode_of s core) in
    restore_fits ((thread_at s t).saved_at == 0) (thread_at s t).saved_at (h.thread t).saved_at
held_fits s core (calls.Accept m from) h = done_fits true
held_fits s core (calls.Send to m w0 w1 w2 w3) h = done_fits _
held_fits s core (calls.Read m) h =
    let e : ℕ = own_slot (mode_of s core) in
    mail_fits (get_or (enclave_at s e).mail m boxes.Closed) (all_get IsMailbox (enclave_at s e).mail m boxes.Closed (h.enclave e).mail tt)
held_fits s core (calls.EnclaveInfo e) h =
    let x = h.enclave e in
    record { words = (omega arith, (stage_less (enclave_at s e).stage, (x.base, (x.size, (x.regions, (part (enclave_at s e).measure 0 4 4 (omega arith) x.measure).fit))))) }
held_fits s core (calls.SetSatp v) h = done_fits true
held_fits s core (calls.AcceptRegion r) h = accept_fits (own_slot (mode_of s core)) (region_at s r)
held_fits s core (calls.Reserve e va page perms) h = done_fits _
held_fits s core (calls.Unknown number args) h = record { words = (omega arith, tt) }

-- a reply that tells a word of its number alone
pub record IsRefusal (r : Reply) : Type 0 where
  pub fits : IsReply r
  pub refuses : is_done r ≡ false

refusals : (a b c : Bool) (refusal : Reply) → cond a (Some replies.Unsupported) (cond b (Some replies.AccessDenied) (cond c (Some replies.InvalidValue) None)) ≡ Some refusal → IsRefusal refusal
refusals true b c refusal e = subst IsRefusal (some_same e) (record { fits = record { words = (omega arith, tt) }; refuses = refl })
refusals false true c refusal e = subst IsRefusal (some_same e) (record { fits = denied; refuses = refl })
refusals false false true refusal e = subst IsRefusal (some_same e) (record { fits = record { words = (omega arith, tt) }; refuses = refl })
refusals false false false refusal e = absurd (cc)

pub early_reply : (shape : Shape) (mode : Mode) (call : Call) (refusal : Reply) → early shape mode call ≡ Some refusal → IsRefusal refusal
early_reply shape mode call refusal e = refusals (is_unsupported call) (is_wrong_mode mode call) (is_bad_value shape call) refusal e

pub reply_fits : (s : State) (core : ℕ) (call : Call) → AreInRange s → IsReply (reply_of s core call)
reply_fits s core call h = by (early s.shape (mode_of s core) call) refl
  where
    by : (o : Option Reply) → early s.shape (mode_of s core) call ≡ o → IsReply (or_else o (held_reply s core call))
    by None e = held_fits s core call h
    by (Some refusal) e = (early_reply s.shape (mode_of s core) call refusal e).fits

pub words_reply_fits : (s : State) (call : Call) (words : List ℕ) → IsReply (words_reply s call words)
words_reply_fits s (calls.LoadTable e va level page) words = done_fits _
words_reply_fits s (calls.LoadPage e va page src perms) words = copied_fits s.shape (enclave_at s e) (region_at s (region_of_page s.shape src)) va page (words_fit s.shape leaf_path words)
words_reply_fits s (calls.Reserve e va page perms) words = done_fits _
words_reply_fits s _ words = no_state

object_less : (shape : Shape) (o : ObjectId) → is_shape shape ≡ true → HasObject shape o → IsWord (object_number o)
object_less shape (objects.Enclave e) is h = omega arith
object_less shape (objects.Thread t) is h = omega arith
object_less shape (objects.Region r) is h = let few = few_regions shape is in omega arith
object_less shape (objects.Cell c) is h = let few = few_cores shape is in omega arith

pub met_reply : (shape : Shape) (o : ObjectId) (holder serial : ℕ) → is_shape shape ≡ true → HasObject shape o → IsWord holder → IsWord serial → IsReply (replies.ConcurrentCall o holder serial)
met_reply shape o holder serial is h a b = record { words = (omega arith, (object_less shape o is h, (a, (b, tt)))) }

-- ---- words that are written

pub pte_fits : (shape : Shape) (call : Call) → is_shape shape ≡ true → IsInRange shape call → IsWord (loaded_pte call)
pte_fits shape (calls.LoadTable e va level page) is h = let few = few_pages shape is in let p = h.2 in omega arith
pte_fits shape (calls.LoadPage e va page src perms) is h = let few = few_pages shape is in let p = h.1 in let q = h.3 in omega arith
pte_fits shape (calls.Reserve e va page perms) is h = let few = few_pages shape is in let p = h.1 in let q = h.2 in omega arith
pte_fits shape _ is h = omega arith

own_fits : (g : Region) → IsRegion g → IsWord (own_word g)
own_fits regions.Free h = omega arith
own_fits (regions.Owned owners.Os since) h = let s = h.1 in omega arith
own_fits (regions.Owned (owners.Enclave e) since) h = let o = h.0 in let s = h.1 in omega arith
own_fits (regions.Blocked owners.Os since at) h = let s = h.1 in omega arith
own_fits (regions.Blocked (owners.Enclave e) since at) h = let o = h.0 in let s = h.1 in omega arith
own_fits (regions.Offered to at) h = let o = h.0 in let s = h.1 in omega arith

at_fits : (g : Region) → IsRegion g → IsWord (at_word g)
at_fits regions.Free h = omega arith
at_fits (regions.Owned owner since) h = omega arith
at_fits (regions.Blocked owner since at) h = let s = h.2 in omega arith
at_fits (regions.Offered to at) h = let s = h.1 in omega arith

-- a region that was withdrawn, with no ticket as yet
withdrawn_fits : (g : Region) → IsRegion g → IsRegion (blocked g 0)
withdrawn_fits regions.Free h = tt
withdrawn_fits (regions.Owned owner since) h = (h.0, h.1, omega arith)
withdrawn_fits (regions.Blocked owner since at) h = h
withdrawn_fits (regions.Offered to at) h = (h.0, h.1, omega arith)

one_withdrawn : (r : ℕ) (g : Region) → IsRegion g → AllByRecursion (λ p. IsWord p.1) (withdrawn_word r g)
one_withdrawn r regions.Free h = tt
one_withdrawn r (regions.Owned owner since) h = (own_fits (regions.Blocked owner since 0) (h.0, h.1, omega arith), tt)
one_withdrawn r (regions.Blocked owner since at) h = tt
one_withdrawn r (regions.Offered to at) h = tt

all_withdrawn : (s : State) (rs : List ℕ) → AreInRange s → AllByRecursion (λ p. IsWord p.1) (withdrawn_words s rs)
all_withdrawn s [] h = tt
all_withdrawn s (r ∷ rs) h = all_append (λ p. IsWord p.1) (withdrawn_word r (region_at s r)) (withdrawn_words s rs) (one_withdrawn r (region_at s r) (h.region r)) (all_withdrawn s rs h)

-- the words that a call writes before its Draw
pub early_fits : (b : Bool) (s : State) (call : Call) → AreInRange s → AllByRecursion (λ p. IsWord p.1) (early_if b s call)
unfolding early_if early_words
early_fits false s call h = tt
early_fits true s (calls.Block r) h = (own_fits (blocked (region_at s r) 0) (withdrawn_fits (region_at s r) (h.region r)), tt)
early_fits true s (calls.Delete e) h = all_withdrawn s (regions_of s e) h
early_fits true s _ h = tt

state_less : (st : ThreadState) → StateNamesSlot st → IsWord (state_code st)
state_less states.Empty h = omega arith
state_less (states.Ready e) h = omega arith
state_less (states.Running e) h = omega arith

root_less : (root : Option ℕ) → IsRoot root → IsWord (root_code root)
root_less None h = omega arith
root_less (Some page) h = omega arith

mailbox_fits : (m : Mailbox) → IsMailbox m → AllByRecursion IsWord (mailbox_row m)
mailbox_fits boxes.Closed h = (omega arith, zeros_fit 8)
mailbox_fits (boxes.Expecting from) h = (omega arith, zeros_fit 8)
mailbox_fits (boxes.Full from words measure) h = ((let f = h.0 in omega arith), all_append IsWord words measure h.1.fit h.2.fit)

mails_fit : (ms : List Mailbox) → AllByRecursion IsMailbox ms → AllByRecursion IsWord (mail_rows ms)
mails_fit [] h = tt
mails_fit (m ∷ ms) h = all_append IsWord (mailbox_row m) (mail_rows ms) (mailbox_fits m h.0) (mails_fit ms h.1)

-- the rows of records in range
pub rows_fit : (s : State) (o : ObjectId) → AreInRange s → AllByRecursion IsWord (row_words s o)
unfolding row_words
rows_fit s (objects.Enclave e) h =
    let x = h.enclave e in
    let n = x.next_page in
    let t = x.threads in
    let rest = all_append IsWord (enclave_at s e).measure (mail_rows (enclave_at s e).mail) x.measure.fit (mails_fit (enclave_at s e).mail x.mail) in
    (stage_less (enclave_at s e).stage, (x.base, (x.size, (x.regions, (root_less (enclave_at s e).root x.root, (omega arith, (omega arith, rest)))))))
rows_fit s (objects.Thread t) h =
    let x = h.thread t in
    let k = x.saved_at in
    (state_less (thread_at s t).state x.state, (x.entry, (x.sp, (omega arith, x.saved.fit))))
rows_fit s (objects.Region r) h = (own_fits (region_at s r) (h.region r), (at_fits (region_at s r) (h.region r), tt))
rows_fit s (objects.Cell c) h = ((let k = h.cell c in omega arith), tt)

-- the state after a call's effect
pub effect_fits : (s : State) (core : ℕ) (call : Call) (reply : Reply) (digest : List ℕ) (k : ℕ) → is_shape s.shape ≡ true → own_slot (mode_of s core) < 8 → IsInRange s.shape call → IsCall call → k < 2 ^ 32 → AreInRange s → AreInRange (changed reply s core call digest k)
effect_fits s core call reply digest k is own range is_call less h = by (is_done reply)
  where
    by : (b : Bool) → AreInRange (cond b (effect s core call digest k) s)
    by true = effect_in s core call digest k (few_regions s.shape is) (few_pages s.shape is) less own range is_call h
    by false = h

-- ---- the state that is rebuilt

found_words : (found : Found) (o : ObjectId) → AllByRecursion (λ p. AreWords (width p.0) p.1) found → (words_of found o ≡ []) ⊎ AreWords (width o) (words_of found o)
unfolding words_of
found_words [] o h = inl refl
found_words (p ∷ found) o h = by (same_object p.0 o) refl (found_words found o h.1)
  where
    by : (b : Bool) → same_object p.0 o ≡ b → (words_of found o ≡ []) ⊎ AreWords (width o) (words_of found o) → (cond b p.1 (words_of found o) ≡ []) ⊎ AreWords (width o) (cond b p.1 (words_of found o))
    by true e k = inr (subst (λ z. AreWords (width z) p.1) (same_object-true p.0 o e) h.0)
    by false e k = k

no_thread : IsThread empty_thread
no_thread = record { state = tt; entry = omega arith; sp = omega arith; saved_at = omega arith; saved = none }
  where
    none : AreWords 33 (replicate 33 0)
    none = record { many = refl; fit = zeros_fit 33 }

no_enclave : IsEnclave empty_enclave
no_enclave = record { base = omega arith; size = omega arith; regions = omega arith; root = tt; next_page = omega arith; threads = omega arith; measure = none; two = refl; mail = (tt, (tt, tt)) }
  where
    none : AreWords 4 (replicate 4 0)
    none = record { many = refl; fit = zeros_fit 4 }

within_fits : (m : Shape) (x : Enclave) → IsEnclave x → IsEnclave (enclave_within m x)
unfolding enclave_within root_within
within_fits m x h = record { base = h.base; size = h.size; regions = less x.regions (2 ^ m.regions) h.regions; root = root x.root h.root; next_page = h.next_page; threads = h.threads; measure = h.measure; two = h.two; mail = h.mail }
  where
    less : (a n : ℕ) → a < 2 ^ 64 → a % n < 2 ^ 64
    less a n h = omega arith

    root : (r : Option ℕ) → IsRoot r → IsRoot (root_within m r)
    root None h = tt
    root (Some page) h = by (nat_lt page (page_total m))
      where
        by : (b : Bool) → IsRoot (cond b (Some page) None)
        by true = h
        by false = tt

thread_fits : (found : Found) (t : ℕ) → AreRows found → IsThread (found_thread found t)
unfolding width
thread_fits found t h = elim (found_words found (objects.Thread t) h.rows) [
  | inl e ↦ subst (λ z. IsThread (thread_from z)) (sym e) (subst IsThread (thread_refused [] (thread_parts []) empty_thread refl (λ f. cc) refl) no_thread)
  | inr w ↦ thread_valid (words_of found (objects.Thread t)) w
]

enclave_fits : (m : Shape) (found : Found) (e : ℕ) → AreRows found → IsEnclave (found_enclave m found e)
unfolding width
enclave_fits m found e h = within_fits m (enclave_from (words_of found (objects.Enclave e))) (elim (found_words found (objects.Enclave e) h.rows) [
  | inl f ↦ subst (λ z. IsEnclave (enclave_from z)) (sym f) (subst IsEnclave (enclave_refused [] (enclave_parts []) empty_enclave refl (λ g. cc) refl) no_enclave)
  | inr w ↦ enclave_valid (words_of found (objects.Enclave e)) w
])

pub found_fits : (m : Shape) (mode : Mode) (found : Found) → AreRows found → AreInRange (state_of m mode found)
unfolding state_of cell_from
found_fits m mode found h = record {
  region = λ r. all_get IsRegion (map (found_region found) (range_with_len 0 m.regions)) r regions.Free (all_map IsRegion (found_region found) (λ x. region_valid (words_of found (objects.Region x))) (range_with_len 0 m.regions)) tt;
  enclave = λ e. all_get IsEnclave (map (found_enclave m found) (range_with_len 0 8)) e empty_enclave (all_map IsEnclave (found_enclave m found) (λ x. enclave_fits m found x h) (range_with_len 0 8)) no_enclave;
  thread = λ t. all_get IsThread (map (found_thread found) (range_with_len 0 16)) t empty_thread (all_map IsThread (found_thread found) (λ x. thread_fits found x h) (range_with_len 0 16)) no_thread;
  cell = λ c. all_get (λ n. n < 2 ^ 32) (map (found_cell found) (range_with_len 0 m.cores)) c 0 (all_map (λ n. n < 2 ^ 32) (found_cell found) (λ x. fitting_less (2 ^ 32) _ (omega arith)) (range_with_len 0 m.cores)) (omega arith);
}

-- ---- what is tried

all_there : (m : Shape) (lo hi : ℕ) (xs : List ObjectId) → Rises m lo hi xs → AllByRecursion (HasObject m) xs
all_there m lo hi [] h = tt
all_there m lo hi (x ∷ xs) h = (h.0, all_there m (object_number x + 1) hi xs h.2)

pub all_planned : (shape : Shape) (by : Issuer) (call : Call) (found : Found) → is_shape shape ≡ true → IsCaller shape by.core by.mode → AllByRecursion (HasObject shape) (plan_of shape by call found)
all_planned shape by call found is caller =
    let s : State = state_of shape by.mode found in
    let mode : by.mode ≡ mode_of s by.core = sym (known_mode shape by.core by.mode found caller.there) in
    let shaped : s.shape ≡ shape = known_shape shape by.mode found in
    all_there shape 0 144 (tries s by.core call)
    (subst (λ m. Rises m 0 144 (tries s by.core call)) shaped
    (every_rises s by.core call (subst (λ m. is_shape m ≡ true) (sym shaped) is) (subst (λ m. IsCaller m by.core (mode_of s by.core)) (sym shaped) (subst (IsCaller shape by.core) mode caller))))

pub behind_there : (m : Shape) (xs : List ObjectId) → AllByRecursion (HasObject m) xs → AllByRecursion (HasObject m) (behind_first xs)
behind_there m [] h = tt
behind_there m (x ∷ xs) h = h.1

-- a call that tries nothing frees nothing
pub frees_tried : (s : State) (core : ℕ) (call : Call) → early s.shape (mode_of s core) call ≡ None → tries s core call ≡ [] → freed_where_ok call ≡ None
frees_tried s core (calls.Free r) e none = absurd (some (region_at s r) (sym (ap (λ z. unless_refused z (held_tries s core (calls.Free r))) e) ∙ none))
  where
    some : (g : Region) → free_tries s.shape.cores r g ≡ [] → ⊥
    some regions.Free f = cc
    some (regions.Owned owner since) f = cc
    some (regions.Blocked owner since at) f = cc
    some (regions.Offered to at) f = cc
frees_tried s core _ e none = refl
