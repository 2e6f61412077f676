-- Every call leaves records whose numbers are in the ranges of their words.
use Rattle.std.proofs.Common.{◌≡◌, ◌<◌, ◌∙◌, ℕ, zero, suc, Bool, true, false, cond, eqb, List, [], ◌∷◌, sym, refl, subst, get_or, set, replicate, arith, ◌++◌, inl, inr, ◌≤◌, ◌+◌, ◌-◌, ◌^◌, Option, Some, take, drop}
use Rattle.std.specs.Int.{from_le_bytes, w64}
use Rattle.std.specs.List.{AllByRecursion}
use Rattle.std.proofs.lemmas.Bool.{cases_eq, eqb-false}
use Rattle.std.proofs.lemmas.List.{get_or-drop, length-set}
use Rattle.mon_types.specs.Shape.{Shape, is_shape, page_total}
use Rattle.mon_types.specs.LimitLaws.{few_regions, few_pages}
use Rattle.mon_types.specs.Bits.{has_bit, with_bit, without_bit}
use Rattle.mon_types.specs.Replies.{is_done}
use Rattle.mon_types.specs.Modes.{own_slot, own_thread}
use Rattle.mon_types.specs.Words.{AreWords}
use Rattle.mon_types.specs.Owns.{IsRegion, os_word}
use Rattle.mon_types.specs.Enclaves.{IsEnclave, IsMailbox, IsRoot, empty_enclave}
use Rattle.mon_types.specs.Threads.{IsThread, StateNamesSlot, empty_thread}
use Rattle.mon_types.proofs.Sets.{room_for_bit}
use Rattle.mon_types.proofs.Rows.{zeros_fit}
use Rattle.mon_types.specs.declared.region.Owner.TheVariants as owners
use Rattle.mon_types.specs.declared.region.Region.{Region}
use Rattle.mon_types.specs.declared.region.Region.TheVariants as regions
use Rattle.mon_types.specs.declared.enclave.Stage.{Stage}
use Rattle.mon_types.specs.declared.enclave.Stage.TheVariants as stages
use Rattle.mon_types.specs.declared.enclave.Mailbox.{Mailbox}
use Rattle.mon_types.specs.declared.enclave.Mailbox.TheVariants as boxes
use Rattle.mon_types.specs.declared.enclave.Enclave.{Enclave}
use Rattle.mon_types.specs.declared.enclave.Loaded.{Loaded}
use Rattle.mon_types.specs.declared.thread.ThreadState.{ThreadState}
use Rattle.mon_types.specs.declared.thread.ThreadState.TheVariants as states
use Rattle.mon_types.specs.declared.thread.Thread.{Thread}
use Rattle.mon_types.specs.declared.thread.Mode.{Mode}
use Rattle.mon_types.specs.declared.thread.Mode.TheVariants as modes
use Rattle.mon_types.specs.declared.call.Call.{Call}
use Rattle.mon_types.specs.declared.call.Call.TheVariants as calls
use Rattle.mon_model.specs.State.{State, start, region_at, enclave_at, thread_at, mode_of, with_region, with_enclave, with_thread, with_slot}
use Rattle.mon_model.specs.RegionCalls.{blocked, assigned, with_assigned, is_initialized, gains_region, loses_region}
use Rattle.mon_model.specs.Digests.{sha256_digest}
use Rattle.mon_model.specs.Measure.{Item, Create, measure_created, measure_with, to_words, to_bytes, item_bytes, chain_start, extend}
use Rattle.mon_model.specs.EnclaveCalls.{created, deleted}
use Rattle.mon_model.specs.ThreadCalls.{one_more, ready, running, stopped, left, left_saving, restored}
use Rattle.mon_model.specs.MailCalls.{with_mailbox, sent}
use Rattle.mon_model.specs.InRange.{IsInRange}
use Rattle.mon_model.proofs.InRange.{in_range}
use Rattle.mon_model.specs.Step.{reply_of, after, effect, without_own_region, with_deleted, regions_of}
use Rattle.mon_model.proofs.Carried.{carried}
use Rattle.lock_plan.specs.Objects.{IsCaller}
use Rattle.mon_records.specs.Ranges.{AreInRange, IsCall}
use Rattle.mon_records.proofs.Members.{all_set}

-- ---- tables

set_region : (s : State) (r : ℕ) (x : Region) → IsRegion x → AreInRange s → AreInRange (with_region s r x)
set_region s r x p h = record { region = all_set IsRegion s.regions r x regions.Free p h.region; enclave = h.enclave; thread = h.thread; cell = h.cell }

set_enclave : (s : State) (e : ℕ) (x : Enclave) → IsEnclave x → AreInRange s → AreInRange (with_enclave s e x)
set_enclave s e x p h = record { region = h.region; enclave = all_set IsEnclave s.enclaves e x empty_enclave p h.enclave; thread = h.thread; cell = h.cell }

set_slot : (s : State) (e : ℕ) (x : Enclave) (items : List Loaded) → IsEnclave x → AreInRange s → AreInRange (with_slot s e x items)
set_slot s e x items p h = record { region = h.region; enclave = all_set IsEnclave s.enclaves e x empty_enclave p h.enclave; thread = h.thread; cell = h.cell }

set_thread : (s : State) (t : ℕ) (x : Thread) → IsThread x → AreInRange s → AreInRange (with_thread s t x)
set_thread s t x p h = record { region = h.region; enclave = h.enclave; thread = all_set IsThread s.threads t x empty_thread p h.thread; cell = h.cell }

-- ---- numbers

with_less : (w i : ℕ) → i < 64 → w < 2 ^ 64 → with_bit w i < 2 ^ 64
with_less w i l b = by (has_bit w i) refl
  where
    by : (c : Bool) → has_bit w i ≡ c → cond c w (w + 2 ^ i) < 2 ^ 64
    by true e = b
    by false e = room_for_bit w i l b e

without_less : (w i : ℕ) → w < 2 ^ 64 → without_bit w i < 2 ^ 64
without_less w i b = by (has_bit w i)
  where
    by : (c : Bool) → cond c (w - 2 ^ i) w < 2 ^ 64
    by true = omega arith
    by false = b

more_less : (n : ℕ) → n < 2 ^ 8 → one_more n < 2 ^ 8
more_less n h = by (eqb n 255) (eqb-false n 255)
  where
    by : (c : Bool) → (c ≡ false → n ≡ 255 → ⊥) → cond c 255 (n + 1) < 2 ^ 8
    by true f = omega arith
    by false f = elim (cases_eq n 255) [ inl e ↦ absurd (f refl e) | inr ne ↦ omega arith ]

word_less : (bytes : List ℕ) → ((i : ℕ) → get_or bytes i 0 < 256) → from_le_bytes w64 bytes < 2 ^ 64
word_less bytes h = omega (arith, h 0, h 1, h 2, h 3, h 4, h 5, h 6, h 7)

dropped : (bytes : List ℕ) (n i : ℕ) → ((i : ℕ) → get_or bytes i 0 < 256) → get_or (drop n bytes) i 0 < 256
dropped bytes n i h = subst (λ z. z < 256) (sym (get_or-drop n bytes i 0)) (h (n + i))

taken : (bytes : List ℕ) (n i : ℕ) → ((i : ℕ) → get_or bytes i 0 < 256) → get_or (take n bytes) i 0 < 256
taken bytes zero i h = omega arith
taken [] (suc n) i h = omega arith
taken (x ∷ xs) (suc n) zero h = h 0
taken (x ∷ xs) (suc n) (suc i) h = taken xs n i (λ j. h (suc j))

measure_words : (bytes : List ℕ) → ((i : ℕ) → get_or bytes i 0 < 256) → AreWords 4 (to_words bytes)
measure_words bytes h =
    let at : (n : ℕ) → from_le_bytes w64 (take 8 (drop n bytes)) < 2 ^ 64 = λ n. word_less (take 8 (drop n bytes)) (λ i. taken (drop n bytes) 8 i (λ j. dropped bytes n j h)) in
    record { many = refl; fit = (at 0, (at 8, (at 16, (at 24, tt)))) }

measured_words : (words : List ℕ) (item : Item) → AreWords 4 (measure_with words item)
unfolding measure_with extend
measured_words words item = measure_words _ (sha256_digest (to_bytes words ++ item_bytes item)).bytes

created_words : (base size : ℕ) → AreWords 4 (measure_created base size)
unfolding measure_created extend
created_words base size = measure_words _ (sha256_digest (chain_start ++ item_bytes (Create base size))).bytes

-- ---- records

blocked_in : (g : Region) (k : ℕ) → k < 2 ^ 32 → IsRegion g → IsRegion (blocked g k)
blocked_in regions.Free k b h = tt
blocked_in (regions.Owned o since) k b h = (h.0, h.1, b)
blocked_in (regions.Blocked o since at) k b h = h
blocked_in (regions.Offered to at) k b h = (h.0, h.1, b)

deleted_in : (g : Region) (k : ℕ) → k < 2 ^ 32 → IsRegion g → IsRegion (deleted g k)
deleted_in regions.Free k b h = tt
deleted_in (regions.Owned o since) k b h = (h.0, h.1, b)
deleted_in (regions.Blocked o since at) k b h = h
deleted_in (regions.Offered to at) k b h = h

assigned_in : (stage : Stage) (e k : ℕ) → e < 8 → k < 2 ^ 32 → IsRegion (assigned stage e k)
assigned_in stages.Empty e k h b = (h, b)
assigned_in stages.Loading e k h b = (h, b)
assigned_in stages.Initialized e k h b = (h, b)

gains_in : (x : Enclave) (r : ℕ) → r < 64 → IsEnclave x → IsEnclave (gains_region x r)
gains_in x r l h = record { base = h.base; size = h.size; regions = with_less x.regions r l h.regions; root = h.root; next_page = h.next_page; threads = h.threads; measure = h.measure; two = h.two; mail = h.mail }

loses_in : (x : Enclave) (r : ℕ) → IsEnclave x → IsEnclave (loses_region x r)
loses_in x r h = record { base = h.base; size = h.size; regions = without_less x.regions r h.regions; root = h.root; next_page = h.next_page; threads = h.threads; measure = h.measure; two = h.two; mail = h.mail }

-- a new measurement, and these numbers
measured_in : (x : Enclave) (item : Item) (stage : Stage) (root : Option ℕ) (next threads : ℕ) → IsRoot root → next < 2 ^ 16 → threads < 2 ^ 8 → IsEnclave x →
    IsEnclave (record x { measure = measure_with x.measure item; stage = stage; root = root; next_page = next; threads = threads })
measured_in x item stage root next threads a b c h = record { base = h.base; size = h.size; regions = h.regions; root = a; next_page = b; threads = c; measure = measured_words x.measure item; two = h.two; mail = h.mail }

empty_in : IsEnclave empty_enclave
empty_in = record { base = omega arith; size = omega arith; regions = omega arith; root = tt; next_page = omega arith; threads = omega arith; measure = zeros; two = refl; mail = (tt, (tt, tt)) }
  where
    zeros : AreWords 4 (replicate 4 0)
    zeros = record { many = refl; fit = zeros_fit 4 }

created_in : (base size : ℕ) → base < 2 ^ 64 → size < 2 ^ 64 → IsEnclave (created base size)
created_in base size a b = record { base = a; size = b; regions = omega arith; root = tt; next_page = omega arith; threads = omega arith; measure = created_words base size; two = refl; mail = (tt, (tt, tt)) }

mail_set : (mail : List Mailbox) (m : ℕ) (x : Mailbox) → IsMailbox x → AllByRecursion IsMailbox mail → AllByRecursion IsMailbox (set mail m x)
mail_set [] m x p h = h
mail_set (y ∷ ys) zero x p h = (p, h.1)
mail_set (y ∷ ys) (suc m) x p h = (h.0, mail_set ys m x p h.1)

mail_in : (x : Enclave) (m : ℕ) (b : Mailbox) → IsMailbox b → IsEnclave x → IsEnclave (with_mailbox x m b)
mail_in x m b p h = record { base = h.base; size = h.size; regions = h.regions; root = h.root; next_page = h.next_page; threads = h.threads; measure = h.measure; two = length-set x.mail m b ∙ h.two; mail = mail_set x.mail m b p h.mail }

stopped_in : (st : ThreadState) → StateNamesSlot st → StateNamesSlot (stopped st)
stopped_in states.Empty h = tt
stopped_in (states.Ready e) h = h
stopped_in (states.Running e) h = h

no_words : AreWords 33 (replicate 33 0)
no_words = record { many = refl; fit = zeros_fit 33 }

empty_thread_in : IsThread empty_thread
empty_thread_in = record { state = tt; entry = omega arith; sp = omega arith; saved_at = omega arith; saved = no_words }

-- ---- calls

own_in : (s : State) (mode : Mode) (r : ℕ) → AreInRange s → AreInRange (without_own_region s mode r)
own_in s modes.Os r h = h
own_in s (modes.Inside e t) r h = set_enclave s e _ (loses_in (enclave_at s e) r (h.enclave e)) h

if_in : (b : Bool) (s t : State) → (b ≡ true → AreInRange s) → (b ≡ false → AreInRange t) → AreInRange (cond b s t)
if_in true s t f g = f refl
if_in false s t f g = g refl

deletes_in : (s : State) (rs : List ℕ) (k : ℕ) → k < 2 ^ 32 → AreInRange s → AreInRange (with_deleted s rs k)
deletes_in s [] k b h = h
deletes_in s (r ∷ rs) k b h = deletes_in (with_region s r (deleted (region_at s r) k)) rs k b (set_region s r _ (deleted_in (region_at s r) k b (h.region r)) h)

assigned_same : (b : Bool) (x : Enclave) (r : ℕ) → r < 64 → IsEnclave x → IsEnclave (cond b x (gains_region x r))
assigned_same true x r l h = h
assigned_same false x r l h = gains_in x r l h

root_in : (b : Bool) (page : ℕ) (root : Option ℕ) → page < 2 ^ 16 → IsRoot root → IsRoot (cond b (Some page) root)
root_in true page root l h = l
root_in false page root l h = h

pub effect_in : (s : State) (core : ℕ) (call : Call) (digest : List ℕ) (k : ℕ) → s.shape.regions ≤ 64 → page_total s.shape ≤ 1024 → k < 2 ^ 32 → own_slot (mode_of s core) < 8 → IsInRange s.shape call → IsCall call → AreInRange s → AreInRange (effect s core call digest k)
effect_in s core (calls.Block r) digest k few pages b own a c h = set_region _ r _ (blocked_in (region_at s r) k b (h.region r)) (own_in s (mode_of s core) r h)
effect_in s core (calls.Free r) digest k few pages b own a c h = set_region s r regions.Free tt h
effect_in s core (calls.Assign r to) digest k few pages b own a c h =
    let l : r < 64 = let f = a.0 in omega arith in
    if_in (eqb to os_word) _ _ (λ e. set_region s r _ (tt, b) h)
    (λ e. set_enclave (with_region s r (assigned (enclave_at s to).stage to k)) to (with_assigned (enclave_at s to) r) (assigned_same (is_initialized (enclave_at s to).stage) (enclave_at s to) r l (h.enclave to)) (set_region s r _ (assigned_in (enclave_at s to).stage to k (a.1 (eqb-false to os_word e)) b) h))
effect_in s core (calls.Create e base size) digest k few pages b own a c h = set_slot s e _ [] (created_in base size c.words.1.0 c.words.1.1.0) h
effect_in s core (calls.LoadTable e va level page) digest k few pages b own a c h =
    let x = enclave_at s e in let l = a.2 in
    set_slot s e _ _ (measured_in x _ x.stage _ (page + 1) x.threads (root_in (eqb level 2) page x.root (omega arith) (h.enclave e).root) (omega arith) (h.enclave e).threads (h.enclave e)) h
effect_in s core (calls.LoadPage e va page src perms) digest k few pages b own a c h =
    let x = enclave_at s e in let l = a.1 in
    set_slot s e _ _ (measured_in x _ x.stage x.root (page + 1) x.threads (h.enclave e).root (omega arith) (h.enclave e).threads (h.enclave e)) h
effect_in s core (calls.Reserve e va page perms) digest k few pages b own a c h =
    let x = enclave_at s e in let l = a.1 in
    set_slot s e _ _ (measured_in x _ x.stage x.root (page + 1) x.threads (h.enclave e).root (omega arith) (h.enclave e).threads (h.enclave e)) h
effect_in s core (calls.LoadThread e t entry sp) digest k few pages b own a c h =
    let x = enclave_at s e in
    set_thread _ t (ready e entry sp) (record { state = a.0; entry = c.words.1.1.0; sp = c.words.1.1.1.0; saved_at = omega arith; saved = no_words })
    (set_enclave s e _ (measured_in x _ x.stage x.root x.next_page (one_more x.threads) (h.enclave e).root (h.enclave e).next_page (more_less x.threads (h.enclave e).threads) (h.enclave e)) h)
effect_in s core (calls.Init e) digest k few pages b own a c h =
    let x = enclave_at s e in set_enclave s e _ (measured_in x _ stages.Initialized x.root x.next_page x.threads (h.enclave e).root (h.enclave e).next_page (h.enclave e).threads (h.enclave e)) h
effect_in s core (calls.DeleteThread e t) digest k few pages b own a c h =
    let x = h.enclave e in let n = x.threads in
    set_thread _ t empty_thread empty_thread_in (set_enclave s e _ (record { base = x.base; size = x.size; regions = x.regions; root = x.root; next_page = x.next_page; threads = omega arith; measure = x.measure; two = x.two; mail = x.mail }) h)
effect_in s core (calls.Delete e) digest k few pages b own a c h = set_slot _ e empty_enclave [] empty_in (deletes_in s (regions_of s e) k b h)
effect_in s core (calls.Enter e t) digest k few pages b own a c h =
    let x = h.thread t in
    let i = set_thread s t (running e (thread_at s t)) (record { state = a.0; entry = x.entry; sp = x.sp; saved_at = x.saved_at; saved = x.saved }) h in record { region = i.region; enclave = i.enclave; thread = i.thread; cell = i.cell }
effect_in s core calls.Exit digest k few pages b own a c h =
    let t = own_thread (mode_of s core) in let x = h.thread t in
    let i = set_thread s t (left (thread_at s t)) (record { state = stopped_in (thread_at s t).state x.state; entry = x.entry; sp = x.sp; saved_at = x.saved_at; saved = x.saved }) h in record { region = i.region; enclave = i.enclave; thread = i.thread; cell = i.cell }
effect_in s core (calls.Aex saved) digest k few pages b own a c h =
    let t = own_thread (mode_of s core) in let x = h.thread t in
    let i = set_thread s t (left_saving (thread_at s t) saved k) (record { state = stopped_in (thread_at s t).state x.state; entry = x.entry; sp = x.sp; saved_at = b; saved = record { many = c.all; fit = c.words } }) h in record { region = i.region; enclave = i.enclave; thread = i.thread; cell = i.cell }
effect_in s core calls.Restore digest k few pages b own a c h =
    let t = own_thread (mode_of s core) in let x = h.thread t in set_thread s t (restored (thread_at s t)) (record { state = x.state; entry = x.entry; sp = x.sp; saved_at = omega arith; saved = no_words }) h
effect_in s core (calls.Accept m from) digest k few pages b own a c h = set_enclave s _ _ (mail_in _ m (boxes.Expecting from) a.1 (h.enclave _)) h
effect_in s core (calls.Send to m w0 w1 w2 w3) digest k few pages b own a c h =
    set_enclave s to _ (mail_in _ m (sent (own_slot (mode_of s core)) (w0 ∷ w1 ∷ w2 ∷ w3 ∷ []) (enclave_at s (own_slot (mode_of s core))).measure) (own, record { many = refl; fit = c.words.1.1 }, (h.enclave (own_slot (mode_of s core))).measure) (h.enclave to)) h
effect_in s core (calls.Read m) digest k few pages b own a c h = set_enclave s _ _ (mail_in _ m boxes.Closed tt (h.enclave _)) h
effect_in s core (calls.AcceptRegion r) digest k few pages b own a c h =
    set_enclave (with_region s r _) _ _ (gains_in _ r (omega (arith, a, few)) (h.enclave _)) (set_region s r _ (own, b) h)
effect_in s core calls.Flush digest k few pages b own a c h =
    record { region = h.region; enclave = h.enclave; thread = h.thread; cell = all_set (λ n. n < 2 ^ 32) s.flushed core k 0 b h.cell }
effect_in s core _ digest k few pages b own a c h = h

-- every call leaves records in range, at a ticket of 32 bits
pub after_in : (s : State) (core : ℕ) (call : Call) (digest : List ℕ) (k : ℕ) → is_shape s.shape ≡ true → IsCaller s.shape core (mode_of s core) → IsCall call → k < 2 ^ 32 → AreInRange s → AreInRange (after s core call digest k)
after_in s core call digest k is caller c b h =
    if_in (is_done (reply_of s core call)) (effect s core call digest k) s
    (λ d. effect_in s core call digest k (few_regions s.shape is) (few_pages s.shape is) b caller.slot (in_range s.shape call (carried s core call d).value) c h) (λ e. h)

at_start : {X : Type 0} (P : X → Type 0) (n i : ℕ) (x d : X) → P x → P d → P (get_or (replicate n x) i d)
at_start P zero i x d p q = q
at_start P (suc n) zero x d p q = p
at_start P (suc n) (suc i) x d p q = at_start P n i x d p q

pub start_in : (m : Shape) → AreInRange (start m)
start_in m = record {
  region = λ r. at_start IsRegion m.regions r (regions.Owned owners.Os 0) regions.Free (tt, omega arith) tt;
  enclave = λ e. at_start IsEnclave 8 e empty_enclave empty_enclave empty_in empty_in;
  thread = λ t. at_start IsThread 16 t empty_thread empty_thread empty_thread_in empty_thread_in;
  cell = λ c. at_start (λ n. n < 2 ^ 32) m.cores c 0 0 (omega arith) (omega arith);
}
