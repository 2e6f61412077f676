-- What is left of held records are the records that the call leaves in every state that has them.
use Rattle.std.proofs.Common.{◌≡◌, ◌⊎◌, inl, inr, ℕ, zero, suc, ◌<◌, ◌+◌, Bool, true, false, cond, eqb, List, [], ◌∷◌, ◌++◌, map, length, None, Some, refl, sym, ap, ◌∙◌, get_or, slice_set, arith, subst}
use Rattle.std.specs.Prelude.{nat_lt}
use Rattle.std.specs.List.{range_with_len}
use Rattle.std.proofs.lemmas.Bool.{eqb-true, eq-eqb, cases_Bool}
use Rattle.std.proofs.lemmas.List.{get_or-set_same, get_or-set_other, length-set}
use Rattle.mon_types.specs.Shape.{Shape, region_of_page}
use Rattle.mon_types.specs.Bits.{has_bit, member, members}
use Rattle.mon_types.specs.Owns.{os_word}
use Rattle.mon_types.specs.Modes.{own_slot, own_thread}
use Rattle.mon_types.specs.Enclaves.{empty_enclave}
use Rattle.mon_types.specs.Threads.{empty_thread}
use Rattle.mon_types.specs.declared.region.Owner.TheVariants as owners
use Rattle.mon_types.specs.declared.region.Region.{Region}
use Rattle.mon_types.specs.declared.region.Region.TheVariants as regions
use Rattle.mon_types.specs.declared.enclave.Enclave.{Enclave}
use Rattle.mon_types.specs.declared.enclave.Mailbox.TheVariants as boxes
use Rattle.mon_types.specs.declared.thread.Thread.{Thread}
use Rattle.mon_types.specs.declared.thread.Mode.{Mode}
use Rattle.mon_types.specs.declared.thread.Mode.TheVariants as modes
use Rattle.mon_types.specs.declared.call.Call.{Call}
use Rattle.mon_types.specs.declared.call.Call.TheVariants as calls
use Rattle.mon_types.specs.declared.object.ObjectId.TheVariants as objects
use Rattle.mon_model.specs.State.{State, IsWhole, region_at, enclave_at, thread_at, flushed_at, mode_of, with_region, with_enclave, with_thread, with_flushed, with_slot}
use Rattle.mon_model.specs.Early.{early}
use Rattle.mon_model.specs.InRange.{IsInRange}
use Rattle.mon_model.proofs.InRange.{not_refused}
use Rattle.mon_model.specs.RegionCalls.{loses_region, gains_region, blocked, assigned, with_assigned}
use Rattle.mon_model.specs.EnclaveCalls.{created, with_table, with_page, with_reserved, initialized, deleted}
use Rattle.mon_model.specs.ThreadCalls.{ready, with_thread_loaded, without_thread, running, left, left_saving, restored}
use Rattle.mon_model.specs.MailCalls.{with_mailbox, sent}
use Rattle.mon_model.specs.Tries.{own_enclave, free_tries, held_tries, tries}
use Rattle.mon_model.specs.EveryStep.{deleted_field}
use Rattle.mon_model.specs.Step.{effect, without_own_region, with_deleted, regions_of}
use Rattle.mon_regions.specs.Named.{given_to}
use Rattle.lock_plan.specs.EveryPlan.{tries_held}
use Rattle.lock_plan.specs.declared.held.Held.{Held}
use Rattle.lock_plan.specs.Objects.{IsCaller}
use Rattle.lock_plan.specs.Plan.{first_enclave, second_enclave}
use Rattle.lock_plan.specs.Records.{records_of}
use Rattle.mon_calls.specs.OnHeld.{put_enclave, put_second, put_thread, put_region, put_cell}
use Rattle.mon_calls.specs.Left.{delete_regions, left_by}
use Rattle.mon_calls.specs.Decided.{AreLeft}
use Rattle.mon_calls.proofs.Said.{own_said, shut, two_slots}

-- ---- new records

set_there : {X : Type 0} (xs : List X) (i n : ℕ) (x d : X) → length xs ≡ n → i < n → get_or (slice_set xs i x) i d ≡ x
set_there xs i n x d e l = get_or-set_same xs i x d (omega (arith, e))

block_left : (s : State) (mode : Mode) (digest : List ℕ) (r k n : ℕ) → length s.regions ≡ n → r < n → length s.enclaves ≡ 8 → own_slot mode < 8
    → left_by mode (calls.Block r) digest k (records_of s (own_enclave mode ++ objects.Region r ∷ []))
    ≡ records_of (with_region (without_own_region s mode r) r (blocked (region_at s r) k)) (own_enclave mode ++ objects.Region r ∷ [])
block_left s modes.Os digest r k n e l f m = rw (set_there s.regions r n (blocked (region_at s r) k) regions.Free e l) refl
block_left s (modes.Inside o t) digest r k n e l f m = rw (set_there s.regions r n (blocked (region_at s r) k) regions.Free e l, set_there s.enclaves o 8 (loses_region (enclave_at s o) r) empty_enclave f m) refl

accept_left : (s : State) (mode : Mode) (digest : List ℕ) (r k n : ℕ) → length s.regions ≡ n → r < n → length s.enclaves ≡ 8 → own_slot mode < 8 → (mode ≡ modes.Os → ⊥)
    → left_by mode (calls.AcceptRegion r) digest k (records_of s (own_enclave mode ++ objects.Region r ∷ []))
    ≡ records_of (with_enclave (with_region s r (regions.Owned (owners.Enclave (own_slot mode)) k)) (own_slot mode) (gains_region (enclave_at s (own_slot mode)) r)) (own_enclave mode ++ objects.Region r ∷ [])
accept_left s modes.Os digest r k n e l f m inside = absurd (inside refl)
accept_left s (modes.Inside o t) digest r k n e l f m inside = rw (set_there s.regions r n (regions.Owned (owners.Enclave o) k) regions.Free e l, set_there s.enclaves o 8 (gains_region (enclave_at s o) r) empty_enclave f m) refl

-- the own enclave with this record
own_left : (s : State) (mode : Mode) (x : Enclave) → length s.enclaves ≡ 8 → own_slot mode < 8 → (mode ≡ modes.Os → ⊥)
    → put_enclave (records_of s (own_enclave mode)) x ≡ records_of (with_enclave s (own_slot mode) x) (own_enclave mode)
own_left s modes.Os x f m inside = absurd (inside refl)
own_left s (modes.Inside o t) x f m inside = rw (set_there s.enclaves o 8 x empty_enclave f m) refl

-- one region with this record, one enclave, one thread
region_left : (s : State) (r n : ℕ) (x : Region) → length s.regions ≡ n → r < n → put_region (records_of s (objects.Region r ∷ [])) x ≡ records_of (with_region s r x) (objects.Region r ∷ [])
region_left s r n x e l = rw (set_there s.regions r n x regions.Free e l) refl

enclave_left : (s : State) (o : ℕ) (x : Enclave) → length s.enclaves ≡ 8 → o < 8 → put_enclave (records_of s (objects.Enclave o ∷ [])) x ≡ records_of (with_enclave s o x) (objects.Enclave o ∷ [])
enclave_left s o x e l = rw (set_there s.enclaves o 8 x empty_enclave e l) refl

thread_left : (s : State) (t : ℕ) (x : Thread) → length s.threads ≡ 16 → t < 16 → put_thread (records_of s (objects.Thread t ∷ [])) x ≡ records_of (with_thread s t x) (objects.Thread t ∷ [])
thread_left s t x e l = rw (set_there s.threads t 16 x empty_thread e l) refl

both_left : (s : State) (o t : ℕ) (x : Enclave) (y : Thread) → length s.enclaves ≡ 8 → o < 8 → length s.threads ≡ 16 → t < 16
    → put_thread (put_enclave (records_of s (objects.Enclave o ∷ objects.Thread t ∷ [])) x) y ≡ records_of (with_thread (with_enclave s o x) t y) (objects.Enclave o ∷ objects.Thread t ∷ [])
both_left s o t x y e l f m = rw (set_there s.enclaves o 8 x empty_enclave e l, set_there s.threads t 16 y empty_thread f m) refl

entered_left : (s : State) (o t : ℕ) (y : Thread) → length s.threads ≡ 16 → t < 16
    → put_thread (records_of s (objects.Enclave o ∷ objects.Thread t ∷ [])) y ≡ records_of (with_thread s t y) (objects.Enclave o ∷ objects.Thread t ∷ [])
entered_left s o t y f m = rw (set_there s.threads t 16 y empty_thread f m) refl

page_left : (s : State) (o r : ℕ) (x : Enclave) → length s.enclaves ≡ 8 → o < 8
    → put_enclave (records_of s (objects.Enclave o ∷ objects.Region r ∷ [])) x ≡ records_of (with_enclave s o x) (objects.Enclave o ∷ objects.Region r ∷ [])
page_left s o r x e l = rw (set_there s.enclaves o 8 x empty_enclave e l) refl

flush_left : (s : State) (c k n : ℕ) → length s.flushed ≡ n → c < n → put_cell (records_of s (objects.Cell c ∷ [])) k ≡ records_of (with_flushed s c k) (objects.Cell c ∷ [])
flush_left s c k n e l = rw (set_there s.flushed c n k 0 e l) refl

-- to an enclave, or to the OS
assign_left : (s : State) (r to k n : ℕ) (b : Bool) → length s.regions ≡ n → r < n → length s.enclaves ≡ 8 → (b ≡ false → to < 8)
    → (let h = records_of s (cond b (objects.Region r ∷ []) (objects.Enclave to ∷ objects.Region r ∷ [])) in
    put_enclave (put_region h (given_to (cond b None (Some (first_enclave h))) to k)) (cond b (first_enclave h) (with_assigned (first_enclave h) r)))
    ≡ records_of (cond b (with_region s r (regions.Owned owners.Os k)) (with_enclave (with_region s r (assigned (enclave_at s to).stage to k)) to (with_assigned (enclave_at s to) r)))
    (cond b (objects.Region r ∷ []) (objects.Enclave to ∷ objects.Region r ∷ []))
assign_left s r to k n true e l f m = rw (set_there s.regions r n (regions.Owned owners.Os k) regions.Free e l) refl
assign_left s r to k n false e l f m = rw (set_there s.regions r n (assigned (enclave_at s to).stage to k) regions.Free e l, set_there s.enclaves to 8 (with_assigned (enclave_at s to) r) empty_enclave f (m refl)) refl

-- a message
send_left : (s : State) (own to m : ℕ) (words : List ℕ) (b d : Bool) → length s.enclaves ≡ 8 → to < 8 → (b ≡ true → own ≡ to) → (b ≡ false → own ≡ to → ⊥)
    → (let h = records_of s (two_slots b d own to) in
    cond b (put_enclave h (with_mailbox (first_enclave h) m (sent own words (first_enclave h).measure)))
    (cond d (put_second h (with_mailbox (second_enclave h) m (sent own words (first_enclave h).measure))) (put_enclave h (with_mailbox (first_enclave h) m (sent own words (second_enclave h).measure)))))
    ≡ records_of (with_enclave s to (with_mailbox (enclave_at s to) m (sent own words (enclave_at s own).measure))) (two_slots b d own to)
send_left s own to m words true d e l same other =
    subst (λ (i : ℕ). (put_enclave (records_of s (objects.Enclave i ∷ [])) (with_mailbox (enclave_at s i) m (sent i words (enclave_at s i).measure))) ≡ records_of (with_enclave s to (with_mailbox (enclave_at s to) m (sent i words (enclave_at s i).measure))) (objects.Enclave i ∷ [])) (sym (same refl))
    (enclave_left s to _ e l)
send_left s own to m words false true e l same other =
    let new = with_mailbox (enclave_at s to) m (sent own words (enclave_at s own).measure) in
    rw (set_there s.enclaves to 8 new empty_enclave e l, get_or-set_other s.enclaves to own new empty_enclave (other refl)) refl
send_left s own to m words false false e l same other =
    let new = with_mailbox (enclave_at s to) m (sent own words (enclave_at s own).measure) in
    rw (set_there s.enclaves to 8 new empty_enclave e l, get_or-set_other s.enclaves to own new empty_enclave (other refl)) refl

-- ---- delete

twice : (x : Region) (k : ℕ) → deleted (deleted x k) k ≡ deleted x k
twice regions.Free k = refl
twice (regions.Owned owner since) k = refl
twice (regions.Blocked owner since at) k = refl
twice (regions.Offered to at) k = refl

-- one of these numbers
abbrev In : ℕ → List ℕ → Type 0
In r [] = ⊥
In r (q ∷ qs) = (r ≡ q) ⊎ In r qs

-- what was deleted at this ticket stays
stays_deleted : (qs : List ℕ) (s : State) (k r n : ℕ) (x : Region) → length s.regions ≡ n → r < n → region_at s r ≡ deleted x k → region_at (with_deleted s qs k) r ≡ deleted x k
stays_deleted [] s k r n x e l h = h
stays_deleted (q ∷ qs) s k r n x e l h =
    let new = deleted (region_at s q) k in
    let t = with_region s q new in
    stays_deleted qs t k r n x (length-set s.regions q new ∙ e) l (elim (cases_Bool (eqb r q)) [
      | inl y ↦ let y = eqb-true r q y in subst (λ (i : ℕ). get_or (slice_set s.regions q new) i regions.Free ≡ deleted x k) (sym y)
          (set_there s.regions q n new regions.Free e (subst (λ i. i < n) y l) ∙ ap (λ i. deleted (region_at s i) k) (sym y) ∙ ap (λ z. deleted z k) h ∙ twice x k)
      | inr y ↦ get_or-set_other s.regions q r new regions.Free (λ f. cc (y, eq-eqb r q f)) ∙ h
    ])

is_deleted : (qs : List ℕ) (s : State) (k r n : ℕ) → length s.regions ≡ n → r < n → In r qs → region_at (with_deleted s qs k) r ≡ deleted (region_at s r) k
is_deleted [] s k r n e l h = absurd h
is_deleted (q ∷ qs) s k r n e l h =
    let new = deleted (region_at s q) k in
    let t = with_region s q new in
    elim (cases_Bool (eqb r q)) [
      | inl y ↦ let y = eqb-true r q y in subst (λ (i : ℕ). region_at (with_deleted t qs k) i ≡ deleted (region_at s i) k) (sym y)
          (stays_deleted qs t k q n (region_at s q) (length-set s.regions q new ∙ e) (subst (λ i. i < n) y l) (set_there s.regions q n new regions.Free e (subst (λ i. i < n) y l)))
      | inr y ↦ elim h [
        | inl f ↦ absurd (cc (y, eq-eqb r q f))
        | inr g ↦ is_deleted qs t k r n (length-set s.regions q new ∙ e) l g ∙ ap (λ x. deleted x k) (get_or-set_other s.regions q r new regions.Free (λ f. cc (y, eq-eqb r q f)))
      ]
    ]

-- the records of regions
regions_left : (s t : State) (k : ℕ) (qs : List ℕ) → ((r : ℕ) → In r qs → region_at t r ≡ deleted (region_at s r) k)
    → delete_regions (records_of s (map (λ r. objects.Region r) qs)) k ≡ records_of t (map (λ r. objects.Region r) qs)
regions_left s t k [] h = refl
regions_left s t k (q ∷ qs) h =
    rw (h q (inl refl)) (ap (λ (x : Held). record x { regions = record { items = (q, deleted (region_at s q) k) ∷ x.regions.items } }) (regions_left s t k qs (λ r m. h r (inr m))))

members_below : (set n r : ℕ) → In r (members set n) → r < n
unfolding members
members_below set zero r h = absurd h
members_below set (suc n) r h = elim (in_append (members set n) (member set n) r h) [
  | inl m ↦ omega (arith, members_below set n r m)
  | inr m ↦ in_member (has_bit set n) m
]
  where
    in_append : (xs ys : List ℕ) (r : ℕ) → In r (xs ++ ys) → In r xs ⊎ In r ys
    in_append [] ys r h = inr h
    in_append (x ∷ xs) ys r h = elim h [
      | inl e ↦ inl (inl e)
      | inr m ↦ elim (in_append xs ys r m) [
        | inl a ↦ inl (inr a)
        | inr b ↦ inr b
      ]
    ]

    in_member : (b : Bool) → In r (cond b (n ∷ []) []) → r < suc n
    in_member true m = elim m [
      | inl e ↦ omega (arith, e)
      | inr f ↦ absurd f
    ]
    in_member false m = absurd m

delete_left : (s : State) (o k : ℕ) → IsWhole s → o < 8
    → delete_regions (put_enclave (records_of s (objects.Enclave o ∷ map (λ r. objects.Region r) (regions_of s o))) empty_enclave) k
    ≡ records_of (with_slot (with_deleted s (regions_of s o) k) o empty_enclave []) (objects.Enclave o ∷ map (λ r. objects.Region r) (regions_of s o))
delete_left s o k w l =
    let t = with_slot (with_deleted s (regions_of s o) k) o empty_enclave [] in
    let slot : enclave_at t o ≡ empty_enclave = set_there (with_deleted s (regions_of s o) k).enclaves o 8 empty_enclave empty_enclave (ap (λ xs. length xs) (deleted_field (λ x. x.enclaves) (λ t r x. refl) s (regions_of s o) k) ∙ w.enclaves) l in
    rw slot (ap (λ (x : Held). record x { enclaves = record { items = (o, empty_enclave) ∷ x.enclaves.items } })
    (regions_left s t k (regions_of s o) (λ r m. is_deleted (regions_of s o) s k r s.shape.regions w.regions (members_below (enclave_at s o).regions s.shape.regions r m) m)))

-- ---- every call

is_false : {b : Bool} {x y : ℕ} → b ≡ false → eqb x y ≡ b → x ≡ y → ⊥
is_false {b} {x} {y} e f g = cc (e, f, eq-eqb x y g)

pub leaves : (s : State) (core : ℕ) (call : Call) (digest : List ℕ) (k : ℕ) → IsWhole s → IsCaller s.shape core (mode_of s core) → IsInRange s.shape call → early s.shape (mode_of s core) call ≡ None
    → left_by (mode_of s core) call digest k (records_of s (held_tries s core call)) ≡ records_of (effect s core call digest k) (held_tries s core call)
leaves s core (calls.Block r) digest k w c a none = block_left s (mode_of s core) digest r k s.shape.regions w.regions a w.enclaves c.slot
leaves s core (calls.Free r) digest k w c a none = freed (region_at s r)
  where
    freed : (x : Region) → put_region (records_of s (free_tries s.shape.cores r x)) regions.Free ≡ records_of (with_region s r regions.Free) (free_tries s.shape.cores r x)
    freed regions.Free = region_left s r s.shape.regions regions.Free w.regions a
    freed (regions.Owned owner since) = region_left s r s.shape.regions regions.Free w.regions a
    freed (regions.Offered to at) = region_left s r s.shape.regions regions.Free w.regions a
    freed (regions.Blocked owner since at) = cells_left 0 s.shape.cores
      where
        cells_left : (b n : ℕ) → put_region (records_of s (objects.Region r ∷ map (λ core. objects.Cell core) (range_with_len b n))) regions.Free ≡ records_of (with_region s r regions.Free) (objects.Region r ∷ map (λ core. objects.Cell core) (range_with_len b n))
        cells_left b zero = region_left s r s.shape.regions regions.Free w.regions a
        cells_left b (suc n) = ap (λ (x : Held). record x { cells = record { items = (b, flushed_at s b) ∷ x.cells.items } }) (cells_left (b + 1) n)
leaves s core (calls.Assign r to) digest k w c a none = assign_left s r to k s.shape.regions (eqb to os_word) w.regions a.0 w.enclaves (λ f. a.1 (is_false f refl))
leaves s core calls.Flush digest k w c a none = flush_left s core k s.shape.cores w.flushed c.there
leaves s core (calls.RegionInfo r) digest k w c a none = refl
leaves s core (calls.Create e base size) digest k w c a none = enclave_left s e (created base size) w.enclaves a
leaves s core (calls.LoadThread e t entry sp) digest k w c a none = both_left s e t (with_thread_loaded (enclave_at s e) entry sp) (ready e entry sp) w.enclaves a.0 w.threads a.1
leaves s core (calls.Init e) digest k w c a none = enclave_left s e (initialized (enclave_at s e)) w.enclaves a
leaves s core (calls.DeleteThread e t) digest k w c a none = both_left s e t (without_thread (enclave_at s e)) empty_thread w.enclaves a.0 w.threads a.1
leaves s core (calls.Delete e) digest k w c a none = delete_left s e k w a
leaves s core (calls.Enter e t) digest k w c a none = entered_left s e t (running e (thread_at s t)) w.threads a.1
leaves s core calls.Exit digest k w c a none = thread_left s (own_thread (mode_of s core)) (left (thread_at s (own_thread (mode_of s core)))) w.threads c.thread
leaves s core (calls.Aex saved) digest k w c a none = thread_left s (own_thread (mode_of s core)) (left_saving (thread_at s (own_thread (mode_of s core))) saved k) w.threads c.thread
leaves s core calls.Restore digest k w c a none = thread_left s (own_thread (mode_of s core)) (restored (thread_at s (own_thread (mode_of s core)))) w.threads c.thread
leaves s core (calls.Accept m from) digest k w c a none =
    let inside : mode_of s core ≡ modes.Os → ⊥ = λ e. shut (sym (ap (λ x. early s.shape x (calls.Accept m from)) e) ∙ none) in
    ap (λ x. put_enclave (records_of s (own_enclave (mode_of s core))) (with_mailbox x m (boxes.Expecting from))) (own_said s (mode_of s core) inside)
    ∙ own_left s (mode_of s core) (with_mailbox (enclave_at s (own_slot (mode_of s core))) m (boxes.Expecting from)) w.enclaves c.slot inside
leaves s core (calls.Send to m w0 w1 w2 w3) digest k w c a none =
    let own = own_slot (mode_of s core) in
    send_left s own to m (w0 ∷ w1 ∷ w2 ∷ w3 ∷ []) (eqb own to) (nat_lt own to) w.enclaves a.0 (eqb-true own to) (λ f. is_false f refl)
leaves s core (calls.Read m) digest k w c a none =
    let inside : mode_of s core ≡ modes.Os → ⊥ = λ e. shut (sym (ap (λ x. early s.shape x (calls.Read m)) e) ∙ none) in
    ap (λ x. put_enclave (records_of s (own_enclave (mode_of s core))) (with_mailbox x m boxes.Closed)) (own_said s (mode_of s core) inside)
    ∙ own_left s (mode_of s core) (with_mailbox (enclave_at s (own_slot (mode_of s core))) m boxes.Closed) w.enclaves c.slot inside
leaves s core (calls.AcceptRegion r) digest k w c a none =
    let inside : mode_of s core ≡ modes.Os → ⊥ = λ e. shut (sym (ap (λ x. early s.shape x (calls.AcceptRegion r)) e) ∙ none) in
    accept_left s (mode_of s core) digest r k s.shape.regions w.regions a w.enclaves c.slot inside
leaves s core (calls.EnclaveInfo e) digest k w c a none = refl
leaves s core (calls.SetSatp v) digest k w c a none = refl
leaves s core (calls.Unknown number args) digest k w c a none = refl
leaves s core (calls.LoadTable e va level page) digest k w c a none = enclave_left s e (with_table (enclave_at s e) va level page) w.enclaves a.0
leaves s core (calls.LoadPage e va page src perms) digest k w c a none = page_left s e (region_of_page s.shape src) (with_page (enclave_at s e) va page perms digest) w.enclaves a.0
leaves s core (calls.Reserve e va page perms) digest k w c a none = enclave_left s e (with_reserved (enclave_at s e) va page perms) w.enclaves a.0

pub are_left : (shape : Shape) (core : ℕ) (mode : Mode) (call : Call) (digest : List ℕ) (k : ℕ) (held : Held) → early shape mode call ≡ None
    → AreLeft shape core mode call digest k held (left_by mode call digest k held)
are_left shape core mode call digest k held none s has caller is_ok =
    let none : early s.shape (mode_of s core) call ≡ None = ap (λ m. early m (mode_of s core) call) has.machine ∙ ap (λ m. early shape m call) has.caller ∙ none in
    let same = tries_held s core call none in
    ap (left_by mode call digest k) (has.records ∙ ap (records_of s) same)
    ∙ ap (λ m. left_by m call digest k (records_of s (held_tries s core call))) (sym has.caller)
    ∙ leaves s core call digest k has.whole caller (not_refused s.shape (mode_of s core) call none) none
    ∙ ap (records_of (effect s core call digest k)) (sym same)
    ∙ ap (λ (b : Bool). records_of (cond b (effect s core call digest k) s) (tries s core call)) (sym is_ok)
