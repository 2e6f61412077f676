-- What is said of held records is the reply in every state that has these records.
use Rattle.std.proofs.Common.{◌≡◌, ℕ, zero, suc, Bool, true, false, cond, eqb, List, [], ◌∷◌, ◌++◌, map, length, None, Some, refl, sym, ap, ◌∙◌, get_or, ◌+◌, arith}
use Rattle.std.specs.Prelude.{nat_lt}
use Rattle.std.specs.List.{range_with_len}
use Rattle.std.proofs.lemmas.Bool.{eqb-true}
use Rattle.mon_types.specs.Shape.{Shape, is_shape, region_of_page}
use Rattle.mon_types.specs.Owns.{os_word}
use Rattle.mon_types.specs.Modes.{own_slot}
use Rattle.mon_types.specs.declared.region.Region.{Region}
use Rattle.mon_types.specs.declared.region.Region.TheVariants as regions
use Rattle.mon_types.specs.declared.thread.Mode.{Mode}
use Rattle.mon_types.specs.declared.thread.Mode.TheVariants as modes
use Rattle.mon_types.specs.declared.call.Call.{Call}
use Rattle.mon_types.specs.declared.call.Call.TheVariants as calls
use Rattle.mon_types.specs.declared.reply.Reply.{Reply}
use Rattle.mon_types.specs.declared.object.ObjectId.{ObjectId}
use Rattle.mon_types.specs.declared.object.ObjectId.TheVariants as objects
use Rattle.mon_model.specs.State.{State, IsWhole, region_at, enclave_at, flushed_at, mode_of, loaded_at}
use Rattle.mon_model.specs.Early.{early}
use Rattle.mon_model.specs.RegionCalls.{block_reply, accept_region_reply, free_reply, assign_reply}
use Rattle.mon_model.specs.MailCalls.{send_reply, read_reply}
use Rattle.mon_model.specs.Tries.{own_enclave, all_cells, free_tries, held_tries}
use Rattle.mon_model.specs.Step.{held_reply, or_else}
use Rattle.mon_enclaves.specs.ByWords.{table_reply, page_reply, reserved_reply}
use Rattle.mon_enclaves.proofs.Alike.{table_reply-words, page_reply-words, reserved_reply-words}
use Rattle.lock_plan.specs.EveryPlan.{tries_held}
use Rattle.lock_plan.specs.declared.held.Held.{Held}
use Rattle.lock_plan.specs.Plan.{first_region, first_enclave, second_enclave}
use Rattle.lock_plan.specs.Records.{records_of}
use Rattle.mon_calls.specs.OnHeld.{tickets_held}
use Rattle.mon_calls.specs.Replied.{replied}
use Rattle.mon_calls.specs.Decided.{ArePathWords, IsReply}
use Rattle.mon_calls.specs.OnCore.{core_change, IsChange}
use Rattle.core_context.specs.Changes.{ok_change}

-- ---- records by their places

region_said : (s : State) (mode : Mode) (r : ℕ) → first_region (records_of s (own_enclave mode ++ objects.Region r ∷ [])) ≡ region_at s r
region_said s modes.Os r = refl
region_said s (modes.Inside e t) r = refl

pub own_said : (s : State) (mode : Mode) → (mode ≡ modes.Os → ⊥) → first_enclave (records_of s (own_enclave mode)) ≡ enclave_at s (own_slot mode)
own_said s modes.Os inside = absurd (inside refl)
own_said s (modes.Inside e t) inside = refl

-- a call that an enclave alone may make is refused to the OS
pub shut : {x : Reply} → Some x ≡ None → ⊥
shut e = cc

-- all cells that are held are the table
cells_from : (s : State) (a n : ℕ) → tickets_held (records_of s (map (λ core. objects.Cell core) (range_with_len a n))) ≡ map (λ c. flushed_at s c) (range_with_len a n)
cells_from s a zero = refl
cells_from s a (suc n) = ap (λ xs. flushed_at s a ∷ xs) (cells_from s (a + 1) n)

shifted : (x : ℕ) (xs : List ℕ) (a b n : ℕ) → b ≡ suc a → map (λ c. get_or (x ∷ xs) c 0) (range_with_len b n) ≡ map (λ c. get_or xs c 0) (range_with_len a n)
shifted x xs a b zero e = refl
shifted x xs a b (suc n) e =
    ap (λ i. get_or (x ∷ xs) i 0 ∷ map (λ c. get_or (x ∷ xs) c 0) (range_with_len (b + 1) n)) e
    ∙ ap (λ ys. get_or xs a 0 ∷ ys) (shifted x xs (a + 1) (b + 1) n (omega (arith, e)))

table : (xs : List ℕ) (n : ℕ) → length xs ≡ n → map (λ c. get_or xs c 0) (range_with_len 0 n) ≡ xs
table [] zero e = refl
table [] (suc n) e = absurd (omega arith)
table (x ∷ xs) zero e = absurd (omega arith)
table (x ∷ xs) (suc n) e = ap (λ ys. x ∷ ys) (shifted x xs 0 1 n refl ∙ table xs n (omega arith))

free_said : (s : State) (n r : ℕ) (x : Region) → region_at s r ≡ x → length s.flushed ≡ n
    → free_reply (first_region (records_of s (free_tries n r x))) (tickets_held (records_of s (free_tries n r x))) ≡ free_reply x s.flushed
free_said s n r regions.Free e l = rw e refl
free_said s n r (regions.Owned owner since) e l = rw e refl
free_said s n r (regions.Blocked owner since at) e l =
    ap (λ x. free_reply x (tickets_held (records_of s (all_cells n)))) e
    ∙ ap (free_reply (regions.Blocked owner since at)) (cells_from s 0 n ∙ table s.flushed n l)
free_said s n r (regions.Offered to at) e l = rw e refl

assign_said : (s : State) (r to : ℕ) (b : Bool)
    → assign_reply (cond b None (Some (first_enclave (records_of s (cond b (objects.Region r ∷ []) (objects.Enclave to ∷ objects.Region r ∷ []))))))
    (first_region (records_of s (cond b (objects.Region r ∷ []) (objects.Enclave to ∷ objects.Region r ∷ []))))
    ≡ assign_reply (cond b None (Some (enclave_at s to))) (region_at s r)
assign_said s r to true = refl
assign_said s r to false = refl

-- a sender's slot and a target's: one if they are one, else the lower first
abbrev pub two_slots : Bool → Bool → ℕ → ℕ → List ObjectId
two_slots b d own to =
    cond b (objects.Enclave own ∷ []) (cond d (objects.Enclave own ∷ objects.Enclave to ∷ []) (objects.Enclave to ∷ objects.Enclave own ∷ []))

target_said : (s : State) (own to : ℕ) (b d : Bool) → (b ≡ true → own ≡ to)
    → cond b (first_enclave (records_of s (two_slots b d own to))) (cond d (second_enclave (records_of s (two_slots b d own to))) (first_enclave (records_of s (two_slots b d own to)))) ≡ enclave_at s to
target_said s own to true d same = ap (enclave_at s) (same refl)
target_said s own to false true same = refl
target_said s own to false false same = refl

-- ---- every call

pub said : (s : State) (core : ℕ) (call : Call) (words : List ℕ) → is_shape s.shape ≡ true → IsWhole s → ArePathWords s call words → early s.shape (mode_of s core) call ≡ None
    → replied s.shape (mode_of s core) call (records_of s (held_tries s core call)) words ≡ held_reply s core call
said s core (calls.Block r) words valid w given none = ap (block_reply (mode_of s core)) (region_said s (mode_of s core) r)
said s core (calls.Free r) words valid w given none = free_said s s.shape.cores r (region_at s r) refl w.flushed
said s core (calls.Assign r to) words valid w given none = assign_said s r to (eqb to os_word)
said s core (calls.LoadTable e va level page) words valid w given none =
    ap (table_reply s.shape (enclave_at s e) va level page) given.1 ∙ table_reply-words s.shape (enclave_at s e) (loaded_at s e) va level page valid given.0
said s core (calls.LoadPage e va page src perms) words valid w given none =
    let source = region_at s (region_of_page s.shape src) in
    ap (page_reply s.shape (enclave_at s e) va page source) given.1.1 ∙ page_reply-words s.shape (enclave_at s e) (loaded_at s e) source va given.1.0 page valid given.0
said s core (calls.Reserve e va page perms) words valid w given none =
    ap (reserved_reply s.shape (enclave_at s e) va page) given.1.1 ∙ reserved_reply-words s.shape (enclave_at s e) (loaded_at s e) va given.1.0 page valid given.0
said s core (calls.Send to m w0 w1 w2 w3) words valid w given none =
    let own = own_slot (mode_of s core) in
    ap (λ x. send_reply own x m) (target_said s own to (eqb own to) (nat_lt own to) (eqb-true _ _))
said s core (calls.Read m) words valid w given none =
    ap (λ x. read_reply x m) (own_said s (mode_of s core) (λ e. shut (sym (ap (λ x. early s.shape x (calls.Read m)) e) ∙ none)))
said s core (calls.AcceptRegion r) words valid w given none =
    ap (accept_region_reply (own_slot (mode_of s core))) (region_said s (mode_of s core) r)
said s core _ words valid w given none = refl

pub is_reply : (shape : Shape) (core : ℕ) (mode : Mode) (call : Call) (held : Held) (words : List ℕ) → is_shape shape ≡ true → early shape mode call ≡ None
    → IsReply shape core mode call held words (replied shape mode call held words)
is_reply shape core mode call held words valid none s has given =
    let none : early s.shape (mode_of s core) call ≡ None = ap (λ m. early m (mode_of s core) call) has.machine ∙ ap (λ m. early shape m call) has.caller ∙ none in
    ap (λ h. replied shape mode call h words) (has.records ∙ ap (records_of s) (tries_held s core call none))
    ∙ ap (λ m. replied m mode call (records_of s (held_tries s core call)) words) (sym has.machine)
    ∙ ap (λ m. replied s.shape m call (records_of s (held_tries s core call)) words) (sym has.caller)
    ∙ said s core call words (ap is_shape has.machine ∙ valid) has.whole given none
    ∙ ap (λ o. or_else o (held_reply s core call)) (sym none)

-- ---- what Ok does to the core

change_said : (s : State) (core : ℕ) (call : Call) → core_change call (records_of s (held_tries s core call)) ≡ ok_change s core call
change_said s core calls.Flush = refl
change_said s core _ = refl

pub is_change : (call : Call) (held : Held) → IsChange call held (core_change call held)
is_change call held s core none records =
    ap (core_change call) (records ∙ ap (records_of s) (tries_held s core call none)) ∙ change_said s core call
