-- The Draw of an Ok call and what follows, as the tree says it, is what its records and words say.
use Rattle.std.proofs.Common.{◌≡◌, ◌∙◌, ◌+◌, ◌≤◌, ℕ, zero, suc, Bool, true, false, cond, eqb, List, [], ◌∷◌, ◌++◌, length, get_or, set, ap, sym, refl, arith, append_assoc}
use Rattle.std.specs.List.{AllByRecursion}
use Rattle.mon_types.specs.Shape.{Shape}
use Rattle.mon_types.specs.Objects.{width}
use Rattle.mon_types.specs.Owns.{os_word, IsRegion, RegionNamesSlot}
use Rattle.mon_types.specs.Enclaves.{enclave_row, empty_enclave, IsMailbox, MailboxNamesSlot}
use Rattle.mon_types.specs.Threads.{thread_row, empty_thread}
use Rattle.mon_types.specs.Modes.{own_thread}
use Rattle.mon_types.specs.declared.region.Owner.TheVariants as owners
use Rattle.mon_types.specs.declared.region.Region.TheVariants as regions
use Rattle.mon_types.specs.declared.enclave.Mailbox.{Mailbox}
use Rattle.mon_types.specs.declared.enclave.Mailbox.TheVariants as boxes
use Rattle.mon_model.specs.RegionCalls.{blocked, assigned, with_assigned}
use Rattle.mon_model.specs.ThreadCalls.{left_saving}
use Rattle.mon_types.specs.declared.region.Region.{Region}
use Rattle.mon_types.specs.declared.enclave.Enclave.{Enclave}
use Rattle.mon_types.specs.declared.thread.Thread.{Thread}
use Rattle.mon_types.specs.declared.thread.Mode.{Mode}
use Rattle.mon_types.specs.declared.call.Call.{Call}
use Rattle.mon_types.specs.declared.call.Call.TheVariants as calls
use Rattle.mon_types.specs.declared.object.ObjectId.{ObjectId}
use Rattle.mon_types.specs.declared.object.ObjectId.TheVariants as objects
use Rattle.mon_types.proofs.EnclaveRows.{enclave_long}
use Rattle.mon_model.specs.State.{State, region_at, enclave_at, thread_at, flushed_at, mode_of, with_region, with_enclave}
use Rattle.mon_model.specs.Step.{effect, without_own_region, regions_of}
use Rattle.mon_model.specs.EveryStep.{deleted_field}
use Rattle.lock_plan.specs.Records.{records_of}
use Rattle.lock_plan.proofs.Order.{Rises}
use Rattle.mon_records.specs.Rows.{row_words}
use Rattle.mon_records.specs.Ranges.{AreInRange}
use Rattle.call_machine.specs.Found.{enclave_rows, thread_rows, region_rows, cell_rows, held_rows}
use Rattle.call_machine.specs.Named.{IsNamed}
use Rattle.call_machine.proofs.LateWrites.{state_rows}

-- ---- the rows of records

abbrev rows_by : List (ℕ × Enclave) → List (ℕ × Thread) → List (ℕ × Region) → List (ℕ × ℕ) → List ℕ
rows_by es ts rs cs = enclave_rows es ++ (thread_rows ts ++ (region_rows rs ++ cell_rows cs))

no_enclaves : (m : Shape) (s : State) (lo hi : ℕ) (os : List ObjectId) → 8 ≤ lo → Rises m lo hi os → (records_of s os).enclaves.items ≡ []
no_enclaves m s lo hi [] l h = refl
no_enclaves m s lo hi (objects.Enclave e ∷ os) l h = absurd (omega (arith, h.0, h.1))
no_enclaves m s lo hi (objects.Thread e ∷ os) l h = no_enclaves m s (16 + e + 1) hi os (omega arith) h.2
no_enclaves m s lo hi (objects.Region e ∷ os) l h = no_enclaves m s (64 + e + 1) hi os (omega arith) h.2
no_enclaves m s lo hi (objects.Cell e ∷ os) l h = no_enclaves m s (128 + e + 1) hi os (omega arith) h.2

no_threads : (m : Shape) (s : State) (lo hi : ℕ) (os : List ObjectId) → 32 ≤ lo → Rises m lo hi os → (records_of s os).threads.items ≡ []
no_threads m s lo hi [] l h = refl
no_threads m s lo hi (objects.Enclave e ∷ os) l h = absurd (omega (arith, h.0, h.1))
no_threads m s lo hi (objects.Thread e ∷ os) l h = absurd (omega (arith, h.0, h.1))
no_threads m s lo hi (objects.Region e ∷ os) l h = no_threads m s (64 + e + 1) hi os (omega arith) h.2
no_threads m s lo hi (objects.Cell e ∷ os) l h = no_threads m s (128 + e + 1) hi os (omega arith) h.2

no_regions : (m : Shape) (s : State) (lo hi : ℕ) (os : List ObjectId) → m.regions ≤ 64 → 128 ≤ lo → Rises m lo hi os → (records_of s os).regions.items ≡ []
no_regions m s lo hi [] few l h = refl
no_regions m s lo hi (objects.Enclave e ∷ os) few l h = absurd (omega (arith, h.0, h.1))
no_regions m s lo hi (objects.Thread e ∷ os) few l h = absurd (omega (arith, h.0, h.1))
no_regions m s lo hi (objects.Region e ∷ os) few l h = absurd (omega (arith, h.0, h.1))
no_regions m s lo hi (objects.Cell e ∷ os) few l h = no_regions m s (128 + e + 1) hi os few (omega arith) h.2

thread_first : (es : List (ℕ × Enclave)) (t : ℕ × Thread) (ts : List (ℕ × Thread)) (rs : List (ℕ × Region)) (cs : List (ℕ × ℕ)) → es ≡ [] → rows_by es (t ∷ ts) rs cs ≡ thread_row t.1 ++ rows_by es ts rs cs
unfolding enclave_rows thread_rows
thread_first es t ts rs cs e =
    ap (λ l. rows_by l (t ∷ ts) rs cs) e ∙ append_assoc (thread_row t.1) (thread_rows ts) (region_rows rs ++ cell_rows cs) ∙ ap (λ l. thread_row t.1 ++ rows_by l ts rs cs) (sym e)

region_first : (es : List (ℕ × Enclave)) (ts : List (ℕ × Thread)) (r : ℕ × Region) (rs : List (ℕ × Region)) (cs : List (ℕ × ℕ)) → es ≡ [] → ts ≡ [] → rows_by es ts (r ∷ rs) cs ≡ region_rows (r ∷ []) ++ rows_by es ts rs cs
unfolding enclave_rows thread_rows region_rows
region_first es ts r rs cs e f =
    ap (λ l. rows_by l ts (r ∷ rs) cs) e ∙ ap (λ l. rows_by [] l (r ∷ rs) cs) f
    ∙ ap (λ l. region_rows (r ∷ []) ++ rows_by [] l rs cs) (sym f) ∙ ap (λ l. region_rows (r ∷ []) ++ rows_by l ts rs cs) (sym e)

cell_first : (es : List (ℕ × Enclave)) (ts : List (ℕ × Thread)) (rs : List (ℕ × Region)) (c : ℕ × ℕ) (cs : List (ℕ × ℕ)) → es ≡ [] → ts ≡ [] → rs ≡ [] → rows_by es ts rs (c ∷ cs) ≡ c.1 ∷ rows_by es ts rs cs
unfolding enclave_rows thread_rows region_rows cell_rows
cell_first es ts rs c cs e f g =
    ap (λ l. rows_by l ts rs (c ∷ cs)) e ∙ ap (λ l. rows_by [] l rs (c ∷ cs)) f ∙ ap (λ l. rows_by [] [] l (c ∷ cs)) g
    ∙ ap (λ l. c.1 ∷ rows_by [] [] l cs) (sym g) ∙ ap (λ l. c.1 ∷ rows_by [] l rs cs) (sym f) ∙ ap (λ l. c.1 ∷ rows_by l ts rs cs) (sym e)

pub rows_of_records : (m : Shape) (s : State) (lo hi : ℕ) (os : List ObjectId) → m.regions ≤ 64 → Rises m lo hi os → held_rows (records_of s os) ≡ state_rows s os
unfolding held_rows enclave_rows thread_rows region_rows cell_rows row_words
rows_of_records m s lo hi [] few h = refl
rows_of_records m s lo hi (objects.Enclave e ∷ os) few h =
    let x = records_of s os in
    append_assoc (enclave_row (enclave_at s e)) (enclave_rows x.enclaves.items) (thread_rows x.threads.items ++ (region_rows x.regions.items ++ cell_rows x.cells.items))
    ∙ ap (λ l. enclave_row (enclave_at s e) ++ l) (rows_of_records m s (e + 1) hi os few h.2)
rows_of_records m s lo hi (objects.Thread t ∷ os) few h =
    let x = records_of s os in
    thread_first x.enclaves.items (t, thread_at s t) x.threads.items x.regions.items x.cells.items (no_enclaves m s (16 + t + 1) hi os (omega arith) h.2)
    ∙ ap (λ l. thread_row (thread_at s t) ++ l) (rows_of_records m s (16 + t + 1) hi os few h.2)
rows_of_records m s lo hi (objects.Region r ∷ os) few h =
    let x = records_of s os in
    region_first x.enclaves.items x.threads.items (r, region_at s r) x.regions.items x.cells.items (no_enclaves m s (64 + r + 1) hi os (omega arith) h.2) (no_threads m s (64 + r + 1) hi os (omega arith) h.2)
    ∙ ap (λ l. region_rows ((r, region_at s r) ∷ []) ++ l) (rows_of_records m s (64 + r + 1) hi os few h.2)
rows_of_records m s lo hi (objects.Cell c ∷ os) few h =
    let x = records_of s os in
    cell_first x.enclaves.items x.threads.items x.regions.items (c, flushed_at s c) x.cells.items (no_enclaves m s (128 + c + 1) hi os (omega arith) h.2) (no_threads m s (128 + c + 1) hi os (omega arith) h.2) (no_regions m s (128 + c + 1) hi os few (omega arith) h.2)
    ∙ ap (λ l. flushed_at s c ∷ l) (rows_of_records m s (128 + c + 1) hi os few h.2)

-- ---- how long rows are

pub row_long : (s : State) (o : ObjectId) → AreInRange s → length (row_words s o) ≡ width o
unfolding row_words width
row_long s (objects.Enclave e) h = enclave_long (enclave_at s e) (h.enclave e)
row_long s (objects.Thread t) h = omega (arith, (h.thread t).saved.many)
row_long s (objects.Region r) h = refl
row_long s (objects.Cell c) h = refl

-- no record of an enclave has the ticket in it
slots_same : (s : State) (core : ℕ) (call : Call) (digest : List ℕ) (k : ℕ) → (effect s core call digest k).enclaves ≡ (effect s core call digest 0).enclaves
slots_same s core (calls.Assign r to) digest k = by_os (eqb to os_word)
  where
    by_os : (b : Bool) → (cond b (with_region s r (regions.Owned owners.Os k)) (with_enclave (with_region s r (assigned (enclave_at s to).stage to k)) to (with_assigned (enclave_at s to) r))).enclaves
        ≡ (cond b (with_region s r (regions.Owned owners.Os 0)) (with_enclave (with_region s r (assigned (enclave_at s to).stage to 0)) to (with_assigned (enclave_at s to) r))).enclaves
    by_os true = refl
    by_os false = refl
slots_same s core (calls.Delete e) digest k =
    ap (λ l. set l e empty_enclave) (deleted_field (λ x. x.enclaves) (λ t r x. refl) s (regions_of s e) k ∙ sym (deleted_field (λ x. x.enclaves) (λ t r x. refl) s (regions_of s e) 0))
slots_same s core (calls.Block r) digest k = by_mode (mode_of s core)
  where
    by_mode : (mode : Mode) → (with_region (without_own_region s mode r) r (blocked (region_at s r) k)).enclaves ≡ (with_region (without_own_region s mode r) r (blocked (region_at s r) 0)).enclaves
    by_mode mode = refl
slots_same s core _ digest k = refl

set_saved : (xs : List Thread) (i j : ℕ) (x y : Thread) → length x.saved ≡ length y.saved → length (get_or (set xs i x) j empty_thread).saved ≡ length (get_or (set xs i y) j empty_thread).saved
set_saved [] i j x y e = refl
set_saved (z ∷ zs) zero zero x y e = e
set_saved (z ∷ zs) zero (suc j) x y e = refl
set_saved (z ∷ zs) (suc i) zero x y e = refl
set_saved (z ∷ zs) (suc i) (suc j) x y e = set_saved zs i j x y e

-- the words that a thread saves are as many, whatever the ticket
saved_same : (s : State) (core : ℕ) (call : Call) (digest : List ℕ) (k t : ℕ) → length (thread_at (effect s core call digest k) t).saved ≡ length (thread_at (effect s core call digest 0) t).saved
saved_same s core (calls.Assign r to) digest k t = by_os (eqb to os_word)
  where
    by_os : (b : Bool) → length (thread_at (cond b (with_region s r (regions.Owned owners.Os k)) (with_enclave (with_region s r (assigned (enclave_at s to).stage to k)) to (with_assigned (enclave_at s to) r))) t).saved
        ≡ length (thread_at (cond b (with_region s r (regions.Owned owners.Os 0)) (with_enclave (with_region s r (assigned (enclave_at s to).stage to 0)) to (with_assigned (enclave_at s to) r))) t).saved
    by_os true = refl
    by_os false = refl
saved_same s core (calls.Delete e) digest k t =
    ap (λ l. length (get_or l t empty_thread).saved) (deleted_field (λ x. x.threads) (λ t r x. refl) s (regions_of s e) k ∙ sym (deleted_field (λ x. x.threads) (λ t r x. refl) s (regions_of s e) 0))
saved_same s core (calls.Block r) digest k t = by_mode (mode_of s core)
  where
    by_mode : (mode : Mode) → length (thread_at (with_region (without_own_region s mode r) r (blocked (region_at s r) k)) t).saved ≡ length (thread_at (with_region (without_own_region s mode r) r (blocked (region_at s r) 0)) t).saved
    by_mode mode = refl
saved_same s core (calls.Aex saved) digest k t =
    let own = own_thread (mode_of s core) in
    set_saved s.threads own t (left_saving (thread_at s own) saved k) (left_saving (thread_at s own) saved 0) refl
saved_same s core _ digest k t = refl

-- each row after a call is as long as it is to be, whatever the ticket
pub effect_long : (s : State) (core : ℕ) (call : Call) (digest : List ℕ) (k : ℕ) (o : ObjectId) → AreInRange (effect s core call digest 0) → length (row_words (effect s core call digest k) o) ≡ width o
unfolding row_words width
effect_long s core call digest k (objects.Enclave e) h =
    ap (λ l. length (enclave_row (get_or l e empty_enclave))) (slots_same s core call digest k) ∙ enclave_long (enclave_at (effect s core call digest 0) e) (h.enclave e)
effect_long s core call digest k (objects.Thread t) h = omega (arith, saved_same s core call digest k t, (h.thread t).saved.many)
effect_long s core call digest k (objects.Region r) h = refl
effect_long s core call digest k (objects.Cell c) h = refl

-- ---- records in range name no slot past those that are there

mail_named : (mail : List Mailbox) → AllByRecursion IsMailbox mail → AllByRecursion MailboxNamesSlot mail
mail_named [] h = tt
mail_named (boxes.Closed ∷ ms) h = (tt, mail_named ms h.1)
mail_named (boxes.Expecting from ∷ ms) h = (h.0, mail_named ms h.1)
mail_named (boxes.Full from words measure ∷ ms) h = (h.0.0, mail_named ms h.1)

region_named : (x : Region) → IsRegion x → RegionNamesSlot x
region_named regions.Free h = tt
region_named (regions.Owned owner since) h = h.0
region_named (regions.Blocked owner since at) h = h.0
region_named (regions.Offered to at) h = h.0

pub records_named : (s : State) (os : List ObjectId) → AreInRange s → IsNamed (records_of s os)
records_named s [] h = record { enclaves = tt; threads = tt; regions = tt }
records_named s (objects.Enclave e ∷ os) h =
    let k = records_named s os h in record { enclaves = (mail_named (enclave_at s e).mail (h.enclave e).mail, k.enclaves); threads = k.threads; regions = k.regions }
records_named s (objects.Thread t ∷ os) h =
    let k = records_named s os h in record { enclaves = k.enclaves; threads = ((h.thread t).state, k.threads); regions = k.regions }
records_named s (objects.Region r ∷ os) h =
    let k = records_named s os h in record { enclaves = k.enclaves; threads = k.threads; regions = (region_named (region_at s r) (h.region r), k.regions) }
records_named s (objects.Cell c ∷ os) h =
    let k = records_named s os h in record { enclaves = k.enclaves; threads = k.threads; regions = k.regions }
