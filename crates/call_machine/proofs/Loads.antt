-- What the code decides by records and ptes is what the tree says by what was found.
use Rattle.std.proofs.Common.{◌≡◌, inl, inr, ◌∙◌, ◌+◌, ◌<◌, ◌≤◌, ◌^◌, ℕ, zero, suc, Bool, true, false, Option, Some, None, List, [], ◌∷◌, length, get_or, cond, ap, sym, refl, subst, arith, length-append}
use Rattle.std.specs.List.{AllByRecursion, slice_get}
use Rattle.std.proofs.lemmas.Bool.{cases_Bool}
use Rattle.mon_types.specs.Objects.{width}
use Rattle.mon_types.specs.declared.object.ObjectId.{ObjectId}
use Rattle.mon_types.specs.declared.object.ObjectId.TheVariants as objects
use Rattle.mon_records.specs.Rows.{same_object, row_words}
use Rattle.mon_records.specs.Members.{In}
use Rattle.mon_records.proofs.RebuiltStates.{same_object-true, same_object-refl}
use Rattle.call_machine.specs.Found.{widths}
use Rattle.mon_types.specs.Shape.{Shape}
use Rattle.mon_types.specs.Replies.{is_done}
use Rattle.mon_types.specs.declared.thread.Mode.{Mode}
use Rattle.mon_types.specs.declared.call.Call.{Call}
use Rattle.mon_types.specs.declared.call.Call.TheVariants as calls
use Rattle.mon_types.specs.declared.region.Region.{Region}
use Rattle.mon_types.specs.declared.reply.Reply.{Reply}
use Rattle.mon_model.specs.State.{State, enclave_at, mode_of}
use Rattle.mon_model.specs.OnCore.{is_load_page}
use Rattle.mon_model.specs.Step.{reply_of, effect}
use Rattle.mon_model.specs.Tries.{held_tries}
use Rattle.mon_model.specs.Early.{early}
use Rattle.mon_records.specs.Answers.{freed}
use Rattle.protocol.specs.CallTree.{words_freed}
use Rattle.mon_calls.specs.OnCore.{IsChange}
use Rattle.core_context.specs.declared.after.After.{After}
use Rattle.core_context.specs.declared.after.After.TheVariants as afters
use Rattle.core_context.specs.Changes.{ok_change}
use Rattle.mon_enclaves.specs.LoadReply.{is_load, slot_of, words_reply}
use Rattle.lock_plan.specs.Plan.{first_enclave}
use Rattle.lock_plan.specs.Records.{records_of}
use Rattle.mon_calls.specs.Replied.{replied}
use Rattle.mon_calls.specs.Decided.{ArePathWords, IsReply}
use Rattle.call_machine.specs.declared.work.Work.{Work}
use Rattle.call_machine.specs.Rest.{early_own, row_start}
use Rattle.call_machine.specs.Meaning.{objects_in, known}
use Rattle.call_machine.specs.Count.{most_early, most_ptes, most_locks, most_words}
use Rattle.call_machine.specs.Stands.{IsHolding, IsLocked}
use Rattle.call_machine.proofs.At.{objects_many}
use Rattle.call_machine.proofs.Bounds.{tries_few, room_for_locks}
use Rattle.call_machine.proofs.LateWrites.{state_rows}
use Rattle.call_machine.proofs.Draws.{plan_is, held_is, valid_is, rows_left, effect_ranges}
use Rattle.call_machine.proofs.Finishing.{row_long}
use Rattle.call_machine.specs.Found.{held_rows}
use Rattle.mon_calls.specs.Left.{left_by}

said_load : (s : State) (core : ℕ) (mode : Mode) (call : Call) (words : List ℕ) → is_load call ≡ true → replied s.shape mode call (records_of s (held_tries s core call)) words ≡ words_reply s call words
said_load s core mode (calls.LoadTable e va level page) words h = refl
said_load s core mode (calls.LoadPage e va page src perms) words h = refl
said_load s core mode (calls.Reserve e va page perms) words h = refl
said_load s core mode _ words h = absurd (cc)

first_slot : (s : State) (core : ℕ) (call : Call) → is_load call ≡ true → first_enclave (records_of s (held_tries s core call)) ≡ enclave_at s (slot_of call)
first_slot s core (calls.LoadTable e va level page) h = refl
first_slot s core (calls.LoadPage e va page src perms) h = refl
first_slot s core (calls.Reserve e va page perms) h = refl
first_slot s core _ h = absurd (cc)

no_path : (s : State) (call : Call) (words : List ℕ) → is_load call ≡ false → ArePathWords s call words
no_path s (calls.LoadTable e va level page) words h = absurd (cc)
no_path s (calls.LoadPage e va page src perms) words h = absurd (cc)
no_path s (calls.Reserve e va page perms) words h = absurd (cc)
no_path s _ words h = tt

pub load_page_loads : (call : Call) → is_load_page call ≡ true → is_load call ≡ true
load_page_loads (calls.LoadPage e va page src perms) h = refl
load_page_loads _ h = absurd (cc)

pub other_page : (call : Call) → ((e va page src perms : ℕ) → call ≡ calls.LoadPage e va page src perms → ⊥) → is_load_page call ≡ false
other_page (calls.LoadPage e va page src perms) h = absurd (h e va page src perms refl)
other_page _ h = refl

-- a call that writes early does nothing to its core, and withdraws no more regions than it can hold objects
pub early_changes : (s t : State) (core : ℕ) (call : Call) (x : Region) → (early_own call x ≡ None → ⊥) → ok_change s core call ≡ ok_change t core call
unfolding early_own
early_changes s t core (calls.Block r) x h = refl
early_changes s t core (calls.Delete e) x h = refl
early_changes s t core _ x h = absurd (h refl)

pub early_many : (call : Call) (x : Region) → (early_own call x ≡ None → ⊥) → most_early call ≡ 65
unfolding early_own
early_many (calls.Block r) x h = refl
early_many (calls.Delete e) x h = refl
early_many _ x h = absurd (h refl)

module _ (w : Work) (l : IsLocked w) where
  holding : IsHolding w (known w) []
  holding = l.locking.holding

  records : w.held ≡ records_of (known w) (held_tries (known w) w.core w.call)
  records = holding.front.records ∙ ap (records_of (known w)) (sym (held_is w (known w) holding))

  pub load_reply : (reply : Reply) (words : List ℕ) → is_load w.call ≡ true → reply ≡ replied w.config w.mode w.call w.held words → reply ≡ words_reply (known w) w.call words
  load_reply reply words load e =
      e ∙ ap (λ h. replied w.config w.mode w.call h words) records
      ∙ ap (λ m. replied m w.mode w.call (records_of (known w) (held_tries (known w) w.core w.call)) words) (sym holding.machine)
      ∙ said_load (known w) w.core w.mode w.call words load

  pub load_root : is_load w.call ≡ true → first_enclave w.held ≡ enclave_at (known w) (slot_of w.call)
  load_root load = ap first_enclave records ∙ first_slot (known w) w.core w.call load

  pub record_reply : (reply : Reply) (words : List ℕ) → is_load w.call ≡ false → IsReply w.config w.core w.mode w.call w.held words reply → reply ≡ reply_of (known w) w.core w.call
  record_reply reply words no_load e =
      e (known w) (record {
        whole = holding.whole;
        machine = holding.machine;
        caller = holding.mode;
        records = holding.front.records ∙ ap (records_of (known w)) (sym (plan_is w (known w) holding));
      }) (no_path (known w) w.call words no_load)

pub load_ptes : (call : Call) → is_load call ≡ true → most_ptes call ≡ 4
load_ptes (calls.LoadTable e va level page) h = refl
load_ptes (calls.LoadPage e va page src perms) h = refl
load_ptes (calls.Reserve e va page perms) h = refl
load_ptes _ h = absurd (cc)

pub all_at : {X : Type 0} (P : X → Type 0) (xs : List X) (i : ℕ) (d : X) → i < length xs → AllByRecursion P xs → P (get_or xs i d)
all_at P [] i d l h = absurd (omega (arith, l))
all_at P (x ∷ xs) zero d l h = h.0
all_at P (x ∷ xs) (suc i) d l h = all_at P xs i d (omega (arith, l)) h.1

-- where the row of an object that is held stands among all
pub start_within : (os : List ObjectId) (o : ObjectId) → In o os → row_start os o + width o ≤ widths os
unfolding row_start widths
start_within [] o i = absurd i
start_within (x ∷ xs) o i = elim (cases_Bool (same_object x o)) [
  | inl e ↦ subst (λ b. cond b 0 (width x + row_start xs o) + width o ≤ width x + widths xs) (sym e) (omega (arith, ap width (same_object-true x o e)))
  | inr e ↦ subst (λ b. cond b 0 (width x + row_start xs o) + width o ≤ width x + widths xs) (sym e)
      (let rest : row_start xs o + width o ≤ widths xs = elim i [
        | inl f ↦ absurd (clash (sym e ∙ ap (same_object x) f ∙ same_object-refl x))
        | inr j ↦ start_within xs o j
      ] in omega (arith, rest))
]
  where
    clash : false ≡ true → ⊥
    clash e = cc

pub got_is : {X : Type 0} (xs : List X) (i : ℕ) (d x : X) → slice_get xs i ≡ Some x → get_or xs i d ≡ x
got_is [] i d x e = absurd (cc)
got_is (y ∷ ys) zero d x e = cc
got_is (y ∷ ys) (suc i) d x e = got_is ys i d x e

regions_few : (s : State) (os : List ObjectId) → length (records_of s os).regions.items ≤ length os
regions_few s [] = omega arith
regions_few s (objects.Enclave e ∷ os) = omega (arith, regions_few s os)
regions_few s (objects.Thread e ∷ os) = omega (arith, regions_few s os)
regions_few s (objects.Region e ∷ os) = omega (arith, regions_few s os)
regions_few s (objects.Cell e ∷ os) = omega (arith, regions_few s os)

-- what is held, of the objects that a call tries in this state
pub record HoldsFew (w : Work) : Type 0 where
  pub locks : length w.locks.items ≤ most_locks w.call
  pub words : widths (objects_in w) ≤ most_words w.call
  pub regions : length w.held.regions.items ≤ 65

pub holds_few : (w : Work) (s : State) → IsHolding w s [] → HoldsFew w
holds_few w s h =
    let few = tries_few s w.core w.call (valid_is w s h) in
    let plan = plan_is w s h in
    let many : length w.locks.items ≤ most_locks w.call = omega (arith, few.locks, ap (λ l. length l) plan, objects_many w) in
    record {
      locks = many;
      words = omega (arith, few.words, ap widths plan);
      regions = omega (arith, ap (λ x. length x.regions.items) h.front.records, regions_few s (objects_in w), objects_many w, many, room_for_locks w.call);
    }

-- rows of a state as words
pub state_long : (s : State) (os : List ObjectId) → ((o : ObjectId) → length (row_words s o) ≡ width o) → length (state_rows s os) ≡ widths os
unfolding widths
state_long s [] h = refl
state_long s (o ∷ os) h = omega (arith, length-append (row_words s o) (state_rows s os), h o, state_long s os h)

-- as many words are to stand as stood
pub wanted_long : (w : Work) (s : State) (h : IsHolding w s []) (digest : List ℕ) (k : ℕ) → k < 2 ^ 32 → length (held_rows (left_by w.mode w.call digest k w.held)) ≡ widths (objects_in w)
wanted_long w s h digest k l =
    ap (λ x. length x) (rows_left w s h digest k)
    ∙ state_long (effect s w.core w.call digest k) (objects_in w) (λ o. row_long (effect s w.core w.call digest k) o (effect_ranges w s h digest k l))

abbrev pub the_end : Reply → After → Option (Reply × After)
the_end reply change = Some (reply, change)

-- what Ok does to the core, by the records that were found
pub ends_is : (w : Work) (change : After) (s : State) (h : IsHolding w s []) → is_done w.reply ≡ true → ok_change s w.core w.call ≡ ok_change (known w) w.core w.call → IsChange w.call w.held change
    → the_end w.reply change ≡ the_end w.reply (cond (is_done w.reply) (ok_change (known w) w.core w.call) afters.Nothing)
ends_is w change s h is_ok same is =
    let none = ap (λ m. early m (mode_of s w.core) w.call) h.machine ∙ ap (λ m. early w.config m w.call) h.mode ∙ h.early in
    ap (the_end w.reply) (is s w.core none (h.front.records ∙ ap (records_of s) (sym (plan_is w s h))) ∙ same)
    ∙ ap (λ b. the_end w.reply (cond b (ok_change (known w) w.core w.call) afters.Nothing)) (sym is_ok)

pub nothing_freed : (m : Shape) (call : Call) (reply : Reply) → ((r : ℕ) → call ≡ calls.Free r → ⊥) → words_freed m (freed reply call) ≡ []
unfolding freed
nothing_freed m (calls.Free r) reply h = absurd (h r refl)
nothing_freed m _ reply h = by_done (is_done reply)
  where
    by_done : (b : Bool) → words_freed m (cond b None None) ≡ []
    by_done true = refl
    by_done false = refl
