-- What follows once the reply is decided: as the tree says it, by states and what was found, and as the records and the
-- words that are held say it.
use Rattle.std.proofs.Common.{◌≡◌, ◌∙◌, inl, inr, ◌<◌, ◌^◌, ℕ, true, false, cond, Option, None, List, [], ◌∷◌, ap, sym, refl, subst, arith, append-nil}
use Rattle.std.specs.List.{AllByRecursion}
use Rattle.std.proofs.Math.Path.{fun_ext}
use Rattle.mon_types.specs.Shape.{is_shape}
use Rattle.mon_types.specs.LimitLaws.{few_regions, few_pages}
use Rattle.mon_types.specs.Replies.{is_done}
use Rattle.mon_types.specs.declared.object.ObjectId.{ObjectId}
use Rattle.mon_types.specs.declared.object.Tried.{Tried}
use Rattle.mon_model.specs.State.{State, mode_of}
use Rattle.mon_model.specs.Early.{early}
use Rattle.mon_model.specs.InRange.{IsInRange}
use Rattle.mon_model.proofs.InRange.{not_refused}
use Rattle.mon_model.specs.Step.{effect, changed}
use Rattle.mon_model.specs.Tries.{tries, held_tries, tried_set}
use Rattle.lock_plan.specs.Objects.{IsCaller}
use Rattle.lock_plan.specs.Records.{records_of}
use Rattle.lock_plan.specs.EveryPlan.{tries_held}
use Rattle.lock_plan.proofs.Order.{Rises, every_rises}
use Rattle.hist.specs.declared.event.PageInput.{PageInput}
use Rattle.hist.specs.History.{digest_of}
use Rattle.mon_calls.specs.Left.{left_by}
use Rattle.mon_calls.proofs.Leaves.{leaves}
use Rattle.mon_records.specs.Rows.{Found, objects_of}
use Rattle.mon_records.specs.Ranges.{AreInRange}
use Rattle.mon_records.specs.Answers.{freed}
use Rattle.mon_records.specs.EarlyWords.{early_words}
use Rattle.mon_records.specs.Members.{In}
use Rattle.mon_records.proofs.RangesKept.{effect_in}
use Rattle.protocol.specs.declared.action.Action.TheVariants as actions
use Rattle.protocol.specs.CallTree.{Tree, Makes, number_in, onto, draft_of, zeros, words_freed, late_writes, late_if, finish, unlocks, early_writes}
use Rattle.call_machine.specs.declared.work.Work.{Work}
use Rattle.call_machine.specs.Found.{held_rows}
use Rattle.call_machine.specs.Rest.{places, writes, writes_from, early_rest, unlocks_of}
use Rattle.call_machine.specs.Meaning.{objects_in, issuer, draft_with, drawn, draws, refuses}
use Rattle.call_machine.specs.Stands.{IsHolding}
use Rattle.call_machine.proofs.Found.{onto_onto}
use Rattle.call_machine.proofs.LateWrites.{state_rows, IsLong, late_rows}
use Rattle.call_machine.proofs.EarlyWrites.{IsSame, early_of, early_same, early_held, regions_there}
use Rattle.call_machine.proofs.Finishing.{rows_of_records, effect_long}

all_in : {P : ObjectId → Type 0} (os : List ObjectId) → ((o : ObjectId) → In o os → P o) → AllByRecursion P os
all_in [] h = tt
all_in (o ∷ os) h = (h o (inl refl), all_in os (λ p i. h p (inr i)))

module _ (w : Work) (s : State) (holding : IsHolding w s []) where
  -- what it tries in the state
  pub plan_is : tries s w.core w.call ≡ objects_in w
  plan_is = holding.front.plan ∙ append-nil (objects_in w)

  none_early : early s.shape (mode_of s w.core) w.call ≡ None
  none_early = ap (λ m. early m (mode_of s w.core) w.call) holding.machine ∙ ap (λ m. early w.config m w.call) holding.mode ∙ holding.early

  pub held_is : held_tries s w.core w.call ≡ objects_in w
  held_is = sym (tries_held s w.core w.call none_early) ∙ plan_is

  pub valid_is : is_shape s.shape ≡ true
  valid_is = ap is_shape holding.machine ∙ holding.based.valid

  pub caller_is : IsCaller s.shape w.core (mode_of s w.core)
  caller_is = subst (λ z. IsCaller z w.core (mode_of s w.core)) (sym holding.machine) (subst (λ z. IsCaller w.config w.core z) (sym holding.mode) holding.based.caller)

  pub rises_is : Rises s.shape 0 144 (objects_in w)
  rises_is = subst (Rises s.shape 0 144) plan_is (every_rises s w.core w.call valid_is caller_is)

  range_is : IsInRange s.shape w.call
  range_is = not_refused s.shape (mode_of s w.core) w.call none_early

  pub effect_ranges : (digest : List ℕ) (k : ℕ) → k < 2 ^ 32 → AreInRange (effect s w.core w.call digest k)
  effect_ranges digest k l = effect_in s w.core w.call digest k (few_regions s.shape valid_is) (few_pages s.shape valid_is) l caller_is.slot range_is holding.based.is_call holding.ranges

  -- the records that the call leaves
  pub left_is : (digest : List ℕ) (k : ℕ) → left_by w.mode w.call digest k w.held ≡ records_of (effect s w.core w.call digest k) (objects_in w)
  left_is digest k =
      ap (λ m. left_by m w.call digest k w.held) (sym holding.mode)
      ∙ ap (left_by (mode_of s w.core) w.call digest k) (holding.front.records ∙ ap (records_of s) (sym held_is))
      ∙ leaves s w.core w.call digest k holding.whole caller_is range_is none_early
      ∙ ap (records_of (effect s w.core w.call digest k)) held_is

  pub rows_left : (digest : List ℕ) (k : ℕ) → held_rows (left_by w.mode w.call digest k w.held) ≡ state_rows (effect s w.core w.call digest k) (objects_in w)
  rows_left digest k =
      ap held_rows (left_is digest k)
      ∙ rows_of_records s.shape (effect s w.core w.call digest k) 0 144 (objects_in w) (few_regions s.shape valid_is) rises_is

  -- the late writes
  late_is : (stands : Found) (stood : List ℕ) (digest : List ℕ) (k : ℕ) (next : Tree) → IsSame (objects_in w) stands stood
      → late_writes (objects_in w) stands (effect s w.core w.call digest k) next ≡ writes_from (places (objects_in w)) stood (held_rows (left_by w.mode w.call digest k w.held)) 0 next
  late_is stands stood digest k next same =
      let long : AllByRecursion (IsLong stands (effect s w.core w.call digest k)) (objects_in w) =
      all_in (objects_in w) (λ o i. record {
        found = same.long o i;
        wanted = effect_long s w.core w.call digest k o (effect_ranges digest 0 (omega arith));
      }) in
      late_rows (objects_in w) stands (effect s w.core w.call digest k) next long
      ∙ ap (λ l. writes (places (objects_in w)) l (state_rows (effect s w.core w.call digest k) (objects_in w)) next) same.rows
      ∙ ap (λ l. writes (places (objects_in w)) stood l next) (sym (rows_left digest k))

  module _ (f : Found) (objs : objects_of f ≡ onto (objects_in w) []) (tried : w.tried ≡ tried_set (objects_in w)) where
    again : onto (objects_of f) [] ≡ objects_in w
    unfolding onto
    again = ap (λ l. onto l []) objs ∙ onto_onto (objects_in w) [] [] ∙ append-nil (objects_in w)

    draft_is : (page : Option PageInput) → draft_of (issuer w) w.call w.reply (onto (objects_of f) []) page ≡ draft_with w page
    draft_is page =
        ap (λ l. draft_of (issuer w) w.call w.reply l page) again
        ∙ ap (λ (t : Tried). record { serial = w.serial; call = w.call; page = page; reply = w.reply; tried = t }) (sym tried)

    -- the Draw of an Ok call
    pub finish_ok : (page : Option PageInput) (stands : Found) (stood : List ℕ) → is_done w.reply ≡ true → IsSame (objects_in w) stands stood
        → finish (issuer w) w.call w.reply page (objects_of f) s stands ≡ draws w page stood
    unfolding finish late_if draws drawn
    finish_ok page stands stood is_ok same =
        ap (λ d. Makes (actions.Draw d) (λ outcome.
        late_if (is_done w.reply) (words_freed s.shape (freed w.reply w.call)) (onto (objects_of f) []) stands
        (changed w.reply s w.core w.call (digest_of page) (number_in outcome)) (unlocks (objects_of f)))) (draft_is page)
        ∙ ap (Makes (actions.Draw (draft_with w page))) (fun_ext (λ outcome. behind (number_in outcome)))
      where
        behind : (k : ℕ) → late_if (is_done w.reply) (words_freed s.shape (freed w.reply w.call)) (onto (objects_of f) []) stands (changed w.reply s w.core w.call (digest_of page) k) (unlocks (objects_of f))
            ≡ drawn w page stood k
        behind k =
            ap (λ b. late_if b (words_freed s.shape (freed w.reply w.call)) (onto (objects_of f) []) stands (cond (is_done w.reply) (effect s w.core w.call (digest_of page) k) s) (unlocks (objects_of f))) is_ok
            ∙ ap (λ b. zeros (words_freed s.shape (freed w.reply w.call)) (late_writes (onto (objects_of f) []) stands (cond b (effect s w.core w.call (digest_of page) k) s) (unlocks (objects_of f)))) is_ok
            ∙ ap (λ l. zeros (words_freed s.shape (freed w.reply w.call)) (late_writes l stands (effect s w.core w.call (digest_of page) k) (unlocks (objects_of f)))) again
            ∙ ap (λ l. zeros (words_freed s.shape (freed w.reply w.call)) (late_writes (objects_in w) stands (effect s w.core w.call (digest_of page) k) (unlocks l))) objs
            ∙ ap (λ m. zeros (words_freed m (freed w.reply w.call)) (late_writes (objects_in w) stands (effect s w.core w.call (digest_of page) k) (unlocks_of (objects_in w)))) holding.machine
            ∙ ap (zeros (words_freed w.config (freed w.reply w.call))) (late_is stands stood (digest_of page) k (unlocks_of (objects_in w)) same)

    -- the Draw of a refusal
    pub finish_refused : (stands : Found) → is_done w.reply ≡ false → w.input ≡ None → finish (issuer w) w.call w.reply None (objects_of f) s stands ≡ refuses w
    unfolding finish late_if refuses
    finish_refused stands no_ok input =
        ap (λ d. Makes (actions.Draw d) (λ outcome.
        late_if (is_done w.reply) (words_freed s.shape (freed w.reply w.call)) (onto (objects_of f) []) stands
        (changed w.reply s w.core w.call (digest_of None) (number_in outcome)) (unlocks (objects_of f)))) (draft_is None ∙ ap (draft_with w) (sym input))
        ∙ ap (Makes (actions.Draw (draft_with w w.input))) (fun_ext (λ outcome.
        ap (λ b. late_if b (words_freed s.shape (freed w.reply w.call)) (onto (objects_of f) []) stands (changed w.reply s w.core w.call (digest_of None) (number_in outcome)) (unlocks (objects_of f))) no_ok
        ∙ ap unlocks objs))

    -- the early writes of an Ok call, and its Draw
    pub early_ok : (stood : List ℕ) → is_done w.reply ≡ true → IsSame (objects_in w) f stood
        → early_writes (early_words s w.call) f (finish (issuer w) w.call w.reply None (objects_of f) s) ≡ early_rest w.call (objects_in w) w.held.regions.items stood (draws w None)
    early_ok stood is_ok same =
        let items : w.held ≡ records_of s (objects_in w) = holding.front.records in
        ap (λ l. early_writes l f (finish (issuer w) w.call w.reply None (objects_of f) s)) (sym (early_held s w.core w.call) ∙ ap (λ os. early_of w.call (records_of s os).regions.items) held_is)
        ∙ early_same s.shape 144 w.call (objects_in w) (records_of s (objects_in w)).regions.items f stood (finish (issuer w) w.call w.reply None (objects_of f) s) (draws w None) rises_is (regions_there s (objects_in w)) same
        (λ g l is. finish_ok None g l is_ok is)
        ∙ ap (λ h. early_rest w.call (objects_in w) h.regions.items stood (draws w None)) (sym items)
