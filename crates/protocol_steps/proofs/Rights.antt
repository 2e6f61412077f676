-- Each permitted move on DRAM has its right.
use Rattle.std.proofs.Common.{◌≡◌, ◌⊎◌, inl, inr, ◌<◌, ◌≤◌, ◌∙◌, ℕ, true, false, cond, Some, List, [], ◌∷◌, ap, sym, refl, subst, arith}
use Rattle.std.proofs.lemmas.Bool.{ne_eqb}
use Rattle.mon_types.specs.Shape.{Shape, is_shape}
use Rattle.mon_types.specs.declared.region.Owner.{Owner}
use Rattle.mon_types.specs.declared.region.Region.{Region}
use Rattle.mon_types.specs.declared.region.Region.TheVariants as regions
use Rattle.mon_types.specs.declared.call.Call.{Call}
use Rattle.mon_types.specs.declared.object.ObjectId.{ObjectId}
use Rattle.mon_types.specs.declared.object.ObjectId.TheVariants as objects
use Rattle.mon_model.specs.State.{State, region_at}
use Rattle.dram_map.specs.Addresses.{region_of_word}
use Rattle.mon_enclaves.specs.LoadReply.{is_load}
use Rattle.mon_records.specs.Answers.{AnswersFor, freed}
use Rattle.mon_records.specs.Members.{In}
use Rattle.mon_records.proofs.Members.{in_contains}
use Rattle.hist.specs.declared.event.Entry.{Entry}
use Rattle.hist_stands.specs.Held.{IsHeld}
use Rattle.loaded_pages.specs.Content.{Content}
use Rattle.protocol.specs.declared.action.Action.TheVariants as actions
use Rattle.protocol.specs.declared.action.Draft.{Draft}
use Rattle.protocol.specs.declared.action.Move.{Move}
use Rattle.protocol.specs.declared.action.Move.TheVariants as moves
use Rattle.protocol.specs.Places.{Memory}
use Rattle.protocol.specs.CallTree.{lock}
use Rattle.protocol.specs.Views.{Moves, held_of, entries_in, answers_of, call_moves, issuer_of}
use Rattle.protocol.specs.Permitted.{MayGoOn, MayReach, Permitted}
use Rattle.protocol.specs.Right.{Reach, Loads, Stores, Swaps, action_reach, reach_of, IsSince, RightTo, OfTouch, OfSource, OfLoading, OfFreeing, Right, last_entry}
use Rattle.protocol.specs.Runs.{Made, moves_with, moves_of, IsRun}
use Rattle.protocol_laws.specs.Known.{Keeps, KeepsLoading}
use Rattle.protocol_laws.proofs.Steps.{at_store, at_load}
use Rattle.protocol_steps.specs.Stages.{Stage, Locking, Met, Drawn, Astray, stage_of, MayMake}
use Rattle.protocol_steps.proofs.Moving.{at_move, stage_goes}
use Rattle.protocol_steps.proofs.Outside.{reach_held}
use Rattle.protocol_steps.proofs.CallKept.{AtStage}
use Rattle.protocol_steps.proofs.Words.{last_freed}
use Rattle.protocol_steps.proofs.Together.{Together}

clash : {X : Type 0} → false ≡ true → X
clash e = absurd (cc)

since_of : (g : Region) (owner : Owner) (a cell : ℕ) → (g ≡ regions.Owned owner a) ⊎ ((b : ℕ) × (g ≡ regions.Blocked owner a b) × (cell < b)) → IsSince g a
since_of g owner a cell held = elim held [
  | inl e ↦ subst (λ z. IsSince z a) (sym e) refl
  | inr x ↦ subst (λ z. IsSince z a) (sym x.1) refl
]

-- ---- a core of the machine

module _ (shape : Shape) (is : is_shape shape ≡ true) (memory : Memory) (moved : ℕ → Moves) (h : List Entry) (s : State) (content : Content) (all : Together shape memory moved h s content) (core : ℕ) (lt : core < shape.cores) where
  home : (i : ℕ) → region_of_word s.shape i ≡ region_of_word shape i
  home i = ap (λ z. region_of_word z i) all.kept.shaped

  loading_right : (i : ℕ) (reach : Reach) → KeepsLoading s (held_of (moved core)) i → RightTo s core (moved core) (region_of_word s.shape i) reach
  loading_right i reach k = OfLoading k.slot (in_contains (held_of (moved core)) (objects.Enclave k.slot) k.held_is) k.answers.is.0 k.answers.is.1

  touch_right : (i : ℕ) (reach : Reach) → MayReach shape core (moved core) i → RightTo s core (moved core) (region_of_word s.shape i) reach
  touch_right i reach may =
      let held : IsHeld h s core (region_of_word shape i) may.since = reach_held shape is memory moved h s content all.kept core lt i may in
      subst (λ r. RightTo s core (moved core) r reach) (sym (home i)) (OfTouch may.since (since_of (region_at s (region_of_word shape i)) held.owner may.since _ held.region) may.touched)

  load_right : (i : ℕ) → MayGoOn shape core (moved core) (actions.Load i) → RightTo s core (moved core) (region_of_word s.shape i) Loads
  load_right i p = elim (at_load (issuer_of core (moved core)) p.call (answers_of (moved core)) s content (held_of (moved core)) memory i p.next (at_move shape is memory moved h s content all.kept core lt (actions.Load i) p)).1 [
    | inl source ↦ OfSource source.1.0 refl (in_contains (held_of (moved core)) (objects.Region (region_of_word s.shape i)) source.0) source.1.1
    | inr k ↦ loading_right i Loads k
  ]

  -- who keeps a word that the call has still to zero
  freeing_for : (i word : ℕ) (draft : Draft) → word ≡ 0 → freed draft.reply draft.call ≡ Some (region_of_word shape i) → AtStage shape s content memory (held_of (moved core)) (call_moves (moved core)) (entries_in core (moved core)) (Drawn draft) → (who : ObjectId) → In who (held_of (moved core)) → AnswersFor s who (region_of_word s.shape i) → RightTo s core (moved core) (region_of_word s.shape i) (Stores word)
  freeing_for i word draft none is_freed at (objects.Enclave e) k a = OfLoading e (in_contains (held_of (moved core)) (objects.Enclave e) k) a.0 a.1
  freeing_for i word draft none is_freed at (objects.Region q) k a =
      let q_in : In (objects.Region (region_of_word shape i)) (held_of (moved core)) = subst (λ z. In (objects.Region z) (held_of (moved core))) (a.0 ∙ home i) k in
      subst (λ r. RightTo s core (moved core) r (Stores word)) (sym (home i))
      (OfFreeing (ap Stores none) (at.free (region_of_word shape i) is_freed q_in) (in_contains (held_of (moved core)) (objects.Region (region_of_word shape i)) q_in)
      (last_freed (last_entry (entries_in core (moved core))) draft (region_of_word shape i) is_freed at.last))
  freeing_for i word draft none is_freed at (objects.Thread t) k a = absurd a
  freeing_for i word draft none is_freed at (objects.Cell c) k a = absurd a

  store_by : (call : Call) (i word : ℕ) → (is_load call ≡ false) × (word ≡ 0) × Keeps s (held_of (moved core)) i → (stage : Stage) → MayMake shape call stage (actions.Store i word) → AtStage shape s content memory (held_of (moved core)) (call_moves (moved core)) (entries_in core (moved core)) stage → RightTo s core (moved core) (region_of_word s.shape i) (Stores word)
  store_by call i word plain (Locking os) may at = clash (sym plain.0 ∙ may)
  store_by call i word plain (Met lock holder serial os) may at = absurd may
  store_by call i word plain (Drawn draft) may at = freeing_for i word draft plain.1 may.1 at plain.2.who plain.2.held_is plain.2.answers.is
  store_by call i word plain Astray may at = absurd may

  store_right : (i word : ℕ) → MayGoOn shape core (moved core) (actions.Store i word) → RightTo s core (moved core) (region_of_word s.shape i) (Stores word)
  store_right i word p = elim (at_store (issuer_of core (moved core)) p.call (answers_of (moved core)) s content (held_of (moved core)) memory i word p.next (at_move shape is memory moved h s content all.kept core lt (actions.Store i word) p)).1 [
    | inl k ↦ loading_right i (Stores word) k
    | inr plain ↦ store_by p.call i word plain (stage_of (call_moves (moved core))) (stage_goes shape is memory moved h s content all.kept core lt (actions.Store i word) p).0 (all.more core lt).at_stage
  ]

  pub has_right : (move : Move) → Permitted shape core (moved core) move → Right s core (moved core) move
  unfolding reach_of action_reach
  has_right (moves.InCall (actions.TryLock o)) p = tt
  has_right (moves.InCall (actions.Read o i)) p = tt
  has_right (moves.InCall (actions.Write o i word)) p = tt
  has_right (moves.InCall (actions.Draw draft)) p = tt
  has_right (moves.InCall (actions.Unlock o)) p = tt
  has_right (moves.InCall (actions.Load i)) p = load_right i p
  has_right (moves.InCall (actions.Store i word)) p = store_right i word p
  has_right (moves.Look r owner) p = tt
  has_right (moves.Load i) p = touch_right i Loads p
  has_right (moves.Store i word) p = touch_right i (Stores word) p
  has_right (moves.Swap i old word) p = touch_right i (Swaps word) p
  has_right (moves.Stop line why) p = tt

-- ---- cores that are none of the machine's

-- such a core has made no move
pub none_made : (shape : Shape) (dram : List ℕ) (run : List Made) (core : ℕ) → IsRun shape dram run → shape.cores ≤ core → moves_of core run ≡ []
unfolding moves_of moves_with
none_made shape dram [] core runs le = refl
none_made shape dram (made ∷ run) core runs le =
    ap (λ b. cond b ((made.move, made.outcome) ∷ moves_of core run) (moves_of core run)) (ne_eqb made.core core (λ e. absurd (omega (arith, e, le, runs.0.core))))
    ∙ none_made shape dram run core runs.1 le
