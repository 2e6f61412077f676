-- Moves outside calls keep what is kept: looks, moves on words of touched regions, and stops, which may come at any time.
use Rattle.std.proofs.Common.{◌≡◌, inl, inr, ◌<◌, ◌∙◌, ℕ, suc, Bool, true, false, cond, Option, Some, None, List, [], ◌∷◌, ◌++◌, length, ap, sym, refl, subst, append-nil}
use Rattle.std.proofs.lemmas.Bool.{cases_Bool}
use Rattle.mon_types.specs.Shape.{Shape, is_shape}
use Rattle.mon_types.specs.Locks.{lock_word}
use Rattle.mon_types.specs.declared.region.Owner.{Owner}
use Rattle.mon_types.specs.declared.object.ObjectId.{ObjectId}
use Rattle.mon_types.specs.declared.object.ObjectId.TheVariants as objects
use Rattle.mon_model.specs.State.{State, region_at, mode_of}
use Rattle.dram_map.specs.Addresses.{region_of_word}
use Rattle.mon_records.specs.Answers.{Answers}
use Rattle.mon_records.specs.Members.{In}
use Rattle.core_access.specs.Looks.{since_in_word}
use Rattle.hist.specs.declared.event.Entry.{Entry}
use Rattle.hist.specs.declared.event.Event.TheVariants as events
use Rattle.hist.specs.declared.event.Why.{Why}
use Rattle.hist.specs.SafeLog.{mode_after, IsOpenTo}
use Rattle.hist.specs.Touched.{is_touched}
use Rattle.hist_stands.specs.Held.{IsHeld}
use Rattle.hist_stands.specs.Stands.{Stands, with_event}
use Rattle.hist_stands.proofs.Alike.{alike_stands}
use Rattle.hist_stands.proofs.Grows.{stop_stands, touch_stands}
use Rattle.hist_stands.proofs.Holding.{held_now}
use Rattle.loaded_pages.specs.Content.{Content}
use Rattle.protocol.specs.declared.action.Move.{Move}
use Rattle.protocol.specs.declared.action.Move.TheVariants as moves
use Rattle.protocol.specs.declared.action.Outcome.{Outcome}
use Rattle.protocol.specs.declared.action.Outcome.TheVariants as outcomes
use Rattle.protocol.specs.Places.{Row, Dram, Memory, with_word}
use Rattle.protocol.specs.CallTree.{call_tree}
use Rattle.protocol.specs.Views.{Moves, held_after, held_of, touch_in, logged, core_log, answers_of, answered, call_with, call_moves, is_calling, issuer_of}
use Rattle.protocol.specs.Permitted.{Follows, MayLook, MayReach}
use Rattle.protocol.specs.Runs.{Made, moves_with}
use Rattle.protocol_laws.specs.Known.{IsUnused}
use Rattle.protocol_laws.proofs.Places.{at_place, dram_index, dram_row}
use Rattle.protocol_laws.proofs.Steps.{IsAtTree}
use Rattle.protocol_steps.proofs.Views.{before_some, issuer_same, are_none, entries_same, draws}
use Rattle.protocol_steps.proofs.Kept.{CoreKept, Kept, core_idle, logs_more, log_mode, stands_still}
use Rattle.protocol_steps.proofs.Moving.{Stepped, keep_quiet, dram_lock, dram_counter}
use Rattle.protocol_steps.proofs.Looking.{look_true, held_unanswered}

module _ (shape : Shape) (is : is_shape shape ≡ true) (memory : Memory) (moved : ℕ → Moves) (h : List Entry) (s : State) (content : Content) (kept : Kept shape memory moved h s content) (core : ℕ) (lt : core < shape.cores) where
  -- no call is under way after it
  idle_after : (move : Move) (out : Outcome) (n : Memory) → draws move ≡ false → call_moves ((move, out) ∷ moved core) ≡ [] → CoreKept shape s content n core ((move, out) ∷ moved core)
  idle_after move out n none calls = core_idle shape core ((move, out) ∷ moved core) s content n calls (kept.sound core lt) kept.shaped
      (ap mode_after (entries_same core move out (moved core) none) ∙ log_mode shape is memory moved h s content kept core lt)

  -- ---- looks

  module _ (r : ℕ) (owner : Owner) (may : MayLook shape core (moved core) r owner) where
    word : ℕ
    word = memory (Row (objects.Region r) 0)

    made : Made
    made = record { core = core; move = moves.Look r owner; outcome = outcomes.Word (memory (Row (objects.Region r) 0)) }

    by_touch : (b : Bool) (a : ℕ) → since_in_word owner (memory (Row (objects.Region r) 0)) ≡ Some a → is_touched r a (core_log core (moved core)) ≡ b → Stands shape h (λ q. core_log q (moves_with q made (moved q)))
    unfolding made logged touch_in
    by_touch true a e t = stands_still shape is memory moved h s content kept made
        (ap (λ z. touch_in r z (core_log core (moved core))) e ∙ ap (λ b. cond b [] (events.Touch r a ∷ [])) t)
    by_touch false a e t =
        alike_stands shape h (with_event (λ core. core_log core (moved core)) core (events.Touch r a)) (λ q. core_log q (moves_with q made (moved q)))
        (λ q lq. logs_more moved made (events.Touch r a) (ap (λ z. touch_in r z (core_log core (moved core))) e ∙ ap (λ b. cond b [] (events.Touch r a ∷ [])) t) q)
        (touch_stands shape h (λ core. core_log core (moved core)) kept.stands core lt r a owner
        (ap (λ z. region_at z r) kept.now ∙ look_true shape memory moved h s content kept core lt r owner a e)
        (subst (λ z. IsOpenTo z owner) (log_mode shape is memory moved h s content kept core lt ∙ ap (λ z. mode_of z core) (sym kept.now)) may.for_whom) t)

    by_since : (since : Option ℕ) → since_in_word owner (memory (Row (objects.Region r) 0)) ≡ since → Stands shape h (λ q. core_log q (moves_with q made (moved q)))
    unfolding made logged touch_in
    by_since None e = stands_still shape is memory moved h s content kept made (ap (λ z. touch_in r z (core_log core (moved core))) e)
    by_since (Some a) e = by_touch (is_touched r a (core_log core (moved core))) a e refl

    pub keep_look : Stepped shape memory memory moved (record { core = core; move = moves.Look r owner; outcome = outcomes.Word (memory (Row (objects.Region r) 0)) }) h h s s content content
    unfolding made held_of held_after call_moves call_with
    keep_look =
        let out : Outcome = outcomes.Word (memory (Row (objects.Region r) 0)) in
        keep_quiet shape is memory moved h s content kept core lt (moves.Look r owner) out memory (by_since (since_in_word owner (memory (Row (objects.Region r) 0))) refl) refl refl (λ o. refl) (λ o i. inr refl) (λ i. inr refl) (λ o k. k)
        (idle_after (moves.Look r owner) out memory refl may.outside)

  -- ---- words of touched regions

  -- the core holds the period
  pub reach_held : (i : ℕ) (may : MayReach shape core (moved core) i) → IsHeld h s core (region_of_word shape i) may.since
  reach_held i may = subst (λ z. IsHeld h z core (region_of_word shape i) may.since) kept.now
      (held_now shape h kept.stands.legal core lt (core_log core (moved core)) (kept.stands.mine core lt) (kept.stands.stamped core lt) (region_of_word shape i) may.since may.touched)

  reach_unused : (i : ℕ) → MayReach shape core (moved core) i → IsUnused s i
  reach_unused i may o a = held_unanswered core s (kept.sound core lt).facts h (region_of_word shape i) may.since (reach_held i may) o (subst (λ z. Answers s o (region_of_word z i)) kept.shaped a)

  pub keep_fetch : (i : ℕ) → MayReach shape core (moved core) i → Stepped shape memory memory moved (record { core = core; move = moves.Load i; outcome = outcomes.Word (memory (Dram i)) }) h h s s content content
  unfolding logged held_of held_after call_moves call_with
  keep_fetch i may =
      let out : Outcome = outcomes.Word (memory (Dram i)) in
      keep_quiet shape is memory moved h s content kept core lt (moves.Load i) out memory (stands_still shape is memory moved h s content kept (record { core = core; move = moves.Load i; outcome = out }) refl) refl refl (λ o. refl) (λ o j. inr refl) (λ j. inr refl) (λ o k. k)
      (idle_after (moves.Load i) out memory refl may.outside)

  keep_word : (move : Move) (out : Outcome) (i word : ℕ) → MayReach shape core (moved core) i → draws move ≡ false → logged core (core_log core (moved core)) move out ≡ [] → ((o : ObjectId) → In o (held_of (moved core)) → In o (held_of ((move, out) ∷ moved core))) → call_moves ((move, out) ∷ moved core) ≡ [] → Stepped shape memory (with_word memory (Dram i) word) moved (record { core = core; move = move; outcome = out }) h h s s content content
  keep_word move out i word may none silent mine calls =
      let n : Memory = with_word memory (Dram i) word in
      keep_quiet shape is memory moved h s content kept core lt move out n (stands_still shape is memory moved h s content kept (record { core = core; move = move; outcome = out }) silent) none
      (dram_counter memory i word) (dram_lock memory i word) (λ o j. inr (dram_row memory i word o j))
      (λ j. elim (at_place memory (Dram i) word (Dram j)) [ inl f ↦ inl (inr (subst (λ z. IsUnused s z) (dram_index f.0) (reach_unused i may))) | inr f ↦ inr f.1 ])
      mine (idle_after move out n none calls)

  pub keep_put : (i word : ℕ) → MayReach shape core (moved core) i → Stepped shape memory (with_word memory (Dram i) word) moved (record { core = core; move = moves.Store i word; outcome = outcomes.Done }) h h s s content content
  unfolding logged held_of held_after call_moves call_with
  keep_put i word may = keep_word (moves.Store i word) outcomes.Done i word may refl refl (λ o k. k) may.outside

  pub keep_swap : (i old word new : ℕ) (out : Outcome) → MayReach shape core (moved core) i → Stepped shape memory (with_word memory (Dram i) new) moved (record { core = core; move = moves.Swap i old word; outcome = out }) h h s s content content
  unfolding logged held_of held_after call_moves call_with
  keep_swap i old word new out may = keep_word (moves.Swap i old word) out i new may refl refl (λ o k. k) may.outside

  -- ---- stops

  -- in the middle of a call all is as it was
  pub issuer_stop : (line : ℕ) (why : Why) (out : Outcome) → is_calling (moved core) ≡ true → issuer_of core ((moves.Stop line why, out) ∷ moved core) ≡ issuer_of core (moved core)
  unfolding call_moves call_with
  issuer_stop line why out calls = issuer_same core ((moves.Stop line why, out) ∷ moved core) (moved core) (before_some (moves.Stop line why, out) (moved core) calls)

  core_stop : (line : ℕ) (why : Why) (out : Outcome) → is_calling (moved core) ≡ true → CoreKept shape s content memory core ((moves.Stop line why, out) ∷ moved core)
  unfolding held_of held_after call_moves call_with answers_of answered
  core_stop line why out calls =
      let own = kept.cores core lt in
      let by = issuer_stop line why out calls in
      let ms1 : Moves = (moves.Stop line why, out) ∷ moved core in
      record {
        mine = λ o k. own.mine o k ∙ sym (ap (λ z. lock_word core z.serial) by);
        once = own.once;
        there = own.there;
        true_words = own.true_words;
        counted = λ d. ap (λ z. suc z.serial) by ∙ own.counted d ∙ sym (ap length (entries_same core (moves.Stop line why) out (moved core) refl));
        at_tree = λ call rest follows.
            (let f1 = subst (λ z. Follows (call_tree shape z call) (call_moves (moved core)) rest) by follows in
            subst (λ z. IsAtTree z call s content (answers_of (moved core) ++ []) (held_of (moved core)) memory rest) (sym by)
            (subst (λ z. IsAtTree (issuer_of core (moved core)) call s content z (held_of (moved core)) memory rest) (sym (append-nil (answers_of (moved core)))) (own.at_tree call rest f1)));
      }

  pub keep_stop : (line : ℕ) (why : Why) → Stepped shape memory memory moved (record { core = core; move = moves.Stop line why; outcome = outcomes.Done }) h h s s content content
  unfolding logged held_of held_after call_moves call_with
  keep_stop line why =
      let made : Made = record { core = core; move = moves.Stop line why; outcome = outcomes.Done } in
      keep_quiet shape is memory moved h s content kept core lt (moves.Stop line why) outcomes.Done memory
      (alike_stands shape h (with_event (λ core. core_log core (moved core)) core (events.Stop line why)) (λ q. core_log q (moves_with q made (moved q)))
      (λ q lq. logs_more moved made (events.Stop line why) refl q) (stop_stands shape h (λ core. core_log core (moved core)) kept.stands core lt line why))
      refl refl (λ o. refl) (λ o i. inr refl) (λ i. inr refl) (λ o k. k)
      (elim (cases_Bool (is_calling (moved core))) [
        | inl t ↦ core_stop line why outcomes.Done t
        | inr f ↦ idle_after (moves.Stop line why) outcomes.Done memory refl (are_none (call_moves (moved core)) f)
      ])
