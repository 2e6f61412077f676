-- Each permitted move keeps what is kept beside of a core's call under way.
use Rattle.std.proofs.Common.{◌≡◌, inl, inr, ◌<◌, ◌%◌, ◌∙◌, ℕ, suc, true, false, cond, Option, Some, List, [], ◌∷◌, ◌++◌, ap, sym, refl, subst}
use Rattle.std.specs.Prelude.{IsSomeAnd}
use Rattle.std.proofs.lemmas.Bool.{cases_eq, cases_Bool, eq-eqb, ne_eqb}
use Rattle.mon_types.specs.Shape.{Shape, is_shape}
use Rattle.mon_types.specs.Owns.{own_word}
use Rattle.mon_types.specs.declared.call.Call.{Call}
use Rattle.mon_types.specs.declared.call.Call.TheVariants as calls
use Rattle.mon_types.specs.declared.object.ObjectId.{ObjectId}
use Rattle.mon_types.specs.declared.object.ObjectId.TheVariants as objects
use Rattle.mon_model.specs.State.{State, region_at}
use Rattle.mon_model.specs.RegionStep.{is_idle}
use Rattle.mon_facts.specs.Facts.{FactsHold}
use Rattle.dram_map.specs.Addresses.{word_total, region_of_word}
use Rattle.mon_records.specs.Answers.{Answers}
use Rattle.mon_records.specs.Members.{In}
use Rattle.mon_records.proofs.Answered.{one_answers}
use Rattle.hist.specs.declared.event.Entry.{Entry}
use Rattle.hist.specs.declared.event.Why.{Why}
use Rattle.loaded_pages.specs.Content.{Content}
use Rattle.protocol.specs.declared.action.Action.{Action}
use Rattle.protocol.specs.declared.action.Action.TheVariants as actions
use Rattle.protocol.specs.declared.action.Draft.{Draft}
use Rattle.protocol.specs.declared.action.Move.{Move}
use Rattle.protocol.specs.declared.action.Move.TheVariants as moves
use Rattle.protocol.specs.declared.action.Outcome.{Outcome}
use Rattle.protocol.specs.declared.action.Outcome.TheVariants as outcomes
use Rattle.protocol.specs.Places.{Counter, Lock, Row, Dram, Memory, with_word}
use Rattle.protocol.specs.CallTree.{Makes, Issuer, call_tree, behind_first}
use Rattle.protocol.specs.Views.{Moves, entry_of, held_by, held_after, held_of, entries_in, answers_of, is_last, call_with, call_moves, is_calling, issuer_of, is_draw}
use Rattle.protocol.specs.Permitted.{Follows, MayGoOn}
use Rattle.protocol.specs.Right.{last_entry}
use Rattle.protocol.specs.Contents.{stored_by, stored_so_far}
use Rattle.protocol.specs.Records.{withdraws_any, is_accept_region}
use Rattle.protocol_laws.specs.Known.{KeepsLoading}
use Rattle.protocol_laws.specs.Safe.{drawn_state, drawn_content, WritesWord, MayStore}
use Rattle.protocol_laws.proofs.Places.{at_place, row_object, dram_index, row_dram, dram_row, row_own, row_at, row_index}
use Rattle.protocol_laws.proofs.Frame.{looks_counter}
use Rattle.protocol_laws.proofs.Steps.{IsAtTree, at_others, at_write, at_store, at_draw}
use Rattle.protocol_steps.specs.Stages.{Stage, Locking, Met, Drawn, Astray, stage_tried, stage_locking, stage_met, stage_by, stage_of, MayMake, Goes}
use Rattle.protocol_steps.proofs.Views.{call_more, issuer_more, call_over, entries_same, are_none, in_rest}
use Rattle.protocol_steps.proofs.Kept.{Kept}
use Rattle.protocol_steps.proofs.Moving.{lock_row, lock_dram, counter_other, wide_region, at_move, stage_goes, none_drawn, entries_drawn, keep_draw}
use Rattle.protocol_steps.proofs.Outside.{issuer_stop}
use Rattle.protocol_steps.proofs.Past.{IsOf, at_past_word, will_store, is_of, early_write}
use Rattle.protocol_steps.proofs.CallKept.{BeforeDraw, BehindDraw, AtStage, CallKept, call_idle, stored_or, drawn_free, drawn_offered}

clash : {X : Type 0} → false ≡ true → X
clash e = absurd (cc)

accept_leaves : (call : Call) → is_accept_region call ≡ true → withdraws_any call ≡ true → ⊥
accept_leaves (calls.AcceptRegion r) a w = clash w
accept_leaves _ a w = clash a

last_of : (xs : List Entry) (e : Entry) → last_entry (xs ++ e ∷ []) ≡ Some e
last_of [] e = refl
last_of (x ∷ []) e = refl
last_of (x ∷ y ∷ xs) e = last_of (y ∷ xs) e

-- an enclave and a region do not both answer
two_answer : (s : State) (r slot : ℕ) → FactsHold s → Answers s (objects.Enclave slot) r → is_idle (region_at s r) ≡ true → ⊥
two_answer s r slot facts a idle = apart (one_answers s r (objects.Enclave slot) (objects.Region r) facts a (record { is = (refl, idle) }))
  where
    apart : objects.Enclave slot ≡ objects.Region r → ⊥
    apart e = cc

-- ---- one more move of a call, by stages

module _ (shape : Shape) (s : State) (content : Content) (held : List ObjectId) (done : List (Action × Outcome)) where
  -- it changes nothing
  before_more : (memory : Memory) (taken : List ObjectId) (a : Action) (out : Outcome) → ((i b : ℕ) → stored_by a i b ≡ b) → BeforeDraw shape s content memory held done taken → BeforeDraw shape s content memory held ((a, out) ∷ done) taken
  unfolding stored_so_far
  before_more memory taken a out same was = record {
    taken_is = was.taken_is;
    rows = λ o i h b. elim (was.rows o i h b) [ inl e ↦ inl e | inr w ↦ inr (record { word = w.word; written = inr w.written; stands = w.stands }) ];
    idle = was.idle;
    where_stored = λ i. elim (was.where_stored i) [ inl e ↦ inl (λ x. same i (stored_so_far done i x) ∙ e x) | inr k ↦ inr k ];
    stored = λ i b k. was.stored i b k ∙ sym (same i (stored_so_far done i (content i)));
  }

  -- a row is written
  before_write : (memory : Memory) (taken : List ObjectId) (o : ObjectId) (j word : ℕ) → BeforeDraw shape s content memory held done taken → BeforeDraw shape s content (with_word memory (Row o j) word) held ((actions.Write o j word, outcomes.Done) ∷ done) taken
  unfolding stored_so_far
  before_write memory taken o j word was = record {
    taken_is = was.taken_is;
    rows = λ p i h b. elim (at_place memory (Row o j) word (Row p i)) [
      | inl f ↦ inr (record { word = word; written = inl (written f.0); stands = f.1 })
      | inr f ↦ elim (was.rows p i h b) [
        | inl e ↦ inl (f.1 ∙ e)
        | inr w ↦ inr (record { word = w.word; written = inr w.written; stands = f.1 ∙ w.stands })
      ]
    ];
    idle = λ i b h e. row_dram memory o j word i ∙ was.idle i b h e;
    where_stored = was.where_stored;
    stored = λ i b k. row_dram memory o j word i ∙ was.stored i b k;
  }
    where
      pair : Action → Action × Outcome
      pair a = (a, outcomes.Done)

      written : {p : ObjectId} {i : ℕ} → Row o j ≡ Row p i → ◌≡◌ {A = Action × Outcome} (actions.Write p i word, outcomes.Done) (actions.Write o j word, outcomes.Done)
      written {p} {i} f = ap (λ z. pair (actions.Write z i word)) (sym (row_object f)) ∙ ap (λ z. pair (actions.Write o z word)) (sym (row_index f))

  -- the words of Loading enclaves, where one word is stored
  stored_more : (memory : Memory) (j word : ℕ) → ((i : ℕ) → i < word_total shape → KeepsLoading s held i → memory (Dram i) ≡ stored_so_far done i (content i)) → (i : ℕ) → i < word_total shape → KeepsLoading s held i → with_word memory (Dram j) word (Dram i) ≡ stored_so_far ((actions.Store j word, outcomes.Done) ∷ done) i (content i)
  unfolding stored_so_far
  stored_more memory j word stored i b k = elim (at_place memory (Dram j) word (Dram i)) [
    | inl f ↦ f.1 ∙ sym (ap (λ z. cond z word (stored_so_far done i (content i))) (eq-eqb j i (dram_index f.0)))
    | inr f ↦ f.1 ∙ stored i b k ∙ sym (ap (λ z. cond z word (stored_so_far done i (content i))) (ne_eqb j i (λ e. f.0 (ap (λ z. Dram z) e))))
  ]

  before_store : (memory : Memory) (taken : List ObjectId) (j word : ℕ) → s.shape ≡ shape → FactsHold s → KeepsLoading s held j → BeforeDraw shape s content memory held done taken → BeforeDraw shape s content (with_word memory (Dram j) word) held ((actions.Store j word, outcomes.Done) ∷ done) taken
  unfolding stored_so_far
  before_store memory taken j word shaped facts kept was = record {
    taken_is = was.taken_is;
    rows = λ p i h b. elim (was.rows p i h b) [
      | inl e ↦ inl (dram_row memory j word p i ∙ e)
      | inr w ↦ inr (record { word = w.word; written = inr w.written; stands = dram_row memory j word p i ∙ w.stands })
    ];
    idle = λ i b h e. elim (at_place memory (Dram j) word (Dram i)) [
      | inl f ↦ absurd (two_answer s (region_of_word s.shape j) kept.slot facts kept.answers (ap (λ z. is_idle (region_at s (region_of_word z j))) shaped ∙ ap (λ z. is_idle (region_at s (region_of_word shape z))) (dram_index f.0) ∙ e))
      | inr f ↦ f.1 ∙ was.idle i b h e
    ];
    where_stored = λ i. elim (cases_eq j i) [
      | inl e ↦ inr (subst (KeepsLoading s held) e kept)
      | inr ne ↦ elim (was.where_stored i) [
        | inl f ↦ inl (λ x. ap (λ z. cond z word (stored_so_far done i x)) (ne_eqb j i ne) ∙ f x)
        | inr k ↦ inr k
      ]
    ];
    stored = stored_more memory j word was.stored;
  }

  -- with its ticket: a row is written
  behind_write : (memory : Memory) (entries : List Entry) (draft : Draft) (call : Call) (o : ObjectId) (j word : ℕ) → draft.call ≡ call → WritesWord call s o j word → BehindDraw shape s content memory held done entries draft → BehindDraw shape s content (with_word memory (Row o j) word) held ((actions.Write o j word, outcomes.Done) ∷ done) entries draft
  unfolding stored_so_far
  behind_write memory entries draft call o j word of writes was = record {
    last = was.last;
    free = was.free;
    offered = λ a r h. elim (at_place memory (Row o j) word (Row (objects.Region r) 0)) [
      | inl f ↦ elim writes [
        | inl e ↦ inl (f.1 ∙ e ∙ row_at s f.0)
        | inr w ↦ absurd (accept_leaves draft.call a (ap withdraws_any of ∙ w))
      ]
      | inr f ↦ elim (was.offered a r h) [ inl e ↦ inl (f.1 ∙ e) | inr e ↦ inr (ap (λ z. z % 4) f.1 ∙ e) ]
    ];
    stored = λ i b k. row_dram memory o j word i ∙ was.stored i b k;
  }

  -- a word is stored
  behind_store : (memory : Memory) (entries : List Entry) (draft : Draft) (j word : ℕ) → BehindDraw shape s content memory held done entries draft → BehindDraw shape s content (with_word memory (Dram j) word) held ((actions.Store j word, outcomes.Done) ∷ done) entries draft
  behind_store memory entries draft j word was = record {
    last = was.last;
    free = was.free;
    offered = λ a r h. elim (was.offered a r h) [
      | inl e ↦ inl (dram_row memory j word (objects.Region r) 0 ∙ e)
      | inr e ↦ inr (ap (λ z. z % 4) (dram_row memory j word (objects.Region r) 0) ∙ e)
    ];
    stored = stored_more memory j word was.stored;
  }

  -- an object is given back
  behind_unlock : (memory : Memory) (entries : List Entry) (draft : Draft) (o : ObjectId) (left : List ObjectId) → ((q : ObjectId) → In q left → In q held) → BehindDraw shape s content memory held done entries draft → BehindDraw shape s content (with_word memory (Lock o) 0) left ((actions.Unlock o, outcomes.Done) ∷ done) entries draft
  unfolding stored_so_far
  behind_unlock memory entries draft o left more was = record {
    last = was.last;
    free = λ r e h. was.free r e (more (objects.Region r) h);
    offered = λ a r h. elim (was.offered a r (more (objects.Region r) h)) [
      | inl e ↦ inl (lock_row memory o 0 (objects.Region r) 0 ∙ e)
      | inr e ↦ inr (ap (λ z. z % 4) (lock_row memory o 0 (objects.Region r) 0) ∙ e)
    ];
    stored = λ i b k. lock_dram memory o 0 i ∙ was.stored i b (record { slot = k.slot; held_is = more (objects.Enclave k.slot) k.held_is; answers = k.answers });
  }

-- ---- the core that moves

module _ (shape : Shape) (is : is_shape shape ≡ true) (memory : Memory) (moved : ℕ → Moves) (h : List Entry) (s : State) (content : Content) (kept : Kept shape memory moved h s content) (core : ℕ) (lt : core < shape.cores) (more : CallKept shape s content memory core (moved core)) where
  -- the call goes on
  call_on : (a : Action) (out : Outcome) (p : MayGoOn shape core (moved core) a) (s1 : State) (content1 : Content) (n : Memory) → is_last a (held_by a out (held_of (moved core))) ≡ false → AtStage shape s1 content1 n (held_of ((moves.InCall a, out) ∷ moved core)) ((a, out) ∷ call_moves (moved core)) (entries_in core ((moves.InCall a, out) ∷ moved core)) (stage_of ((a, out) ∷ call_moves (moved core))) →
      CallKept shape s1 content1 n core ((moves.InCall a, out) ∷ moved core)
  call_on a out p s1 content1 n on at =
      let ms1 : Moves = (moves.InCall a, out) ∷ moved core in
      let call_is = call_more core a out (moved core) on in
      record {
        at_stage = subst (λ done. AtStage shape s1 content1 n (held_of ms1) done (entries_in core ms1) (stage_of done)) (sym call_is) at;
        call = p.call;
        rest = p.next out;
        follows = subst (λ z. Follows (call_tree shape z p.call) (call_moves ms1) (p.next out)) (sym (issuer_more core a out (moved core) on))
            (subst (λ done. Follows (call_tree shape (issuer_of core (moved core)) p.call) done (p.next out)) (sym call_is) (p.next, p.follows, refl));
      }

  facts : FactsHold s
  facts = (kept.sound core lt).facts

  may : (a : Action) (p : MayGoOn shape core (moved core) a) → MayMake shape p.call (stage_of (call_moves (moved core))) a
  may a p = (stage_goes shape is memory moved h s content kept core lt a p).0

  entries_on : (a : Action) (out : Outcome) → is_draw a ≡ false → entries_in core ((moves.InCall a, out) ∷ moved core) ≡ entries_in core (moved core)
  entries_on a out e = entries_same core (moves.InCall a) out (moved core) e

  read_by : (call : Call) (o : ObjectId) (i : ℕ) (out : Outcome) (entries : List Entry) (stage : Stage) → MayMake shape call stage (actions.Read o i) → AtStage shape s content memory (held_of (moved core)) (call_moves (moved core)) entries stage → AtStage shape s content memory (held_of (moved core)) ((actions.Read o i, out) ∷ call_moves (moved core)) entries (stage_by stage (actions.Read o i) out)
  unfolding stage_by stage_locking
  read_by call o i out entries (Locking os) may at = before_more shape s content (held_of (moved core)) (call_moves (moved core)) memory os (actions.Read o i) out (λ j b. refl) at
  read_by call o i out entries (Met lock holder serial os) may at = absurd may
  read_by call o i out entries (Drawn draft) may at = absurd may
  read_by call o i out entries Astray may at = absurd may

  pub call_read : (o : ObjectId) (i : ℕ) (out : Outcome) → MayGoOn shape core (moved core) (actions.Read o i) → CallKept shape s content memory core ((moves.InCall (actions.Read o i), out) ∷ moved core)
  unfolding held_of held_after held_by is_last stage_of
  call_read o i out p = call_on (actions.Read o i) out p s content memory refl
      (subst (λ es. AtStage shape s content memory (held_of (moved core)) ((actions.Read o i, out) ∷ call_moves (moved core)) es (stage_by (stage_of (call_moves (moved core))) (actions.Read o i) out)) (sym (entries_on (actions.Read o i) out refl))
      (read_by p.call o i out (entries_in core (moved core)) (stage_of (call_moves (moved core))) (may (actions.Read o i) p) more.at_stage))

  load_by : (call : Call) (i : ℕ) (out : Outcome) (entries : List Entry) (stage : Stage) → MayMake shape call stage (actions.Load i) → AtStage shape s content memory (held_of (moved core)) (call_moves (moved core)) entries stage → AtStage shape s content memory (held_of (moved core)) ((actions.Load i, out) ∷ call_moves (moved core)) entries (stage_by stage (actions.Load i) out)
  unfolding stage_by stage_locking
  load_by call i out entries (Locking os) may at = before_more shape s content (held_of (moved core)) (call_moves (moved core)) memory os (actions.Load i) out (λ j b. refl) at
  load_by call i out entries (Met lock holder serial os) may at = absurd may
  load_by call i out entries (Drawn draft) may at = absurd may
  load_by call i out entries Astray may at = absurd may

  pub call_load : (i : ℕ) (out : Outcome) → MayGoOn shape core (moved core) (actions.Load i) → CallKept shape s content memory core ((moves.InCall (actions.Load i), out) ∷ moved core)
  unfolding held_of held_after held_by is_last stage_of
  call_load i out p = call_on (actions.Load i) out p s content memory refl
      (subst (λ es. AtStage shape s content memory (held_of (moved core)) ((actions.Load i, out) ∷ call_moves (moved core)) es (stage_by (stage_of (call_moves (moved core))) (actions.Load i) out)) (sym (entries_on (actions.Load i) out refl))
      (load_by p.call i out (entries_in core (moved core)) (stage_of (call_moves (moved core))) (may (actions.Load i) p) more.at_stage))

  met_by : (call : Call) (o : ObjectId) (holder serial : ℕ) (entries : List Entry) (stage : Stage) → MayMake shape call stage (actions.TryLock o) → AtStage shape s content memory (held_of (moved core)) (call_moves (moved core)) entries stage → AtStage shape s content memory (held_of (moved core)) ((actions.TryLock o, outcomes.HeldBy holder serial) ∷ call_moves (moved core)) entries (stage_by stage (actions.TryLock o) (outcomes.HeldBy holder serial))
  unfolding stage_by stage_locking stage_tried
  met_by call o holder serial entries (Locking os) may at = before_more shape s content (held_of (moved core)) (call_moves (moved core)) memory os (actions.TryLock o) (outcomes.HeldBy holder serial) (λ j b. refl) at
  met_by call o holder serial entries (Met lock other n os) may at = absurd may
  met_by call o holder serial entries (Drawn draft) may at = absurd may
  met_by call o holder serial entries Astray may at = absurd may

  pub call_met : (o : ObjectId) (holder serial : ℕ) → MayGoOn shape core (moved core) (actions.TryLock o) → CallKept shape s content memory core ((moves.InCall (actions.TryLock o), outcomes.HeldBy holder serial) ∷ moved core)
  unfolding held_of held_after held_by is_last stage_of
  call_met o holder serial p = let out : Outcome = outcomes.HeldBy holder serial in call_on (actions.TryLock o) out p s content memory refl
      (subst (λ es. AtStage shape s content memory (held_of (moved core)) ((actions.TryLock o, out) ∷ call_moves (moved core)) es (stage_by (stage_of (call_moves (moved core))) (actions.TryLock o) out)) (sym (entries_on (actions.TryLock o) out refl))
      (met_by p.call o holder serial (entries_in core (moved core)) (stage_of (call_moves (moved core))) (may (actions.TryLock o) p) more.at_stage))

  -- a lock is taken
  taken_before : (o : ObjectId) (word : ℕ) → memory (Lock o) ≡ 0 → (In o (held_of (moved core)) → ⊥) → (taken : List ObjectId) → BeforeDraw shape s content memory (held_of (moved core)) (call_moves (moved core)) taken → BeforeDraw shape s content (with_word memory (Lock o) word) (o ∷ held_of (moved core)) ((actions.TryLock o, outcomes.Taken) ∷ call_moves (moved core)) (o ∷ taken)
  unfolding stored_so_far
  taken_before o word free fresh taken was = record {
    taken_is = ap (λ (os : List ObjectId). o ∷ os) was.taken_is;
    rows = λ p i k b. elim k [
      | inl e ↦ inl (lock_row memory o word p i ∙ kept.rows p (ap (λ z. memory (Lock z)) e ∙ free) i b)
      | inr g ↦ elim (was.rows p i g b) [
        | inl e ↦ inl (lock_row memory o word p i ∙ e)
        | inr w ↦ inr (record { word = w.word; written = inr w.written; stands = lock_row memory o word p i ∙ w.stands })
      ]
    ];
    idle = λ i b k e. elim k [
      | inl f ↦
          let home : region_of_word s.shape i ≡ region_of_word shape i = ap (λ z. region_of_word z i) kept.shaped in
          let small : i < word_total s.shape = subst (λ z. i < word_total z) (sym kept.shaped) b in
          lock_dram memory o word i ∙ kept.words (objects.Region (region_of_word shape i)) (ap (λ z. memory (Lock z)) f ∙ free) i small (record { is = (sym home, e) })
          ∙ (kept.sound core lt).holds.zeros i (ap (λ z. is_idle (region_at s z)) home ∙ e)
      | inr g ↦ lock_dram memory o word i ∙ was.idle i b g e
    ];
    where_stored = λ i. elim (was.where_stored i) [ inl e ↦ inl e | inr k ↦ inr (record { slot = k.slot; held_is = inr k.held_is; answers = k.answers }) ];
    stored = λ i b k. lock_dram memory o word i ∙ elim k.held_is [
      | inl e ↦ kept.words (objects.Enclave k.slot) (ap (λ z. memory (Lock z)) e ∙ free) i (subst (λ z. i < word_total z) (sym kept.shaped) b) k.answers ∙ sym (first i k e)
      | inr g ↦ was.stored i b (record { slot = k.slot; held_is = g; answers = k.answers })
    ];
  }
    where
      -- nothing is stored there yet
      first : (i : ℕ) (k : KeepsLoading s (o ∷ held_of (moved core)) i) → objects.Enclave k.slot ≡ o → stored_so_far (call_moves (moved core)) i (content i) ≡ content i
      first i k e = elim (was.where_stored i) [
        | inl same ↦ same (content i)
        | inr g ↦ absurd (fresh (subst (λ z. In z (held_of (moved core))) (one_answers s (region_of_word s.shape i) (objects.Enclave g.slot) (objects.Enclave k.slot) facts g.answers k.answers ∙ e) g.held_is))
      ]

  taken_by : (call : Call) (o : ObjectId) (word : ℕ) → memory (Lock o) ≡ 0 → (In o (held_of (moved core)) → ⊥) → (entries : List Entry) (stage : Stage) → MayMake shape call stage (actions.TryLock o) → AtStage shape s content memory (held_of (moved core)) (call_moves (moved core)) entries stage → AtStage shape s content (with_word memory (Lock o) word) (o ∷ held_of (moved core)) ((actions.TryLock o, outcomes.Taken) ∷ call_moves (moved core)) entries (stage_by stage (actions.TryLock o) outcomes.Taken)
  unfolding stage_by stage_locking stage_tried
  taken_by call o word free fresh entries (Locking os) may at = taken_before o word free fresh os at
  taken_by call o word free fresh entries (Met lock other n os) may at = absurd may
  taken_by call o word free fresh entries (Drawn draft) may at = absurd may
  taken_by call o word free fresh entries Astray may at = absurd may

  pub call_taken : (o : ObjectId) (word : ℕ) → memory (Lock o) ≡ 0 → (In o (held_of (moved core)) → ⊥) → MayGoOn shape core (moved core) (actions.TryLock o) → CallKept shape s content (with_word memory (Lock o) word) core ((moves.InCall (actions.TryLock o), outcomes.Taken) ∷ moved core)
  unfolding held_of held_after held_by is_last stage_of
  call_taken o word free fresh p = let out : Outcome = outcomes.Taken in call_on (actions.TryLock o) out p s content (with_word memory (Lock o) word) refl
      (subst (λ es. AtStage shape s content (with_word memory (Lock o) word) (o ∷ held_of (moved core)) ((actions.TryLock o, out) ∷ call_moves (moved core)) es (stage_by (stage_of (call_moves (moved core))) (actions.TryLock o) out)) (sym (entries_on (actions.TryLock o) out refl))
      (taken_by p.call o word free fresh (entries_in core (moved core)) (stage_of (call_moves (moved core))) (may (actions.TryLock o) p) more.at_stage))

  -- a row is written
  write_by : (call : Call) (o : ObjectId) (i word : ℕ) → WritesWord call s o i word → (entries : List Entry) (stage : Stage) → MayMake shape call stage (actions.Write o i word) → IsOf call stage → AtStage shape s content memory (held_of (moved core)) (call_moves (moved core)) entries stage → AtStage shape s content (with_word memory (Row o i) word) (held_of (moved core)) ((actions.Write o i word, outcomes.Done) ∷ call_moves (moved core)) entries (stage_by stage (actions.Write o i word) outcomes.Done)
  unfolding stage_by stage_locking
  write_by call o i word writes entries (Locking os) may of at = before_write shape s content (held_of (moved core)) (call_moves (moved core)) memory os o i word at
  write_by call o i word writes entries (Met lock other n os) may of at = absurd may
  write_by call o i word writes entries (Drawn draft) may of at = behind_write shape s content (held_of (moved core)) (call_moves (moved core)) memory entries draft call o i word of writes at
  write_by call o i word writes entries Astray may of at = absurd may

  pub call_write : (o : ObjectId) (i word : ℕ) → MayGoOn shape core (moved core) (actions.Write o i word) → CallKept shape s content (with_word memory (Row o i) word) core ((moves.InCall (actions.Write o i word), outcomes.Done) ∷ moved core)
  unfolding held_of held_after held_by is_last stage_of
  call_write o i word p =
      let out : Outcome = outcomes.Done in
      let at = at_write (issuer_of core (moved core)) p.call (answers_of (moved core)) s content (held_of (moved core)) memory o i word p.next (at_move shape is memory moved h s content kept core lt (actions.Write o i word) p) in
      call_on (actions.Write o i word) out p s content (with_word memory (Row o i) word) refl
      (subst (λ es. AtStage shape s content (with_word memory (Row o i) word) (held_of (moved core)) ((actions.Write o i word, out) ∷ call_moves (moved core)) es (stage_by (stage_of (call_moves (moved core))) (actions.Write o i word) out)) (sym (entries_on (actions.Write o i word) out refl))
      (write_by p.call o i word at.2 (entries_in core (moved core)) (stage_of (call_moves (moved core))) (may (actions.Write o i word) p) (is_of shape (issuer_of core (moved core)) p.call (call_moves (moved core)) (Makes (actions.Write o i word) p.next) p.follows) more.at_stage))

  -- a word is stored
  store_by : (call : Call) (i word : ℕ) → MayStore call s (held_of (moved core)) i word → (entries : List Entry) (stage : Stage) → MayMake shape call stage (actions.Store i word) → AtStage shape s content memory (held_of (moved core)) (call_moves (moved core)) entries stage → AtStage shape s content (with_word memory (Dram i) word) (held_of (moved core)) ((actions.Store i word, outcomes.Done) ∷ call_moves (moved core)) entries (stage_by stage (actions.Store i word) outcomes.Done)
  unfolding stage_by stage_locking
  store_by call i word stores entries (Locking os) load at =
      before_store shape s content (held_of (moved core)) (call_moves (moved core)) memory os i word kept.shaped facts (elim stores [ inl k ↦ k | inr x ↦ clash (sym x.0 ∙ load) ]) at
  store_by call i word stores entries (Met lock other n os) may at = absurd may
  store_by call i word stores entries (Drawn draft) may at = behind_store shape s content (held_of (moved core)) (call_moves (moved core)) memory entries draft i word at
  store_by call i word stores entries Astray may at = absurd may

  pub call_store : (i word : ℕ) → MayGoOn shape core (moved core) (actions.Store i word) → CallKept shape s content (with_word memory (Dram i) word) core ((moves.InCall (actions.Store i word), outcomes.Done) ∷ moved core)
  unfolding held_of held_after held_by is_last stage_of
  call_store i word p =
      let out : Outcome = outcomes.Done in
      let at = at_store (issuer_of core (moved core)) p.call (answers_of (moved core)) s content (held_of (moved core)) memory i word p.next (at_move shape is memory moved h s content kept core lt (actions.Store i word) p) in
      call_on (actions.Store i word) out p s content (with_word memory (Dram i) word) refl
      (subst (λ es. AtStage shape s content (with_word memory (Dram i) word) (held_of (moved core)) ((actions.Store i word, out) ∷ call_moves (moved core)) es (stage_by (stage_of (call_moves (moved core))) (actions.Store i word) out)) (sym (entries_on (actions.Store i word) out refl))
      (store_by p.call i word at.1 (entries_in core (moved core)) (stage_of (call_moves (moved core))) (may (actions.Store i word) p) more.at_stage))

  -- an object is given back
  unlock_by : (call : Call) (o : ObjectId) (left : List ObjectId) → ((q : ObjectId) → In q left → In q (held_of (moved core))) → (entries : List Entry) (stage : Stage) → MayMake shape call stage (actions.Unlock o) → AtStage shape s content memory (held_of (moved core)) (call_moves (moved core)) entries stage → AtStage shape s content (with_word memory (Lock o) 0) left ((actions.Unlock o, outcomes.Done) ∷ call_moves (moved core)) entries (stage_by stage (actions.Unlock o) outcomes.Done)
  unfolding stage_by
  unlock_by call o left sub entries (Locking os) may at = absurd may
  unlock_by call o left sub entries (Met lock other n os) may at = absurd may
  unlock_by call o left sub entries (Drawn draft) may at = behind_unlock shape s content (held_of (moved core)) (call_moves (moved core)) memory entries draft o left sub at
  unlock_by call o left sub entries Astray may at = absurd may

  pub call_unlock : (o : ObjectId) → MayGoOn shape core (moved core) (actions.Unlock o) → CallKept shape s content (with_word memory (Lock o) 0) core ((moves.InCall (actions.Unlock o), outcomes.Done) ∷ moved core)
  unfolding held_of held_after held_by is_last stage_of
  call_unlock o p = elim (cases_Bool (is_last (actions.Unlock o) (behind_first (held_of (moved core))))) [
    | inl last ↦ call_idle shape s content (with_word memory (Lock o) 0) core ((moves.InCall (actions.Unlock o), outcomes.Done) ∷ moved core) (call_over core (actions.Unlock o) outcomes.Done (moved core) last)
    | inr on ↦ call_on (actions.Unlock o) outcomes.Done p s content (with_word memory (Lock o) 0) on
        (subst (λ es. AtStage shape s content (with_word memory (Lock o) 0) (behind_first (held_of (moved core))) ((actions.Unlock o, outcomes.Done) ∷ call_moves (moved core)) es (stage_by (stage_of (call_moves (moved core))) (actions.Unlock o) outcomes.Done)) (sym (entries_on (actions.Unlock o) outcomes.Done refl))
        (unlock_by p.call o (behind_first (held_of (moved core))) (in_rest (held_of (moved core))) (entries_in core (moved core)) (stage_of (call_moves (moved core))) (may (actions.Unlock o) p) more.at_stage))
  ]

  -- a ticket is drawn
  module _ (draft : Draft) (p : MayGoOn shape core (moved core) (actions.Draw draft)) where
    drawn_behind : (taken : List ObjectId) → Goes shape p.call (Drawn draft) (p.next (outcomes.Ticket (suc (memory Counter)))) → draft.call ≡ p.call → BeforeDraw shape s content memory (held_of (moved core)) (call_moves (moved core)) taken →
        BehindDraw shape (drawn_state core s draft (suc (memory Counter))) (drawn_content s draft (answers_of (moved core)) content) (with_word memory Counter (suc (memory Counter))) (held_of (moved core)) ((actions.Draw draft, outcomes.Ticket (suc (memory Counter))) ∷ call_moves (moved core)) (entries_in core ((moves.InCall (actions.Draw draft), outcomes.Ticket (suc (memory Counter))) ∷ moved core)) draft
    unfolding stored_so_far issuer_of
    drawn_behind taken goes of was =
        let ticket : ℕ = suc (memory Counter) in
        let n : Memory = with_word memory Counter ticket in
        let out : Outcome = outcomes.Ticket ticket in
        let by : Issuer = issuer_of core (moved core) in
        let held : List ObjectId = held_of (moved core) in
        let done : List (Action × Outcome) = call_moves (moved core) in
        let answers : List ℕ = answers_of (moved core) in
        let s1 : State = drawn_state core s draft ticket in
        let content1 : Content = drawn_content s draft answers content in
        let e : Entry = entry_of core draft ticket in
        let kept1 = (keep_draw shape is memory moved h s content kept core lt draft p).kept in
        let facts1 : FactsHold s1 = (kept1.sound core lt).facts in
        let at = at_draw by p.call answers s content held memory draft ticket p.next (at_move shape is memory moved h s content kept core lt (actions.Draw draft) p) (kept.sound core lt) in
        let at1 : IsAtTree by p.call s1 content1 answers held n (p.next out) = at_others by p.call answers s1 s1 content1 content1 held memory n (p.next out) at.4 (looks_counter core s1 content1 held memory ticket) in
        let same_row : (r : ℕ) → n (Row (objects.Region r) 0) ≡ memory (Row (objects.Region r) 0) = λ r. (counter_other memory ticket (objects.Region r) 0).1 in
        let same_dram : (i : ℕ) → n (Dram i) ≡ memory (Dram i) = λ i. (counter_other memory ticket (objects.Region 0) i).2 in
        let now : (i : ℕ) → i < word_total shape → KeepsLoading s1 held i → n (Dram i) ≡ content1 i = λ i b k.
        elim (at_past_word shape by p.call draft s1 content1 answers held n (p.next out) (objects.Enclave k.slot) i (subst (λ z. i < word_total z) (sym kept1.shaped) b) k.answers goes at1 k.held_is) [
          | inl f ↦ f
          | inr will ↦ absurd (two_answer s1 (region_of_word s1.shape i) k.slot facts1 k.answers
              (ap (λ z. is_idle (region_at s1 (region_of_word z i))) kept1.shaped
              ∙ ap is_idle (drawn_free by p.call s answers core draft ticket (region_of_word shape i) refl at.0 (will_store shape by p.call draft i (content1 i) (p.next out) goes will))))
        ] in
        record {
          last = subst (λ (es : List Entry). IsSomeAnd (last_entry es) (λ x. (x.reply ≡ draft.reply) × (x.call ≡ draft.call))) (sym (entries_drawn shape is memory moved h s content kept core lt draft ticket))
              (subst (λ (o : Option Entry). IsSomeAnd o (λ x. (x.reply ≡ draft.reply) × (x.call ≡ draft.call))) (sym (last_of (entries_in core (moved core)) e)) (refl, refl));
          free = λ r f k. drawn_free by p.call s answers core draft ticket r refl at.0 f;
          offered = λ a r k. elim (was.rows (objects.Region r) 0 k (wide_region r)) [
            | inl f ↦ elim (drawn_offered s core draft ticket r a) [
              | inl same ↦ inl (same_row r ∙ f ∙ row_own s r ∙ ap own_word (sym same) ∙ sym (row_own s1 r))
              | inr reads ↦ inr (ap (λ z. z % 4) (same_row r ∙ f ∙ row_own s r) ∙ reads)
            ]
            | inr w ↦ absurd (accept_leaves draft.call a (ap withdraws_any of ∙ (early_write shape by p.call done (Makes (actions.Draw draft) p.next) (objects.Region r) 0 w.word p.follows (none_drawn shape is memory moved h s content kept core lt draft p) w.written).withdraws))
          ];
          stored = λ i b k. elim (was.where_stored i) [
            | inl f ↦ now i b k ∙ sym (f (content1 i))
            | inr kl ↦ elim (stored_or done i) [
              | inl f ↦ now i b k ∙ sym (f (content1 i))
              | inr f ↦ same_dram i ∙ was.stored i b kl ∙ f (content i) (content1 i)
            ]
          ];
        }

    draw_by : (stage : Stage) → MayMake shape p.call stage (actions.Draw draft) → Goes shape p.call (stage_by stage (actions.Draw draft) (outcomes.Ticket (suc (memory Counter)))) (p.next (outcomes.Ticket (suc (memory Counter)))) → AtStage shape s content memory (held_of (moved core)) (call_moves (moved core)) (entries_in core (moved core)) stage →
        AtStage shape (drawn_state core s draft (suc (memory Counter))) (drawn_content s draft (answers_of (moved core)) content) (with_word memory Counter (suc (memory Counter))) (held_of (moved core)) ((actions.Draw draft, outcomes.Ticket (suc (memory Counter))) ∷ call_moves (moved core)) (entries_in core ((moves.InCall (actions.Draw draft), outcomes.Ticket (suc (memory Counter))) ∷ moved core)) (stage_by stage (actions.Draw draft) (outcomes.Ticket (suc (memory Counter))))
    unfolding stage_by stage_locking stage_met
    draw_by (Locking os) may goes at = drawn_behind os goes may.0 at
    draw_by (Met lock holder serial os) may goes at = drawn_behind os goes may.0 at
    draw_by (Drawn other) may goes at = absurd may
    draw_by Astray may goes at = absurd may

    pub call_draw : CallKept shape (drawn_state core s draft (suc (memory Counter))) (drawn_content s draft (answers_of (moved core)) content) (with_word memory Counter (suc (memory Counter))) core ((moves.InCall (actions.Draw draft), outcomes.Ticket (suc (memory Counter))) ∷ moved core)
    unfolding held_of held_after held_by is_last stage_of
    call_draw =
        let out : Outcome = outcomes.Ticket (suc (memory Counter)) in
        let goes = stage_goes shape is memory moved h s content kept core lt (actions.Draw draft) p in
        elim (cases_Bool (is_last (actions.Draw draft) (held_of (moved core)))) [
          | inl last ↦ call_idle shape (drawn_state core s draft (suc (memory Counter))) (drawn_content s draft (answers_of (moved core)) content) (with_word memory Counter (suc (memory Counter))) core ((moves.InCall (actions.Draw draft), out) ∷ moved core) (call_over core (actions.Draw draft) out (moved core) last)
          | inr on ↦ call_on (actions.Draw draft) out p (drawn_state core s draft (suc (memory Counter))) (drawn_content s draft (answers_of (moved core)) content) (with_word memory Counter (suc (memory Counter))) on
              (draw_by (stage_of (call_moves (moved core))) goes.0 (goes.2 out) more.at_stage)
        ]

  -- ---- moves outside calls

  pub call_outside : (move : Move) (out : Outcome) (n : Memory) → call_moves ((move, out) ∷ moved core) ≡ [] → CallKept shape s content n core ((move, out) ∷ moved core)
  call_outside move out n none = call_idle shape s content n core ((move, out) ∷ moved core) none

  pub call_stop : (line : ℕ) (why : Why) → CallKept shape s content memory core ((moves.Stop line why, outcomes.Done) ∷ moved core)
  unfolding held_of held_after call_moves call_with
  call_stop line why = elim (cases_Bool (is_calling (moved core))) [
    | inl t ↦ record {
      at_stage = subst (λ es. AtStage shape s content memory (held_of (moved core)) (call_moves (moved core)) es (stage_of (call_moves (moved core)))) (sym (entries_same core (moves.Stop line why) outcomes.Done (moved core) refl)) more.at_stage;
      call = more.call;
      rest = more.rest;
      follows = subst (λ z. Follows (call_tree shape z more.call) (call_moves (moved core)) more.rest) (sym (issuer_stop shape is memory moved h s content kept core lt line why outcomes.Done t)) more.follows;
    }
    | inr f ↦ call_idle shape s content memory core ((moves.Stop line why, outcomes.Done) ∷ moved core) (are_none (call_moves (moved core)) f)
  ]
