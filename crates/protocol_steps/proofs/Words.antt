-- What is read off what is kept of the words that a call under way holds: held rows, the words of Loading enclaves, zeros in
-- idle regions; and why each move on DRAM is allowed.
use Rattle.std.proofs.Common.{◌≡◌, ◌⊎◌, inl, inr, ◌<◌, ◌%◌, ◌∙◌, ℕ, true, false, Option, Some, None, List, length, ap, sym, refl, subst, arith}
use Rattle.std.specs.Prelude.{IsSomeAnd}
use Rattle.std.proofs.lemmas.Bool.{cases_eq}
use Rattle.std.proofs.lemmas.List.{take_all}
use Rattle.mon_types.specs.Shape.{Shape, is_shape}
use Rattle.mon_types.specs.Objects.{width}
use Rattle.mon_types.specs.Bits.{has_bit}
use Rattle.mon_types.specs.declared.call.Call.{Call}
use Rattle.mon_types.specs.declared.object.ObjectId.{ObjectId}
use Rattle.mon_types.specs.declared.object.ObjectId.TheVariants as objects
use Rattle.mon_model.specs.State.{State, start, region_at, enclave_at}
use Rattle.mon_model.specs.RegionCalls.{is_loading}
use Rattle.mon_model.specs.RegionStep.{is_idle}
use Rattle.lock_plan.specs.Objects.{HasObject}
use Rattle.dram_map.specs.Addresses.{word_total, region_of_word}
use Rattle.mon_records.specs.Answers.{Answers, freed}
use Rattle.mon_records.specs.Members.{In}
use Rattle.mon_records.proofs.Members.{contains_in, in_contains}
use Rattle.hist.specs.declared.event.Entry.{Entry}
use Rattle.loaded_pages.specs.Content.{Content, zero_content}
use Rattle.loaded_pages.specs.History.{content_from, HaveReadPages}
use Rattle.protocol.specs.declared.action.Action.TheVariants as actions
use Rattle.protocol.specs.declared.action.Draft.{Draft}
use Rattle.protocol.specs.declared.action.Outcome.TheVariants as outcomes
use Rattle.protocol.specs.Places.{Row, Dram, Memory, Place, HasWord, row_word}
use Rattle.protocol.specs.CallTree.{Tree, call_tree}
use Rattle.protocol.specs.Views.{Moves, held_of, entries_in, answers_of, call_moves, issuer_of, has_drawn}
use Rattle.protocol.specs.Permitted.{Follows}
use Rattle.protocol.specs.Right.{last_entry}
use Rattle.protocol.specs.Worlds.{World, entries, answers, state_now, WillDo}
use Rattle.protocol.specs.Records.{IsOwnWord, is_accept_region, IsWrittenEarly, IsToBeWritten, HeldRowsStand}
use Rattle.protocol.specs.Contents.{loaded_word, stored_so_far, IsOfLoading, LoadingHold, IsToBeZero, IdleHoldZeros}
use Rattle.protocol_laws.specs.Known.{KeepsLoading}
use Rattle.protocol_steps.specs.Stages.{Stage, Locking, Met, Drawn, Astray, stage_of, Goes}
use Rattle.protocol_steps.proofs.Views.{IsOver, undrawn}
use Rattle.protocol_steps.proofs.Goes.{goes_now}
use Rattle.protocol_steps.proofs.Items.{some_core, entries_are, state_is, lock_free}
use Rattle.protocol_steps.proofs.Past.{at_past_row, at_past_word, will_store, IsOf, is_of, early_write, stage_drawn}
use Rattle.protocol_steps.proofs.CallKept.{BeforeDraw, BehindDraw, AtStage}
use Rattle.protocol_steps.proofs.Together.{Together}

-- an own-word is the first word of a region's row
own_place : (o : ObjectId) (i : ℕ) → IsOwnWord o i → (r : ℕ) × (o ≡ objects.Region r) × (i ≡ 0)
own_place (objects.Region r) i h = (r, refl, h)
own_place (objects.Enclave e) i h = absurd h
own_place (objects.Thread t) i h = absurd h
own_place (objects.Cell c) i h = absurd h

pub last_freed : (o : Option Entry) (draft : Draft) (r : ℕ) → freed draft.reply draft.call ≡ Some r → IsSomeAnd o (λ e. (e.reply ≡ draft.reply) × (e.call ≡ draft.call)) → IsSomeAnd o (λ e. freed e.reply e.call ≡ Some r)
last_freed None draft r f h = h
last_freed (Some e) draft r f h = ap (λ z. freed z e.call) h.0 ∙ ap (λ z. freed draft.reply z) h.1 ∙ f

module _ (shape : Shape) (is : is_shape shape ≡ true) (memory : Memory) (moved : ℕ → Moves) (h : List Entry) (s : State) (content : Content) (all : Together shape memory moved h s content) (m : Memory) (same : (p : Place) → HasWord shape p → m p ≡ memory p) where
  -- ---- how far a call is

  not_over : (core : ℕ) (stage : Stage) → stage_of (call_moves (moved core)) ≡ stage → (IsOver stage → ⊥) → has_drawn (call_moves (moved core)) ≡ false
  not_over core stage e h = undrawn (call_moves (moved core)) (λ over. h (subst IsOver e over))

  -- what a call that the core may be doing has still to do
  module _ (core : ℕ) (lt : core < shape.cores) (call : Call) (rest : Tree) (follows : Follows (call_tree shape (issuer_of core (moved core)) call) (call_moves (moved core)) rest) (draft : Draft) (stage : stage_of (call_moves (moved core)) ≡ Drawn draft) where
    goes_drawn : Goes shape call (Drawn draft) rest
    goes_drawn = subst (λ z. Goes shape call z rest) stage (goes_now shape (issuer_of core (moved core)) call (call_moves (moved core)) rest follows)

    of_call : draft.call ≡ call
    of_call = subst (IsOf call) stage (is_of shape (issuer_of core (moved core)) call (call_moves (moved core)) rest follows)

    will_row : (o : ObjectId) (i : ℕ) → i < width o → In o (held_of (moved core)) → (memory (Row o i) ≡ row_word s o i) ⊎ WillDo (actions.Write o i (row_word s o i)) rest
    will_row o i b k = at_past_row shape (issuer_of core (moved core)) call draft s content (answers_of (moved core)) (held_of (moved core)) memory rest o i b goes_drawn ((all.kept.cores core lt).at_tree call rest follows) k

    will_word : (o : ObjectId) (i : ℕ) → i < word_total shape → Answers s o (region_of_word s.shape i) → In o (held_of (moved core)) → (memory (Dram i) ≡ content i) ⊎ WillDo (actions.Store i (content i)) rest
    will_word o i b a k = at_past_word shape (issuer_of core (moved core)) call draft s content (answers_of (moved core)) (held_of (moved core)) memory rest o i (subst (λ z. i < word_total z) (sym all.kept.shaped) b) a goes_drawn ((all.kept.cores core lt).at_tree call rest follows) k

  -- ---- item 5

  row_now : (o : ObjectId) (i : ℕ) → HasObject shape o → i < width o → memory (Row o i) ≡ row_word s o i → m (Row o i) ≡ row_word (state_now shape (record { memory = m; moves = moved })) o i
  row_now o i there b e = same (Row o i) (there, b) ∙ e ∙ ap (λ z. row_word z o i) (sym (state_is shape is memory moved h s content all.kept m same))

  module _ (core : ℕ) (o : ObjectId) (i : ℕ) (there : HasObject shape o) (b : i < width o) (lt : core < shape.cores) (k : In o (held_of (moved core))) where
    row_before : (taken : List ObjectId) → has_drawn (call_moves (moved core)) ≡ false → BeforeDraw shape s content memory (held_of (moved core)) (call_moves (moved core)) taken →
        (m (Row o i) ≡ row_word (state_now shape (record { memory = m; moves = moved })) o i) ⊎ (IsWrittenEarly shape (record { memory = m; moves = moved }) core o i ⊎ IsToBeWritten shape (record { memory = m; moves = moved }) core o i)
    row_before taken none at = elim (at.rows o i k b) [
      | inl e ↦ inl (row_now o i there b e)
      | inr w ↦
          let more = all.more core lt in
          let early = early_write shape (issuer_of core (moved core)) more.call (call_moves (moved core)) more.rest o i w.word more.follows none w.written in
          inr (inl (record {
            own = early.own;
            word = w.word;
            written = in_contains (call_moves (moved core)) (actions.Write o i w.word, outcomes.Done) w.written;
            stands = same (Row o i) (there, b) ∙ w.stands;
            blocked = early.blocked;
            before_draw = none;
            withdraws = λ call rest doing. (early_write shape (issuer_of core (moved core)) call (call_moves (moved core)) rest o i w.word doing.follows none w.written).withdraws;
          }))
    ]

    row_behind : (draft : Draft) → stage_of (call_moves (moved core)) ≡ Drawn draft → BehindDraw shape s content memory (held_of (moved core)) (call_moves (moved core)) (entries_in core (moved core)) draft →
        (m (Row o i) ≡ row_word (state_now shape (record { memory = m; moves = moved })) o i) ⊎ (IsWrittenEarly shape (record { memory = m; moves = moved }) core o i ⊎ IsToBeWritten shape (record { memory = m; moves = moved }) core o i)
    row_behind draft stage at = elim (cases_eq (memory (Row o i)) (row_word s o i)) [
      | inl e ↦ inl (row_now o i there b e)
      | inr ne ↦ inr (inr (record {
        drawn = stage_drawn (call_moves (moved core)) draft stage;
        to_do = λ call rest doing. elim (will_row core lt call rest doing.follows draft stage o i b k) [
          | inl e ↦ absurd (ne e)
          | inr w ↦ subst (λ z. WillDo (actions.Write o i (row_word z o i)) rest) (sym (state_is shape is memory moved h s content all.kept m same)) w
        ];
        offered = λ own call rest doing a.
            (let at_own = own_place o i own in
            elim (at.offered (ap is_accept_region (of_call core lt call rest doing.follows draft stage) ∙ a) at_own.0 (subst (λ z. In z (held_of (moved core))) at_own.1 k)) [
              | inl e ↦ absurd (ne (ap (λ z. memory (Row z i)) at_own.1 ∙ ap (λ z. memory (Row (objects.Region at_own.0) z)) at_own.2 ∙ e ∙ sym (ap (λ z. row_word s z i) at_own.1 ∙ ap (λ z. row_word s (objects.Region at_own.0) z) at_own.2)))
              | inr reads ↦ ap (λ z. z % 4) (same (Row o i) (there, b) ∙ ap (λ z. memory (Row z i)) at_own.1 ∙ ap (λ z. memory (Row (objects.Region at_own.0) z)) at_own.2) ∙ reads
            ]);
      }))
    ]

    row_by : (stage : Stage) → stage_of (call_moves (moved core)) ≡ stage → AtStage shape s content memory (held_of (moved core)) (call_moves (moved core)) (entries_in core (moved core)) stage →
        (m (Row o i) ≡ row_word (state_now shape (record { memory = m; moves = moved })) o i) ⊎ (IsWrittenEarly shape (record { memory = m; moves = moved }) core o i ⊎ IsToBeWritten shape (record { memory = m; moves = moved }) core o i)
    row_by (Locking os) e at = row_before os (not_over core (Locking os) e (λ x. x)) at
    row_by (Met lock holder serial os) e at = row_before os (not_over core (Met lock holder serial os) e (λ x. x)) at
    row_by (Drawn draft) e at = row_behind draft e at
    row_by Astray e at = absurd at

  pub item_5 : HeldRowsStand shape (record { memory = m; moves = moved })
  item_5 core o i there b by = row_by core o i there b by.of_machine (contains_in (held_of (moved core)) o by.held) (stage_of (call_moves (moved core))) refl (all.more core by.of_machine).at_stage

  -- ---- item 8

  loaded_is : (i : ℕ) → loaded_word shape (record { memory = m; moves = moved }) i ≡ content i
  loaded_is i =
      let w : World = record { memory = m; moves = moved } in
      ap (λ (es : List Entry). content_from (answers shape w) (start shape) es zero_content i) (take_all (length (entries shape w)) (entries shape w) (omega arith) ∙ entries_are shape is memory moved h s content all.kept m same)
      ∙ ap (λ f. f i) (sym all.told.is)

  -- the enclave answers for the word
  of_loading : (e i : ℕ) → IsOfLoading shape (record { memory = m; moves = moved }) e i → Answers s (objects.Enclave e) (region_of_word s.shape i)
  of_loading e i of =
      let now = state_is shape is memory moved h s content all.kept m same in
      record {
        is = (
          ap (λ z. is_loading (enclave_at z e).stage) (sym now) ∙ of.loading,
          ap (λ z. has_bit (enclave_at s e).regions (region_of_word z i)) all.kept.shaped ∙ ap (λ z. has_bit (enclave_at z e).regions (region_of_word shape i)) (sym now) ∙ of.region,
        );
      }

  stored_by_stage : (core : ℕ) (stage : Stage) → AtStage shape s content memory (held_of (moved core)) (call_moves (moved core)) (entries_in core (moved core)) stage → (i : ℕ) → i < word_total shape → KeepsLoading s (held_of (moved core)) i → memory (Dram i) ≡ stored_so_far (call_moves (moved core)) i (content i)
  stored_by_stage core (Locking os) at = at.stored
  stored_by_stage core (Met lock holder serial os) at = at.stored
  stored_by_stage core (Drawn draft) at = at.stored
  stored_by_stage core Astray at = absurd at

  pub item_8 : LoadingHold shape (record { memory = m; moves = moved })
  item_8 = record {
    free = λ e i of none. same (Dram i) of.word
        ∙ all.kept.words (objects.Enclave e) (lock_free shape is memory moved h s content all.kept m same (objects.Enclave e) none) i (subst (λ z. i < word_total z) (sym all.kept.shaped) of.word) (of_loading e i of)
        ∙ sym (loaded_is i);
    held = λ e i core of by. same (Dram i) of.word
        ∙ stored_by_stage core (stage_of (call_moves (moved core))) (all.more core by.of_machine).at_stage i of.word (record { slot = e; held_is = contains_in (held_of (moved core)) (objects.Enclave e) by.held; answers = of_loading e i of })
        ∙ ap (λ z. stored_so_far (call_moves (moved core)) i z) (sym (loaded_is i));
    read = subst (λ (es : List Entry). HaveReadPages (answers shape (record { memory = m; moves = moved })) es) (sym (entries_are shape is memory moved h s content all.kept m same)) all.told.read;
  }

  -- ---- item 9

  module _ (i : ℕ) (b : i < word_total shape) (idle : is_idle (region_at s (region_of_word shape i)) ≡ true) where
    home : region_of_word s.shape i ≡ region_of_word shape i
    home = ap (λ z. region_of_word z i) all.kept.shaped

    answers_self : Answers s (objects.Region (region_of_word shape i)) (region_of_word s.shape i)
    answers_self = record { is = (sym home, idle) }

    zero_at : content i ≡ 0
    zero_at = (all.kept.sound 0 (some_core shape is)).holds.zeros i (ap (λ z. is_idle (region_at s z)) home ∙ idle)

    module _ (core : ℕ) (lt : core < shape.cores) (k : In (objects.Region (region_of_word shape i)) (held_of (moved core))) where
      zero_behind : (draft : Draft) → stage_of (call_moves (moved core)) ≡ Drawn draft → BehindDraw shape s content memory (held_of (moved core)) (call_moves (moved core)) (entries_in core (moved core)) draft →
          (m (Dram i) ≡ 0) ⊎ ((core : ℕ) × IsToBeZero shape (record { memory = m; moves = moved }) core (region_of_word shape i) i)
      zero_behind draft stage at = elim (cases_eq (memory (Dram i)) 0) [
        | inl e ↦ inl (same (Dram i) b ∙ e)
        | inr ne ↦
            let more = all.more core lt in
            elim (will_word core lt more.call more.rest more.follows draft stage (objects.Region (region_of_word shape i)) i b answers_self k) [
              | inl e ↦ absurd (ne (e ∙ zero_at))
              | inr will ↦
                  let is_freed = will_store shape (issuer_of core (moved core)) more.call draft i (content i) more.rest (goes_drawn core lt more.call more.rest more.follows draft stage) will in
                  inr (
                    core,
                    record {
                      freed = ap (λ z. region_at z (region_of_word shape i)) (state_is shape is memory moved h s content all.kept m same) ∙ at.free (region_of_word shape i) is_freed k;
                      held = record { of_machine = lt; held = in_contains (held_of (moved core)) (objects.Region (region_of_word shape i)) k };
                      by = last_freed (last_entry (entries_in core (moved core))) draft (region_of_word shape i) is_freed at.last;
                      drawn = stage_drawn (call_moves (moved core)) draft stage;
                      to_do = λ call rest doing. elim (will_word core lt call rest doing.follows draft stage (objects.Region (region_of_word shape i)) i b answers_self k) [
                        | inl e ↦ absurd (ne (e ∙ zero_at))
                        | inr w ↦ subst (λ z. WillDo (actions.Store i z) rest) zero_at w
                      ];
                    },
                  )
            ]
      ]

      zero_by : (stage : Stage) → stage_of (call_moves (moved core)) ≡ stage → AtStage shape s content memory (held_of (moved core)) (call_moves (moved core)) (entries_in core (moved core)) stage →
          (m (Dram i) ≡ 0) ⊎ ((core : ℕ) × IsToBeZero shape (record { memory = m; moves = moved }) core (region_of_word shape i) i)
      zero_by (Locking os) e at = inl (same (Dram i) b ∙ at.idle i b k idle)
      zero_by (Met lock holder serial os) e at = inl (same (Dram i) b ∙ at.idle i b k idle)
      zero_by (Drawn draft) e at = zero_behind draft e at
      zero_by Astray e at = absurd at

    zero_now : (m (Dram i) ≡ 0) ⊎ ((core : ℕ) × IsToBeZero shape (record { memory = m; moves = moved }) core (region_of_word shape i) i)
    zero_now = elim (all.kept.locked (objects.Region (region_of_word shape i))) [
      | inl free ↦ inl (same (Dram i) b ∙ all.kept.words (objects.Region (region_of_word shape i)) free i (subst (λ z. i < word_total z) (sym all.kept.shaped) b) answers_self ∙ zero_at)
      | inr x ↦ zero_by x.0 x.1 x.2 (stage_of (call_moves (moved x.0))) refl (all.more x.0 x.1).at_stage
    ]

  pub item_9 : IdleHoldZeros shape (record { memory = m; moves = moved })
  item_9 i b idle = zero_now i b (ap (λ z. is_idle (region_at z (region_of_word shape i))) (sym (state_is shape is memory moved h s content all.kept m same)) ∙ idle)
