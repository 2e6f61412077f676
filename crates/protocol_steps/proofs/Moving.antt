-- Each move of a call keeps what is kept; moves outside calls that change no word for which anybody answers do so too.
use Rattle.std.proofs.Common.{◌≡◌, ◌⊎◌, inl, inr, ◌<◌, ◌≤◌, ◌%◌, ◌∙◌, ℕ, suc, true, false, cond, Option, Some, None, List, [], ◌∷◌, ◌++◌, length, ap, sym, refl, subst, length-append, append-nil, arith}
use Rattle.std.proofs.lemmas.Bool.{cases_Bool, eq-eqb}
use Rattle.mon_types.specs.Shape.{Shape, is_shape}
use Rattle.mon_types.specs.Locks.{lock_word}
use Rattle.mon_types.specs.Objects.{width}
use Rattle.mon_types.specs.declared.call.Call.{Call}
use Rattle.mon_types.specs.declared.object.ObjectId.{ObjectId}
use Rattle.mon_types.specs.declared.object.ObjectId.TheVariants as objects
use Rattle.mon_model.specs.State.{State, start, mode_of}
use Rattle.lock_plan.specs.Objects.{HasObject}
use Rattle.dram_map.specs.Addresses.{region_of_word}
use Rattle.mon_records.specs.Members.{In}
use Rattle.mon_records.proofs.Answered.{one_answers}
use Rattle.mon_records.proofs.RebuiltStates.{same_object-true, same_object-refl}
use Rattle.mon_records.specs.Rows.{same_object}
use Rattle.hist.specs.declared.event.Entry.{Entry}
use Rattle.hist.specs.declared.event.Event.TheVariants as events
use Rattle.hist.specs.History.{after_entry}
use Rattle.hist.specs.Legal.{IsLegalEntry}
use Rattle.hist.specs.SafeLog.{mode_after}
use Rattle.hist_stands.specs.States.{state_now}
use Rattle.hist_stands.specs.Stands.{Stands, with_event}
use Rattle.hist_stands.proofs.Alike.{alike_stands}
use Rattle.hist_stands.proofs.Entries.{machine_after}
use Rattle.hist_stands.proofs.Grows.{entry_stands}
use Rattle.hist_stands.proofs.Tickets.{length_more}
use Rattle.loaded_pages.specs.Content.{Content}
use Rattle.protocol.specs.declared.action.Action.{Action}
use Rattle.protocol.specs.declared.action.Action.TheVariants as actions
use Rattle.protocol.specs.declared.action.Draft.{Draft}
use Rattle.protocol.specs.declared.action.Move.{Move}
use Rattle.protocol.specs.declared.action.Move.TheVariants as moves
use Rattle.protocol.specs.declared.action.Outcome.{Outcome}
use Rattle.protocol.specs.declared.action.Outcome.TheVariants as outcomes
use Rattle.protocol.specs.Places.{Place, Counter, Lock, Row, Dram, Memory, same_place, with_word}
use Rattle.protocol.specs.CallTree.{Tree, Makes, Issuer, number_in, call_tree, behind_first}
use Rattle.protocol.specs.Views.{Moves, entry_of, held_by, held_after, held_of, logged, logged_by, core_log, entries_in, next_serial, mode_in, answers_of, answered, answered_by, word_in, is_last, call_moves, issuer_of, is_draw, has_drawn, own_lock_word}
use Rattle.protocol.specs.Permitted.{Follows, most_entries, MayGoOn}
use Rattle.protocol.specs.Runs.{Made, moves_with}
use Rattle.protocol_laws.specs.Known.{IsSound, Keeps, IsUnused, RowStands, WordsStand, OwnedAreTrue, LooksSame}
use Rattle.protocol_laws.specs.Safe.{drawn_state, drawn_content}
use Rattle.protocol_laws.proofs.Places.{at_place, here, row_object, dram_index, row_dram, dram_row, row_own}
use Rattle.protocol_laws.proofs.Agreeing.{agree_refl}
use Rattle.protocol_laws.proofs.Standing.{rows_look, words_look, rows_more, words_more}
use Rattle.protocol_laws.proofs.Frame.{AreApart, kept_apart, looks_draw, looks_lock, looks_counter, looks_trans}
use Rattle.protocol_laws.proofs.Steps.{IsAtTree, stored_kept, at_others, at_taken, at_met, at_read, at_write, at_store, at_draw, at_unlock, at_load}
use Rattle.protocol_steps.specs.Stages.{stage_of, Goes}
use Rattle.protocol_steps.proofs.Views.{call_more, issuer_more, call_over, entries_append, entries_same, each_moves, draws}
use Rattle.protocol_steps.proofs.Goes.{goes_now}
use Rattle.protocol_steps.proofs.Next.{none_drawn as undrawn_call, serial_next}
use Rattle.protocol_steps.proofs.Kept.{AreOnce, CoreKept, Kept, core_frame, core_idle, after_more, mode_told, logs_more, drawn_sound, held_apart, not_free, low_ticket, log_mode, stands_still}

-- ---- words

-- a word that is written again
pub same_words : (m : Memory) (p : Place) → with_word m p (m p) ≡ m
same_words m p = λ i q. each q i
  where
    each : (q : Place) → with_word m p (m p) q ≡ m q
    each q = elim (at_place m p (m p) q) [ inl f ↦ f.1 ∙ ap m f.0 | inr f ↦ f.1 ]

lock_object : {o p : ObjectId} → Lock o ≡ Lock p → o ≡ p
lock_object e = cc

pub lock_other : (m : Memory) (o : ObjectId) (word : ℕ) (p : ObjectId) → (o ≡ p → ⊥) → with_word m (Lock o) word (Lock p) ≡ m (Lock p)
lock_other m o word p ne = elim (at_place m (Lock o) word (Lock p)) [ inl f ↦ absurd (ne (lock_object f.0)) | inr f ↦ f.1 ]

pub lock_row : (m : Memory) (o : ObjectId) (word : ℕ) (p : ObjectId) (i : ℕ) → with_word m (Lock o) word (Row p i) ≡ m (Row p i)
unfolding with_word same_place
lock_row m o word p i = refl

pub lock_dram : (m : Memory) (o : ObjectId) (word i : ℕ) → with_word m (Lock o) word (Dram i) ≡ m (Dram i)
unfolding with_word same_place
lock_dram m o word i = refl

lock_counter : (m : Memory) (o : ObjectId) (word : ℕ) → with_word m (Lock o) word Counter ≡ m Counter
unfolding with_word same_place
lock_counter m o word = refl

row_lock : (m : Memory) (o : ObjectId) (i word : ℕ) (p : ObjectId) → with_word m (Row o i) word (Lock p) ≡ m (Lock p)
unfolding with_word same_place
row_lock m o i word p = refl

row_counter : (m : Memory) (o : ObjectId) (i word : ℕ) → with_word m (Row o i) word Counter ≡ m Counter
unfolding with_word same_place
row_counter m o i word = refl

pub dram_lock : (m : Memory) (i word : ℕ) (p : ObjectId) → with_word m (Dram i) word (Lock p) ≡ m (Lock p)
unfolding with_word same_place
dram_lock m i word p = refl

pub dram_counter : (m : Memory) (i word : ℕ) → with_word m (Dram i) word Counter ≡ m Counter
unfolding with_word same_place
dram_counter m i word = refl

pub counter_other : (m : Memory) (word : ℕ) (o : ObjectId) (i : ℕ) → (with_word m Counter word (Lock o) ≡ m (Lock o)) × (with_word m Counter word (Row o i) ≡ m (Row o i)) × (with_word m Counter word (Dram i) ≡ m (Dram i))
unfolding with_word same_place
counter_other m word o i = (refl, refl, refl)

cases_object : (a b : ObjectId) → (a ≡ b) ⊎ (a ≡ b → ⊥)
cases_object a b = elim (cases_Bool (same_object a b)) [
  | inl e ↦ inl (same_object-true a b e)
  | inr e ↦ inr (λ f. clash (sym e ∙ ap (same_object a) (sym f) ∙ same_object-refl a))
]
  where
    clash : false ≡ true → ⊥
    clash e = cc

pub wide_region : (r : ℕ) → 0 < width (objects.Region r)
unfolding width
wide_region r = omega arith

-- ---- what a move makes of the history

-- the draft of a Draw
unfoldable pub draft_in : Move → Option Draft
draft_in (moves.InCall (actions.Draw draft)) = Some draft
draft_in (moves.InCall (actions.TryLock o)) = None
draft_in (moves.InCall (actions.Read o i)) = None
draft_in (moves.InCall (actions.Write o i word)) = None
draft_in (moves.InCall (actions.Unlock o)) = None
draft_in (moves.InCall (actions.Load i)) = None
draft_in (moves.InCall (actions.Store i word)) = None
draft_in (moves.Look r owner) = None
draft_in (moves.Load i) = None
draft_in (moves.Store i value) = None
draft_in (moves.Swap i old value) = None
draft_in (moves.Stop line why) = None

unfoldable pub history_by : ℕ → Option Draft → Outcome → List Entry → List Entry
history_by core None out h = h
history_by core (Some draft) out h = h ++ entry_of core draft (number_in out) ∷ []

unfoldable pub state_by : ℕ → Option Draft → Outcome → State → State
state_by core None out s = s
state_by core (Some draft) out s = drawn_state core s draft (number_in out)

unfoldable pub content_drawn : Option Draft → List ℕ → State → Content → Content
content_drawn None answers s content = content
content_drawn (Some draft) answers s content = drawn_content s draft answers content

-- what a move keeps, and what it leaves alone of every other core's
pub record Stepped (shape : Shape) (memory n : Memory) (moved : ℕ → Moves) (made : Made) (h h1 : List Entry) (s s1 : State) (content content1 : Content) : Type 0 where
  pub kept : Kept shape n (λ q. moves_with q made (moved q)) h1 s1 content1
  pub others : (q : ℕ) → q < shape.cores → (made.core ≡ q → ⊥) → LooksSame q s content (held_of (moved q)) memory s1 content1 n

-- ---- one core's part

-- the core's call goes on
core_more : (shape : Shape) (s s1 : State) (content content1 : Content) (memory n : Memory) (core : ℕ) (ms : Moves) (a : Action) (out : Outcome) → CoreKept shape s content memory core ms → is_last a (held_by a out (held_of ms)) ≡ false →
    ((o : ObjectId) → In o (held_of ((moves.InCall a, out) ∷ ms)) → n (Lock o) ≡ own_lock_word core ms) → AreOnce (held_of ((moves.InCall a, out) ∷ ms)) → ((o : ObjectId) → In o (held_of ((moves.InCall a, out) ∷ ms)) → HasObject shape o) → OwnedAreTrue s1 (held_of ((moves.InCall a, out) ∷ ms)) n →
    (has_drawn ((a, out) ∷ call_moves ms) ≡ true → suc (issuer_of core ms).serial ≡ next_serial core ((moves.InCall a, out) ∷ ms)) →
    ((call : Call) (next : Outcome → Tree) → IsAtTree (issuer_of core ms) call s content (answers_of ms) (held_of ms) memory (Makes a next) → IsAtTree (issuer_of core ms) call s1 content1 (answers_of ((moves.InCall a, out) ∷ ms)) (held_of ((moves.InCall a, out) ∷ ms)) n (next out)) →
    CoreKept shape s1 content1 n core ((moves.InCall a, out) ∷ ms)
core_more shape s s1 content content1 memory n core ms a out own on mine once there true_words counted step =
    let ms1 : Moves = (moves.InCall a, out) ∷ ms in
    let by = issuer_more core a out ms on in
    let call_is = call_more core a out ms on in
    record {
      mine = λ o k. mine o k ∙ sym (ap (λ z. lock_word core z.serial) by);
      once = once;
      there = there;
      true_words = true_words;
      counted = λ d. ap (λ z. suc z.serial) by ∙ counted (ap has_drawn (sym call_is) ∙ d);
      at_tree = λ call rest follows.
          (let f1 = subst (λ z. Follows (call_tree shape z call) (call_moves ms1) rest) by follows in
          let f2 = subst (λ z. Follows (call_tree shape (issuer_of core ms) call) z rest) call_is f1 in
          subst (λ z. IsAtTree z call s1 content1 (answers_of ms1) (held_of ms1) n rest) (sym by)
          (subst (λ z. IsAtTree (issuer_of core ms) call s1 content1 (answers_of ms1) (held_of ms1) n z) f2.2 (step call f2.0 (own.at_tree call (Makes a f2.0) f2.1))));
    }

-- a move that is no Draw leaves the number of entries
counted_still : (shape : Shape) (s : State) (content : Content) (memory : Memory) (core : ℕ) (ms : Moves) (a : Action) (out : Outcome) → CoreKept shape s content memory core ms → is_draw a ≡ false → has_drawn ((a, out) ∷ call_moves ms) ≡ true → suc (issuer_of core ms).serial ≡ next_serial core ((moves.InCall a, out) ∷ ms)
unfolding has_drawn
counted_still shape s content memory core ms a out own none d =
    own.counted (sym (ap (λ b. cond b true (has_drawn (call_moves ms))) none) ∙ d) ∙ sym (ap length (entries_same core (moves.InCall a) out ms none))

module _ (shape : Shape) (is : is_shape shape ≡ true) (memory : Memory) (moved : ℕ → Moves) (h : List Entry) (s : State) (content : Content) (kept : Kept shape memory moved h s content) (core : ℕ) (lt : core < shape.cores) where
  own : CoreKept shape s content memory core (moved core)
  own = kept.cores core lt

  -- who holds an object holds it still
  held_still : (move : Move) (out : Outcome) (o : ObjectId) → (In o (held_of (moved core)) → In o (held_of ((move, out) ∷ moved core))) → (q : ℕ) → In o (held_of (moved q)) → In o (held_of (moves_with q (record { core = core; move = move; outcome = out }) (moved q)))
  held_still move out o mine q = each_moves (λ q ms. In o (held_of (moved q)) → In o (held_of ms)) moved (record { core = core; move = move; outcome = out }) mine (λ q ne k. k) q

  few_still : (move : Move) (out : Outcome) → draws move ≡ false → (q : ℕ) → q < shape.cores → length (entries_in q (moves_with q (record { core = core; move = move; outcome = out }) (moved q))) ≤ most_entries
  few_still move out none q = each_moves (λ q ms. q < shape.cores → length (entries_in q ms) ≤ most_entries) moved (record { core = core; move = move; outcome = out })
      (λ l. subst (λ z. z ≤ most_entries) (sym (ap length (entries_same core move out (moved core) none))) (kept.few core l)) (λ q ne l. kept.few q l) q

  -- ---- a move that changes no lock and draws no ticket, and words that it keeps or that nobody answers for

  pub keep_quiet : (move : Move) (out : Outcome) (n : Memory) → Stands shape h (λ q. core_log q (moves_with q (record { core = core; move = move; outcome = out }) (moved q))) → draws move ≡ false → n Counter ≡ memory Counter → ((o : ObjectId) → n (Lock o) ≡ memory (Lock o)) →
      ((o : ObjectId) (i : ℕ) → In o (held_of (moved core)) ⊎ (n (Row o i) ≡ memory (Row o i))) → ((i : ℕ) → (Keeps s (held_of (moved core)) i ⊎ IsUnused s i) ⊎ (n (Dram i) ≡ memory (Dram i))) →
      ((o : ObjectId) → In o (held_of (moved core)) → In o (held_of ((move, out) ∷ moved core))) → CoreKept shape s content n core ((move, out) ∷ moved core) →
      Stepped shape memory n moved (record { core = core; move = move; outcome = out }) h h s s content content
  keep_quiet move out n stands none counter locks rows drams mine now =
      let made : Made = record { core = core; move = move; outcome = out } in
      let facts = (kept.sound core lt).facts in
      let looks : (q : ℕ) → q < shape.cores → (core ≡ q → ⊥) → LooksSame q s content (held_of (moved q)) memory s content n = λ q lq ne. record {
        agree = agree_refl s q (held_of (moved q));
        rows = λ o i k b. elim (rows o i) [ inl g ↦ absurd (held_apart shape is memory moved h s content kept core q lt lq ne o g k) | inr e ↦ e ];
        words = λ i k. elim (drams i) [
          | inl x ↦ absurd (elim x [
            | inl g ↦ kept_apart s (held_of (moved core)) (held_of (moved q)) i facts (held_apart shape is memory moved h s content kept core q lt lq ne) g k
            | inr u ↦ u k.who k.answers
          ])
          | inr e ↦ e
        ];
        kept = λ i k. refl;
      } in
      record {
        others = looks;
        kept = record {
          now = kept.now;
          shaped = kept.shaped;
          counter = counter ∙ kept.counter;
          stands = stands;
          few = few_still move out none;
          sound = kept.sound;
          locked = λ o. elim (kept.locked o) [ inl e ↦ inl (locks o ∙ e) | inr x ↦ inr (x.0, x.1, held_still move out o (mine o) x.0 x.2) ];
          rows = λ o e i b. elim (rows o i) [
            | inl g ↦ absurd (not_free shape is memory moved h s content kept core lt o (sym (locks o) ∙ e) g)
            | inr g ↦ g ∙ kept.rows o (sym (locks o) ∙ e) i b
          ];
          words = λ o e i b a. elim (drams i) [
            | inl x ↦ absurd (elim x [
              | inl g ↦ not_free shape is memory moved h s content kept core lt o (sym (locks o) ∙ e) (subst (λ z. In z (held_of (moved core))) (one_answers s (region_of_word s.shape i) g.who o facts g.answers a) g.held_is)
              | inr u ↦ u o a
            ])
            | inr g ↦ g ∙ kept.words o (sym (locks o) ∙ e) i b a
          ];
          cores = λ q lq. each_moves (λ q ms. q < shape.cores → CoreKept shape s content n q ms) moved made (λ l. now)
              (λ q ne l. core_frame shape q (moved q) s s content content memory n (kept.cores q l) (looks q l ne) (λ o k. locks o)) q lq;
        };
      }

  -- ---- moves of a call

  -- what the tree of the permitted move is at
  pub at_move : (a : Action) (p : MayGoOn shape core (moved core) a) → IsAtTree (issuer_of core (moved core)) p.call s content (answers_of (moved core)) (held_of (moved core)) memory (Makes a p.next)
  at_move a p = own.at_tree p.call (Makes a p.next) p.follows

  pub stage_goes : (a : Action) (p : MayGoOn shape core (moved core) a) → Goes shape p.call (stage_of (call_moves (moved core))) (Makes a p.next)
  stage_goes a p = goes_now shape (issuer_of core (moved core)) p.call (call_moves (moved core)) (Makes a p.next) p.follows

  pub keep_read : (o : ObjectId) (i : ℕ) → Stepped shape memory memory moved (record { core = core; move = moves.InCall (actions.Read o i); outcome = outcomes.Word (memory (Row o i)) }) h h s s content content
  unfolding logged logged_by held_of held_after held_by is_last answers_of answered answered_by
  keep_read o i =
      let out : Outcome = outcomes.Word (memory (Row o i)) in
      keep_quiet (moves.InCall (actions.Read o i)) out memory (stands_still shape is memory moved h s content kept (record { core = core; move = moves.InCall (actions.Read o i); outcome = out }) refl) refl refl (λ p. refl) (λ p j. inr refl) (λ j. inr refl) (λ p k. k)
      (core_more shape s s content content memory memory core (moved core) (actions.Read o i) out own refl own.mine own.once own.there own.true_words
      (counted_still shape s content memory core (moved core) (actions.Read o i) out own refl)
      (λ call next at. subst (λ z. IsAtTree (issuer_of core (moved core)) call s content z (held_of (moved core)) memory (next out)) (sym (append-nil (answers_of (moved core))))
      (at_read (issuer_of core (moved core)) call (answers_of (moved core)) s content (held_of (moved core)) memory o i next at).2))

  pub keep_met : (o : ObjectId) (holder serial : ℕ) → Stepped shape memory memory moved (record { core = core; move = moves.InCall (actions.TryLock o); outcome = outcomes.HeldBy holder serial }) h h s s content content
  unfolding logged logged_by held_of held_after held_by is_last answers_of answered answered_by
  keep_met o holder serial =
      let out : Outcome = outcomes.HeldBy holder serial in
      keep_quiet (moves.InCall (actions.TryLock o)) out memory (stands_still shape is memory moved h s content kept (record { core = core; move = moves.InCall (actions.TryLock o); outcome = out }) refl) refl refl (λ p. refl) (λ p j. inr refl) (λ j. inr refl) (λ p k. k)
      (core_more shape s s content content memory memory core (moved core) (actions.TryLock o) out own refl own.mine own.once own.there own.true_words
      (counted_still shape s content memory core (moved core) (actions.TryLock o) out own refl)
      (λ call next at. subst (λ z. IsAtTree (issuer_of core (moved core)) call s content z (held_of (moved core)) memory (next out)) (sym (append-nil (answers_of (moved core))))
      (at_met (issuer_of core (moved core)) call (answers_of (moved core)) s content (held_of (moved core)) memory o next holder serial at)))

  pub keep_load : (i : ℕ) → Stepped shape memory memory moved (record { core = core; move = moves.InCall (actions.Load i); outcome = outcomes.Word (memory (Dram i)) }) h h s s content content
  unfolding logged logged_by held_of held_after held_by is_last answers_of answered answered_by word_in
  keep_load i =
      let out : Outcome = outcomes.Word (memory (Dram i)) in
      keep_quiet (moves.InCall (actions.Load i)) out memory (stands_still shape is memory moved h s content kept (record { core = core; move = moves.InCall (actions.Load i); outcome = out }) refl) refl refl (λ p. refl) (λ p j. inr refl) (λ j. inr refl) (λ p k. k)
      (core_more shape s s content content memory memory core (moved core) (actions.Load i) out own refl own.mine own.once own.there own.true_words
      (counted_still shape s content memory core (moved core) (actions.Load i) out own refl)
      (λ call next at. (at_load (issuer_of core (moved core)) call (answers_of (moved core)) s content (held_of (moved core)) memory i next at).2))

  pub keep_write : (o : ObjectId) (i word : ℕ) → MayGoOn shape core (moved core) (actions.Write o i word) → Stepped shape memory (with_word memory (Row o i) word) moved (record { core = core; move = moves.InCall (actions.Write o i word); outcome = outcomes.Done }) h h s s content content
  unfolding logged logged_by held_of held_after held_by is_last answers_of answered answered_by
  keep_write o i word p =
      let n : Memory = with_word memory (Row o i) word in
      let was = at_write (issuer_of core (moved core)) p.call (answers_of (moved core)) s content (held_of (moved core)) memory o i word p.next (at_move (actions.Write o i word) p) in
      keep_quiet (moves.InCall (actions.Write o i word)) outcomes.Done n (stands_still shape is memory moved h s content kept (record { core = core; move = moves.InCall (actions.Write o i word); outcome = outcomes.Done }) refl) refl
      (row_counter memory o i word) (row_lock memory o i word)
      (λ q j. elim (at_place memory (Row o i) word (Row q j)) [ inl f ↦ inl (subst (λ z. In z (held_of (moved core))) (row_object f.0) was.0) | inr f ↦ inr f.1 ])
      (λ j. inr (row_dram memory o i word j)) (λ q k. k)
      (core_more shape s s content content memory n core (moved core) (actions.Write o i word) outcomes.Done own refl (λ q k. row_lock memory o i word q ∙ own.mine q k) own.once own.there was.3
      (counted_still shape s content memory core (moved core) (actions.Write o i word) outcomes.Done own refl)
      (λ call next at. subst (λ z. IsAtTree (issuer_of core (moved core)) call s content z (held_of (moved core)) n (next outcomes.Done)) (sym (append-nil (answers_of (moved core))))
      (at_write (issuer_of core (moved core)) call (answers_of (moved core)) s content (held_of (moved core)) memory o i word next at).4))

  pub keep_store : (i word : ℕ) → MayGoOn shape core (moved core) (actions.Store i word) → Stepped shape memory (with_word memory (Dram i) word) moved (record { core = core; move = moves.InCall (actions.Store i word); outcome = outcomes.Done }) h h s s content content
  unfolding logged logged_by held_of held_after held_by is_last answers_of answered answered_by
  keep_store i word p =
      let n : Memory = with_word memory (Dram i) word in
      let was = at_store (issuer_of core (moved core)) p.call (answers_of (moved core)) s content (held_of (moved core)) memory i word p.next (at_move (actions.Store i word) p) in
      keep_quiet (moves.InCall (actions.Store i word)) outcomes.Done n (stands_still shape is memory moved h s content kept (record { core = core; move = moves.InCall (actions.Store i word); outcome = outcomes.Done }) refl) refl
      (dram_counter memory i word) (dram_lock memory i word) (λ q j. inr (dram_row memory i word q j))
      (λ j. elim (at_place memory (Dram i) word (Dram j)) [ inl f ↦ inl (inl (subst (λ z. Keeps s (held_of (moved core)) z) (dram_index f.0) (stored_kept p.call s (held_of (moved core)) i word was.1))) | inr f ↦ inr f.1 ])
      (λ q k. k)
      (core_more shape s s content content memory n core (moved core) (actions.Store i word) outcomes.Done own refl (λ q k. dram_lock memory i word q ∙ own.mine q k) own.once own.there
      (λ r k e. dram_row memory i word (objects.Region r) 0 ∙ own.true_words r k (ap (λ z. z % 4) (sym (dram_row memory i word (objects.Region r) 0)) ∙ e))
      (counted_still shape s content memory core (moved core) (actions.Store i word) outcomes.Done own refl)
      (λ call next at. subst (λ z. IsAtTree (issuer_of core (moved core)) call s content z (held_of (moved core)) n (next outcomes.Done)) (sym (append-nil (answers_of (moved core))))
      (at_store (issuer_of core (moved core)) call (answers_of (moved core)) s content (held_of (moved core)) memory i word next at).2))

  -- it takes a lock that is free
  pub keep_taken : (o : ObjectId) → memory (Lock o) ≡ 0 → MayGoOn shape core (moved core) (actions.TryLock o) → Stepped shape memory (with_word memory (Lock o) (own_lock_word core (moved core))) moved (record { core = core; move = moves.InCall (actions.TryLock o); outcome = outcomes.Taken }) h h s s content content
  unfolding logged logged_by held_of held_after held_by is_last answers_of answered answered_by issuer_of
  keep_taken o free p =
      let mine : ℕ = own_lock_word core (moved core) in
      let n : Memory = with_word memory (Lock o) mine in
      let made : Made = record { core = core; move = moves.InCall (actions.TryLock o); outcome = outcomes.Taken } in
      let by : Issuer = issuer_of core (moved core) in
      let held : List ObjectId = held_of (moved core) in
      let fresh : (q : ℕ) → q < shape.cores → In o (held_of (moved q)) → ⊥ = λ q lq k. not_free shape is memory moved h s content kept q lq o free k in
      let apart : (q : ℕ) → q < shape.cores → (p : ObjectId) → In p (held_of (moved q)) → n (Lock p) ≡ memory (Lock p) = λ q lq p k. lock_other memory o mine p (λ e. fresh q lq (subst (λ z. In z (held_of (moved q))) (sym e) k)) in
      let was_free : (q : ObjectId) → n (Lock q) ≡ 0 → memory (Lock q) ≡ 0 = λ q e. sym (lock_other memory o mine q (λ f. positive core by.serial (sym (here memory (Lock o) mine) ∙ ap (λ z. n (Lock z)) f ∙ e))) ∙ e in
      let looks : (q : ℕ) (list : List ObjectId) → LooksSame q s content list memory s content n = λ q list. looks_lock q s content list memory o mine in
      let at = at_move (actions.TryLock o) p in
      let there : HasObject shape o = subst (λ z. HasObject z o) kept.shaped (at.safe.0 s content memory at.looks (kept.sound core lt)).0 in
      let new : CoreKept shape s content n core ((moves.InCall (actions.TryLock o), outcomes.Taken) ∷ moved core) =
      core_more shape s s content content memory n core (moved core) (actions.TryLock o) outcomes.Taken own refl
      (λ q k. elim k [ inl e ↦ subst (λ z. n (Lock z) ≡ mine) (sym e) (here memory (Lock o) mine) | inr g ↦ apart core lt q g ∙ own.mine q g ])
      (fresh core lt, own.once)
      (λ q k. elim k [ inl e ↦ subst (HasObject shape) (sym e) there | inr g ↦ own.there q g ])
      (λ r k e. elim k [
        | inl f ↦ lock_row memory o mine (objects.Region r) 0 ∙ kept.rows (objects.Region r) (ap (λ z. memory (Lock z)) f ∙ free) 0 (wide_region r) ∙ row_own s r
        | inr g ↦ lock_row memory o mine (objects.Region r) 0 ∙ own.true_words r g (ap (λ z. z % 4) (sym (lock_row memory o mine (objects.Region r) 0)) ∙ e)
      ])
      (counted_still shape s content memory core (moved core) (actions.TryLock o) outcomes.Taken own refl)
      (λ call next at. subst (λ z. IsAtTree by call s content z (o ∷ held) n (next outcomes.Taken)) (sym (append-nil (answers_of (moved core))))
      (at_others by call (answers_of (moved core)) s s content content (o ∷ held) memory n (next outcomes.Taken)
      (at_taken by call (answers_of (moved core)) s content held memory o next at (kept.sound core lt) (kept.rows o free) (kept.words o free)) (looks core (o ∷ held)))) in
      record {
        others = λ q lq ne. looks q (held_of (moved q));
        kept = record {
          now = kept.now;
          shaped = kept.shaped;
          counter = lock_counter memory o mine ∙ kept.counter;
          stands = stands_still shape is memory moved h s content kept made refl;
          few = few_still (moves.InCall (actions.TryLock o)) outcomes.Taken refl;
          sound = kept.sound;
          locked = λ q. elim (cases_object o q) [
            | inl e ↦ inr (core, lt, each_moves (λ c ms. core ≡ c → In q (held_of ms)) moved made (λ f. inl (sym e)) (λ c ne f. absurd (ne f)) core refl)
            | inr ne ↦ elim (kept.locked q) [
              | inl e ↦ inl (lock_other memory o mine q ne ∙ e)
              | inr x ↦ inr (x.0, x.1, held_still (moves.InCall (actions.TryLock o)) outcomes.Taken q (λ k. inr k) x.0 x.2)
            ]
          ];
          rows = λ q e i b. lock_row memory o mine q i ∙ kept.rows q (was_free q e) i b;
          words = λ q e i b a. lock_dram memory o mine i ∙ kept.words q (was_free q e) i b a;
          cores = λ q lq. each_moves (λ q ms. q < shape.cores → CoreKept shape s content n q ms) moved made (λ l. new)
              (λ q ne l. core_frame shape q (moved q) s s content content memory n (kept.cores q l) (looks q (held_of (moved q))) (apart q l)) q lq;
        };
      }
    where
      positive : (c a : ℕ) → lock_word c a ≡ 0 → ⊥
      positive c a f = omega arith

  -- it gives an object back
  pub keep_unlock : (o : ObjectId) → MayGoOn shape core (moved core) (actions.Unlock o) → Stepped shape memory (with_word memory (Lock o) 0) moved (record { core = core; move = moves.InCall (actions.Unlock o); outcome = outcomes.Done }) h h s s content content
  unfolding logged logged_by held_of held_after held_by is_last answers_of answered answered_by issuer_of
  keep_unlock o p =
      let n : Memory = with_word memory (Lock o) 0 in
      let made : Made = record { core = core; move = moves.InCall (actions.Unlock o); outcome = outcomes.Done } in
      let by : Issuer = issuer_of core (moved core) in
      let held : List ObjectId = held_of (moved core) in
      let at = at_unlock by p.call (answers_of (moved core)) s content held memory o p.next (at_move (actions.Unlock o) p) in
      let o_in : In o held = subst (In o) (sym at.1) (inl refl) in
      let left_is : behind_first held ≡ at.0 = ap behind_first at.1 in
      let once : AreOnce (o ∷ at.0) = subst AreOnce at.1 own.once in
      let more : (q : ObjectId) → In q (behind_first held) → In q held = λ q k. subst (In q) (sym at.1) (inr (subst (In q) left_is k)) in
      let less : (q : ObjectId) → (o ≡ q → ⊥) → In q held → In q (behind_first held) = λ q ne k. subst (In q) (sym left_is) (elim (subst (In q) at.1 k) [ inl e ↦ absurd (ne (sym e)) | inr g ↦ g ]) in
      let another : (q : ObjectId) → In q (behind_first held) → o ≡ q → ⊥ = λ q k e. once.0 (subst (λ z. In z at.0) (sym e) (subst (In q) left_is k)) in
      let looks : (q : ℕ) (list : List ObjectId) → LooksSame q s content list memory s content n = λ q list. looks_lock q s content list memory o 0 in
      let was_free : (q : ObjectId) → (o ≡ q → ⊥) → n (Lock q) ≡ 0 → memory (Lock q) ≡ 0 = λ q ne e. sym (lock_other memory o 0 q ne) ∙ e in
      let new : (left : List ObjectId) → behind_first held ≡ left → CoreKept shape s content n core ((moves.InCall (actions.Unlock o), outcomes.Done) ∷ moved core) = λ left.
      elim left as (λ l. behind_first held ≡ l → CoreKept shape s content n core ((moves.InCall (actions.Unlock o), outcomes.Done) ∷ moved core)) [
        | [] ↦ λ e. core_idle shape core ((moves.InCall (actions.Unlock o), outcomes.Done) ∷ moved core) s content n
            (call_over core (actions.Unlock o) outcomes.Done (moved core) (ap (is_last (actions.Unlock o)) e)) (kept.sound core lt) kept.shaped
            (ap mode_after (entries_same core (moves.InCall (actions.Unlock o)) outcomes.Done (moved core) refl) ∙ log_mode shape is memory moved h s content kept core lt)
        | x ∷ xs ↦ λ e. core_more shape s s content content memory n core (moved core) (actions.Unlock o) outcomes.Done own (ap (is_last (actions.Unlock o)) e)
            (λ q k. lock_other memory o 0 q (another q k) ∙ own.mine q (more q k))
            (subst AreOnce (sym left_is) once.1)
            (λ q k. own.there q (more q k))
            (λ r k f. lock_row memory o 0 (objects.Region r) 0 ∙ own.true_words r (more (objects.Region r) k) (ap (λ z. z % 4) (sym (lock_row memory o 0 (objects.Region r) 0)) ∙ f))
            (counted_still shape s content memory core (moved core) (actions.Unlock o) outcomes.Done own refl)
            (λ call next at. (let one = at_unlock by call (answers_of (moved core)) s content held memory o next at in
            subst (λ z. IsAtTree by call s content z (behind_first held) n (next outcomes.Done)) (sym (append-nil (answers_of (moved core))))
            (at_others by call (answers_of (moved core)) s s content content (behind_first held) memory n (next outcomes.Done)
            (subst (λ z. IsAtTree by call s content (answers_of (moved core)) z memory (next outcomes.Done)) (sym (ap behind_first one.1)) one.4) (looks core (behind_first held)))))
      ] in
      record {
        others = λ q lq ne. looks q (held_of (moved q));
        kept = record {
          now = kept.now;
          shaped = kept.shaped;
          counter = lock_counter memory o 0 ∙ kept.counter;
          stands = stands_still shape is memory moved h s content kept made refl;
          few = few_still (moves.InCall (actions.Unlock o)) outcomes.Done refl;
          sound = kept.sound;
          locked = λ q. elim (cases_object o q) [
            | inl e ↦ inl (ap (λ z. n (Lock z)) (sym e) ∙ here memory (Lock o) 0)
            | inr ne ↦ elim (kept.locked q) [
              | inl e ↦ inl (lock_other memory o 0 q ne ∙ e)
              | inr x ↦ inr (x.0, x.1, held_still (moves.InCall (actions.Unlock o)) outcomes.Done q (less q ne) x.0 x.2)
            ]
          ];
          rows = λ q e. elim (cases_object o q) [
            | inl f ↦ subst (λ z. RowStands z s n) f (λ i b. lock_row memory o 0 o i ∙ at.2 i b)
            | inr ne ↦ λ i b. lock_row memory o 0 q i ∙ kept.rows q (was_free q ne e) i b
          ];
          words = λ q e. elim (cases_object o q) [
            | inl f ↦ subst (λ z. WordsStand z s content n) f (λ i b a. lock_dram memory o 0 i ∙ at.3 i b a)
            | inr ne ↦ λ i b a. lock_dram memory o 0 i ∙ kept.words q (was_free q ne e) i b a
          ];
          cores = λ q lq. each_moves (λ q ms. q < shape.cores → CoreKept shape s content n q ms) moved made (λ l. new (behind_first held) refl)
              (λ q ne l. core_frame shape q (moved q) s s content content memory n (kept.cores q l) (looks q (held_of (moved q)))
              (λ x k. lock_other memory o 0 x (λ e. held_apart shape is memory moved h s content kept core q lt l ne o o_in (subst (λ z. In z (held_of (moved q))) (sym e) k)))) q lq;
        };
      }

  -- ---- a ticket

  -- it has none before
  pub none_drawn : (draft : Draft) → MayGoOn shape core (moved core) (actions.Draw draft) → has_drawn (call_moves (moved core)) ≡ false
  none_drawn draft p = undrawn_call shape (issuer_of core (moved core)) p.call (call_moves (moved core)) draft p.next p.follows

  pub entries_drawn : (draft : Draft) (ticket : ℕ) → entries_in core ((moves.InCall (actions.Draw draft), outcomes.Ticket ticket) ∷ moved core) ≡ entries_in core (moved core) ++ entry_of core draft ticket ∷ []
  unfolding core_log logged logged_by
  entries_drawn draft ticket = entries_append (core_log core (moved core)) (events.Entry (entry_of core draft ticket) ∷ [])

  moves_own : (made : Made) → made.core ≡ core → moves_with core made (moved core) ≡ (made.move, made.outcome) ∷ moved core
  unfolding moves_with
  moves_own made e = ap (λ b. cond b ((made.move, made.outcome) ∷ moved core) (moved core)) (eq-eqb made.core core e)

  pub keep_draw : (draft : Draft) → MayGoOn shape core (moved core) (actions.Draw draft) → Stepped shape memory (with_word memory Counter (suc (memory Counter))) moved (record { core = core; move = moves.InCall (actions.Draw draft); outcome = outcomes.Ticket (suc (memory Counter)) }) h (h ++ entry_of core draft (suc (memory Counter)) ∷ []) s (drawn_state core s draft (suc (memory Counter))) content (drawn_content s draft (answers_of (moved core)) content)
  unfolding logged logged_by held_of held_after held_by is_last answers_of answered answered_by issuer_of drawn_state
  keep_draw draft p =
      let ticket : ℕ = suc (memory Counter) in
      let n : Memory = with_word memory Counter ticket in
      let out : Outcome = outcomes.Ticket ticket in
      let made : Made = record { core = core; move = moves.InCall (actions.Draw draft); outcome = out } in
      let by : Issuer = issuer_of core (moved core) in
      let held : List ObjectId = held_of (moved core) in
      let answers : List ℕ = answers_of (moved core) in
      let e : Entry = entry_of core draft ticket in
      let h1 : List Entry = h ++ e ∷ [] in
      let s1 : State = drawn_state core s draft ticket in
      let content1 : Content = drawn_content s draft answers content in
      let facts = (kept.sound core lt).facts in
      let at = at_draw by p.call answers s content held memory draft ticket p.next (at_move (actions.Draw draft) p) (kept.sound core lt) in
      let first = none_drawn draft p in
      let serial = serial_next core (moved core) first in
      let long : memory Counter ≡ length h = kept.counter in
      let stands0 : Stands shape h1 (with_event (λ core. core_log core (moved core)) core (events.Entry e)) =
      entry_stands shape h (λ core. core_log core (moved core)) kept.stands e lt (omega (arith, long)) (at.0.next ∙ serial) (subst (λ z. IsLegalEntry z e) (sym kept.now) at.0.legal) in
      let stands1 : Stands shape h1 (λ q. core_log q (moves_with q made (moved q))) = alike_stands shape h1 (with_event (λ core. core_log core (moved core)) core (events.Entry e)) (λ q. core_log q (moves_with q made (moved q))) (λ q lq. logs_more moved made (events.Entry e) refl q) stands0 in
      let now1 : state_now shape h1 ≡ s1 = after_more (start shape) h e ∙ ap (λ z. after_entry z e) kept.now in
      let shaped1 : s1.shape ≡ shape = machine_after s e ∙ kept.shaped in
      let sound1 : (q : ℕ) → q < shape.cores → IsSound q s1 content1 = λ q lq. drawn_sound q core s content by p.call answers draft ticket refl (kept.sound q lq) (kept.sound core lt) at.0 p.is_call (let low = low_ticket shape is memory moved h s content kept in omega (arith, low, long)) in
      let mode1 : mode_in core ((moves.InCall (actions.Draw draft), out) ∷ moved core) ≡ mode_of s1 core = sym (ap (λ ms. mode_in core ms) (moves_own made refl)) ∙ mode_told shape h1 (λ q. core_log q (moves_with q made (moved q))) core stands1 lt ∙ ap (λ z. mode_of z core) now1 in
      let looks : (q : ℕ) (list : List ObjectId) → (core ≡ q → ⊥) → AreApart list held → LooksSame q s content list memory s1 content1 n = λ q list ne apart. looks_trans q s s1 s1 content content1 content1 list memory memory n
      (looks_draw q core s s1 content content1 list held memory (λ f. ne (sym f)) apart facts at.1 at.3) (looks_counter q s1 content1 list memory ticket) in
      let lock_same : (q : ObjectId) → n (Lock q) ≡ memory (Lock q) = λ q. (counter_other memory ticket q 0).0 in
      let single : (q : ObjectId) → n (Lock q) ≡ 0 → LooksSame (suc core) s content (q ∷ []) memory s1 content1 n = λ q f.
      looks (suc core) (q ∷ []) (λ g. absurd (omega (arith, g))) (λ x k g. elim k [ inl i ↦ not_free shape is memory moved h s content kept core lt q (sym (lock_same q) ∙ f) (subst (λ z. In z held) i g) | inr i ↦ i ]) in
      let new : (list : List ObjectId) → held ≡ list → CoreKept shape s1 content1 n core ((moves.InCall (actions.Draw draft), out) ∷ moved core) = λ list.
      elim list as (λ l. held ≡ l → CoreKept shape s1 content1 n core ((moves.InCall (actions.Draw draft), out) ∷ moved core)) [
        | [] ↦ λ f. core_idle shape core ((moves.InCall (actions.Draw draft), out) ∷ moved core) s1 content1 n
            (call_over core (actions.Draw draft) out (moved core) (ap (is_last (actions.Draw draft)) f)) (sound1 core lt) shaped1 mode1
        | x ∷ xs ↦ λ f. core_more shape s s1 content content1 memory n core (moved core) (actions.Draw draft) out own (ap (is_last (actions.Draw draft)) f)
            (λ q k. lock_same q ∙ own.mine q k) own.once own.there
            (λ r k g. (counter_other memory ticket (objects.Region r) 0).1 ∙ at.2 r k (ap (λ z. z % 4) (sym (counter_other memory ticket (objects.Region r) 0).1) ∙ g))
            (λ d. let count = ap length (entries_drawn draft ticket) in omega (arith, count, serial, length-append (entries_in core (moved core)) (e ∷ [])))
            (λ call next at. subst (λ z. IsAtTree by call s1 content1 z held n (next out)) (sym (append-nil answers))
            (at_others by call answers s1 s1 content1 content1 held memory n (next out) (at_draw by call answers s content held memory draft ticket next at (kept.sound core lt)).4 (looks_counter core s1 content1 held memory ticket)))
      ] in
      record {
        others = λ q lq ne. looks q (held_of (moved q)) ne (λ x k g. held_apart shape is memory moved h s content kept core q lt lq ne x g k);
        kept = record {
          now = now1;
          shaped = shaped1;
          counter = here memory Counter ticket ∙ (let more = length_more h e in omega (arith, more, long));
          stands = stands1;
          few = λ q. each_moves (λ q ms. q < shape.cores → length (entries_in q ms) ≤ most_entries) moved made
              (λ l. let count = ap length (entries_drawn draft ticket) in let room = p.serial in omega (arith, count, room, length-append (entries_in core (moved core)) (e ∷ [])))
              (λ q ne l. kept.few q l) q;
          sound = sound1;
          locked = λ q. elim (kept.locked q) [
            | inl f ↦ inl (lock_same q ∙ f)
            | inr x ↦ inr (x.0, x.1, held_still (moves.InCall (actions.Draw draft)) out q (λ k. k) x.0 x.2)
          ];
          rows = λ q f. rows_look (suc core) s content (q ∷ []) memory s1 content1 n (single q f) (rows_more q [] s memory (kept.rows q (sym (lock_same q) ∙ f)) (λ x k. absurd k)) q (inl refl);
          words = λ q f. words_look (suc core) s content (q ∷ []) memory s1 content1 n (single q f) (words_more q [] s content memory (kept.words q (sym (lock_same q) ∙ f)) (λ x k. absurd k)) q (inl refl);
          cores = λ q lq. each_moves (λ q ms. q < shape.cores → CoreKept shape s1 content1 n q ms) moved made (λ l. new held refl)
              (λ q ne l. core_frame shape q (moved q) s s1 content content1 memory n (kept.cores q l) (looks q (held_of (moved q)) ne (λ x k g. held_apart shape is memory moved h s content kept core q lt l ne x g k)) (λ x k. lock_same x)) q lq;
        };
      }
