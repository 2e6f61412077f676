-- A call of a core: its begin, one move of it, and its end.
use Rattle.std.proofs.Common.{◌≡◌, ◌⊎◌, inl, inr, ◌∙◌, ◌+◌, ◌-◌, ◌<◌, ◌≤◌, ℕ, zero, suc, Bool, true, false, cond, Option, Some, None, List, [], ◌∷◌, ◌++◌, length, ap, sym, refl, subst, arith}
use Rattle.mon_types.specs.Shape.{Shape}
use Rattle.mon_types.specs.Replies.{is_done}
use Rattle.mon_types.specs.Modes.{own_slot, own_thread}
use Rattle.mon_types.specs.declared.thread.Mode.{Mode}
use Rattle.mon_types.specs.declared.call.Call.{Call}
use Rattle.mon_types.specs.declared.call.Call.TheVariants as calls
use Rattle.mon_types.specs.declared.reply.Reply.{Reply}
use Rattle.mon_model.specs.State.{State}
use Rattle.mon_model.specs.Early.{early}
use Rattle.mon_model.specs.OnCore.{mode_by}
use Rattle.mon_model.proofs.InRange.{not_refused}
use Rattle.core_context.specs.declared.after.After.{After}
use Rattle.core_context.specs.declared.after.After.TheVariants as afters
use Rattle.core_context.specs.declared.origin.Origin.{Origin}
use Rattle.core_context.specs.Changes.{ok_change}
use Rattle.mon_records.specs.Rows.{Found}
use Rattle.mon_records.specs.Rebuilt.{state_of}
use Rattle.protocol.specs.declared.action.Action.{Action}
use Rattle.protocol.specs.declared.action.Action.TheVariants as actions
use Rattle.protocol.specs.declared.action.Move.{Move}
use Rattle.protocol.specs.declared.action.Move.TheVariants as moves
use Rattle.protocol.specs.declared.action.Draft.{Draft}
use Rattle.protocol.specs.declared.action.Outcome.{Outcome}
use Rattle.protocol.specs.Moves.{action_outcome}
use Rattle.protocol.specs.Views.{word_in, answered_by}
use Rattle.protocol.specs.CallTree.{Tree, Over, Makes, call_tree}
use Rattle.core_behaviour.specs.Course.{Course}
use Rattle.core_behaviour.specs.Core.{Core, mode_now, issuer_now}
use Rattle.core_behaviour.specs.Called.{in_call, reply_by, reply_in, found_by, found_in, change_by, left_if, called}
use Rattle.call_machine.specs.declared.work.Work.{Work as CallWork}
use Rattle.call_machine.specs.Kept.{Called}
use Rattle.call_machine.specs.Meaning.{tree_of, found, known, so_far, Heads, IsOutcome, after, change_by as call_change, ends_after, IsFoundBy}
use Rattle.core_machine.specs.declared.own.Own.{Own}
use Rattle.core_machine.specs.declared.work.Purpose.{Purpose}
use Rattle.core_machine.specs.declared.progress.Progress.{Progress}
use Rattle.core_machine.specs.Own.{entries_by, mode_with, counted, EntersSlot, DrawsInSlots}
use Rattle.core_machine.specs.Remains.{IsSettled, IsDraftOf, IsEnding, IsOpen}
use Rattle.core_machine.specs.Meaning.{after_call, IsTold}
use Rattle.core_machine.specs.Kept.{IsOwn, IsUndrawn, IsDrawn, CallStands}

-- ---- the begin

pub begun_course : (k : Progress) (origin : Origin) (purpose : Purpose) (call : Call) (w : CallWork) (shape : Shape) (c : Core)
    → tree_of w ≡ call_tree shape (issuer_now c) call → w.call ≡ call → w.config ≡ shape → w.mode ≡ mode_now c
    → called shape origin call c (after_call k purpose)
    ≡ in_call (tree_of w) [] c (λ d ms. after_call k purpose (left_if origin w.call (state_of w.config w.mode (found_in ms)) (reply_in ms) d))
begun_course k origin purpose call w shape c tree is_call config mode =
    ap (λ t. in_call t [] c (λ d ms. after_call k purpose (left_if origin call (state_of shape (mode_now c) (found_in ms)) (reply_in ms) d))) (sym tree)
    ∙ ap (λ q. in_call (tree_of w) [] c (λ d ms. after_call k purpose (left_if origin q (state_of shape (mode_now c) (found_in ms)) (reply_in ms) d))) (sym is_call)
    ∙ ap (λ m. in_call (tree_of w) [] c (λ d ms. after_call k purpose (left_if origin w.call (state_of m (mode_now c) (found_in ms)) (reply_in ms) d))) (sym config)
    ∙ ap (λ m. in_call (tree_of w) [] c (λ d ms. after_call k purpose (left_if origin w.call (state_of w.config m (found_in ms)) (reply_in ms) d))) (sym mode)

-- ---- one move: what is told

-- what a reply does to the core, where Ok does this
change_is : (b : Bool) (s : State) (core : ℕ) (call : Call) (change : After) → change ≡ ok_change s core call → cond b change afters.Nothing ≡ change_by b s core call
change_is true s core call change e = e
change_is false s core call change e = refl

-- before the Draw or from it on
unfoldable pub Left : Shape → Mode → Call → ℕ → Option (Reply × After) → Tree → Type 0
Left shape mode call n None t = IsOpen shape mode call n t
Left shape mode call n (Some end) t = IsEnding t

module _ (w v : CallWork) (out : Outcome) (before : List (Action × Outcome)) (config : v.config ≡ w.config) (call : v.call ≡ w.call) (core : v.core ≡ w.core) (mode : v.mode ≡ w.mode) where
  -- what was found tells it as well
  abbrev Tells : Type 0
  Tells = (so_far w ≡ found_in before) ⊎ IsSettled w.call

  settled_too : IsSettled w.call → IsSettled v.call
  settled_too s = subst IsSettled (sym call) s

  -- a move before the Draw
  told_open : (a : Action) → reply_by a (reply_in before) ≡ reply_in before → v.ends ≡ w.ends → w.ends ≡ None → reply_in before ≡ None
      → (so_far v ≡ found_by a out (found_in before)) ⊎ IsSettled v.call → IsTold v ((a, out) ∷ before) v.ends
  unfolding IsTold reply_in found_in
  told_open a same kept none reply found = subst (IsTold v ((a, out) ∷ before)) (sym (kept ∙ none)) (same ∙ reply, found)

  -- a move behind it
  told_ending : (a : Action) (end : Reply × After) → reply_by a (reply_in before) ≡ reply_in before → found_by a out (found_in before) ≡ found_in before → v.ends ≡ w.ends → w.ends ≡ Some end
      → IsTold w before (Some end) → IsTold v ((a, out) ∷ before) v.ends
  unfolding IsTold reply_in found_in
  told_ending a end same finds kept some told =
      subst (IsTold v ((a, out) ∷ before)) (sym (kept ∙ some)) (
        same ∙ told.0,
        told.1
            ∙ ap (λ f. change_by (is_done end.0) (state_of w.config w.mode f) w.core w.call) (sym finds)
            ∙ ap (λ m. change_by (is_done end.0) (state_of m w.mode (found_by a out (found_in before))) w.core w.call) (sym config)
            ∙ ap (λ m. change_by (is_done end.0) (state_of v.config m (found_by a out (found_in before))) w.core w.call) (sym mode)
            ∙ ap (λ m. change_by (is_done end.0) (state_of v.config v.mode (found_by a out (found_in before))) m w.call) (sym core)
            ∙ ap (λ m. change_by (is_done end.0) (state_of v.config v.mode (found_by a out (found_in before))) v.core m) (sym call),
      )

  -- the change that the Draw fixes
  changes : Tells → found w ≡ so_far w → ok_change (known w) w.core w.call ≡ ok_change (state_of v.config v.mode (found_in before)) v.core v.call
  changes (inl e) rows =
      ap (λ f. ok_change (state_of w.config w.mode f) w.core w.call) (rows ∙ e)
      ∙ ap (λ m. ok_change (state_of m w.mode (found_in before)) w.core w.call) (sym config)
      ∙ ap (λ m. ok_change (state_of v.config m (found_in before)) w.core w.call) (sym mode)
      ∙ ap (λ m. ok_change (state_of v.config v.mode (found_in before)) m w.call) (sym core)
      ∙ ap (λ m. ok_change (state_of v.config v.mode (found_in before)) v.core m) (sym call)
  changes (inr s) rows =
      s (known w) (state_of v.config v.mode (found_in before)) w.core
      ∙ ap (λ m. ok_change (state_of v.config v.mode (found_in before)) m w.call) (sym core)
      ∙ ap (λ m. ok_change (state_of v.config v.mode (found_in before)) v.core m) (sym call)

  told_draw : (draft : Draft) → v.ends ≡ Some (draft.reply, call_change w draft.reply) → Tells → found w ≡ so_far w → IsTold v ((actions.Draw draft, out) ∷ before) v.ends
  unfolding IsTold reply_in found_in
  told_draw draft ends tells rows =
      subst (IsTold v ((actions.Draw draft, out) ∷ before)) (sym ends)
      (refl, change_is (is_done draft.reply) (state_of v.config v.mode (found_in before)) v.core v.call (ok_change (known w) w.core w.call) (changes tells rows))

  more_found : (a : Action) → so_far v ≡ found_by a out (so_far w) → Tells → (so_far v ≡ found_by a out (found_in before)) ⊎ IsSettled v.call
  more_found a e (inl same) = inl (e ∙ ap (found_by a out) same)
  more_found a e (inr s) = inr (settled_too s)

  same_found : so_far v ≡ so_far w → Tells → (so_far v ≡ found_in before) ⊎ IsSettled v.call
  same_found e (inl same) = inl (e ∙ same)
  same_found e (inr s) = inr (settled_too s)

  pub told_move : (shape : Shape) (m : Mode) (n : ℕ) (ends : Option (Reply × After)) (t : Tree) (a : Action) → Heads t a → w.ends ≡ ends → Left shape m w.call n ends t → v.ends ≡ ends_after w t → (w.ends ≡ None → IsFoundBy t out (so_far w) (found w) (so_far v))
      → IsTold w before ends → IsTold v ((a, out) ∷ before) v.ends
  unfolding Left IsEnding IsOpen ends_after IsFoundBy IsTold
  told_move shape m n ends Over a h is left end finds told = absurd h
  told_move shape m n None (Makes (actions.TryLock o) next) a h is left end finds told =
      subst (λ b. IsTold v ((b, out) ∷ before) v.ends) (sym h) (told_open (actions.TryLock o) refl end is told.0 (more_found (actions.TryLock o) (finds is) told.1))
  told_move shape m n None (Makes (actions.Read o i) next) a h is left end finds told =
      subst (λ b. IsTold v ((b, out) ∷ before) v.ends) (sym h) (told_open (actions.Read o i) refl end is told.0 (more_found (actions.Read o i) (finds is) told.1))
  told_move shape m n None (Makes (actions.Write o i word) next) a h is left end finds told =
      subst (λ b. IsTold v ((b, out) ∷ before) v.ends) (sym h) (told_open (actions.Write o i word) refl end is told.0 (inr (settled_too left.0)))
  told_move shape m n None (Makes (actions.Draw draft) next) a h is left end finds told =
      subst (λ b. IsTold v ((b, out) ∷ before) v.ends) (sym h) (told_draw draft end told.1 (finds is))
  told_move shape m n None (Makes (actions.Unlock o) next) a h is left end finds told = absurd left
  told_move shape m n None (Makes (actions.Load i) next) a h is left end finds told =
      subst (λ b. IsTold v ((b, out) ∷ before) v.ends) (sym h) (told_open (actions.Load i) refl end is told.0 (same_found (finds is) told.1))
  told_move shape m n None (Makes (actions.Store i word) next) a h is left end finds told =
      subst (λ b. IsTold v ((b, out) ∷ before) v.ends) (sym h) (told_open (actions.Store i word) refl end is told.0 (same_found (finds is) told.1))
  told_move shape m n (Some e) (Makes (actions.TryLock o) next) a h is left end finds told = absurd left
  told_move shape m n (Some e) (Makes (actions.Read o i) next) a h is left end finds told = absurd left
  told_move shape m n (Some e) (Makes (actions.Write o i word) next) a h is left end finds told =
      subst (λ b. IsTold v ((b, out) ∷ before) v.ends) (sym h) (told_ending (actions.Write o i word) e refl refl end is told)
  told_move shape m n (Some e) (Makes (actions.Draw draft) next) a h is left end finds told = absurd left
  told_move shape m n (Some e) (Makes (actions.Unlock o) next) a h is left end finds told =
      subst (λ b. IsTold v ((b, out) ∷ before) v.ends) (sym h) (told_ending (actions.Unlock o) e refl refl end is told)
  told_move shape m n (Some e) (Makes (actions.Load i) next) a h is left end finds told = absurd left
  told_move shape m n (Some e) (Makes (actions.Store i word) next) a h is left end finds told =
      subst (λ b. IsTold v ((b, out) ∷ before) v.ends) (sym h) (told_ending (actions.Store i word) e refl refl end is told)

-- ---- one move: what is left, and what is counted

-- a call that is not refused enters within slots
enters : (shape : Shape) (mode : Mode) (call : Call) → early shape mode call ≡ None → EntersSlot call
enters shape mode (calls.Enter e t) none = not_refused shape mode (calls.Enter e t) none
enters shape mode _ none = tt

-- a draft of it is drawn within slots
draws_in : (shape : Shape) (mode : Mode) (call : Call) (draft : Draft) → IsDraftOf shape mode call draft → is_done draft.reply ≡ true → EntersSlot draft.call
draws_in shape mode call draft d done = subst EntersSlot (sym d.of_call) (enters shape mode call (d.ok done))

-- the next move does
pub due_in_slots : (shape : Shape) (mode : Mode) (call : Call) (n : ℕ) (ends : Option (Reply × After)) (t : Tree) (a : Action) → Heads t a → Left shape mode call n ends t → DrawsInSlots a
unfolding Left IsOpen IsEnding
due_in_slots shape mode call n ends Over a h left = absurd h
due_in_slots shape mode call n None (Makes (actions.Draw draft) next) a h left = subst DrawsInSlots (sym h) (draws_in shape mode call draft left.0)
due_in_slots shape mode call n (Some end) (Makes (actions.Draw draft) next) a h left = absurd left
due_in_slots shape mode call n ends (Makes (actions.TryLock o) next) a h left = subst DrawsInSlots (sym h) tt
due_in_slots shape mode call n ends (Makes (actions.Read o i) next) a h left = subst DrawsInSlots (sym h) tt
due_in_slots shape mode call n ends (Makes (actions.Write o i word) next) a h left = subst DrawsInSlots (sym h) tt
due_in_slots shape mode call n ends (Makes (actions.Unlock o) next) a h left = subst DrawsInSlots (sym h) tt
due_in_slots shape mode call n ends (Makes (actions.Load i) next) a h left = subst DrawsInSlots (sym h) tt
due_in_slots shape mode call n ends (Makes (actions.Store i word) next) a h left = subst DrawsInSlots (sym h) tt

module _ (k : Progress) (purpose : Purpose) (serial : ℕ) (v : Called) (out : Outcome) (call : v.work.call ≡ k.call.work.call) (mode : v.work.mode ≡ k.call.work.mode) where
  -- the core after a move
  abbrev moved : Action → Progress
  moved a = record k { own = counted k.own a out; call = v }

  -- what is left behind it
  open_on : (shape : Shape) (m : Mode) (n : ℕ) (next : Outcome → Tree) (x : Outcome) → out ≡ x → IsOpen shape m k.call.work.call n (next x) → tree_of v.work ≡ next out → IsOpen shape m v.work.call n (tree_of v.work)
  open_on shape m n next x is o tree =
      subst (λ q. IsOpen shape m q n (tree_of v.work)) (sym call)
      (subst (IsOpen shape m k.call.work.call n) (sym (tree ∙ ap next is)) o)

  -- before the Draw, by a move that logs nothing
  stays_open : (a : Action) (m : ℕ) (st : IsUndrawn k purpose serial) → IsOpen k.own.config k.own.mode v.work.call m (tree_of v.work) → mode_with a k.own.mode ≡ k.own.mode → entries_by a ≡ 0 → length (answered_by a out) + m ≤ st.loads
      → v.work.ends ≡ None → CallStands (moved a) purpose serial v.work.ends
  unfolding CallStands
  stays_open a m st o same logs few ends = subst (CallStands (moved a) purpose serial) (sym ends) (record {
    loads = m;
    opens = subst (λ x. IsOpen k.own.config x v.work.call m (tree_of v.work)) (sym same) o;
    mode = mode ∙ st.mode ∙ sym same;
    serial = omega (arith, st.serial, logs);
    events = omega (arith, st.events, logs);
    answers = omega (arith, st.answers, few);
  })

  -- behind it
  stays_drawn : (a : Action) (end : Reply × After) (st : IsDrawn k purpose serial) → IsEnding (tree_of v.work) → entries_by a ≡ 0 → length (answered_by a out) ≡ 0 → v.work.ends ≡ Some end → CallStands (moved a) purpose serial v.work.ends
  unfolding CallStands
  stays_drawn a end st e logs hears ends = subst (CallStands (moved a) purpose serial) (sym ends) (record {
    ending = e;
    serial = omega (arith, st.serial, logs);
    events = omega (arith, st.events, logs);
    answers = omega (arith, st.answers, hears);
  })

  -- by the Draw
  is_drawn : (draft : Draft) (end : Reply × After) (st : IsUndrawn k purpose serial) → IsEnding (tree_of v.work) → v.work.ends ≡ Some end → CallStands (moved (actions.Draw draft)) purpose serial v.work.ends
  unfolding CallStands answered_by
  is_drawn draft end st e ends = subst (CallStands (moved (actions.Draw draft)) purpose serial) (sym ends) (record {
    ending = e;
    serial = omega (arith, st.serial);
    events = omega (arith, st.events);
    answers = omega (arith, st.answers);
  })

  ending_on : (next : Outcome → Tree) (x : Outcome) → out ≡ x → IsEnding (next x) → tree_of v.work ≡ next out → IsEnding (tree_of v.work)
  ending_on next x is e tree = subst IsEnding (sym (tree ∙ ap next is)) e

  pub stands_move : (ends : Option (Reply × After)) (t : Tree) (a : Action) → tree_of k.call.work ≡ t → k.call.work.ends ≡ ends → Heads t a → IsOutcome t out → tree_of v.work ≡ after t out → v.work.ends ≡ ends_after k.call.work t
      → CallStands k purpose serial ends → CallStands (moved a) purpose serial v.work.ends
  unfolding CallStands IsOpen IsEnding ends_after action_outcome answered_by word_in
  stands_move ends Over a tree is h o new end st = absurd h
  stands_move None (Makes (actions.TryLock l) next) a tree is h o new end st =
      let r = subst (IsOpen k.own.config k.own.mode k.call.work.call st.loads) tree st.opens in
      subst (λ b. CallStands (moved b) purpose serial v.work.ends) (sym h) (stays_open (actions.TryLock l) st.loads st (open_on _ _ _ next _ o.1 (r o.0) new) refl refl (omega arith) (end ∙ is))
  stands_move None (Makes (actions.Read l i) next) a tree is h o new end st =
      let r = subst (IsOpen k.own.config k.own.mode k.call.work.call st.loads) tree st.opens in
      subst (λ b. CallStands (moved b) purpose serial v.work.ends) (sym h) (stays_open (actions.Read l i) st.loads st (open_on _ _ _ next _ o.1 (r o.0) new) refl refl (omega arith) (end ∙ is))
  stands_move None (Makes (actions.Write l i word) next) a tree is h o new end st =
      let r = subst (IsOpen k.own.config k.own.mode k.call.work.call st.loads) tree st.opens in
      subst (λ b. CallStands (moved b) purpose serial v.work.ends) (sym h) (stays_open (actions.Write l i word) st.loads st (open_on _ _ _ next _ o.1 r.1 new) refl refl (omega arith) (end ∙ is))
  stands_move None (Makes (actions.Draw draft) next) a tree is h o new end st =
      let r = subst (IsOpen k.own.config k.own.mode k.call.work.call st.loads) tree st.opens in
      subst (λ b. CallStands (moved b) purpose serial v.work.ends) (sym h) (is_drawn draft _ st (ending_on next _ o.1 (r.1 o.0) new) end)
  stands_move None (Makes (actions.Unlock l) next) a tree is h o new end st =
      absurd (subst (IsOpen k.own.config k.own.mode k.call.work.call st.loads) tree st.opens)
  stands_move None (Makes (actions.Load i) next) a tree is h o new end st =
      let r = subst (IsOpen k.own.config k.own.mode k.call.work.call st.loads) tree st.opens in
      let one : length (word_in out) ≡ 1 = ap (λ x. length (word_in x)) o.1 in
      subst (λ b. CallStands (moved b) purpose serial v.work.ends) (sym h) (stays_open (actions.Load i) (st.loads - 1) st (open_on _ _ _ next _ o.1 (r.1 o.0) new) refl refl (omega (arith, r.0, one)) (end ∙ is))
  stands_move None (Makes (actions.Store i word) next) a tree is h o new end st =
      let r = subst (IsOpen k.own.config k.own.mode k.call.work.call st.loads) tree st.opens in
      subst (λ b. CallStands (moved b) purpose serial v.work.ends) (sym h) (stays_open (actions.Store i word) st.loads st (open_on _ _ _ next _ o.1 r new) refl refl (omega arith) (end ∙ is))
  stands_move (Some e) (Makes (actions.TryLock l) next) a tree is h o new end st = absurd (subst IsEnding tree st.ending)
  stands_move (Some e) (Makes (actions.Read l i) next) a tree is h o new end st = absurd (subst IsEnding tree st.ending)
  stands_move (Some e) (Makes (actions.Write l i word) next) a tree is h o new end st =
      subst (λ b. CallStands (moved b) purpose serial v.work.ends) (sym h) (stays_drawn (actions.Write l i word) e st (ending_on next _ o.1 (subst IsEnding tree st.ending) new) refl refl (end ∙ is))
  stands_move (Some e) (Makes (actions.Draw draft) next) a tree is h o new end st = absurd (subst IsEnding tree st.ending)
  stands_move (Some e) (Makes (actions.Unlock l) next) a tree is h o new end st =
      subst (λ b. CallStands (moved b) purpose serial v.work.ends) (sym h) (stays_drawn (actions.Unlock l) e st (ending_on next _ o.1 (subst IsEnding tree st.ending) new) refl refl (end ∙ is))
  stands_move (Some e) (Makes (actions.Load i) next) a tree is h o new end st = absurd (subst IsEnding tree st.ending)
  stands_move (Some e) (Makes (actions.Store i word) next) a tree is h o new end st =
      subst (λ b. CallStands (moved b) purpose serial v.work.ends) (sym h) (stays_drawn (actions.Store i word) e st (ending_on next _ o.1 (subst IsEnding tree st.ending) new) refl refl (end ∙ is))
