-- A core follows its course: by a move of a call, and by private work.
use Rattle.std.proofs.Common.{◌≡◌, ◌⊎◌, inl, inr, ◌∙◌, ◌+◌, ◌<◌, ◌≤◌, ℕ, Bool, true, false, cond, Option, Some, None, List, [], ◌∷◌, ◌++◌, ap, sym, refl, subst, arith}
use Rattle.mon_types.specs.Replies.{is_done}
use Rattle.mon_types.specs.Modes.{own_slot, own_thread}
use Rattle.mon_types.specs.declared.thread.Mode.{Mode}
use Rattle.mon_types.specs.declared.thread.Mode.TheVariants as modes
use Rattle.mon_types.specs.declared.call.Call.{Call}
use Rattle.mon_types.specs.declared.call.Call.TheVariants as calls
use Rattle.mon_types.specs.declared.reply.Reply.{Reply}
use Rattle.mon_model.specs.OnCore.{mode_by}
use Rattle.hist.specs.declared.event.Event.{Event}
use Rattle.hist.specs.declared.event.Event.TheVariants as events
use Rattle.hist.specs.declared.event.Why.{Why}
use Rattle.core_context.specs.declared.after.After.{After}
use Rattle.core_context.specs.declared.origin.Origin.{Origin}
use Rattle.mon_records.specs.Rebuilt.{state_of}
use Rattle.protocol.specs.declared.action.Action.{Action}
use Rattle.protocol.specs.declared.action.Action.TheVariants as actions
use Rattle.protocol.specs.declared.action.Move.{Move}
use Rattle.protocol.specs.declared.action.Move.TheVariants as moves
use Rattle.protocol.specs.declared.action.Outcome.{Outcome}
use Rattle.protocol.specs.declared.action.Outcome.TheVariants as outcomes
use Rattle.protocol.specs.Views.{Moves, core_log, answers_of, logged, answered}
use Rattle.protocol.specs.CallTree.{Tree, Over, Makes}
use Rattle.core_behaviour.specs.Course.{Course, Ends, Acts, first_of, behind, left_of, IsBegun}
use Rattle.core_behaviour.specs.Core.{Core, made}
use Rattle.core_behaviour.specs.Called.{in_call, found_in, reply_in, left_if}
use Rattle.call_machine.specs.declared.work.Work.{Work as CallWork}
use Rattle.call_machine.specs.Kept.{Called}
use Rattle.call_machine.specs.Meaning.{tree_of, Heads, after}
use Rattle.core_machine.specs.declared.own.Own.{Own}
use Rattle.core_machine.specs.declared.step.Step.{Step}
use Rattle.core_machine.specs.declared.step.Step.TheVariants as steps
use Rattle.core_machine.specs.declared.work.Purpose.{Purpose}
use Rattle.core_machine.specs.declared.work.Work.{Work}
use Rattle.core_machine.specs.declared.work.Work.TheVariants as works
use Rattle.core_machine.specs.declared.progress.Progress.{Progress}
use Rattle.core_machine.specs.Own.{core_of, IsCounted, EntersSlot, DrawsInSlots, mode_with, counted}
use Rattle.core_machine.specs.Meaning.{after_call, call_course, IsTold, Stands, due_in, due_at, due}
use Rattle.core_machine.specs.Kept.{IsOwn, IsSound, weight}
use Rattle.core_machine.specs.Effort.{effort, IsLeft}
use Rattle.core_machine.specs.Follows.{core_after, Follows, told, GoesOn, Stops, moves_after, as_step, step_of, Gives, GoesBy, IsDueStep}
use Rattle.core_machine.proofs.Counts.{move_counts}
use Rattle.core_machine.proofs.Efforts.{less_left}

-- ---- a core after a move

mode_slots : (call : Call) (mode : Mode) → EntersSlot call → own_slot mode < 8 → own_thread mode < 16 → (own_slot (mode_by call mode) < 8) × (own_thread (mode_by call mode) < 16)
mode_slots (calls.Enter e t) mode h slot thread = h
mode_slots calls.Exit mode h slot thread = (omega arith, omega arith)
mode_slots (calls.Aex saved) mode h slot thread = (omega arith, omega arith)
mode_slots _ mode h slot thread = (slot, thread)

done_slots : (b : Bool) (call : Call) (mode : Mode) → (b ≡ true → EntersSlot call) → own_slot mode < 8 → own_thread mode < 16
    → (own_slot (cond b (mode_by call mode) mode) < 8) × (own_thread (cond b (mode_by call mode) mode) < 16)
done_slots true call mode h slot thread = mode_slots call mode (h refl) slot thread
done_slots false call mode h slot thread = (slot, thread)

with_slots : (a : Action) (mode : Mode) → DrawsInSlots a → own_slot mode < 8 → own_thread mode < 16 → (own_slot (mode_with a mode) < 8) × (own_thread (mode_with a mode) < 16)
with_slots (actions.TryLock o) mode h slot thread = (slot, thread)
with_slots (actions.Read o i) mode h slot thread = (slot, thread)
with_slots (actions.Write o i word) mode h slot thread = (slot, thread)
with_slots (actions.Draw draft) mode h slot thread = done_slots (is_done draft.reply) draft.call mode h slot thread
with_slots (actions.Unlock o) mode h slot thread = (slot, thread)
with_slots (actions.Load i) mode h slot thread = (slot, thread)
with_slots (actions.Store i word) mode h slot thread = (slot, thread)

pub own_move : (own : Own) (a : Action) (out : Outcome) → IsOwn own → DrawsInSlots a → IsOwn (counted own a out)
own_move own a out h d =
    let s = with_slots a own.mode d h.slot h.thread in
    record {
      valid = h.valid;
      core = h.core;
      slot = s.0;
      thread = s.1;
      calls = omega (arith, h.calls);
    }

-- ---- a move of a call

in_call_move : (t : Tree) (a : Action) (out : Outcome) (before : List (Action × Outcome)) (c : Core) (next : Core → List (Action × Outcome) → Course) → Heads t a
    → (first_of (in_call t before c next) ≡ Some (moves.InCall a))
    × (behind (in_call t before c next) out ≡ in_call (after t out) ((a, out) ∷ before) (made c (moves.InCall a) out) next)
unfolding in_call first_of behind
in_call_move Over a out before c next h = absurd h
in_call_move (Makes x follows) a out before c next h =
    (ap (λ y. Some (moves.InCall y)) (sym h), ap (λ y. in_call (follows out) ((y, out) ∷ before) (made c (moves.InCall y) out) next) (sym h))

module _ (k : Progress) (origin : Origin) (purpose : Purpose) (serial : ℕ) (v : Called) (a : Action) (out : Outcome)
    (call : v.work.call ≡ k.call.work.call) (config : v.work.config ≡ k.call.work.config) (mode : v.work.mode ≡ k.call.work.mode) where
  abbrev moved : Progress
  moved = record k { own = counted k.own a out; call = v }

  -- what follows the call is as it was
  same_next : (t : Tree) (before : List (Action × Outcome)) (c : Core)
      → in_call t before c (λ d ms. after_call k purpose (left_if origin k.call.work.call (state_of k.call.work.config k.call.work.mode (found_in ms)) (reply_in ms) d))
      ≡ in_call t before c (λ d ms. after_call moved purpose (left_if origin v.work.call (state_of v.work.config v.work.mode (found_in ms)) (reply_in ms) d))
  same_next t before c =
      ap (λ q. in_call t before c (λ d ms. after_call k purpose (left_if origin q (state_of k.call.work.config k.call.work.mode (found_in ms)) (reply_in ms) d))) (sym call)
      ∙ ap (λ m. in_call t before c (λ d ms. after_call k purpose (left_if origin v.work.call (state_of m k.call.work.mode (found_in ms)) (reply_in ms) d))) (sym config)
      ∙ ap (λ m. in_call t before c (λ d ms. after_call k purpose (left_if origin v.work.call (state_of v.work.config m (found_in ms)) (reply_in ms) d))) (sym mode)

  pub follows_move : Heads (tree_of k.call.work) a → tree_of v.work ≡ after (tree_of k.call.work) out → k.work ≡ works.Calls origin purpose serial
      → ((before : List (Action × Outcome)) → IsTold k.call.work before k.call.work.ends → IsTold v.work ((a, out) ∷ before) v.work.ends)
      → (course : Course) (ms : Moves) → Follows k course ms → Follows moved course (told (first_of (left_of course ms)) out ms)
  unfolding Stands left_of core_log answers_of logged answered
  follows_move h tree is tells course ms f =
      let c = core_after k.own ms in
      let s : Stands k (works.Calls origin purpose serial) c (left_of course ms) = subst (λ w. Stands k w c (left_of course ms)) is f.left in
      let next = λ (d : Core) (xs : List (Action × Outcome)). after_call k purpose (left_if origin k.call.work.call (state_of k.call.work.config k.call.work.mode (found_in xs)) (reply_in xs) d) in
      let step = in_call_move (tree_of k.call.work) a out s.0 c next h in
      let first : first_of (left_of course ms) ≡ Some (moves.InCall a) = ap first_of s.1 ∙ step.0 in
      let e : behind (left_of course ms) out ≡ call_course moved origin purpose ((a, out) ∷ s.0) (made c (moves.InCall a) out) =
      ap (λ x. behind x out) s.1 ∙ step.1 ∙ ap (λ t. in_call t ((a, out) ∷ s.0) (made c (moves.InCall a) out) next) (sym tree) ∙ same_next (tree_of v.work) ((a, out) ∷ s.0) (made c (moves.InCall a) out) in
      subst (λ o. Follows moved course (told o out ms)) (sym first) (record {
        begun = (f.begun, first);
        counts = move_counts k.own (core_log k.own.number ms) (answers_of ms) a out f.counts;
        left = subst (λ w. Stands moved w (made c (moves.InCall a) out) (behind (left_of course ms) out)) (sym is) ((a, out) ∷ s.0, e, tells s.0 s.2);
      })

-- ---- private work

pub goes_follows : (old new : Progress) (course : Course) (ms : Moves) → GoesOn old new → Follows old course ms → Follows new course ms
goes_follows old new course ms g f =
    let h = g.goes (core_log old.own.number ms) (answers_of ms) (left_of course ms) f.counts f.left in
    let here = subst (λ n. IsCounted new.own (core_log n ms) (answers_of ms) × Stands new new.work (core_of new.own (core_log n ms) (answers_of ms)) (left_of course ms)) (sym g.number) h in
    record { begun = f.begun; counts = here.0; left = here.1 }

-- what private work without a stop leaves
pub record HasGone (old new : Progress) : Type 0 where
  pub sound : IsSound new
  pub follows : (course : Course) (ms : Moves) → Follows old course ms → Follows new course ms
  pub counts : new.own.counts ≡ old.own.counts
  pub begun : (new.begun ≡ old.begun) ⊎ (new.begun ≡ old.own.counts)
  pub number : new.own.number ≡ old.own.number
  pub left : effort new ≤ effort old

pub gone_nowhere : (k : Progress) → IsSound k → HasGone k k
gone_nowhere k s = record { sound = s; follows = λ course ms f. f; counts = refl; begun = inl refl; number = refl; left = omega arith }

-- a line that is begun in one step more
pub begun_on : (old mid new : Progress) → HasGone old mid → (new.begun ≡ mid.begun) ⊎ (new.begun ≡ mid.own.counts) → (new.begun ≡ old.begun) ⊎ (new.begun ≡ old.own.counts)
begun_on old mid new h (inr e) = inr (e ∙ h.counts)
begun_on old mid new h (inl e) = begun_same h.begun e
  where
    begun_same : (mid.begun ≡ old.begun) ⊎ (mid.begun ≡ old.own.counts) → new.begun ≡ mid.begun → (new.begun ≡ old.begun) ⊎ (new.begun ≡ old.own.counts)
    begun_same (inl f) e = inl (e ∙ f)
    begun_same (inr f) e = inr (e ∙ f)

-- one step more
pub gone_on : (old mid new : Progress) → HasGone old mid → IsSound new → GoesOn mid new → (new.begun ≡ mid.begun) ⊎ (new.begun ≡ mid.own.counts) → weight new < weight mid → HasGone old new
gone_on old mid new h s g b low = record {
  sound = s;
  follows = λ course ms f. goes_follows mid new course ms g (h.follows course ms f);
  counts = g.counts ∙ h.counts;
  begun = begun_on old mid new h b;
  number = g.number ∙ h.number;
  left = let less = less_left mid new low in omega (arith, less, h.left);
}

-- ---- what is given

due_in_call : (t : Tree) (before : List (Action × Outcome)) (c : Core) (next : Core → List (Action × Outcome) → Course) (move : Move) → due_in t ≡ Some move
    → (first_of (in_call t before c next) ≡ Some move) × (as_step move ≡ steps.Move move)
unfolding in_call first_of
due_in_call Over before c next move e = absurd (cc)
due_in_call (Makes action follows) before c next move e =
    let same : move ≡ moves.InCall action = cc in
    (ap (λ m. Some m) (sym same), ap as_step same ∙ ap (λ m. steps.Move m) (sym same))

-- a move that is due, of a core that follows its course, is the first that is left
due_first : (k : Progress) (c : Core) (course : Course) (w : Work) (move : Move) → Stands k w c course → due_at k w ≡ Some move → (first_of course ≡ Some move) × (as_step move ≡ steps.Move move)
unfolding Stands
due_first k c course works.Begins move st e = absurd (cc)
due_first k c course works.Line move st e = absurd (cc)
due_first k c course (works.Calls origin purpose serial) move st e =
    let d = due_in_call (tree_of k.call.work) st.0 c (λ d ms. after_call k purpose (left_if origin k.call.work.call (state_of k.call.work.config k.call.work.mode (found_in ms)) (reply_in ms) d)) move e in
    (ap first_of st.1 ∙ d.0, d.1)
due_first k c course works.Over move st e = absurd (cc)

pub gives_move : (old new : Progress) (move : Move) → HasGone old new → due new ≡ Some move → (course : Course) (ms : Moves) → Follows old course ms → Gives new course ms (Some (steps.Move move))
gives_move old new move h d course ms f =
    let g = h.follows course ms f in
    let first = due_first new (core_after new.own ms) (left_of course ms) new.work move g.left d in
    record { first = sym (ap step_of first.0 ∙ ap (λ s. Some s) first.1); follows = g }

pub gives_none : (old new : Progress) → HasGone old new → new.work ≡ works.Over → (course : Course) (ms : Moves) → Follows old course ms → Gives new course ms None
unfolding Stands first_of
gives_none old new h is course ms f =
    let g = h.follows course ms f in
    let e : left_of course ms ≡ Ends = subst (λ w. Stands new w (core_after new.own ms) (left_of course ms)) is g.left in
    record { first = sym (ap (λ x. step_of (first_of x)) e); follows = g }

pub gives_stop : (old mid new : Progress) (line : ℕ) (why : Why) → HasGone old mid → Stops mid new line why → (course : Course) (ms : Moves) → Follows old course ms → Gives new course ms (Some (steps.Stop line why))
unfolding left_of core_log answers_of logged answered
gives_stop old mid new line why h st course ms f =
    let g = h.follows course ms f in
    let s = st.goes (core_log mid.own.number ms) (answers_of ms) (left_of course ms) g.counts g.left in
    let here = subst (λ n. IsCounted new.own (core_log n ms ++ events.Stop line why ∷ []) (answers_of ms ++ []) × Stands new new.work (core_of new.own (core_log n ms ++ events.Stop line why ∷ []) (answers_of ms ++ [])) (behind (left_of course ms) outcomes.Done)) (sym st.number) (s.1, s.2) in
    record {
      first = sym (ap step_of s.0);
      follows = record { begun = (g.begun, s.0); counts = here.0; left = here.1 };
    }

-- a step of private work that gives something gives a stop
pub gives_step : (old mid new : Progress) (step : Step) → HasGone old mid → GoesBy mid (Some step) new → (course : Course) (ms : Moves) → Follows old course ms → Gives new course ms (Some step)
gives_step old mid new (steps.Stop line why) h g = gives_stop old mid new line why h g
gives_step old mid new (steps.Move move) h g = absurd g

pub step_due : (mid new : Progress) (step : Step) → GoesBy mid (Some step) new → IsDueStep new (Some step)
step_due mid new (steps.Stop line why) g = tt
step_due mid new (steps.Move move) g = absurd g

pub step_number : (mid new : Progress) (step : Step) → GoesBy mid (Some step) new → new.own.number ≡ mid.own.number
step_number mid new (steps.Stop line why) g = g.number
step_number mid new (steps.Move move) g = absurd g

pub step_left : (old mid new : Progress) (step : Step) → HasGone old mid → GoesBy mid (Some step) new → weight new < weight mid → IsLeft (effort old) (Some step) (effort new)
step_left old mid new (steps.Stop line why) h g low = let less = less_left mid new low in omega (arith, less, h.left)
step_left old mid new (steps.Move move) h g low = absurd g
