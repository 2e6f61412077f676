-- All that is kept, together: each permitted move keeps it, and so it holds of whatever a list of permitted moves leads to.
use Rattle.std.proofs.Common.{◌≡◌, ◌<◌, ◌/◌, ◌%◌, ◌∙◌, ℕ, zero, suc, true, List, [], ◌∷◌, ◌++◌, ap, sym, refl, subst, append-nil}
use Rattle.mon_types.specs.Shape.{Shape, is_shape}
use Rattle.mon_types.specs.declared.object.ObjectId.{ObjectId}
use Rattle.mon_model.specs.State.{State, start}
use Rattle.hist.specs.declared.event.Entry.{Entry}
use Rattle.loaded_pages.specs.Content.{Content, zero_content}
use Rattle.protocol.specs.declared.action.Action.TheVariants as actions
use Rattle.protocol.specs.declared.action.Draft.{Draft}
use Rattle.protocol.specs.declared.action.Move.{Move}
use Rattle.protocol.specs.declared.action.Move.TheVariants as moves
use Rattle.protocol.specs.declared.action.Outcome.{Outcome}
use Rattle.protocol.specs.declared.action.Outcome.TheVariants as outcomes
use Rattle.protocol_laws.specs.Known.{IsSound}
use Rattle.protocol.specs.Places.{Counter, Lock, Row, Dram, Memory, with_word, first_memory}
use Rattle.protocol.specs.Moves.{action_place, place_of, word_found, try_outcome, action_outcome, outcome_of, try_leaves, action_leaves, leaves, left_at, memory_after_move}
use Rattle.protocol.specs.Views.{Moves, entry_of, held_of, answers_of, answered, answered_by, call_moves, call_with, issuer_of, own_lock_word}
use Rattle.protocol.specs.Permitted.{Permitted, MayGoOn}
use Rattle.protocol.specs.Runs.{Made, moves_with, moves_of, memory_after, IsRun}
use Rattle.protocol_laws.specs.Safe.{drawn_content}
use Rattle.protocol_laws.proofs.Steps.{at_draw}
use Rattle.protocol_steps.proofs.Views.{each_moves}
use Rattle.protocol_steps.proofs.Kept.{Kept, not_free}
use Rattle.protocol_steps.proofs.Moving.{draft_in, history_by, state_by, content_drawn, same_words, at_move}
use Rattle.protocol_steps.proofs.Whole.{keep, kept_start}
use Rattle.protocol_steps.proofs.CallKept.{CallKept, call_frame, call_idle}
use Rattle.protocol_steps.proofs.CallMoving.{call_read, call_load, call_met, call_taken, call_write, call_store, call_unlock, call_draw, call_outside, call_stop}
use Rattle.protocol_steps.proofs.Told.{Told, told_grow, answers_grow, told_drawn}

-- all that is kept
pub record Together (shape : Shape) (memory : Memory) (moved : ℕ → Moves) (h : List Entry) (s : State) (content : Content) : Type 0 where
  pub kept : Kept shape memory moved h s content
  pub more : (core : ℕ) → core < shape.cores → CallKept shape s content memory core (moved core)
  pub told : Told shape (λ core. answers_of (moved core)) h content

-- ---- one move

module _ (shape : Shape) (is : is_shape shape ≡ true) (memory : Memory) (moved : ℕ → Moves) (h : List Entry) (s : State) (content : Content) (kept : Kept shape memory moved h s content) (core : ℕ) (lt : core < shape.cores) where
  -- the core that moves
  module _ (more : CallKept shape s content memory core (moved core)) where
    own_try : (o : ObjectId) → MayGoOn shape core (moved core) (actions.TryLock o) → (word : ℕ) → memory (Lock o) ≡ word → CallKept shape s content (with_word memory (Lock o) (try_leaves (own_lock_word core (moved core)) word)) core ((moves.InCall (actions.TryLock o), try_outcome word) ∷ moved core)
    unfolding try_leaves try_outcome
    own_try o p zero e = call_taken shape is memory moved h s content kept core lt more o (own_lock_word core (moved core)) e (not_free shape is memory moved h s content kept core lt o e) p
    own_try o p (suc word) e =
        subst (λ n. CallKept shape s content n core ((moves.InCall (actions.TryLock o), try_outcome (suc word)) ∷ moved core))
        (sym (ap (λ z. with_word memory (Lock o) z) (sym e) ∙ same_words memory (Lock o)))
        (call_met shape is memory moved h s content kept core lt more o (suc word / 2 % 16) (suc word / 32) p)

    same_row : (made : Move × Outcome) (o : ObjectId) (i : ℕ) → CallKept shape s content memory core (made ∷ moved core) → CallKept shape s content (with_word memory (Row o i) (memory (Row o i))) core (made ∷ moved core)
    same_row made o i after = subst (λ n. CallKept shape s content n core (made ∷ moved core)) (sym (same_words memory (Row o i))) after

    same_dram : (made : Move × Outcome) (i : ℕ) → CallKept shape s content memory core (made ∷ moved core) → CallKept shape s content (with_word memory (Dram i) (memory (Dram i))) core (made ∷ moved core)
    same_dram made i after = subst (λ n. CallKept shape s content n core (made ∷ moved core)) (sym (same_words memory (Dram i))) after

    own_call : (move : Move) → Permitted shape core (moved core) move → CallKept shape (state_by core (draft_in move) (outcome_of move (word_found memory (place_of move))) s) (content_drawn (draft_in move) (answers_of (moved core)) s content) (memory_after_move (own_lock_word core (moved core)) memory move) core ((move, outcome_of move (word_found memory (place_of move))) ∷ moved core)
    unfolding memory_after_move left_at place_of action_place word_found outcome_of action_outcome leaves action_leaves draft_in state_by content_drawn call_moves call_with
    own_call (moves.InCall (actions.TryLock o)) p = own_try o p (memory (Lock o)) refl
    own_call (moves.InCall (actions.Read o i)) p = same_row (moves.InCall (actions.Read o i), outcomes.Word (memory (Row o i))) o i (call_read shape is memory moved h s content kept core lt more o i (outcomes.Word (memory (Row o i))) p)
    own_call (moves.InCall (actions.Write o i word)) p = call_write shape is memory moved h s content kept core lt more o i word p
    own_call (moves.InCall (actions.Draw draft)) p = call_draw shape is memory moved h s content kept core lt more draft p
    own_call (moves.InCall (actions.Unlock o)) p = call_unlock shape is memory moved h s content kept core lt more o p
    own_call (moves.InCall (actions.Load i)) p = same_dram (moves.InCall (actions.Load i), outcomes.Word (memory (Dram i))) i (call_load shape is memory moved h s content kept core lt more i (outcomes.Word (memory (Dram i))) p)
    own_call (moves.InCall (actions.Store i word)) p = call_store shape is memory moved h s content kept core lt more i word p
    own_call (moves.Look r owner) p = call_outside shape is memory moved h s content kept core lt more (moves.Look r owner) _ _ p.outside
    own_call (moves.Load i) p = call_outside shape is memory moved h s content kept core lt more (moves.Load i) _ _ p.outside
    own_call (moves.Store i word) p = call_outside shape is memory moved h s content kept core lt more (moves.Store i word) _ _ p.outside
    own_call (moves.Swap i old word) p = call_outside shape is memory moved h s content kept core lt more (moves.Swap i old word) _ _ p.outside
    own_call (moves.Stop line why) p = call_stop shape is memory moved h s content kept core lt more line why

  -- what is told
  module _ (told : Told shape (λ core. answers_of (moved core)) h content) where
    told_same : (made : Made) → Told shape (λ q. answers_of (moves_with q made (moved q))) h content
    told_same made =
        told_grow shape (λ core. answers_of (moved core)) (λ q. answers_of (moves_with q made (moved q))) (λ q lq. answers_grow moved made q) h content kept.stands.cores told

    own_answers : (draft : Draft) (out : Outcome) → answers_of (moves_with core (record { core = core; move = moves.InCall (actions.Draw draft); outcome = out }) (moved core)) ≡ answers_of (moved core)
    unfolding answers_of answered answered_by
    own_answers draft out = each_moves (λ q ms. core ≡ q → answers_of ms ≡ answers_of (moved q)) moved (record { core = core; move = moves.InCall (actions.Draw draft); outcome = out })
        (λ e. append-nil (answers_of (moved core))) (λ q ne e. absurd (ne e)) core refl

    sound_of : IsSound (issuer_of core (moved core)).core s content
    unfolding issuer_of
    sound_of = kept.sound core lt

    told_draw : (draft : Draft) (ticket : ℕ) → MayGoOn shape core (moved core) (actions.Draw draft) → Told shape (λ q. answers_of (moves_with q (record { core = core; move = moves.InCall (actions.Draw draft); outcome = outcomes.Ticket ticket }) (moved q))) (h ++ entry_of core draft ticket ∷ []) (drawn_content s draft (answers_of (moved core)) content)
    told_draw draft ticket p =
        let made : Made = record { core = core; move = moves.InCall (actions.Draw draft); outcome = outcomes.Ticket ticket } in
        let at = at_draw (issuer_of core (moved core)) p.call (answers_of (moved core)) s content (held_of (moved core)) memory draft ticket p.next (at_move shape is memory moved h s content kept core lt (actions.Draw draft) p) sound_of in
        told_drawn shape (λ q. answers_of (moves_with q made (moved q))) h s content core draft ticket (answers_of (moved core)) lt (own_answers draft (outcomes.Ticket ticket)) kept.now at.0.read (told_same made)

    told_move : (move : Move) → Permitted shape core (moved core) move → Told shape (λ q. answers_of (moves_with q (record { core = core; move = move; outcome = outcome_of move (word_found memory (place_of move)) }) (moved q))) (history_by core (draft_in move) (outcome_of move (word_found memory (place_of move))) h) (content_drawn (draft_in move) (answers_of (moved core)) s content)
    unfolding outcome_of action_outcome place_of action_place word_found draft_in history_by content_drawn
    told_move (moves.InCall (actions.Draw draft)) p = told_draw draft (suc (memory Counter)) p
    told_move (moves.InCall (actions.TryLock o)) p = told_same _
    told_move (moves.InCall (actions.Read o i)) p = told_same _
    told_move (moves.InCall (actions.Write o i word)) p = told_same _
    told_move (moves.InCall (actions.Unlock o)) p = told_same _
    told_move (moves.InCall (actions.Load i)) p = told_same _
    told_move (moves.InCall (actions.Store i word)) p = told_same _
    told_move (moves.Look r owner) p = told_same _
    told_move (moves.Load i) p = told_same _
    told_move (moves.Store i word) p = told_same _
    told_move (moves.Swap i old word) p = told_same _
    told_move (moves.Stop line why) p = told_same _

pub keep_together : (shape : Shape) → is_shape shape ≡ true → (memory : Memory) (moved : ℕ → Moves) (h : List Entry) (s : State) (content : Content) → Together shape memory moved h s content → (core : ℕ) → core < shape.cores → (move : Move) → Permitted shape core (moved core) move → (out : Outcome) → out ≡ outcome_of move (word_found memory (place_of move)) →
    Together shape (memory_after_move (own_lock_word core (moved core)) memory move) (λ q. moves_with q (record { core = core; move = move; outcome = out }) (moved q)) (history_by core (draft_in move) out h) (state_by core (draft_in move) out s) (content_drawn (draft_in move) (answers_of (moved core)) s content)
keep_together shape is memory moved h s content all core lt move p out e =
    let n : Memory = memory_after_move (own_lock_word core (moved core)) memory move in
    let content1 : Content = content_drawn (draft_in move) (answers_of (moved core)) s content in
    let now : Outcome = outcome_of move (word_found memory (place_of move)) in
    let made : Made = record { core = core; move = move; outcome = now } in
    let step = keep shape is memory moved h s content all.kept core lt move p in
    subst (λ z. Together shape n (λ q. moves_with q (record { core = core; move = move; outcome = z }) (moved q)) (history_by core (draft_in move) z h) (state_by core (draft_in move) z s) content1) (sym e)
    (record {
      kept = step.kept;
      more = λ q lq. each_moves (λ q ms. q < shape.cores → CallKept shape (state_by core (draft_in move) now s) content1 n q ms) moved made
          (λ l. own_call shape is memory moved h s content all.kept core lt (all.more core lt) move p)
          (λ q ne l. call_frame shape q (moved q) s (state_by core (draft_in move) now s) content content1 memory n all.kept.shaped (all.more q l) (step.others q l ne)) q lq;
      told = told_move shape is memory moved h s content all.kept core lt all.told move p;
    })

-- ---- every list of moves

pub together_start : (shape : Shape) → is_shape shape ≡ true → (dram : List ℕ) → Together shape (first_memory shape dram) (λ core. []) [] (start shape) zero_content
unfolding call_moves
together_start shape is dram = record {
  kept = kept_start shape is dram;
  more = λ core lt. call_idle shape (start shape) zero_content (first_memory shape dram) core [] refl;
  told = record { read = tt; is = refl };
}

-- what a list of permitted moves leads to
pub record Reached (shape : Shape) (dram : List ℕ) (run : List Made) : Type 0 where
  pub h : List Entry
  pub state : State
  pub content : Content
  pub all : Together shape (memory_after shape dram run) (λ core. moves_of core run) h state content

pub reached : (shape : Shape) → is_shape shape ≡ true → (dram : List ℕ) (run : List Made) → IsRun shape dram run → Reached shape dram run
unfolding memory_after moves_of
reached shape is dram [] runs = record { h = []; state = start shape; content = zero_content; all = together_start shape is dram }
reached shape is dram (made ∷ run) runs =
    let before = reached shape is dram run runs.1 in
    record {
      h = history_by made.core (draft_in made.move) made.outcome before.h;
      state = state_by made.core (draft_in made.move) made.outcome before.state;
      content = content_drawn (draft_in made.move) (answers_of (moves_of made.core run)) before.state before.content;
      all = keep_together shape is (memory_after shape dram run) (λ core. moves_of core run) before.h before.state before.content before.all made.core runs.0.core made.move runs.0.permitted made.outcome runs.0.outcome;
    }
