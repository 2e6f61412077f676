-- Each permitted move keeps what is kept, and so it holds of whatever a list of permitted moves leads to.
use Rattle.std.proofs.Common.{◌≡◌, inl, inr, ◌/◌, ◌%◌, ◌<◌, ◌∙◌, ℕ, zero, suc, true, false, List, [], replicate, ap, sym, refl, subst, arith}
use Rattle.std.proofs.lemmas.Bool.{cases_lt}
use Rattle.std.proofs.lemmas.List.{get_or-replicate, get_or_past}
use Rattle.std.proofs.lemmas.Bool.Decides.{nat_tests}
use Rattle.mon_types.specs.Shape.{Shape, is_shape}
use Rattle.mon_types.specs.Enclaves.{empty_enclave}
use Rattle.mon_types.specs.declared.region.Owner.TheVariants as owners
use Rattle.mon_types.specs.declared.region.Region.TheVariants as regions
use Rattle.mon_types.specs.declared.thread.Mode.TheVariants as modes
use Rattle.mon_types.specs.declared.object.ObjectId.{ObjectId}
use Rattle.mon_types.specs.declared.object.ObjectId.TheVariants as objects
use Rattle.mon_model.specs.State.{State, start, region_at, enclave_at}
use Rattle.mon_model.specs.RegionCalls.{is_loading}
use Rattle.mon_model.specs.RegionStep.{is_idle}
use Rattle.dram_map.specs.Addresses.{region_of_word}
use Rattle.mon_records.specs.Answers.{AnswersFor}
use Rattle.hist.specs.declared.event.Entry.{Entry}
use Rattle.hist_stands.proofs.Grows.{start_stands}
use Rattle.loaded_pages.specs.Content.{Content, zero_content}
use Rattle.protocol.specs.declared.action.Action.TheVariants as actions
use Rattle.protocol.specs.declared.action.Move.{Move}
use Rattle.protocol.specs.declared.action.Move.TheVariants as moves
use Rattle.protocol.specs.Places.{Lock, Row, Dram, Memory, with_word, memory_of, first_memory}
use Rattle.protocol.specs.Moves.{action_place, place_of, word_found, try_outcome, action_outcome, outcome_of, try_leaves, action_leaves, leaves, left_at, memory_after_move}
use Rattle.protocol.specs.Views.{Moves, held_of, core_log, answers_of, call_moves, own_lock_word}
use Rattle.protocol.specs.Permitted.{Permitted, MayGoOn}
use Rattle.protocol.specs.Runs.{Made}
use Rattle.protocol_laws.proofs.Sounds.{start_is_sound}
use Rattle.protocol_steps.proofs.Kept.{Kept, core_idle}
use Rattle.protocol_steps.proofs.Moving.{draft_in, history_by, state_by, content_drawn, Stepped, same_words, keep_read, keep_met, keep_load, keep_write, keep_store, keep_taken, keep_unlock, keep_draw}
use Rattle.protocol_steps.proofs.Outside.{keep_look, keep_fetch, keep_put, keep_swap, keep_stop}

-- ---- one move

module _ (shape : Shape) (is : is_shape shape ≡ true) (memory : Memory) (moved : ℕ → Moves) (h : List Entry) (s : State) (content : Content) (kept : Kept shape memory moved h s content) (core : ℕ) (lt : core < shape.cores) where
  keep_try : (o : ObjectId) → MayGoOn shape core (moved core) (actions.TryLock o) → (word : ℕ) → memory (Lock o) ≡ word → Stepped shape memory (with_word memory (Lock o) (try_leaves (own_lock_word core (moved core)) word)) moved (record { core = core; move = moves.InCall (actions.TryLock o); outcome = try_outcome word }) h h s s content content
  unfolding try_leaves try_outcome
  keep_try o p zero e = keep_taken shape is memory moved h s content kept core lt o e p
  keep_try o p (suc word) e =
      subst (λ n. Stepped shape memory n moved (record { core = core; move = moves.InCall (actions.TryLock o); outcome = try_outcome (suc word) }) h h s s content content)
      (sym (ap (λ z. with_word memory (Lock o) z) (sym e) ∙ same_words memory (Lock o)))
      (keep_met shape is memory moved h s content kept core lt o (suc word / 2 % 16) (suc word / 32))

  -- a move that leaves its word
  same : (made : Made) (o : ObjectId) (i : ℕ) → Stepped shape memory memory moved made h h s s content content → Stepped shape memory (with_word memory (Row o i) (memory (Row o i))) moved made h h s s content content
  same made o i step = subst (λ n. Stepped shape memory n moved made h h s s content content) (sym (same_words memory (Row o i))) step

  same_dram : (made : Made) (i : ℕ) → Stepped shape memory memory moved made h h s s content content → Stepped shape memory (with_word memory (Dram i) (memory (Dram i))) moved made h h s s content content
  same_dram made i step = subst (λ n. Stepped shape memory n moved made h h s s content content) (sym (same_words memory (Dram i))) step

  pub keep : (move : Move) → Permitted shape core (moved core) move → Stepped shape memory (memory_after_move (own_lock_word core (moved core)) memory move) moved (record { core = core; move = move; outcome = outcome_of move (word_found memory (place_of move)) })
      h (history_by core (draft_in move) (outcome_of move (word_found memory (place_of move))) h) s (state_by core (draft_in move) (outcome_of move (word_found memory (place_of move))) s) content (content_drawn (draft_in move) (answers_of (moved core)) s content)
  unfolding memory_after_move left_at place_of action_place word_found outcome_of action_outcome leaves action_leaves draft_in history_by state_by content_drawn
  keep (moves.InCall (actions.TryLock o)) p = keep_try o p (memory (Lock o)) refl
  keep (moves.InCall (actions.Read o i)) p = same _ o i (keep_read shape is memory moved h s content kept core lt o i)
  keep (moves.InCall (actions.Write o i word)) p = keep_write shape is memory moved h s content kept core lt o i word p
  keep (moves.InCall (actions.Draw draft)) p = keep_draw shape is memory moved h s content kept core lt draft p
  keep (moves.InCall (actions.Unlock o)) p = keep_unlock shape is memory moved h s content kept core lt o p
  keep (moves.InCall (actions.Load i)) p = same_dram _ i (keep_load shape is memory moved h s content kept core lt i)
  keep (moves.InCall (actions.Store i word)) p = keep_store shape is memory moved h s content kept core lt i word p
  keep (moves.Look r owner) p = same _ (objects.Region r) 0 (keep_look shape is memory moved h s content kept core lt r owner p)
  keep (moves.Load i) p = same_dram _ i (keep_fetch shape is memory moved h s content kept core lt i p)
  keep (moves.Store i word) p = keep_put shape is memory moved h s content kept core lt i word p
  keep (moves.Swap i old word) p = keep_swap shape is memory moved h s content kept core lt i old word _ _ p
  keep (moves.Stop line why) p = keep_stop shape is memory moved h s content kept core lt line why

-- ---- the start

some_regions : (m : Shape) → is_shape m ≡ true → 0 < m.regions
some_regions m h = grind (arith, nat_tests)

pub home_there : (shape : Shape) → is_shape shape ≡ true → (i : ℕ) → region_of_word shape i < shape.regions
home_there shape is i = let few = some_regions shape is in omega (arith, few)

-- nobody answers for a word at the start
start_for : (shape : Shape) (o : ObjectId) (r : ℕ) → r < shape.regions → AnswersFor (start shape) o r → ⊥
start_for shape (objects.Enclave e) r lt a = clash (sym (ap (λ z. is_loading z.stage) (empty_at e)) ∙ a.0)
  where
    clash : false ≡ true → ⊥
    clash f = cc

    empty_at : (e : ℕ) → enclave_at (start shape) e ≡ empty_enclave
    empty_at e = elim (cases_lt e 8) [
      | inl small ↦ get_or-replicate 8 e empty_enclave empty_enclave small
      | inr large ↦ get_or_past (replicate 8 empty_enclave) e empty_enclave large
    ]
start_for shape (objects.Thread t) r lt a = a
start_for shape (objects.Region q) r lt a = clash (sym (ap is_idle (get_or-replicate shape.regions r (regions.Owned owners.Os 0) regions.Free lt)) ∙ ap (λ z. is_idle (region_at (start shape) z)) (sym a.0) ∙ a.1)
  where
    clash : false ≡ true → ⊥
    clash f = cc
start_for shape (objects.Cell c) r lt a = a

pub kept_start : (shape : Shape) → is_shape shape ≡ true → (dram : List ℕ) → Kept shape (first_memory shape dram) (λ core. []) [] (start shape) zero_content
unfolding memory_of core_log held_of call_moves
kept_start shape is dram = record {
  now = refl;
  shaped = refl;
  counter = refl;
  stands = start_stands shape;
  few = λ core lt. omega arith;
  sound = λ core lt. start_is_sound shape core is lt;
  locked = λ o. inl refl;
  rows = λ o e i b. refl;
  words = λ o e i b a. absurd (start_for shape o (region_of_word shape i) (home_there shape is i) a.is);
  cores = λ core lt. core_idle shape core [] (start shape) zero_content (first_memory shape dram) refl (start_is_sound shape core is lt) refl (sym (get_or-replicate shape.cores core modes.Os modes.Os lt));
}
