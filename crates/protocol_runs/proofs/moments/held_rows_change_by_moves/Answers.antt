use Rattle.std.proofs.Common.{◌≡◌, ◌⊎◌, ◌<◌, ℕ, zero, suc, [], ◌∷◌, refl, inl, inr, subst, arith}
use Rattle.std.specs.Prelude.{IsTrue}
use Rattle.mon_types.specs.declared.object.ObjectId.{ObjectId}
use Rattle.mon_types.specs.declared.call.Call.{Call}
use Rattle.mon_types.specs.declared.call.Call.TheVariants as calls
use Rattle.protocol.specs.declared.action.Action.TheVariants as actions
use Rattle.protocol.specs.declared.action.Outcome.TheVariants as outcomes
use Rattle.protocol.specs.Places.{Row, row_word}
use Rattle.protocol.specs.CallTree.{Tree, Over, Makes, then_, call_tree}
use Rattle.mon_types.specs.Replies.{done}
use Rattle.protocol.specs.Permitted.{Follows}
use Rattle.protocol.specs.Worlds.{state_now, IsHeldBy, IsDoing, WillDo}
use Rattle.protocol.specs.Records.{withdraws_any, IsWrittenEarly, IsToBeWritten}
use Rattle.mon_model.specs.Examples.{r1}
use Rattle.protocol.specs.Alone.{two}
use Rattle.protocol.specs.Collision.{block_draft}
use Rattle.protocol_runs.specs.Moments.{written_early, drawn_early}
use Rattle.protocol_runs.proofs.Early.{of_call, stays_early}
use Rattle.protocol.proofs.Follow.{one_tree}
use Rattle.mon_types.specs.declared.object.ObjectId.TheVariants as objects
use Rattle.protocol_runs.proofs.ByHand.{only_one, not_written}
use Rattle.mon_types.specs.Bits.{members}
use Rattle.mon_types.specs.Cells.{cell_from}
use Rattle.mon_types.specs.Enclaves.{stage_from, root_from, mailbox_by, mailbox_parts, enclave_parts, enclave_from, root_within, enclave_within}
use Rattle.mon_types.specs.Objects.{width}
use Rattle.mon_types.specs.Owns.{owner_from, region_by, region_parts, region_from}
use Rattle.mon_types.specs.Threads.{state_from, thread_parts, thread_from}
use Rattle.mon_types.specs.Words.{fitting}
use Rattle.mon_records.specs.Rows.{row_words, objects_of, same_object, words_of}
use Rattle.mon_records.specs.EarlyWords.{early_words}
use Rattle.mon_records.specs.Answers.{freed}
use Rattle.mon_records.specs.Rebuilt.{state_of}
use Rattle.loaded_pages.specs.Content.{region_zeroed, page_put, content_put, content_after}
use Rattle.protocol.specs.Places.{same_place, with_word, memory_of}
use Rattle.protocol.specs.Moves.{action_place, place_of, word_found, try_outcome, swap_outcome, action_outcome, outcome_of, try_leaves, action_leaves, leaves, left_at, memory_after_move}
use Rattle.protocol.specs.CallTree.{onto, unlocks, zeros, write_unless, row_writes, late_writes, late_if, finish, early_writes, copy_words, copy_page, put_pte, go_on, walk, walk_below, load_if, loaded, loads_if, early_if, decided_by, decided, reads, meets, after_try, lock, lock_all, lock_plan, unless_refused, call_tree}
use Rattle.protocol.specs.Views.{held_by, held_after, held_of, touch_in, logged_by, logged, core_log, word_in, word_again, answered_by, answered, answers_of, is_last, call_with, call_moves, are_any, actions_before, moves_before, before_call, issuer_of, has_drawn}
use Rattle.protocol.specs.Runs.{moves_with, moves_of, memory_after, run_of}
use Rattle.protocol.specs.Layout.{object_index, row_index, place_index}
use Rattle.protocol.specs.Right.{action_reach, reach_of}
use Rattle.protocol.specs.Contents.{stored_so_far}
use Rattle.protocol.specs.Logs.{under_way_after, under_way_by, under_way}
use Rattle.protocol.specs.Passes.{counted, split_off, views_of, keeps}
use Rattle.protocol.specs.Alone.{alone}
use Rattle.protocol_runs.proofs.moments.held_rows_change_by_moves.Goals as goal

pub returns-clause-holds : goal.returns-clause-holds
unfolding members cell_from stage_from root_from mailbox_by mailbox_parts enclave_parts enclave_from root_within enclave_within width owner_from region_by region_parts region_from state_from thread_parts thread_from fitting row_words objects_of same_object words_of early_words freed state_of region_zeroed page_put content_put content_after same_place with_word memory_of action_place place_of word_found try_outcome swap_outcome action_outcome outcome_of try_leaves action_leaves leaves left_at memory_after_move onto unlocks zeros write_unless row_writes late_writes late_if finish early_writes copy_words copy_page put_pte go_on walk walk_below load_if loaded loads_if early_if decided_by decided reads meets after_try lock lock_all lock_plan unless_refused call_tree held_by held_after held_of touch_in logged_by logged core_log word_in word_again answered_by answered answers_of is_last call_with call_moves are_any actions_before moves_before before_call issuer_of has_drawn moves_with moves_of memory_after run_of object_index row_index place_index action_reach reach_of stored_so_far under_way_after under_way_by under_way counted split_off views_of keeps alone
returns-clause-holds c = λ core o i has lt by. inl refl

pub returns-clause-fails : goal.returns-clause-fails
unfolding members cell_from stage_from root_from mailbox_by mailbox_parts enclave_parts enclave_from root_within enclave_within width owner_from region_by region_parts region_from state_from thread_parts thread_from fitting row_words objects_of same_object words_of early_words freed state_of region_zeroed page_put content_put content_after same_place with_word memory_of action_place place_of word_found try_outcome swap_outcome action_outcome outcome_of try_leaves action_leaves leaves left_at memory_after_move onto unlocks zeros write_unless row_writes late_writes late_if finish early_writes copy_words copy_page put_pte go_on walk walk_below load_if loaded loads_if early_if decided_by decided reads meets after_try lock lock_all lock_plan unless_refused call_tree held_by held_after held_of touch_in logged_by logged core_log word_in word_again answered_by answered answers_of is_last call_with call_moves are_any actions_before moves_before before_call issuer_of has_drawn moves_with moves_of memory_after run_of object_index row_index place_index action_reach reach_of stored_so_far under_way_after under_way_by under_way counted split_off views_of keeps alone
returns-clause-fails c = λ item. not_written (item 0 (objects.Region 1) 0 (omega arith) (omega arith) (record { of_machine = omega arith; held = (0, omega arith, refl) }))

-- ---- written early

-- a call that has written before its Draw withdraws regions
withdraws : (call : Call) (rest : Tree) → IsDoing two written_early 0 call rest → IsTrue (withdraws_any call)
unfolding members cell_from stage_from root_from mailbox_by mailbox_parts enclave_parts enclave_from root_within enclave_within width owner_from region_by region_parts region_from state_from thread_parts thread_from fitting row_words objects_of same_object words_of early_words freed state_of region_zeroed page_put content_put content_after same_place with_word memory_of action_place place_of word_found try_outcome swap_outcome action_outcome outcome_of try_leaves action_leaves leaves left_at memory_after_move onto unlocks zeros write_unless row_writes late_writes late_if finish early_writes copy_words copy_page put_pte go_on walk walk_below load_if loaded loads_if early_if decided_by decided reads meets after_try lock lock_all lock_plan unless_refused call_tree held_by held_after held_of touch_in logged_by logged core_log word_in word_again answered_by answered answers_of is_last call_with call_moves are_any actions_before moves_before before_call issuer_of has_drawn moves_with moves_of memory_after run_of object_index row_index place_index action_reach reach_of stored_so_far under_way_after under_way_by under_way counted split_off views_of keeps alone
withdraws call rest doing =
    let f = doing.follows in
    (stays_early call (call_tree two _ call) ((actions.Read r1 1, outcomes.Word 0) ∷ (actions.Read r1 0, outcomes.Word 1) ∷ (actions.TryLock r1, outcomes.Taken) ∷ [])
    (Makes (actions.Write r1 0 2) f.0) (tt, (tt, (tt, tt))) (of_call _ call two) f.1).0

early_row : (i : ℕ) → i < 2 → (written_early.memory (Row r1 i) ≡ row_word (state_now two written_early) r1 i) ⊎ (IsWrittenEarly two written_early 0 r1 i ⊎ IsToBeWritten two written_early 0 r1 i)
unfolding members cell_from stage_from root_from mailbox_by mailbox_parts enclave_parts enclave_from root_within enclave_within width owner_from region_by region_parts region_from state_from thread_parts thread_from fitting row_words objects_of same_object words_of early_words freed state_of region_zeroed page_put content_put content_after same_place with_word memory_of action_place place_of word_found try_outcome swap_outcome action_outcome outcome_of try_leaves action_leaves leaves left_at memory_after_move onto unlocks zeros write_unless row_writes late_writes late_if finish early_writes copy_words copy_page put_pte go_on walk walk_below load_if loaded loads_if early_if decided_by decided reads meets after_try lock lock_all lock_plan unless_refused call_tree held_by held_after held_of touch_in logged_by logged core_log word_in word_again answered_by answered answers_of is_last call_with call_moves are_any actions_before moves_before before_call issuer_of has_drawn moves_with moves_of memory_after run_of object_index row_index place_index action_reach reach_of stored_so_far under_way_after under_way_by under_way counted split_off views_of keeps alone
early_row zero lt = inr (inl (record { own = refl; word = 2; written = (0, omega arith, refl); stands = refl; blocked = refl; before_draw = refl; withdraws = withdraws }))
early_row (suc zero) lt = inl refl
early_row (suc (suc i)) lt = absurd (omega (arith, lt))

early_rows : (core : ℕ) (o : ObjectId) (i : ℕ) → i < width o → IsHeldBy two written_early core o → (written_early.memory (Row o i) ≡ row_word (state_now two written_early) o i) ⊎ (IsWrittenEarly two written_early core o i ⊎ IsToBeWritten two written_early core o i)
unfolding members cell_from stage_from root_from mailbox_by mailbox_parts enclave_parts enclave_from root_within enclave_within width owner_from region_by region_parts region_from state_from thread_parts thread_from fitting row_words objects_of same_object words_of early_words freed state_of region_zeroed page_put content_put content_after same_place with_word memory_of action_place place_of word_found try_outcome swap_outcome action_outcome outcome_of try_leaves action_leaves leaves left_at memory_after_move onto unlocks zeros write_unless row_writes late_writes late_if finish early_writes copy_words copy_page put_pte go_on walk walk_below load_if loaded loads_if early_if decided_by decided reads meets after_try lock lock_all lock_plan unless_refused call_tree held_by held_after held_of touch_in logged_by logged core_log word_in word_again answered_by answered answers_of is_last call_with call_moves are_any actions_before moves_before before_call issuer_of has_drawn moves_with moves_of memory_after run_of object_index row_index place_index action_reach reach_of stored_so_far under_way_after under_way_by under_way counted split_off views_of keeps alone
early_rows zero o i lt by = subst (λ q. i < width q → (written_early.memory (Row q i) ≡ row_word (state_now two written_early) q i) ⊎ (IsWrittenEarly two written_early 0 q i ⊎ IsToBeWritten two written_early 0 q i)) (only_one r1 o by.held) (λ l. early_row i l) lt
early_rows (suc zero) o i lt by = absurd (omega (arith, by.held.1))
early_rows (suc (suc core)) o i lt by = absurd (omega (arith, by.of_machine))

pub returns-clause-early : goal.returns-clause-early
returns-clause-early c = λ core o i has lt by. early_rows core o i lt by

-- ---- still to write

left : Follows (call_tree two (issuer_of 0 (drawn_early.moves 0)) (calls.Block 1)) (call_moves (drawn_early.moves 0)) (then_ (actions.Write r1 1 1) (then_ (actions.Unlock r1) Over))
unfolding members cell_from stage_from root_from mailbox_by mailbox_parts enclave_parts enclave_from root_within enclave_within width owner_from region_by region_parts region_from state_from thread_parts thread_from fitting row_words objects_of same_object words_of early_words freed state_of region_zeroed page_put content_put content_after same_place with_word memory_of action_place place_of word_found try_outcome swap_outcome action_outcome outcome_of try_leaves action_leaves leaves left_at memory_after_move onto unlocks zeros write_unless row_writes late_writes late_if finish early_writes copy_words copy_page put_pte go_on walk walk_below load_if loaded loads_if early_if decided_by decided reads meets after_try lock lock_all lock_plan unless_refused call_tree held_by held_after held_of touch_in logged_by logged core_log word_in word_again answered_by answered answers_of is_last call_with call_moves are_any actions_before moves_before before_call issuer_of has_drawn moves_with moves_of memory_after run_of object_index row_index place_index action_reach reach_of stored_so_far under_way_after under_way_by under_way counted split_off views_of keeps alone
left = (_, (_, (_, (_, (_, refl, refl), refl), refl), refl), refl)

of_block : (rest : Tree) → IsDoing two drawn_early 0 (calls.Block 1) rest → WillDo (actions.Write r1 1 1) rest
of_block rest doing = subst (WillDo (actions.Write r1 1 1)) (one_tree (call_tree two (issuer_of 0 (drawn_early.moves 0)) (calls.Block 1)) (call_moves (drawn_early.moves 0)) (then_ (actions.Write r1 1 1) (then_ (actions.Unlock r1) Over)) rest left doing.follows) (inl refl)

-- whatever the call is: its draft says that it is the block
to_do : (call : Call) (rest : Tree) → IsDoing two drawn_early 0 call rest → WillDo (actions.Write r1 1 1) rest
unfolding members cell_from stage_from root_from mailbox_by mailbox_parts enclave_parts enclave_from root_within enclave_within width owner_from region_by region_parts region_from state_from thread_parts thread_from fitting row_words objects_of same_object words_of early_words freed state_of region_zeroed page_put content_put content_after same_place with_word memory_of action_place place_of word_found try_outcome swap_outcome action_outcome outcome_of try_leaves action_leaves leaves left_at memory_after_move onto unlocks zeros write_unless row_writes late_writes late_if finish early_writes copy_words copy_page put_pte go_on walk walk_below load_if loaded loads_if early_if decided_by decided reads meets after_try lock lock_all lock_plan unless_refused call_tree held_by held_after held_of touch_in logged_by logged core_log word_in word_again answered_by answered answers_of is_last call_with call_moves are_any actions_before moves_before before_call issuer_of has_drawn moves_with moves_of memory_after run_of object_index row_index place_index action_reach reach_of stored_so_far under_way_after under_way_by under_way counted split_off views_of keeps alone
to_do call rest doing =
    let f = doing.follows in
    let is : calls.Block 1 ≡ call = stays_early call (call_tree two _ call) ((actions.Write r1 0 2, outcomes.Done) ∷ (actions.Read r1 1, outcomes.Word 0) ∷ (actions.Read r1 0, outcomes.Word 1) ∷ (actions.TryLock r1, outcomes.Taken) ∷ [])
    (Makes (actions.Draw (block_draft done)) f.0) (tt, (tt, (tt, (tt, tt)))) (of_call _ call two) f.1 in
    subst (λ z. IsDoing two drawn_early 0 z rest → WillDo (actions.Write r1 1 1) rest) is (of_block rest) doing

late_row : (i : ℕ) → i < 2 → (drawn_early.memory (Row r1 i) ≡ row_word (state_now two drawn_early) r1 i) ⊎ (IsWrittenEarly two drawn_early 0 r1 i ⊎ IsToBeWritten two drawn_early 0 r1 i)
unfolding members cell_from stage_from root_from mailbox_by mailbox_parts enclave_parts enclave_from root_within enclave_within width owner_from region_by region_parts region_from state_from thread_parts thread_from fitting row_words objects_of same_object words_of early_words freed state_of region_zeroed page_put content_put content_after same_place with_word memory_of action_place place_of word_found try_outcome swap_outcome action_outcome outcome_of try_leaves action_leaves leaves left_at memory_after_move onto unlocks zeros write_unless row_writes late_writes late_if finish early_writes copy_words copy_page put_pte go_on walk walk_below load_if loaded loads_if early_if decided_by decided reads meets after_try lock lock_all lock_plan unless_refused call_tree held_by held_after held_of touch_in logged_by logged core_log word_in word_again answered_by answered answers_of is_last call_with call_moves are_any actions_before moves_before before_call issuer_of has_drawn moves_with moves_of memory_after run_of object_index row_index place_index action_reach reach_of stored_so_far under_way_after under_way_by under_way counted split_off views_of keeps alone
late_row zero lt = inl refl
late_row (suc zero) lt = inr (inr (record { drawn = refl; to_do = to_do; offered = λ own call rest doing accept. absurd (omega (arith, own)) }))
late_row (suc (suc i)) lt = absurd (omega (arith, lt))

late_rows : (core : ℕ) (o : ObjectId) (i : ℕ) → i < width o → IsHeldBy two drawn_early core o → (drawn_early.memory (Row o i) ≡ row_word (state_now two drawn_early) o i) ⊎ (IsWrittenEarly two drawn_early core o i ⊎ IsToBeWritten two drawn_early core o i)
unfolding members cell_from stage_from root_from mailbox_by mailbox_parts enclave_parts enclave_from root_within enclave_within width owner_from region_by region_parts region_from state_from thread_parts thread_from fitting row_words objects_of same_object words_of early_words freed state_of region_zeroed page_put content_put content_after same_place with_word memory_of action_place place_of word_found try_outcome swap_outcome action_outcome outcome_of try_leaves action_leaves leaves left_at memory_after_move onto unlocks zeros write_unless row_writes late_writes late_if finish early_writes copy_words copy_page put_pte go_on walk walk_below load_if loaded loads_if early_if decided_by decided reads meets after_try lock lock_all lock_plan unless_refused call_tree held_by held_after held_of touch_in logged_by logged core_log word_in word_again answered_by answered answers_of is_last call_with call_moves are_any actions_before moves_before before_call issuer_of has_drawn moves_with moves_of memory_after run_of object_index row_index place_index action_reach reach_of stored_so_far under_way_after under_way_by under_way counted split_off views_of keeps alone
late_rows zero o i lt by = subst (λ q. i < width q → (drawn_early.memory (Row q i) ≡ row_word (state_now two drawn_early) q i) ⊎ (IsWrittenEarly two drawn_early 0 q i ⊎ IsToBeWritten two drawn_early 0 q i)) (only_one r1 o by.held) (λ l. late_row i l) lt
late_rows (suc zero) o i lt by = absurd (omega (arith, by.held.1))
late_rows (suc (suc core)) o i lt by = absurd (omega (arith, by.of_machine))

pub returns-clause-late : goal.returns-clause-late
returns-clause-late c = λ core o i has lt by. late_rows core o i lt by
