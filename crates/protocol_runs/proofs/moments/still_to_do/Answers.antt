use Rattle.std.proofs.Common.{◌≡◌, inl, inr, ℕ, refl, subst, arith}
use Rattle.mon_types.specs.declared.call.Call.TheVariants as calls
use Rattle.protocol.specs.declared.action.Action.TheVariants as actions
use Rattle.protocol.specs.declared.action.Outcome.TheVariants as outcomes
use Rattle.mon_types.specs.Bits.{members}
use Rattle.mon_types.specs.Cells.{cell_from}
use Rattle.mon_types.specs.Enclaves.{stage_from, root_from, mailbox_by, mailbox_parts, enclave_parts, enclave_from, root_within, enclave_within}
use Rattle.mon_types.specs.Objects.{width}
use Rattle.mon_types.specs.Owns.{owner_from, region_by, region_parts, region_from}
use Rattle.mon_types.specs.Threads.{state_from, thread_parts, thread_from}
use Rattle.mon_types.specs.Words.{fitting}
use Rattle.mon_records.specs.Rows.{row_words, objects_of, same_object, words_of}
use Rattle.mon_records.specs.EarlyWords.{early_words}
use Rattle.mon_records.specs.Answers.{freed}
use Rattle.mon_records.specs.Rebuilt.{state_of}
use Rattle.loaded_pages.specs.Content.{region_zeroed, page_put, content_put, content_after}
use Rattle.protocol.specs.Places.{same_place, with_word, memory_of}
use Rattle.protocol.specs.Moves.{action_place, place_of, word_found, try_outcome, swap_outcome, action_outcome, outcome_of, try_leaves, action_leaves, leaves, left_at, memory_after_move}
use Rattle.protocol.specs.CallTree.{onto, unlocks, zeros, write_unless, row_writes, late_writes, late_if, finish, early_writes, copy_words, copy_page, put_pte, go_on, walk, walk_below, load_if, loaded, loads_if, early_if, decided_by, decided, reads, meets, after_try, lock, lock_all, lock_plan, unless_refused, call_tree}
use Rattle.protocol.specs.Views.{held_by, held_after, held_of, touch_in, logged_by, logged, core_log, word_in, word_again, answered_by, answered, answers_of, is_last, call_with, call_moves, are_any, actions_before, moves_before, before_call, issuer_of, has_drawn}
use Rattle.protocol.specs.Runs.{moves_with, moves_of, memory_after, run_of}
use Rattle.protocol.specs.Layout.{object_index, row_index, place_index}
use Rattle.protocol.specs.Right.{action_reach, reach_of}
use Rattle.protocol.specs.Contents.{stored_so_far}
use Rattle.protocol.specs.Logs.{under_way_after, under_way_by, under_way}
use Rattle.protocol.specs.Passes.{counted, split_off, views_of, keeps}
use Rattle.protocol.specs.Alone.{alone}
use Rattle.protocol.specs.CallTree.{Over, then_}
use Rattle.protocol.specs.Permitted.{Follows}
use Rattle.protocol.specs.Worlds.{WillDo}
use Rattle.mon_model.specs.Examples.{r1}
use Rattle.protocol.specs.Alone.{two}
use Rattle.protocol_runs.specs.Moments.{has_drawn_block, has_written_late}
use Rattle.protocol.proofs.Follow.{one_tree}
use Rattle.protocol_runs.proofs.moments.still_to_do.Goals as goal

no_write : {word : ℕ} → actions.Unlock r1 ≡ actions.Write r1 1 word → ⊥
no_write e = absurd (cc (e))

write_same : {x y : ℕ} → actions.Write r1 1 x ≡ actions.Write r1 1 y → x ≡ y
write_same e = cc (e)

no_more : {word : ℕ} → WillDo (actions.Write r1 1 word) (then_ (actions.Unlock r1) Over) → ⊥
no_more (inl e) = no_write e
no_more (inr f) = f outcomes.Done

-- what is left of the block
drawn : Follows (call_tree two (issuer_of 0 has_drawn_block) (calls.Block 1)) (call_moves has_drawn_block) (then_ (actions.Write r1 1 1) (then_ (actions.Unlock r1) Over))
unfolding members cell_from stage_from root_from mailbox_by mailbox_parts enclave_parts enclave_from root_within enclave_within width owner_from region_by region_parts region_from state_from thread_parts thread_from fitting row_words objects_of same_object words_of early_words freed state_of region_zeroed page_put content_put content_after same_place with_word memory_of action_place place_of word_found try_outcome swap_outcome action_outcome outcome_of try_leaves action_leaves leaves left_at memory_after_move onto unlocks zeros write_unless row_writes late_writes late_if finish early_writes copy_words copy_page put_pte go_on walk walk_below load_if loaded loads_if early_if decided_by decided reads meets after_try lock lock_all lock_plan unless_refused call_tree held_by held_after held_of touch_in logged_by logged core_log word_in word_again answered_by answered answers_of is_last call_with call_moves are_any actions_before moves_before before_call issuer_of has_drawn moves_with moves_of memory_after run_of object_index row_index place_index action_reach reach_of stored_so_far under_way_after under_way_by under_way counted split_off views_of keeps alone
drawn = (_, (_, (_, (_, (_, refl, refl), refl), refl), refl), refl)

written : Follows (call_tree two (issuer_of 0 has_written_late) (calls.Block 1)) (call_moves has_written_late) (then_ (actions.Unlock r1) Over)
unfolding members cell_from stage_from root_from mailbox_by mailbox_parts enclave_parts enclave_from root_within enclave_within width owner_from region_by region_parts region_from state_from thread_parts thread_from fitting row_words objects_of same_object words_of early_words freed state_of region_zeroed page_put content_put content_after same_place with_word memory_of action_place place_of word_found try_outcome swap_outcome action_outcome outcome_of try_leaves action_leaves leaves left_at memory_after_move onto unlocks zeros write_unless row_writes late_writes late_if finish early_writes copy_words copy_page put_pte go_on walk walk_below load_if loaded loads_if early_if decided_by decided reads meets after_try lock lock_all lock_plan unless_refused call_tree held_by held_after held_of touch_in logged_by logged core_log word_in word_again answered_by answered answers_of is_last call_with call_moves are_any actions_before moves_before before_call issuer_of has_drawn moves_with moves_of memory_after run_of object_index row_index place_index action_reach reach_of stored_so_far under_way_after under_way_by under_way counted split_off views_of keeps alone
written = (_, (_, (_, (_, (_, (_, refl, refl), refl), refl), refl), refl), refl)

other : WillDo (actions.Write r1 1 2) (then_ (actions.Write r1 1 1) (then_ (actions.Unlock r1) Over)) → ⊥
other (inl e) = omega (arith, write_same e)
other (inr f) = no_more (f outcomes.Done)

pub returns-clause-to_do : goal.returns-clause-to_do
returns-clause-to_do c = (then_ (actions.Write r1 1 1) (then_ (actions.Unlock r1) Over), drawn, inl refl)

pub returns-clause-other_word : goal.returns-clause-other_word
returns-clause-other_word c = λ may. other (subst (WillDo (actions.Write r1 1 2)) (one_tree _ _ may.0 _ may.1 drawn) may.2)

pub returns-clause-done : goal.returns-clause-done
returns-clause-done c = λ may. no_more (subst (WillDo (actions.Write r1 1 1)) (one_tree _ _ may.0 _ may.1 written) may.2)
