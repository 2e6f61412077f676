use Rattle.std.proofs.Common.{refl, ap, arith}
use Rattle.mon_types.specs.declared.call.Call.TheVariants as calls
use Rattle.mon_types.specs.Replies.{done}
use Rattle.protocol.specs.declared.action.Action.TheVariants as actions
use Rattle.protocol.specs.Collision.{block_draft}
use Rattle.protocol.specs.Permits.{GoesOn, has_written, wrong_serial, wrong_call, wrong_tried, wrong_reply, wrong_page}
use Rattle.protocol.proofs.Follow.{one_action, draft_same}
use Rattle.protocol.specs.declared.action.Draft.{Draft}
use Rattle.mon_types.specs.Bits.{members}
use Rattle.mon_types.specs.Cells.{cell_from}
use Rattle.mon_types.specs.Enclaves.{stage_from, root_from, mailbox_by, mailbox_parts, enclave_parts, enclave_from, root_within, enclave_within}
use Rattle.mon_types.specs.Objects.{width}
use Rattle.mon_types.specs.Owns.{owner_from, region_by, region_parts, region_from}
use Rattle.mon_types.specs.Threads.{state_from, thread_parts, thread_from}
use Rattle.mon_types.specs.Words.{fitting}
use Rattle.mon_records.specs.Rows.{row_words, objects_of, same_object, words_of}
use Rattle.mon_records.specs.EarlyWords.{early_words}
use Rattle.mon_records.specs.Answers.{freed}
use Rattle.mon_records.specs.Rebuilt.{state_of}
use Rattle.loaded_pages.specs.Content.{region_zeroed, page_put, content_put, content_after}
use Rattle.protocol.specs.Places.{same_place, with_word, memory_of}
use Rattle.protocol.specs.Moves.{action_place, place_of, word_found, try_outcome, swap_outcome, action_outcome, outcome_of, try_leaves, action_leaves, leaves, left_at, memory_after_move}
use Rattle.protocol.specs.CallTree.{onto, unlocks, zeros, write_unless, row_writes, late_writes, late_if, finish, early_writes, copy_words, copy_page, put_pte, go_on, walk, walk_below, load_if, loaded, loads_if, early_if, decided_by, decided, reads, meets, after_try, lock, lock_all, lock_plan, unless_refused, call_tree}
use Rattle.protocol.specs.Views.{held_by, held_after, held_of, touch_in, logged_by, logged, core_log, word_in, word_again, answered_by, answered, answers_of, is_last, call_with, call_moves, are_any, actions_before, moves_before, before_call, issuer_of, has_drawn}
use Rattle.protocol.specs.Runs.{moves_with, moves_of, memory_after, run_of}
use Rattle.protocol.specs.Layout.{object_index, row_index, place_index}
use Rattle.protocol.specs.Right.{action_reach, reach_of}
use Rattle.protocol.specs.Contents.{stored_so_far}
use Rattle.protocol.specs.Logs.{under_way_after, under_way_by, under_way}
use Rattle.protocol.specs.Passes.{counted, split_off, views_of, keeps}
use Rattle.protocol.specs.Alone.{alone}
use Rattle.protocol.proofs.permits.draws_its_draft.Goals as goal

pub returns-clause-serial : goal.returns-clause-serial
unfolding members cell_from stage_from root_from mailbox_by mailbox_parts enclave_parts enclave_from root_within enclave_within width owner_from region_by region_parts region_from state_from thread_parts thread_from fitting row_words objects_of same_object words_of early_words freed state_of region_zeroed page_put content_put content_after same_place with_word memory_of action_place place_of word_found try_outcome swap_outcome action_outcome outcome_of try_leaves action_leaves leaves left_at memory_after_move onto unlocks zeros write_unless row_writes late_writes late_if finish early_writes copy_words copy_page put_pte go_on walk walk_below load_if loaded loads_if early_if decided_by decided reads meets after_try lock lock_all lock_plan unless_refused call_tree held_by held_after held_of touch_in logged_by logged core_log word_in word_again answered_by answered answers_of is_last call_with call_moves are_any actions_before moves_before before_call issuer_of has_drawn moves_with moves_of memory_after run_of object_index row_index place_index action_reach reach_of stored_so_far under_way_after under_way_by under_way counted split_off views_of keeps alone
returns-clause-serial c = λ may.
    let good : GoesOn (calls.Block 1) has_written (actions.Draw (block_draft done)) = (_, (_, (_, (_, (_, refl, refl), refl), refl), refl)) in
    let same = one_action (calls.Block 1) has_written (actions.Draw wrong_serial) (actions.Draw (block_draft done)) may good in
    let part = ap (λ (d : Draft). d.serial) (draft_same same) in
    omega (arith, part)

pub returns-clause-call : goal.returns-clause-call
unfolding members cell_from stage_from root_from mailbox_by mailbox_parts enclave_parts enclave_from root_within enclave_within width owner_from region_by region_parts region_from state_from thread_parts thread_from fitting row_words objects_of same_object words_of early_words freed state_of region_zeroed page_put content_put content_after same_place with_word memory_of action_place place_of word_found try_outcome swap_outcome action_outcome outcome_of try_leaves action_leaves leaves left_at memory_after_move onto unlocks zeros write_unless row_writes late_writes late_if finish early_writes copy_words copy_page put_pte go_on walk walk_below load_if loaded loads_if early_if decided_by decided reads meets after_try lock lock_all lock_plan unless_refused call_tree held_by held_after held_of touch_in logged_by logged core_log word_in word_again answered_by answered answers_of is_last call_with call_moves are_any actions_before moves_before before_call issuer_of has_drawn moves_with moves_of memory_after run_of object_index row_index place_index action_reach reach_of stored_so_far under_way_after under_way_by under_way counted split_off views_of keeps alone
returns-clause-call c = λ may.
    let good : GoesOn (calls.Block 1) has_written (actions.Draw (block_draft done)) = (_, (_, (_, (_, (_, refl, refl), refl), refl), refl)) in
    let same = one_action (calls.Block 1) has_written (actions.Draw wrong_call) (actions.Draw (block_draft done)) may good in
    let part = ap (λ (d : Draft). d.call) (draft_same same) in
    absurd (cc (part))

pub returns-clause-tried : goal.returns-clause-tried
unfolding members cell_from stage_from root_from mailbox_by mailbox_parts enclave_parts enclave_from root_within enclave_within width owner_from region_by region_parts region_from state_from thread_parts thread_from fitting row_words objects_of same_object words_of early_words freed state_of region_zeroed page_put content_put content_after same_place with_word memory_of action_place place_of word_found try_outcome swap_outcome action_outcome outcome_of try_leaves action_leaves leaves left_at memory_after_move onto unlocks zeros write_unless row_writes late_writes late_if finish early_writes copy_words copy_page put_pte go_on walk walk_below load_if loaded loads_if early_if decided_by decided reads meets after_try lock lock_all lock_plan unless_refused call_tree held_by held_after held_of touch_in logged_by logged core_log word_in word_again answered_by answered answers_of is_last call_with call_moves are_any actions_before moves_before before_call issuer_of has_drawn moves_with moves_of memory_after run_of object_index row_index place_index action_reach reach_of stored_so_far under_way_after under_way_by under_way counted split_off views_of keeps alone
returns-clause-tried c = λ may.
    let good : GoesOn (calls.Block 1) has_written (actions.Draw (block_draft done)) = (_, (_, (_, (_, (_, refl, refl), refl), refl), refl)) in
    let same = one_action (calls.Block 1) has_written (actions.Draw wrong_tried) (actions.Draw (block_draft done)) may good in
    let part = ap (λ (d : Draft). d.tried.regions) (draft_same same) in
    omega (arith, part)

pub returns-clause-reply : goal.returns-clause-reply
unfolding members cell_from stage_from root_from mailbox_by mailbox_parts enclave_parts enclave_from root_within enclave_within width owner_from region_by region_parts region_from state_from thread_parts thread_from fitting row_words objects_of same_object words_of early_words freed state_of region_zeroed page_put content_put content_after same_place with_word memory_of action_place place_of word_found try_outcome swap_outcome action_outcome outcome_of try_leaves action_leaves leaves left_at memory_after_move onto unlocks zeros write_unless row_writes late_writes late_if finish early_writes copy_words copy_page put_pte go_on walk walk_below load_if loaded loads_if early_if decided_by decided reads meets after_try lock lock_all lock_plan unless_refused call_tree held_by held_after held_of touch_in logged_by logged core_log word_in word_again answered_by answered answers_of is_last call_with call_moves are_any actions_before moves_before before_call issuer_of has_drawn moves_with moves_of memory_after run_of object_index row_index place_index action_reach reach_of stored_so_far under_way_after under_way_by under_way counted split_off views_of keeps alone
returns-clause-reply c = λ may.
    let good : GoesOn (calls.Block 1) has_written (actions.Draw (block_draft done)) = (_, (_, (_, (_, (_, refl, refl), refl), refl), refl)) in
    let same = one_action (calls.Block 1) has_written (actions.Draw wrong_reply) (actions.Draw (block_draft done)) may good in
    let part = ap (λ (d : Draft). d.reply) (draft_same same) in
    absurd (cc (part))

pub returns-clause-page : goal.returns-clause-page
unfolding members cell_from stage_from root_from mailbox_by mailbox_parts enclave_parts enclave_from root_within enclave_within width owner_from region_by region_parts region_from state_from thread_parts thread_from fitting row_words objects_of same_object words_of early_words freed state_of region_zeroed page_put content_put content_after same_place with_word memory_of action_place place_of word_found try_outcome swap_outcome action_outcome outcome_of try_leaves action_leaves leaves left_at memory_after_move onto unlocks zeros write_unless row_writes late_writes late_if finish early_writes copy_words copy_page put_pte go_on walk walk_below load_if loaded loads_if early_if decided_by decided reads meets after_try lock lock_all lock_plan unless_refused call_tree held_by held_after held_of touch_in logged_by logged core_log word_in word_again answered_by answered answers_of is_last call_with call_moves are_any actions_before moves_before before_call issuer_of has_drawn moves_with moves_of memory_after run_of object_index row_index place_index action_reach reach_of stored_so_far under_way_after under_way_by under_way counted split_off views_of keeps alone
returns-clause-page c = λ may.
    let good : GoesOn (calls.Block 1) has_written (actions.Draw (block_draft done)) = (_, (_, (_, (_, (_, refl, refl), refl), refl), refl)) in
    let same = one_action (calls.Block 1) has_written (actions.Draw wrong_page) (actions.Draw (block_draft done)) may good in
    let part = ap (λ (d : Draft). d.page) (draft_same same) in
    absurd (cc (part))

pub returns-clause-last : goal.returns-clause-last
unfolding members cell_from stage_from root_from mailbox_by mailbox_parts enclave_parts enclave_from root_within enclave_within width owner_from region_by region_parts region_from state_from thread_parts thread_from fitting row_words objects_of same_object words_of early_words freed state_of region_zeroed page_put content_put content_after same_place with_word memory_of action_place place_of word_found try_outcome swap_outcome action_outcome outcome_of try_leaves action_leaves leaves left_at memory_after_move onto unlocks zeros write_unless row_writes late_writes late_if finish early_writes copy_words copy_page put_pte go_on walk walk_below load_if loaded loads_if early_if decided_by decided reads meets after_try lock lock_all lock_plan unless_refused call_tree held_by held_after held_of touch_in logged_by logged core_log word_in word_again answered_by answered answers_of is_last call_with call_moves are_any actions_before moves_before before_call issuer_of has_drawn moves_with moves_of memory_after run_of object_index row_index place_index action_reach reach_of stored_so_far under_way_after under_way_by under_way counted split_off views_of keeps alone
returns-clause-last c = omega arith

pub returns-clause-too_many : goal.returns-clause-too_many
unfolding members cell_from stage_from root_from mailbox_by mailbox_parts enclave_parts enclave_from root_within enclave_within width owner_from region_by region_parts region_from state_from thread_parts thread_from fitting row_words objects_of same_object words_of early_words freed state_of region_zeroed page_put content_put content_after same_place with_word memory_of action_place place_of word_found try_outcome swap_outcome action_outcome outcome_of try_leaves action_leaves leaves left_at memory_after_move onto unlocks zeros write_unless row_writes late_writes late_if finish early_writes copy_words copy_page put_pte go_on walk walk_below load_if loaded loads_if early_if decided_by decided reads meets after_try lock lock_all lock_plan unless_refused call_tree held_by held_after held_of touch_in logged_by logged core_log word_in word_again answered_by answered answers_of is_last call_with call_moves are_any actions_before moves_before before_call issuer_of has_drawn moves_with moves_of memory_after run_of object_index row_index place_index action_reach reach_of stored_so_far under_way_after under_way_by under_way counted split_off views_of keeps alone
returns-clause-too_many c = λ lt. omega (arith, lt)
