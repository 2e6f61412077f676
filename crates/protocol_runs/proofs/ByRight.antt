-- That a core has none of the four rights.
use Rattle.std.proofs.Common.{◌≡◌, ℕ, true, [], subst, arith}
use Rattle.mon_types.specs.declared.region.Owner.TheVariants as owners
use Rattle.mon_types.specs.declared.region.Region.TheVariants as regions
use Rattle.mon_types.specs.declared.object.ObjectId.TheVariants as objects
use Rattle.mon_types.specs.Bits.{has_bit}
use Rattle.mon_model.specs.State.{enclave_at}
use Rattle.protocol.specs.Right.{Loads, Stores, RightTo, OfTouch, OfSource, OfLoading, OfFreeing}
use Rattle.protocol.specs.Alone.{begin}
use Rattle.protocol.specs.Permits.{has_lock}
use Rattle.protocol_runs.specs.Rights.{has_e3, e3_loads, r1_is_free, has_freed}
use Rattle.protocol_runs.proofs.ByHand.{only_one, no_true}
use Rattle.mon_types.specs.Bits.{members}
use Rattle.mon_types.specs.Cells.{cell_from}
use Rattle.mon_types.specs.Enclaves.{stage_from, root_from, mailbox_by, mailbox_parts, enclave_parts, enclave_from, root_within, enclave_within}
use Rattle.mon_types.specs.Objects.{width}
use Rattle.mon_types.specs.Owns.{owner_from, region_by, region_parts, region_from}
use Rattle.mon_types.specs.Threads.{state_from, thread_parts, thread_from}
use Rattle.mon_types.specs.Words.{fitting}
use Rattle.mon_records.specs.Rows.{row_words, objects_of, same_object, words_of}
use Rattle.mon_records.specs.EarlyWords.{early_words}
use Rattle.mon_records.specs.Answers.{freed}
use Rattle.mon_records.specs.Rebuilt.{state_of}
use Rattle.loaded_pages.specs.Content.{region_zeroed, page_put, content_put, content_after}
use Rattle.protocol.specs.Places.{same_place, with_word, memory_of}
use Rattle.protocol.specs.Moves.{action_place, place_of, word_found, try_outcome, swap_outcome, action_outcome, outcome_of, try_leaves, action_leaves, leaves, left_at, memory_after_move}
use Rattle.protocol.specs.CallTree.{onto, unlocks, zeros, write_unless, row_writes, late_writes, late_if, finish, early_writes, copy_words, copy_page, put_pte, go_on, walk, walk_below, load_if, loaded, loads_if, early_if, decided_by, decided, reads, meets, after_try, lock, lock_all, lock_plan, unless_refused, call_tree}
use Rattle.protocol.specs.Views.{held_by, held_after, held_of, touch_in, logged_by, logged, core_log, word_in, word_again, answered_by, answered, answers_of, is_last, call_with, call_moves, are_any, actions_before, moves_before, before_call, issuer_of, has_drawn}
use Rattle.protocol.specs.Runs.{moves_with, moves_of, memory_after, run_of}
use Rattle.protocol.specs.Layout.{object_index, row_index, place_index}
use Rattle.protocol.specs.Right.{action_reach, reach_of}
use Rattle.protocol.specs.Contents.{stored_so_far}
use Rattle.protocol.specs.Logs.{under_way_after, under_way_by, under_way}
use Rattle.protocol.specs.Passes.{counted, split_off, views_of, keeps}
use Rattle.protocol.specs.Alone.{alone}

-- ---- apart

no_load : {x : ℕ} → Stores x ≡ Loads → ⊥
no_load e = absurd (cc (e))

same_value : {x y : ℕ} → Stores x ≡ Stores y → x ≡ y
same_value e = cc (e)

no_enclave : {e : ℕ} → objects.Region 1 ≡ objects.Enclave e → ⊥
no_enclave is = absurd (cc (is))

no_region : {r : ℕ} → objects.Enclave 3 ≡ objects.Region r → ⊥
no_region is = absurd (cc (is))

same_slot : {e f : ℕ} → objects.Enclave e ≡ objects.Enclave f → e ≡ f
same_slot is = cc (is)

not_owned : {a : ℕ} → regions.Free ≡ regions.Owned owners.Os a → ⊥
not_owned is = absurd (cc (is))

-- ---- the rights

pub no_touch : RightTo begin 0 [] 2 (Stores 7) → ⊥
unfolding members cell_from stage_from root_from mailbox_by mailbox_parts enclave_parts enclave_from root_within enclave_within width owner_from region_by region_parts region_from state_from thread_parts thread_from fitting row_words objects_of same_object words_of early_words freed state_of region_zeroed page_put content_put content_after same_place with_word memory_of action_place place_of word_found try_outcome swap_outcome action_outcome outcome_of try_leaves action_leaves leaves left_at memory_after_move onto unlocks zeros write_unless row_writes late_writes late_if finish early_writes copy_words copy_page put_pte go_on walk walk_below load_if loaded loads_if early_if decided_by decided reads meets after_try lock lock_all lock_plan unless_refused call_tree held_by held_after held_of touch_in logged_by logged core_log word_in word_again answered_by answered answers_of is_last call_with call_moves are_any actions_before moves_before before_call issuer_of has_drawn moves_with moves_of memory_after run_of object_index row_index place_index action_reach reach_of stored_so_far under_way_after under_way_by under_way counted split_off views_of keeps alone
no_touch (OfTouch a since touched) = no_true touched
no_touch (OfSource a is held owned) = omega (arith, held.1)
no_touch (OfLoading e held loading bit) = omega (arith, held.1)
no_touch (OfFreeing is free held by) = omega (arith, held.1)

pub no_store : RightTo begin 0 has_lock 1 (Stores 7) → ⊥
unfolding members cell_from stage_from root_from mailbox_by mailbox_parts enclave_parts enclave_from root_within enclave_within width owner_from region_by region_parts region_from state_from thread_parts thread_from fitting row_words objects_of same_object words_of early_words freed state_of region_zeroed page_put content_put content_after same_place with_word memory_of action_place place_of word_found try_outcome swap_outcome action_outcome outcome_of try_leaves action_leaves leaves left_at memory_after_move onto unlocks zeros write_unless row_writes late_writes late_if finish early_writes copy_words copy_page put_pte go_on walk walk_below load_if loaded loads_if early_if decided_by decided reads meets after_try lock lock_all lock_plan unless_refused call_tree held_by held_after held_of touch_in logged_by logged core_log word_in word_again answered_by answered answers_of is_last call_with call_moves are_any actions_before moves_before before_call issuer_of has_drawn moves_with moves_of memory_after run_of object_index row_index place_index action_reach reach_of stored_so_far under_way_after under_way_by under_way counted split_off views_of keeps alone
no_store (OfTouch a since touched) = no_true touched
no_store (OfSource a is held owned) = no_load is
no_store (OfLoading e held loading bit) = no_enclave (only_one (objects.Region 1) (objects.Enclave e) held)
no_store (OfFreeing is free held by) = omega (arith, same_value is)

pub not_os : RightTo r1_is_free 0 has_lock 1 (Loads) → ⊥
unfolding members cell_from stage_from root_from mailbox_by mailbox_parts enclave_parts enclave_from root_within enclave_within width owner_from region_by region_parts region_from state_from thread_parts thread_from fitting row_words objects_of same_object words_of early_words freed state_of region_zeroed page_put content_put content_after same_place with_word memory_of action_place place_of word_found try_outcome swap_outcome action_outcome outcome_of try_leaves action_leaves leaves left_at memory_after_move onto unlocks zeros write_unless row_writes late_writes late_if finish early_writes copy_words copy_page put_pte go_on walk walk_below load_if loaded loads_if early_if decided_by decided reads meets after_try lock lock_all lock_plan unless_refused call_tree held_by held_after held_of touch_in logged_by logged core_log word_in word_again answered_by answered answers_of is_last call_with call_moves are_any actions_before moves_before before_call issuer_of has_drawn moves_with moves_of memory_after run_of object_index row_index place_index action_reach reach_of stored_so_far under_way_after under_way_by under_way counted split_off views_of keeps alone
not_os (OfTouch a since touched) = no_true touched
not_os (OfSource a is held owned) = not_owned owned
not_os (OfLoading e held loading bit) = no_enclave (only_one (objects.Region 1) (objects.Enclave e) held)
not_os (OfFreeing is free held by) = absurd (cc (is))

wrong_bit : (e : ℕ) → 3 ≡ e → has_bit (enclave_at e3_loads e).regions 3 ≡ true → ⊥
unfolding members cell_from stage_from root_from mailbox_by mailbox_parts enclave_parts enclave_from root_within enclave_within width owner_from region_by region_parts region_from state_from thread_parts thread_from fitting row_words objects_of same_object words_of early_words freed state_of region_zeroed page_put content_put content_after same_place with_word memory_of action_place place_of word_found try_outcome swap_outcome action_outcome outcome_of try_leaves action_leaves leaves left_at memory_after_move onto unlocks zeros write_unless row_writes late_writes late_if finish early_writes copy_words copy_page put_pte go_on walk walk_below load_if loaded loads_if early_if decided_by decided reads meets after_try lock lock_all lock_plan unless_refused call_tree held_by held_after held_of touch_in logged_by logged core_log word_in word_again answered_by answered answers_of is_last call_with call_moves are_any actions_before moves_before before_call issuer_of has_drawn moves_with moves_of memory_after run_of object_index row_index place_index action_reach reach_of stored_so_far under_way_after under_way_by under_way counted split_off views_of keeps alone
wrong_bit e is = subst (λ (x : ℕ). has_bit (enclave_at e3_loads x).regions 3 ≡ true → ⊥) is no_true

pub other_region : RightTo e3_loads 0 has_e3 3 (Stores 7) → ⊥
unfolding members cell_from stage_from root_from mailbox_by mailbox_parts enclave_parts enclave_from root_within enclave_within width owner_from region_by region_parts region_from state_from thread_parts thread_from fitting row_words objects_of same_object words_of early_words freed state_of region_zeroed page_put content_put content_after same_place with_word memory_of action_place place_of word_found try_outcome swap_outcome action_outcome outcome_of try_leaves action_leaves leaves left_at memory_after_move onto unlocks zeros write_unless row_writes late_writes late_if finish early_writes copy_words copy_page put_pte go_on walk walk_below load_if loaded loads_if early_if decided_by decided reads meets after_try lock lock_all lock_plan unless_refused call_tree held_by held_after held_of touch_in logged_by logged core_log word_in word_again answered_by answered answers_of is_last call_with call_moves are_any actions_before moves_before before_call issuer_of has_drawn moves_with moves_of memory_after run_of object_index row_index place_index action_reach reach_of stored_so_far under_way_after under_way_by under_way counted split_off views_of keeps alone
other_region (OfTouch a since touched) = no_true touched
other_region (OfSource a is held owned) = no_load is
other_region (OfLoading e held loading bit) = wrong_bit e (same_slot (only_one (objects.Enclave 3) (objects.Enclave e) held)) bit
other_region (OfFreeing is free held by) = no_region (only_one (objects.Enclave 3) (objects.Region 3) held)

pub not_zero : RightTo r1_is_free 0 has_freed 1 (Stores 7) → ⊥
unfolding members cell_from stage_from root_from mailbox_by mailbox_parts enclave_parts enclave_from root_within enclave_within width owner_from region_by region_parts region_from state_from thread_parts thread_from fitting row_words objects_of same_object words_of early_words freed state_of region_zeroed page_put content_put content_after same_place with_word memory_of action_place place_of word_found try_outcome swap_outcome action_outcome outcome_of try_leaves action_leaves leaves left_at memory_after_move onto unlocks zeros write_unless row_writes late_writes late_if finish early_writes copy_words copy_page put_pte go_on walk walk_below load_if loaded loads_if early_if decided_by decided reads meets after_try lock lock_all lock_plan unless_refused call_tree held_by held_after held_of touch_in logged_by logged core_log word_in word_again answered_by answered answers_of is_last call_with call_moves are_any actions_before moves_before before_call issuer_of has_drawn moves_with moves_of memory_after run_of object_index row_index place_index action_reach reach_of stored_so_far under_way_after under_way_by under_way counted split_off views_of keeps alone
not_zero (OfTouch a since touched) = no_true touched
not_zero (OfSource a is held owned) = no_load is
not_zero (OfLoading e held loading bit) = no_enclave (only_one (objects.Region 1) (objects.Enclave e) held)
not_zero (OfFreeing is free held by) = omega (arith, same_value is)

pub not_freed : RightTo r1_is_free 0 has_lock 1 (Stores 0) → ⊥
unfolding members cell_from stage_from root_from mailbox_by mailbox_parts enclave_parts enclave_from root_within enclave_within width owner_from region_by region_parts region_from state_from thread_parts thread_from fitting row_words objects_of same_object words_of early_words freed state_of region_zeroed page_put content_put content_after same_place with_word memory_of action_place place_of word_found try_outcome swap_outcome action_outcome outcome_of try_leaves action_leaves leaves left_at memory_after_move onto unlocks zeros write_unless row_writes late_writes late_if finish early_writes copy_words copy_page put_pte go_on walk walk_below load_if loaded loads_if early_if decided_by decided reads meets after_try lock lock_all lock_plan unless_refused call_tree held_by held_after held_of touch_in logged_by logged core_log word_in word_again answered_by answered answers_of is_last call_with call_moves are_any actions_before moves_before before_call issuer_of has_drawn moves_with moves_of memory_after run_of object_index row_index place_index action_reach reach_of stored_so_far under_way_after under_way_by under_way counted split_off views_of keeps alone
not_freed (OfTouch a since touched) = no_true touched
not_freed (OfSource a is held owned) = no_load is
not_freed (OfLoading e held loading bit) = no_enclave (only_one (objects.Region 1) (objects.Enclave e) held)
not_freed (OfFreeing is free held by) = by
