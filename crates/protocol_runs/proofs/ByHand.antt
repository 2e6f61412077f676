-- What the moments that are written out by hand need.
use Rattle.std.proofs.Common.{◌≡◌, ◌≢◌, ◌⊎◌, ℕ, zero, suc, Bool, true, false, [], ◌∷◌, Some, refl, inl, inr, ap, sym, ◌∙◌, subst, ne_eqb, ◌&&◌, ◌||◌, ◌==◌, arith}
use Rattle.mon_types.specs.Bits.{members}
use Rattle.mon_types.specs.Cells.{cell_from}
use Rattle.mon_types.specs.Enclaves.{stage_from, root_from, mailbox_by, mailbox_parts, enclave_parts, enclave_from, root_within, enclave_within}
use Rattle.mon_types.specs.Objects.{width}
use Rattle.mon_types.specs.Owns.{owner_from, region_by, region_parts, region_from}
use Rattle.mon_types.specs.Threads.{state_from, thread_parts, thread_from}
use Rattle.mon_types.specs.Words.{fitting}
use Rattle.mon_records.specs.Rows.{row_words, objects_of, same_object, words_of}
use Rattle.mon_records.specs.EarlyWords.{early_words}
use Rattle.mon_records.specs.Answers.{freed}
use Rattle.mon_records.specs.Rebuilt.{state_of}
use Rattle.loaded_pages.specs.Content.{region_zeroed, page_put, content_put, content_after}
use Rattle.protocol.specs.Places.{same_place, with_word, memory_of}
use Rattle.protocol.specs.Moves.{action_place, place_of, word_found, try_outcome, swap_outcome, action_outcome, outcome_of, try_leaves, action_leaves, leaves, left_at, memory_after_move}
use Rattle.protocol.specs.CallTree.{onto, unlocks, zeros, write_unless, row_writes, late_writes, late_if, finish, early_writes, copy_words, copy_page, put_pte, go_on, walk, walk_below, load_if, loaded, loads_if, early_if, decided_by, decided, reads, meets, after_try, lock, lock_all, lock_plan, unless_refused, call_tree}
use Rattle.protocol.specs.Views.{held_by, held_after, held_of, touch_in, logged_by, logged, core_log, word_in, word_again, answered_by, answered, answers_of, is_last, call_with, call_moves, are_any, actions_before, moves_before, before_call, issuer_of, has_drawn}
use Rattle.protocol.specs.Runs.{moves_with, moves_of, memory_after, run_of}
use Rattle.protocol.specs.Layout.{object_index, row_index, place_index}
use Rattle.protocol.specs.Right.{action_reach, reach_of}
use Rattle.protocol.specs.Contents.{stored_so_far}
use Rattle.protocol.specs.Logs.{under_way_after, under_way_by, under_way}
use Rattle.protocol.specs.Passes.{counted, split_off, views_of, keeps}
use Rattle.protocol.specs.Alone.{alone}
use Rattle.std.specs.Prelude.{Contains, if◌then◌else◌}
use Rattle.mon_types.specs.declared.region.Owner.{Owner}
use Rattle.mon_types.specs.declared.region.Owner.TheVariants as owners
use Rattle.mon_types.specs.declared.region.Region.TheVariants as regions
use Rattle.mon_types.specs.declared.object.ObjectId.{ObjectId}
use Rattle.mon_types.specs.declared.object.ObjectId.TheVariants as objects
use Rattle.protocol.specs.declared.action.Action.{Action}
use Rattle.protocol.specs.declared.action.Action.TheVariants as actions
use Rattle.protocol.specs.declared.action.Outcome.{Outcome}
use Rattle.protocol.specs.declared.action.Outcome.TheVariants as outcomes
use Rattle.mon_types.specs.declared.call.Call.TheVariants as calls
use Rattle.mon_model.specs.State.{region_at, flushed_at, enclave_at}
use Rattle.mon_model.specs.RegionCalls.{is_loading}
use Rattle.protocol.specs.Logs.{AreDoing}
use Rattle.lock_plan.specs.Objects.{HasObject}
use Rattle.core_access.specs.Looks.{since_in_word}
use Rattle.protocol.specs.Places.{Lock, Row, Dram, row_word}
use Rattle.protocol.specs.Views.{has_touched}
use Rattle.protocol.specs.Worlds.{state_now, IsHeldBy}
use Rattle.protocol.specs.Records.{IsLockedBy, IsWrittenEarly, IsToBeWritten, IsTouched}
use Rattle.protocol.specs.Contents.{IsToBeZero}
use Rattle.mon_model.specs.Examples.{r1}
use Rattle.protocol.specs.Alone.{two}
use Rattle.protocol.specs.Permits.{has_looked}
use Rattle.protocol_runs.specs.Moments.{locked, written_by_nobody, touched_since_0, one, freed_moves, storing_moves, found_of_nobody, with_first_word}

-- ---- small things

-- zero on both ways
pub both_zero : (b : Bool) (x : ℕ) → x ≡ 0 → (if b then 0 else x) ≡ 0
both_zero true x is = refl
both_zero false x is = is

-- what a list of one item has
pub only_one : {A : Type 0} (x y : A) → Contains (x ∷ []) y → x ≡ y
only_one x y (zero, lt, is) = is
only_one x y (suc n, lt, is) = absurd (omega (arith, lt))

pub no_true : false ≡ true → ⊥
no_true e = absurd (cc (e))

-- a try is no write
try_is_no_write : {o q : ObjectId} {i word : ℕ} → actions.TryLock o ≡ actions.Write q i word → ⊥
try_is_no_write e = absurd (cc (e))

no_write : {o q : ObjectId} {i word : ℕ} {a b : Outcome} → ◌≡◌ {A = Action × Outcome} (actions.TryLock o, a) (actions.Write q i word, b) → ⊥
no_write e = try_is_no_write (ap (λ (p : Action × Outcome). p.0) e)

-- ---- locks

pub named : (o : ObjectId) → HasObject two o → locked.memory (Lock o) ≢ 0 → (core : ℕ) × IsLockedBy two locked o core
unfolding members cell_from stage_from root_from mailbox_by mailbox_parts enclave_parts enclave_from root_within enclave_within width owner_from region_by region_parts region_from state_from thread_parts thread_from fitting row_words objects_of same_object words_of early_words freed state_of region_zeroed page_put content_put content_after same_place with_word memory_of action_place place_of word_found try_outcome swap_outcome action_outcome outcome_of try_leaves action_leaves leaves left_at memory_after_move onto unlocks zeros write_unless row_writes late_writes late_if finish early_writes copy_words copy_page put_pte go_on walk walk_below load_if loaded loads_if early_if decided_by decided reads meets after_try lock lock_all lock_plan unless_refused call_tree held_by held_after held_of touch_in logged_by logged core_log word_in word_again answered_by answered answers_of is_last call_with call_moves are_any actions_before moves_before before_call issuer_of has_drawn moves_with moves_of memory_after run_of object_index row_index place_index action_reach reach_of stored_so_far under_way_after under_way_by under_way counted split_off views_of keeps alone
named (objects.Enclave e) has ne = absurd (ne refl)
named (objects.Thread t) has ne = absurd (ne refl)
named (objects.Region zero) has ne = absurd (ne refl)
named (objects.Region (suc zero)) has ne =
    (0, record { held = record { of_machine = omega arith; held = (0, omega arith, refl) }; calling = refl; word = refl })
named (objects.Region (suc (suc r))) has ne =
    absurd (ne (ap (λ (b : Bool). if b then 1 else 0) (ne_eqb 1 (suc (suc r)) (λ e. omega (arith, e)))))
named (objects.Cell c) has ne = absurd (ne refl)

locked_0 : (o : ObjectId) → r1 ≡ o → IsLockedBy two locked o 0
unfolding members cell_from stage_from root_from mailbox_by mailbox_parts enclave_parts enclave_from root_within enclave_within width owner_from region_by region_parts region_from state_from thread_parts thread_from fitting row_words objects_of same_object words_of early_words freed state_of region_zeroed page_put content_put content_after same_place with_word memory_of action_place place_of word_found try_outcome swap_outcome action_outcome outcome_of try_leaves action_leaves leaves left_at memory_after_move onto unlocks zeros write_unless row_writes late_writes late_if finish early_writes copy_words copy_page put_pte go_on walk walk_below load_if loaded loads_if early_if decided_by decided reads meets after_try lock lock_all lock_plan unless_refused call_tree held_by held_after held_of touch_in logged_by logged core_log word_in word_again answered_by answered answers_of is_last call_with call_moves are_any actions_before moves_before before_call issuer_of has_drawn moves_with moves_of memory_after run_of object_index row_index place_index action_reach reach_of stored_so_far under_way_after under_way_by under_way counted split_off views_of keeps alone
locked_0 o is = subst (λ (x : ObjectId). IsLockedBy two locked x 0) is (record { held = record { of_machine = omega arith; held = (0, omega arith, refl) }; calling = refl; word = refl })

pub is_locked : (o : ObjectId) (core : ℕ) → IsHeldBy two locked core o → IsLockedBy two locked o core
unfolding members cell_from stage_from root_from mailbox_by mailbox_parts enclave_parts enclave_from root_within enclave_within width owner_from region_by region_parts region_from state_from thread_parts thread_from fitting row_words objects_of same_object words_of early_words freed state_of region_zeroed page_put content_put content_after same_place with_word memory_of action_place place_of word_found try_outcome swap_outcome action_outcome outcome_of try_leaves action_leaves leaves left_at memory_after_move onto unlocks zeros write_unless row_writes late_writes late_if finish early_writes copy_words copy_page put_pte go_on walk walk_below load_if loaded loads_if early_if decided_by decided reads meets after_try lock lock_all lock_plan unless_refused call_tree held_by held_after held_of touch_in logged_by logged core_log word_in word_again answered_by answered answers_of is_last call_with call_moves are_any actions_before moves_before before_call issuer_of has_drawn moves_with moves_of memory_after run_of object_index row_index place_index action_reach reach_of stored_so_far under_way_after under_way_by under_way counted split_off views_of keeps alone
is_locked o zero by = locked_0 o (only_one r1 o by.held)
is_locked o (suc zero) by = absurd (omega (arith, by.held.1))
is_locked o (suc (suc core)) by = absurd (omega (arith, by.of_machine))

-- ---- own-words

pub os_since_0 : (a : ℕ) (owner : Owner) → since_in_word owner 1 ≡ Some a → regions.Owned owners.Os 0 ≡ regions.Owned owner a
unfolding members cell_from stage_from root_from mailbox_by mailbox_parts enclave_parts enclave_from root_within enclave_within width owner_from region_by region_parts region_from state_from thread_parts thread_from fitting row_words objects_of same_object words_of early_words freed state_of region_zeroed page_put content_put content_after same_place with_word memory_of action_place place_of word_found try_outcome swap_outcome action_outcome outcome_of try_leaves action_leaves leaves left_at memory_after_move onto unlocks zeros write_unless row_writes late_writes late_if finish early_writes copy_words copy_page put_pte go_on walk walk_below load_if loaded loads_if early_if decided_by decided reads meets after_try lock lock_all lock_plan unless_refused call_tree held_by held_after held_of touch_in logged_by logged core_log word_in word_again answered_by answered answers_of is_last call_with call_moves are_any actions_before moves_before before_call issuer_of has_drawn moves_with moves_of memory_after run_of object_index row_index place_index action_reach reach_of stored_so_far under_way_after under_way_by under_way counted split_off views_of keeps alone
os_since_0 a owners.Os is = cc (is)
os_since_0 a (owners.Enclave e) is = absurd (cc (is))

-- ---- rows

pub not_written : (written_by_nobody.memory (Row r1 0) ≡ row_word (state_now two written_by_nobody) r1 0)
    ⊎ (IsWrittenEarly two written_by_nobody 0 r1 0 ⊎ IsToBeWritten two written_by_nobody 0 r1 0) → ⊥
unfolding members cell_from stage_from root_from mailbox_by mailbox_parts enclave_parts enclave_from root_within enclave_within width owner_from region_by region_parts region_from state_from thread_parts thread_from fitting row_words objects_of same_object words_of early_words freed state_of region_zeroed page_put content_put content_after same_place with_word memory_of action_place place_of word_found try_outcome swap_outcome action_outcome outcome_of try_leaves action_leaves leaves left_at memory_after_move onto unlocks zeros write_unless row_writes late_writes late_if finish early_writes copy_words copy_page put_pte go_on walk walk_below load_if loaded loads_if early_if decided_by decided reads meets after_try lock lock_all lock_plan unless_refused call_tree held_by held_after held_of touch_in logged_by logged core_log word_in word_again answered_by answered answers_of is_last call_with call_moves are_any actions_before moves_before before_call issuer_of has_drawn moves_with moves_of memory_after run_of object_index row_index place_index action_reach reach_of stored_so_far under_way_after under_way_by under_way counted split_off views_of keeps alone
not_written (inl e) = omega (arith, e)
not_written (inr (inl early)) =
    no_write (only_one (actions.TryLock r1, outcomes.Taken) (actions.Write r1 0 early.word, outcomes.Done) early.written)
not_written (inr (inr late)) = absurd (cc (late.drawn))

-- ---- touches

pub touched_2 : (r a : ℕ) → has_touched 0 (has_looked 2) r a ≡ true
    → IsTouched (region_at (state_now two touched_since_0) r) a (flushed_at (state_now two touched_since_0) 0)
unfolding members cell_from stage_from root_from mailbox_by mailbox_parts enclave_parts enclave_from root_within enclave_within width owner_from region_by region_parts region_from state_from thread_parts thread_from fitting row_words objects_of same_object words_of early_words freed state_of region_zeroed page_put content_put content_after same_place with_word memory_of action_place place_of word_found try_outcome swap_outcome action_outcome outcome_of try_leaves action_leaves leaves left_at memory_after_move onto unlocks zeros write_unless row_writes late_writes late_if finish early_writes copy_words copy_page put_pte go_on walk walk_below load_if loaded loads_if early_if decided_by decided reads meets after_try lock lock_all lock_plan unless_refused call_tree held_by held_after held_of touch_in logged_by logged core_log word_in word_again answered_by answered answers_of is_last call_with call_moves are_any actions_before moves_before before_call issuer_of has_drawn moves_with moves_of memory_after run_of object_index row_index place_index action_reach reach_of stored_so_far under_way_after under_way_by under_way counted split_off views_of keeps alone
touched_2 zero a is = absurd (no_true is)
touched_2 (suc zero) a is = absurd (no_true is)
touched_2 (suc (suc zero)) zero is = refl
touched_2 (suc (suc zero)) (suc a) is =
    absurd (no_true (sym (ap (λ (b : Bool). b || false) (ne_eqb 0 (suc a) (λ e. omega (arith, e)))) ∙ is))
touched_2 (suc (suc (suc r))) a is =
    absurd (no_true (sym (ap (λ (b : Bool). (b && (0 == a)) || false) (ne_eqb 2 (suc (suc (suc r))) (λ e. omega (arith, e)))) ∙ is))

-- ---- zeros

pub not_zero : ((with_first_word freed_moves 7).memory (Dram 512) ≡ 0)
    ⊎ ((core : ℕ) × IsToBeZero one (with_first_word freed_moves 7) core 1 512) → ⊥
unfolding members cell_from stage_from root_from mailbox_by mailbox_parts enclave_parts enclave_from root_within enclave_within width owner_from region_by region_parts region_from state_from thread_parts thread_from fitting row_words objects_of same_object words_of early_words freed state_of region_zeroed page_put content_put content_after same_place with_word memory_of action_place place_of word_found try_outcome swap_outcome action_outcome outcome_of try_leaves action_leaves leaves left_at memory_after_move onto unlocks zeros write_unless row_writes late_writes late_if finish early_writes copy_words copy_page put_pte go_on walk walk_below load_if loaded loads_if early_if decided_by decided reads meets after_try lock lock_all lock_plan unless_refused call_tree held_by held_after held_of touch_in logged_by logged core_log word_in word_again answered_by answered answers_of is_last call_with call_moves are_any actions_before moves_before before_call issuer_of has_drawn moves_with moves_of memory_after run_of object_index row_index place_index action_reach reach_of stored_so_far under_way_after under_way_by under_way counted split_off views_of keeps alone
not_zero (inl e) = omega (arith, e)
not_zero (inr late) = absurd (cc (late.1.drawn))

-- ---- a lock that nobody holds

-- both cores may be doing a block of region 1
pub doing_block : AreDoing two found_of_nobody (λ core. calls.Block 1)
unfolding members cell_from stage_from root_from mailbox_by mailbox_parts enclave_parts enclave_from root_within enclave_within width owner_from region_by region_parts region_from state_from thread_parts thread_from fitting row_words objects_of same_object words_of early_words freed state_of region_zeroed page_put content_put content_after same_place with_word memory_of action_place place_of word_found try_outcome swap_outcome action_outcome outcome_of try_leaves action_leaves leaves left_at memory_after_move onto unlocks zeros write_unless row_writes late_writes late_if finish early_writes copy_words copy_page put_pte go_on walk walk_below load_if loaded loads_if early_if decided_by decided reads meets after_try lock lock_all lock_plan unless_refused call_tree held_by held_after held_of touch_in logged_by logged core_log word_in word_again answered_by answered answers_of is_last call_with call_moves are_any actions_before moves_before before_call issuer_of has_drawn moves_with moves_of memory_after run_of object_index row_index place_index action_reach reach_of stored_so_far under_way_after under_way_by under_way counted split_off views_of keeps alone
doing_block zero lt is = absurd (no_true is)
doing_block (suc zero) lt is = (_, record { follows = (_, refl, refl) })
doing_block (suc (suc core)) lt is = absurd (omega (arith, lt))

-- no entry and no call has taken it
pub no_holder : {Q : Type 0} → ⊥ ⊎ (Q × Contains [] r1) → ⊥
no_holder (inl entry) = entry
no_holder (inr alive) = omega (arith, alive.1.1)

-- ---- the one Loading enclave

pub only_slot_3 : (e : ℕ) → is_loading (enclave_at (state_now one (with_first_word storing_moves 7)) e).stage ≡ true → e ≡ 3
unfolding members cell_from stage_from root_from mailbox_by mailbox_parts enclave_parts enclave_from root_within enclave_within width owner_from region_by region_parts region_from state_from thread_parts thread_from fitting row_words objects_of same_object words_of early_words freed state_of region_zeroed page_put content_put content_after same_place with_word memory_of action_place place_of word_found try_outcome swap_outcome action_outcome outcome_of try_leaves action_leaves leaves left_at memory_after_move onto unlocks zeros write_unless row_writes late_writes late_if finish early_writes copy_words copy_page put_pte go_on walk walk_below load_if loaded loads_if early_if decided_by decided reads meets after_try lock lock_all lock_plan unless_refused call_tree held_by held_after held_of touch_in logged_by logged core_log word_in word_again answered_by answered answers_of is_last call_with call_moves are_any actions_before moves_before before_call issuer_of has_drawn moves_with moves_of memory_after run_of object_index row_index place_index action_reach reach_of stored_so_far under_way_after under_way_by under_way counted split_off views_of keeps alone
only_slot_3 zero is = absurd (no_true is)
only_slot_3 (suc zero) is = absurd (no_true is)
only_slot_3 (suc (suc zero)) is = absurd (no_true is)
only_slot_3 (suc (suc (suc zero))) is = refl
only_slot_3 (suc (suc (suc (suc zero)))) is = absurd (no_true is)
only_slot_3 (suc (suc (suc (suc (suc zero))))) is = absurd (no_true is)
only_slot_3 (suc (suc (suc (suc (suc (suc zero)))))) is = absurd (no_true is)
only_slot_3 (suc (suc (suc (suc (suc (suc (suc zero))))))) is = absurd (no_true is)
only_slot_3 (suc (suc (suc (suc (suc (suc (suc (suc e)))))))) is = absurd (no_true is)
