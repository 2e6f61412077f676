-- A move by the index of its word is the move on the list; it finds what it may find, and locks stay lock words.
use Rattle.std.proofs.Common.{◌≡◌, ◌∙◌, inl, inr, ℕ, zero, suc, ◌-◌, ◌<◌, ◌^◌, Bool, true, false, cond, Option, Some, None, List, length, get_or, set, sym, ap, subst, refl, arith}
use Rattle.std.specs.Option.{option_map}
use Rattle.std.proofs.lemmas.List.{length-append}
use Rattle.mon_types.specs.Shape.{Shape}
use Rattle.mon_types.specs.Locks.{lock_word}
use Rattle.mon_types.specs.declared.object.ObjectId.{ObjectId}
use Rattle.mon_records.specs.Rows.{same_object}
use Rattle.lock_plan.specs.Objects.{HasObject}
use Rattle.protocol.specs.declared.action.Action.TheVariants as actions
use Rattle.protocol.specs.declared.action.Move.{Move}
use Rattle.protocol.specs.declared.action.Move.TheVariants as moves
use Rattle.protocol.specs.declared.action.Outcome.TheVariants as outcomes
use Rattle.protocol.specs.Places.{Place, Lock, Memory, same_place, with_word}
use Rattle.protocol.specs.Moves.{action_place, place_of, word_found, outcome_of, try_leaves, action_leaves, leaves, left_at, memory_after_move}
use Rattle.protocol.specs.Layout.{word_count, place_index, Holds}
use Rattle.protocol.specs.Words.{IsPlaced, listed_word, list_with, words_after_move}
use Rattle.word_list.specs.Listed.{Listed, HasTicket, CanBeMade}
use Rattle.word_list.specs.Finds.{IsLockWord, Finds}
use Rattle.word_list.specs.declared.pieces.Pieces.{Pieces}
use Rattle.word_list.specs.declared.room.Room.{Room}
use Rattle.word_list.specs.Pieces.{joined}
use Rattle.word_list.specs.Kept.{LocksAreWords, IsKept}
use Rattle.word_list.proofs.Listing.{index_is_there, found_is_listed, move_is_listed}

-- the pieces make the whole list
pub whole_list : (shape : Shape) (words : Pieces) (room : Room) → IsKept shape words room → length (joined words) ≡ word_count shape
whole_list shape words room kept =
    let l = length-append words.table.items words.dram.items in
    let t = kept.table in
    let d = kept.dram in
    omega (arith, l, t, d)

-- ---- by the index of the word

word_there : (shape : Shape) (words : List ℕ) (p : Option Place) (at : ℕ) → option_map (place_index shape) p ≡ Some at → listed_word shape words p ≡ get_or words at 0
unfolding listed_word
word_there shape words None at is = absurd (cc)
word_there shape words (Some p) at is = let same : place_index shape p ≡ at = cc in ap (λ (i : ℕ). get_or words i 0) same

with_there : (shape : Shape) (words : List ℕ) (p : Option Place) (at word : ℕ) → option_map (place_index shape) p ≡ Some at → list_with shape words p word ≡ set words at word
unfolding list_with
with_there shape words None at word is = absurd (cc)
with_there shape words (Some p) at word is = let same : place_index shape p ≡ at = cc in ap (λ (i : ℕ). set words i word) same

with_none : (shape : Shape) (words : List ℕ) (p : Option Place) (word : ℕ) → option_map (place_index shape) p ≡ None → list_with shape words p word ≡ words
unfolding list_with
with_none shape words None word is = refl
with_none shape words (Some p) word is = absurd (cc)

low_index : (shape : Shape) (p : Option Place) (at : ℕ) → option_map (place_index shape) p ≡ Some at → IsPlaced shape p → at < word_count shape
low_index shape None at is h = absurd (cc)
low_index shape (Some p) at is h =
    let same : place_index shape p ≡ at = cc in
    subst (λ (i : ℕ). i < word_count shape) same (index_is_there shape p h)

-- what a move finds
pub finds_there : (shape : Shape) (words : List ℕ) (move : Move) (at : ℕ) → option_map (place_index shape) (place_of move) ≡ Some at → get_or words at 0 ≡ listed_word shape words (place_of move)
finds_there shape words move at is = sym (word_there shape words (place_of move) at is)

-- and what it leaves
pub leaves_there : (shape : Shape) (mine : ℕ) (words : List ℕ) (move : Move) (at : ℕ) → option_map (place_index shape) (place_of move) ≡ Some at → set words at (leaves mine move (get_or words at 0)) ≡ words_after_move shape mine words move
unfolding words_after_move
leaves_there shape mine words move at is =
    ap (λ (n : ℕ). set words at (leaves mine move n)) (finds_there shape words move at is)
    ∙ sym (with_there shape words (place_of move) at (leaves mine move (listed_word shape words (place_of move))) is)

-- a move on no word leaves all
pub leaves_all : (shape : Shape) (mine : ℕ) (words : List ℕ) (move : Move) → option_map (place_index shape) (place_of move) ≡ None → words ≡ words_after_move shape mine words move
unfolding words_after_move
leaves_all shape mine words move is = sym (with_none shape words (place_of move) (leaves mine move (listed_word shape words (place_of move))) is)

-- and is done
pub done_there : (shape : Shape) (move : Move) (found : ℕ) → option_map (place_index shape) (place_of move) ≡ None → outcomes.Done ≡ outcome_of move found
unfolding place_of outcome_of
done_there shape (moves.InCall a) found is = absurd (cc)
done_there shape (moves.Look r owner) found is = absurd (cc)
done_there shape (moves.Load i) found is = absurd (cc)
done_there shape (moves.Store i value) found is = absurd (cc)
done_there shape (moves.Swap i loaded value) found is = absurd (cc)
done_there shape (moves.Stop line why) found is = refl

-- the index is one of the list
pub low_there : (shape : Shape) (move : Move) (at : ℕ) → option_map (place_index shape) (place_of move) ≡ Some at → IsPlaced shape (place_of move) → at < word_count shape
low_there shape move at is h = low_index shape (place_of move) at is h

-- ---- what it may find

listed_finds : (shape : Shape) (words : List ℕ) (move : Move) → LocksAreWords shape words → IsPlaced shape (place_of move) → HasTicket move (get_or words 0 0) → Finds move (listed_word shape words (place_of move))
unfolding place_of action_place listed_word place_index
listed_finds shape words (moves.InCall (actions.TryLock o)) locks h ticket = locks o h
listed_finds shape words (moves.InCall (actions.Read o i)) locks h ticket = tt
listed_finds shape words (moves.InCall (actions.Write o i value)) locks h ticket = tt
listed_finds shape words (moves.InCall (actions.Draw draft)) locks h ticket = ticket
listed_finds shape words (moves.InCall (actions.Unlock o)) locks h ticket = tt
listed_finds shape words (moves.InCall (actions.Load i)) locks h ticket = tt
listed_finds shape words (moves.InCall (actions.Store i value)) locks h ticket = tt
listed_finds shape words (moves.Look r owner) locks h ticket = tt
listed_finds shape words (moves.Load i) locks h ticket = tt
listed_finds shape words (moves.Store i value) locks h ticket = tt
listed_finds shape words (moves.Swap i loaded value) locks h ticket = tt
listed_finds shape words (moves.Stop line why) locks h ticket = tt

pub may_find : (l : Listed) (move : Move) (at : ℕ) → LocksAreWords l.shape l.words → CanBeMade l move → option_map (place_index l.shape) (place_of move) ≡ Some at → Finds move (get_or l.words at 0)
may_find l move at locks can is =
    subst (Finds move) (sym (finds_there l.shape l.words move at is)) (listed_finds l.shape l.words move locks can.placed can.ticket)

-- ---- locks stay lock words

pub own_word_is : (core serial : ℕ) → core < 16 → serial < 2 ^ 32 → IsLockWord (lock_word core serial)
own_word_is core serial few small =
    inr (record { core = core; serial = serial; lock = record { among_cores = few; among_serials = small; packed = refl } })

one_of : (b : Bool) (x y : ℕ) → IsLockWord x → IsLockWord y → IsLockWord (cond b x y)
one_of true x y p q = p
one_of false x y p q = q

tried : (mine found : ℕ) → IsLockWord mine → IsLockWord found → IsLockWord (try_leaves mine found)
unfolding try_leaves
tried mine zero own is = own
tried mine (suc n) own is = is

lock_after : (shape : Shape) (mine : ℕ) (memory : Memory) (move : Move) → IsLockWord mine → ((a : ObjectId) → HasObject shape a → IsLockWord (memory (Lock a))) → IsPlaced shape (place_of move)
    → (o : ObjectId) → HasObject shape o → IsLockWord (memory_after_move mine memory move (Lock o))
unfolding place_of action_place word_found leaves action_leaves left_at memory_after_move with_word same_place
lock_after shape mine memory (moves.InCall (actions.TryLock a)) own locks h o there =
    one_of (same_object a o) (try_leaves mine (memory (Lock a))) (memory (Lock o)) (tried mine (memory (Lock a)) own (locks a h)) (locks o there)
lock_after shape mine memory (moves.InCall (actions.Read a i)) own locks h o there = locks o there
lock_after shape mine memory (moves.InCall (actions.Write a i value)) own locks h o there = locks o there
lock_after shape mine memory (moves.InCall (actions.Draw draft)) own locks h o there = locks o there
lock_after shape mine memory (moves.InCall (actions.Unlock a)) own locks h o there =
    one_of (same_object a o) 0 (memory (Lock o)) (inl refl) (locks o there)
lock_after shape mine memory (moves.InCall (actions.Load i)) own locks h o there = locks o there
lock_after shape mine memory (moves.InCall (actions.Store i value)) own locks h o there = locks o there
lock_after shape mine memory (moves.Look r owner) own locks h o there = locks o there
lock_after shape mine memory (moves.Load i) own locks h o there = locks o there
lock_after shape mine memory (moves.Store i value) own locks h o there = locks o there
lock_after shape mine memory (moves.Swap i loaded value) own locks h o there = locks o there
lock_after shape mine memory (moves.Stop line why) own locks h o there = locks o there

pub locks_stay : (shape : Shape) (mine : ℕ) (words : List ℕ) (move : Move) → length words ≡ word_count shape → IsLockWord mine → LocksAreWords shape words → IsPlaced shape (place_of move) → LocksAreWords shape (words_after_move shape mine words move)
locks_stay shape mine words move many own locks h o there =
    let memory : Memory = λ p. get_or words (place_index shape p) 0 in
    let holds : Holds shape words memory = record { count = many; each = λ p has. refl } in
    subst IsLockWord (sym ((move_is_listed shape mine words memory move holds h).each (Lock o) there)) (lock_after shape mine memory move own locks h o there)

-- ---- the parts together

-- the list after a move, by the word that was put at its index
pub list_made : (shape : Shape) (mine : ℕ) (words new : List ℕ) (move : Move) (at found own word : ℕ) → option_map (place_index shape) (place_of move) ≡ Some at → found ≡ get_or words at 0 → own ≡ mine → word ≡ leaves own move found → new ≡ set words at word → new ≡ words_after_move shape mine words move
list_made shape mine words new move at found own word is found_is own_is left put =
    put
    ∙ ap (λ (w : ℕ). set words at w) (left ∙ ap (λ (m : ℕ). leaves m move found) own_is ∙ ap (λ (n : ℕ). leaves mine move n) found_is)
    ∙ leaves_there shape mine words move at is

-- the word that is found is the memory's
pub memory_finds : (shape : Shape) (words : List ℕ) (memory : Memory) (move : Move) (at found : ℕ) → Holds shape words memory → IsPlaced shape (place_of move) → option_map (place_index shape) (place_of move) ≡ Some at → found ≡ get_or words at 0 → found ≡ word_found memory (place_of move)
memory_finds shape words memory move at found holds placed is found_is =
    found_is ∙ finds_there shape words move at is ∙ found_is_listed shape words memory move holds placed

-- and the list stands for the memory after the move
pub memory_made : (shape : Shape) (mine : ℕ) (words new : List ℕ) (memory : Memory) (move : Move) → Holds shape words memory → IsPlaced shape (place_of move) → new ≡ words_after_move shape mine words move → Holds shape new (memory_after_move mine memory move)
memory_made shape mine words new memory move holds placed is =
    subst (λ (l : List ℕ). Holds shape l (memory_after_move mine memory move)) (sym is) (move_is_listed shape mine words memory move holds placed)

-- the pieces stay as they are to be
pub kept_made : (shape : Shape) (mine : ℕ) (old new : Pieces) (room : Room) (move : Move) → IsKept shape old room → IsLockWord mine → IsPlaced shape (place_of move) → joined new ≡ words_after_move shape mine (joined old) move → length new.table.items ≡ length old.table.items → length new.dram.items ≡ length old.dram.items → IsKept shape new room
kept_made shape mine old new room move kept own placed is table dram = record {
  table = table ∙ kept.table;
  dram = dram ∙ kept.dram;
  locks = subst (LocksAreWords shape) (sym is) (locks_stay shape mine (joined old) move (whole_list shape old room kept) own kept.locks placed);
  spare = kept.spare;
}

-- ---- tickets

-- where tickets are left, there is one for any move
pub has_ticket : (move : Move) (drawn : ℕ) → drawn < 2 ^ 32 - 1 → HasTicket move drawn
has_ticket (moves.InCall (actions.TryLock o)) drawn left = tt
has_ticket (moves.InCall (actions.Read o i)) drawn left = tt
has_ticket (moves.InCall (actions.Write o i value)) drawn left = tt
has_ticket (moves.InCall (actions.Draw draft)) drawn left = left
has_ticket (moves.InCall (actions.Unlock o)) drawn left = tt
has_ticket (moves.InCall (actions.Load i)) drawn left = tt
has_ticket (moves.InCall (actions.Store i value)) drawn left = tt
has_ticket (moves.Look r owner) drawn left = tt
has_ticket (moves.Load i) drawn left = tt
has_ticket (moves.Store i value) drawn left = tt
has_ticket (moves.Swap i loaded value) drawn left = tt
has_ticket (moves.Stop line why) drawn left = tt
