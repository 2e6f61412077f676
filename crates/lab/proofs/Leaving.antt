-- What a move leaves: the serial of its call matters where it tries a lock, and nowhere else.
use Rattle.std.proofs.Common.{◌≡◌, ◌∙◌, ℕ, Option, Some, None, List, [], ◌∷◌, length, unwrap_or, ap, sym, refl, subst}
use Rattle.mon_types.specs.Locks.{lock_word}
use Rattle.mon_types.specs.declared.image.Image.{Image}
use Rattle.mon_types.specs.declared.script.Line.{Line}
use Rattle.mon_types.specs.declared.object.ObjectId.{ObjectId}
use Rattle.hist.specs.History.{entries_of}
use Rattle.protocol.specs.declared.action.Action.TheVariants as actions
use Rattle.protocol.specs.declared.action.Move.{Move}
use Rattle.protocol.specs.declared.action.Move.TheVariants as moves
use Rattle.protocol.specs.Places.{Memory}
use Rattle.protocol.specs.Moves.{place_of, word_found, try_leaves, action_leaves, leaves, left_at, memory_after_move}
use Rattle.protocol.specs.Views.{Moves, core_log, issuer_of, next_serial, own_lock_word}
use Rattle.protocol.specs.Permitted.{Permitted}
use Rattle.protocol.specs.Runs.{Made, moves_of, memory_after}
use Rattle.core_behaviour.specs.Course.{first_of}
use Rattle.core_behaviour.specs.Runs.{start_words, move_made}
use Rattle.core_machine.specs.declared.progress.Progress.{Progress}
use Rattle.core_machine.specs.Meaning.{due, calling_of}
use Rattle.core_machine.specs.Effort.{IsFresh}
use Rattle.word_list.specs.Listed.{Listed, StandsFor}
use Rattle.lab.specs.declared.lab_core.LabCore.{LabCore}
use Rattle.lab.specs.Stands.{WordsStand, Goes}
use Rattle.lab.specs.Steps.{course_left}
use Rattle.lab.proofs.Fair.{is_permitted, try_serial}

same_leaves : (a b found : ℕ) (move : Move) → ((o : ObjectId) → move ≡ moves.InCall (actions.TryLock o) → a ≡ b) → leaves a move found ≡ leaves b move found
unfolding leaves action_leaves
same_leaves a b found (moves.InCall (actions.TryLock o)) same = ap (λ m. try_leaves m found) (same o refl)
same_leaves a b found (moves.InCall (actions.Read o i)) same = refl
same_leaves a b found (moves.InCall (actions.Write o i word)) same = refl
same_leaves a b found (moves.InCall (actions.Draw draft)) same = refl
same_leaves a b found (moves.InCall (actions.Unlock o)) same = refl
same_leaves a b found (moves.InCall (actions.Load i)) same = refl
same_leaves a b found (moves.InCall (actions.Store i word)) same = refl
same_leaves a b found (moves.Look r owner) same = refl
same_leaves a b found (moves.Load i) same = refl
same_leaves a b found (moves.Store i word) same = refl
same_leaves a b found (moves.Swap i old word) same = refl
same_leaves a b found (moves.Stop line why) same = refl

same_after : (a b : ℕ) (memory : Memory) (move : Move) → ((o : ObjectId) → move ≡ moves.InCall (actions.TryLock o) → a ≡ b) → memory_after_move a memory move ≡ memory_after_move b memory move
unfolding memory_after_move
same_after a b memory move same = ap (left_at memory (place_of move)) (same_leaves a b (word_found memory (place_of move)) move same)

memory_more : (image : Image) (core : ℕ) (move : Move) (run : List Made) → memory_after image.config (start_words image) (move_made image core move run ∷ run) ≡ memory_after_move (own_lock_word core (moves_of core run)) (memory_after image.config (start_words image) run) move
unfolding memory_after
memory_more image core move run = refl

-- the lock word by the serial that the core tells is the own one
serial_is : (image : Image) (script : List (List Line)) (core : ℕ) (run : List Made) (k : LabCore) (words : Listed) (g : Goes image script core run k words) (move : Move)
    → first_of (course_left image script core run) ≡ Some move → due k.machine ≡ Some move → IsFresh k.machine → (o : ObjectId) → move ≡ moves.InCall (actions.TryLock o)
    → lock_word core (unwrap_or (calling_of k.machine) 0) ≡ own_lock_word core (moves_of core run)
serial_is image script core run k words g move first is_due fresh o e =
    let told : calling_of k.machine ≡ Some k.machine.own.serial = fresh o (is_due ∙ ap (λ m. Some m) e) in
    let count : next_serial core (moves_of core run) ≡ k.machine.own.serial =
    subst (λ n. length (entries_of (core_log n (moves_of core run))) ≡ k.machine.own.serial) g.own.number g.own.follows.counts.serial in
    let own = try_serial image.config core (moves_of core run) o (subst (λ m. Permitted image.config core (moves_of core run) m) e (is_permitted image script core run k words g move first)) in
    ap (λ s. lock_word core (unwrap_or s 0)) told ∙ ap (lock_word core) (sym count ∙ sym own)

-- the words after the move
pub words_more : (image : Image) (script : List (List Line)) (core : ℕ) (run : List Made) (k : LabCore) (words later : Listed) (serial : ℕ) (g : Goes image script core run k words) (move : Move)
    → first_of (course_left image script core run) ≡ Some move → due k.machine ≡ Some move → IsFresh k.machine → serial ≡ unwrap_or (calling_of k.machine) 0
    → later.shape ≡ words.shape → ((memory : Memory) → StandsFor words memory → StandsFor later (memory_after_move (lock_word core serial) memory move))
    → WordsStand image (move_made image core move run ∷ run) later
words_more image script core run k words later serial g move first is_due fresh is shape stands =
    let memory : Memory = memory_after image.config (start_words image) run in
    let same = same_after (lock_word core serial) (own_lock_word core (moves_of core run)) memory move
    (λ o e. ap (lock_word core) is ∙ serial_is image script core run k words g move first is_due fresh o e) in
    record {
      shape = shape ∙ g.listed.shape;
      holds = subst (StandsFor later) (same ∙ sym (memory_more image core move run)) (stands memory g.listed.holds);
    }
