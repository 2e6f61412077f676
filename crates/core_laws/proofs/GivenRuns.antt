-- A list of moves that are given, each core's by its lines, is a list of permitted moves, and the words behind it are words.
use Rattle.std.proofs.Common.{◌≡◌, inl, inr, ◌-◌, ◌/◌, ◌<◌, ◌^◌, eqb, ℕ, zero, suc, Bool, true, false, cond, Option, Some, None, List, [], ◌∷◌, sym, refl, subst, arith}
use Rattle.std.specs.Prelude.{slice_index}
use Rattle.std.specs.List.{AllByRecursion, range_with_len}
use Rattle.std.proofs.lemmas.Bool.{cases_Bool, eqb-true, eqb-false}
use Rattle.mon_types.specs.Shape.{Shape, is_shape}
use Rattle.mon_types.specs.declared.image.Image.{Image}
use Rattle.mon_types.specs.declared.image.Segment.{Segment}
use Rattle.mon_types.specs.declared.script.Line.{Line}
use Rattle.mon_types.specs.declared.object.ObjectId.{ObjectId}
use Rattle.mon_types.proofs.Rows.{all_at}
use Rattle.mon_model.specs.State.{start}
use Rattle.dram_map.specs.Addresses.{word_total, word_start}
use Rattle.image_read.specs.Grammar.{IsWideSegment}
use Rattle.image_memory.specs.StartMemory.{lies_in, word_among, start_memory}
use Rattle.mon_records.specs.Rows.{row_words}
use Rattle.mon_records.proofs.RangesKept.{start_in}
use Rattle.protocol.specs.declared.action.Action.TheVariants as actions
use Rattle.protocol.specs.declared.action.Move.{Move}
use Rattle.protocol.specs.declared.action.Move.TheVariants as moves
use Rattle.protocol.specs.declared.action.Outcome.TheVariants as outcomes
use Rattle.protocol.specs.Places.{Place, Counter, Lock, Row, Dram, Memory, same_place, with_word, memory_of}
use Rattle.protocol.specs.Moves.{action_place, place_of, word_found, try_outcome, swap_outcome, action_outcome, outcome_of, try_leaves, action_leaves, leaves, left_at, memory_after_move}
use Rattle.protocol.specs.Views.{Moves, own_lock_word}
use Rattle.protocol.specs.Runs.{Made, moves_of, memory_after, IsRun}
use Rattle.protocol_steps.proofs.Kept.{low_ticket}
use Rattle.protocol_steps.proofs.Everything.{reached}
use Rattle.core_behaviour.specs.Course.{left_of, IsBegun}
use Rattle.core_behaviour.specs.Runs.{course_of, start_words}
use Rattle.core_behaviour.specs.RunLaw.{AreGiven}
use Rattle.core_behaviour.proofs.Words.{moves_own, moves_other}
use Rattle.core_behaviour.proofs.Lagging.{begun_before}
use Rattle.core_laws.specs.Outcomes.{IsWord, ActionMayAnswer, MayAnswer, AreAnswered}
use Rattle.core_laws.specs.Given.{IsMachine}
use Rattle.core_laws.specs.Laws.{IsSaid, AreOfLines, GivenIsRun, WordsStayWords, GivenAreAnswered}
use Rattle.core_laws.proofs.CallWords.{all_map, rows_fit}
use Rattle.core_laws.proofs.Permits.{MoveFits, IsNextMove, left_permitted, next_permitted}
use Rattle.core_laws.proofs.Courses.{course_permitted}

-- every shared word has 64 bits
abbrev pub AreWordsAt : Memory → Type 0
AreWordsAt memory = (p : Place) → IsWord (memory p)

-- ---- one move

found_fits : (memory : Memory) (place : Option Place) → AreWordsAt memory → IsWord (word_found memory place)
unfolding word_found
found_fits memory None h = omega arith
found_fits memory (Some p) h = h p

tried_fits : (o : ObjectId) (found : ℕ) → IsWord found → ActionMayAnswer (actions.TryLock o) (try_outcome found)
unfolding try_outcome
tried_fits o zero h = tt
tried_fits o (suc n) h = (omega arith, omega arith)

swapped_fits : (i loaded word found : ℕ) → IsWord found → MayAnswer (moves.Swap i loaded word) (swap_outcome loaded found)
unfolding swap_outcome
swapped_fits i loaded word found h = by (eqb found loaded)
  where
    by : (b : Bool) → MayAnswer (moves.Swap i loaded word) (cond b outcomes.Done (outcomes.Again loaded found))
    by true = tt
    by false = h

answer_fits : (memory : Memory) (move : Move) → AreWordsAt memory → suc (memory Counter) < 2 ^ 32 → MayAnswer move (outcome_of move (word_found memory (place_of move)))
unfolding outcome_of action_outcome place_of action_place word_found
answer_fits memory (moves.InCall (actions.TryLock o)) h c = tried_fits o (memory (Lock o)) (h (Lock o))
answer_fits memory (moves.InCall (actions.Read o i)) h c = h (Row o i)
answer_fits memory (moves.InCall (actions.Write o i word)) h c = tt
answer_fits memory (moves.InCall (actions.Draw draft)) h c = c
answer_fits memory (moves.InCall (actions.Unlock o)) h c = tt
answer_fits memory (moves.InCall (actions.Load i)) h c = h (Dram i)
answer_fits memory (moves.InCall (actions.Store i word)) h c = tt
answer_fits memory (moves.Look r owner) h c = h _
answer_fits memory (moves.Load i) h c = h (Dram i)
answer_fits memory (moves.Store i word) h c = tt
answer_fits memory (moves.Swap i old word) h c = swapped_fits i old word (memory (Dram i)) (h (Dram i))
answer_fits memory (moves.Stop line why) h c = tt

put_fits : (memory : Memory) (place : Option Place) (word : ℕ) → IsWord word → AreWordsAt memory → AreWordsAt (left_at memory place word)
unfolding left_at with_word
put_fits memory None word w h = h
put_fits memory (Some p) word w h = λ q. by (same_place p q) q
  where
    by : (b : Bool) (q : Place) → IsWord (cond b word (memory q))
    by true q = w
    by false q = h q

leaves_try : (mine found : ℕ) → IsWord mine → IsWord found → IsWord (try_leaves mine found)
unfolding try_leaves
leaves_try mine zero w h = w
leaves_try mine (suc n) w h = h

leaves_fit : (core : ℕ) (ms : Moves) (memory : Memory) (move : Move) → MoveFits core ms move → AreWordsAt memory → suc (memory Counter) < 2 ^ 32 → IsWord (leaves (own_lock_word core ms) move (word_found memory (place_of move)))
unfolding leaves action_leaves place_of action_place word_found
leaves_fit core ms memory (moves.InCall (actions.TryLock o)) fit h c = leaves_try (own_lock_word core ms) (memory (Lock o)) fit (h (Lock o))
leaves_fit core ms memory (moves.InCall (actions.Read o i)) fit h c = h (Row o i)
leaves_fit core ms memory (moves.InCall (actions.Write o i word)) fit h c = fit
leaves_fit core ms memory (moves.InCall (actions.Draw draft)) fit h c = omega arith
leaves_fit core ms memory (moves.InCall (actions.Unlock o)) fit h c = omega arith
leaves_fit core ms memory (moves.InCall (actions.Load i)) fit h c = h (Dram i)
leaves_fit core ms memory (moves.InCall (actions.Store i word)) fit h c = fit
leaves_fit core ms memory (moves.Look r owner) fit h c = h _
leaves_fit core ms memory (moves.Load i) fit h c = h (Dram i)
leaves_fit core ms memory (moves.Store i word) fit h c = fit
leaves_fit core ms memory (moves.Swap i old word) fit h c = by (eqb (memory (Dram i)) old)
  where
    by : (b : Bool) → IsWord (cond b word (memory (Dram i)))
    by true = fit
    by false = h (Dram i)
leaves_fit core ms memory (moves.Stop line why) fit h c = omega arith

after_fits : (core : ℕ) (ms : Moves) (memory : Memory) (move : Move) → MoveFits core ms move → AreWordsAt memory → suc (memory Counter) < 2 ^ 32 → AreWordsAt (memory_after_move (own_lock_word core ms) memory move)
unfolding memory_after_move
after_fits core ms memory move fit h c = put_fits memory (place_of move) _ (leaves_fit core ms memory move fit h c) h

-- ---- the start

among_fits : (segments : List Segment) (address : ℕ) → AllByRecursion IsWideSegment segments → IsWord (word_among segments address 0)
among_fits [] address h = omega arith
among_fits (s ∷ ss) address h = by (lies_in s address) (among_fits ss address h.1)
  where
    by : (b : Bool) → IsWord (word_among ss address 0) → IsWord (cond b (slice_index s.words ((address - s.address) / 8)) (word_among ss address 0))
    by true k = all_at IsWord s.words ((address - s.address) / 8) (omega arith) h.0
    by false k = k

start_fits : (image : Image) → IsMachine image → AllByRecursion IsWord (start_words image)
unfolding start_memory
start_fits image machine = all_map IsWord _ (λ i. among_fits image.segments (word_start i) machine.segments) (range_with_len 0 (word_total image.config))

first_fits : (shape : Shape) (dram : List ℕ) → AllByRecursion IsWord dram → AreWordsAt (memory_of 0 (start shape) dram)
unfolding memory_of
first_fits shape dram h Counter = omega arith
first_fits shape dram h (Lock o) = omega arith
first_fits shape dram h (Row o i) = all_at IsWord (row_words (start shape) o) i (omega arith) (rows_fit (start shape) o (start_in shape))
first_fits shape dram h (Dram i) = all_at IsWord dram i (omega arith) h

-- ---- a list of moves

counter_low : (shape : Shape) → is_shape shape ≡ true → (dram : List ℕ) (run : List Made) → IsRun shape dram run → suc (memory_after shape dram run Counter) < 2 ^ 32
counter_low shape is dram run runs =
    let at = reached shape is dram run runs in
    let kept = at.every.all.kept in
    subst (λ n. suc n < 2 ^ 32) (sym kept.counter) (low_ticket shape is (memory_after shape dram run) (λ core. moves_of core run) at.h at.state at.content kept)

-- permitted moves, words, and outcomes that moves may have
pub record IsGood (image : Image) (run : List Made) : Type 0 where
  pub runs : IsRun image.config (start_words image) run
  pub words : AreWordsAt (memory_after image.config (start_words image) run)
  pub answered : (core : ℕ) → core < image.config.cores → AreAnswered (moves_of core run)

next_is : (image : Image) (script : List (List Line)) (made : Made) (run : List Made) → IsSaid image script → made.core < image.config.cores → AreOfLines image script (made ∷ run) → AreAnswered (moves_of made.core run) → IsNextMove image.config made.core (moves_of made.core run) made.move
next_is image script made run said lt begun answered =
    let course = course_of image script made.core in
    let b : IsBegun course ((made.move, made.outcome) ∷ moves_of made.core run) = subst (IsBegun course) (moves_own made.core made run refl) (begun made.core lt) in
    next_permitted image.config made.core (moves_of made.core run) (left_of course (moves_of made.core run)) made.move
    (left_permitted image.config made.core course (moves_of made.core run) (course_permitted image script made.core said lt) b.0 answered) b.1

pub good : (image : Image) (script : List (List Line)) (run : List Made) → IsSaid image script → AreGiven image run → AreOfLines image script run → IsGood image run
unfolding memory_after moves_of
good image script [] said given begun = record { runs = tt; words = first_fits image.config (start_words image) (start_fits image said.machine); answered = λ core lt. tt }
good image script (made ∷ run) said given begun =
    let before = good image script run said given.2 (begun_before image script made run begun) in
    let memory : Memory = memory_after image.config (start_words image) run in
    let low = counter_low image.config said.machine.shape (start_words image) run before.runs in
    let next = next_is image script made run said given.0 begun (before.answered made.core given.0) in
    let answer : MayAnswer made.move made.outcome = subst (MayAnswer made.move) (sym given.1) (answer_fits memory made.move before.words low) in
    record {
      runs = (record { core = given.0; permitted = next.permitted; outcome = given.1 }, before.runs);
      words = after_fits made.core (moves_of made.core run) memory made.move next.fits before.words low;
      answered = λ core lt. elim (cases_Bool (eqb made.core core)) [
        | inl t ↦
            let e : made.core ≡ core = eqb-true made.core core t in
            subst AreAnswered (sym (moves_own core made run e)) (answer, before.answered core lt)
        | inr f ↦ subst AreAnswered (sym (moves_other core made run (eqb-false made.core core f))) (before.answered core lt)
      ];
    }

pub given_is_run : GivenIsRun
given_is_run = λ image script run said given begun. (good image script run said given begun).runs

pub words_stay_words : WordsStayWords
words_stay_words = λ image script run said given begun. (good image script run said given begun).words

pub given_are_answered : GivenAreAnswered
given_are_answered = λ image script run said given begun. (good image script run said given begun).answered
