-- Moves that are given, and each core's own up to its end, leave the finished run of the list of their cores.
use Rattle.std.proofs.Common.{◌≡◌, ℕ, zero, suc, ◌+◌, ◌-◌, ◌<◌, ◌≤◌, List, [], ◌∷◌, ◌++◌, length, None, refl, sym, ap, ◌∙◌, arith}
use Rattle.std.specs.Prelude.{map}
use Rattle.std.specs.List.{range_with_len}
use Rattle.std.proofs.lemmas.List.{append-nil}
use Rattle.mon_types.specs.Shape.{Shape}
use Rattle.mon_types.specs.Budgets.{event_budget}
use Rattle.mon_types.specs.Objects.{width}
use Rattle.mon_types.specs.Owns.{region_from}
use Rattle.mon_types.specs.Enclaves.{enclave_from, enclave_within}
use Rattle.mon_types.specs.Threads.{thread_from}
use Rattle.mon_types.specs.Cells.{cell_from}
use Rattle.mon_types.specs.declared.image.Image.{Image}
use Rattle.mon_types.specs.declared.script.Line.{Line}
use Rattle.mon_types.specs.declared.object.ObjectId.{ObjectId}
use Rattle.mon_types.specs.declared.object.ObjectId.TheVariants as objects
use Rattle.mon_types.specs.declared.region.Region.{Region}
use Rattle.mon_types.specs.declared.enclave.Enclave.{Enclave}
use Rattle.mon_types.specs.declared.thread.Thread.{Thread}
use Rattle.mon_types.specs.declared.thread.Mode.{Mode}
use Rattle.dram_map.specs.Addresses.{word_total}
use Rattle.hist.specs.Logged.{Logged}
use Rattle.hist.specs.declared.finished.Finished.{Finished}
use Rattle.protocol.specs.Places.{Memory, Row, Dram}
use Rattle.protocol.specs.Views.{Moves, core_log, answers_of, mode_in}
use Rattle.protocol.specs.Runs.{Made, moves_of}
use Rattle.core_behaviour.specs.Course.{first_of, left_of}
use Rattle.core_behaviour.specs.Runs.{course_of, run_under, rounds, run_by, row_in, enclave_in, logged_by, finished_run, IsFinishedBy}
use Rattle.core_behaviour.specs.RunLaw.{cores_of, RunLaw}
use Rattle.core_behaviour.proofs.Words.{words_after, AreSame}
use Rattle.core_behaviour.proofs.Lagging.{IsCaught, under_more, AreCaught, lags, round}

-- ---- what both leave

map_same : {X Y : Type 0} (f g : X → Y) → ((x : X) → f x ≡ g x) → (xs : List X) → map f xs ≡ map g xs
map_same f g each [] = refl
map_same {X} {Y} f g each (x ∷ xs) = ap (λ (y : Y). y ∷ map f xs) (each x) ∙ ap (λ (ys : List Y). g x ∷ ys) (map_same f g each xs)

map_below : {Y : Type 0} (f g : ℕ → Y) (n : ℕ) → ((x : ℕ) → x < n → f x ≡ g x) → (j k : ℕ) → k + j ≤ n → map f (range_with_len k j) ≡ map g (range_with_len k j)
map_below f g n each zero k le = refl
map_below {Y} f g n each (suc j) k le =
    let here : k < n = omega (arith, le) in
    let more : k + 1 + j ≤ n = omega (arith, le) in
    ap (λ (y : Y). y ∷ map f (range_with_len (k + 1) j)) (each k here) ∙ ap (λ (ys : List Y). g k ∷ ys) (map_below f g n each j (k + 1) more)

row_same : (m n : Memory) → AreSame m n → (o : ObjectId) → row_in m o ≡ row_in n o
row_same m n same o = map_same (λ i. m (Row o i)) (λ i. n (Row o i)) (λ i. same (Row o i)) (range_with_len 0 (width o))

-- the log of a core by its own moves
abbrev log_by : ℕ → Moves → Logged
log_by core ms = record { events = core_log core ms; spare = event_budget - length (core_log core ms) }

parts_same : (shape : Shape) (l m : List Logged) (a b : List (List ℕ)) (r s : List Region) (e f : List Enclave) (t u : List Thread) (c d : List ℕ) (o p : List Mode) (w x : List ℕ)
    → l ≡ m → a ≡ b → r ≡ s → e ≡ f → t ≡ u → c ≡ d → o ≡ p → w ≡ x
    → ◌≡◌ {A = Finished} (record { config = shape; logs = l; answers = a; regions = r; enclaves = e; threads = t; flushed = c; modes = o; words = w })
    (record { config = shape; logs = m; answers = b; regions = s; enclaves = f; threads = u; flushed = d; modes = p; words = x })
parts_same shape l m a b r s e f t u c d o p w x h1 h2 h3 h4 h5 h6 h7 h8 = rw (h1, h2, h3, h4, h5, h6, h7, h8) refl

finished_same : (image : Image) (run slow : List Made) → AreSame (words_after image run) (words_after image slow) → ((core : ℕ) → core < image.config.cores → IsCaught run slow core) → finished_run image run ≡ finished_run image slow
unfolding finished_run
finished_same image run slow same own =
    let shape : Shape = image.config in
    let m : Memory = words_after image run in
    let n : Memory = words_after image slow in
    let row = row_same m n same in
    parts_same shape _ _ _ _ _ _ _ _ _ _ _ _ _ _ _ _
    (map_below (λ core. logged_by core run) (λ core. logged_by core slow) shape.cores (λ core lt. ap (log_by core) (own core lt)) shape.cores 0 (omega arith))
    (map_below (λ core. answers_of (moves_of core run)) (λ core. answers_of (moves_of core slow)) shape.cores (λ core lt. ap answers_of (own core lt)) shape.cores 0 (omega arith))
    (map_same (λ r. region_from (row_in m (objects.Region r))) (λ r. region_from (row_in n (objects.Region r))) (λ r. ap region_from (row (objects.Region r))) (range_with_len 0 shape.regions))
    (map_same (λ e. enclave_in shape m e) (λ e. enclave_in shape n e) (λ e. ap (λ (ws : List ℕ). enclave_within shape (enclave_from ws)) (row (objects.Enclave e))) (range_with_len 0 8))
    (map_same (λ t. thread_from (row_in m (objects.Thread t))) (λ t. thread_from (row_in n (objects.Thread t))) (λ t. ap thread_from (row (objects.Thread t))) (range_with_len 0 16))
    (map_same (λ c. cell_from (row_in m (objects.Cell c))) (λ c. cell_from (row_in n (objects.Cell c))) (λ c. ap cell_from (row (objects.Cell c))) (range_with_len 0 shape.cores))
    (map_below (λ core. mode_in core (moves_of core run)) (λ core. mode_in core (moves_of core slow)) shape.cores (λ core lt. ap (mode_in core) (own core lt)) shape.cores 0 (omega arith))
    (map_same (λ i. m (Dram i)) (λ i. n (Dram i)) (λ i. same (Dram i)) (range_with_len 0 (word_total shape)))

-- ---- the law

one_round : (cores : ℕ) → rounds cores 1 ≡ range_with_len 0 cores
unfolding rounds
one_round cores = append-nil (range_with_len 0 cores)

by_one_round : (image : Image) (script : List (List Line)) (q : List ℕ) → run_by image script q 1 ≡ run_under image script (range_with_len 0 image.config.cores) (run_under image script q [])
by_one_round image script q = ap (λ (cs : List ℕ). run_under image script (q ++ cs) []) (one_round image.config.cores) ∙ under_more image script q (range_with_len 0 image.config.cores) []

finished_by : (image : Image) (script : List (List Line)) (run last : List Made) → run_by image script (cores_of run) 1 ≡ last → ((core : ℕ) → core < image.config.cores → first_of (left_of (course_of image script core) (moves_of core run)) ≡ None)
    → AreCaught image run last → IsFinishedBy image script (cores_of run) (finished_run image run)
finished_by image script run last is over c = record {
  count = 1;
  ended = λ core lt. ap (λ (r : List Made). first_of (left_of (course_of image script core) (moves_of core r))) is ∙ ap (λ (ms : Moves). first_of (left_of (course_of image script core) ms)) (sym (c.caught core lt)) ∙ over core lt;
  finished = finished_same image run last c.lags.words c.caught ∙ ap (finished_run image) (sym is);
}

pub run_law : RunLaw
run_law = λ image script run given theirs.
    let l = lags image script run given (λ core lt. (theirs core lt).begun) in
    finished_by image script run (run_under image script (range_with_len 0 image.config.cores) (run_under image script (cores_of run) []))
    (by_one_round image script (cores_of run)) (λ core lt. (theirs core lt).over)
    (round image script run (run_under image script (cores_of run) []) theirs l)
