-- The finished run that a list of core numbers gives: in it each core does what its script says, one step after the
-- other, on words that all of them share. Lists of moves have the newest first, as those of protocol have. This
-- project's own.
use Rattle.std.specs.Prelude.{◌≡◌, ℕ, zero, suc, ◌-◌, ◌<◌, List, [], ◌∷◌, ◌++◌, map, length, None}
use Rattle.std.specs.List.{range_with_len, slice_index_or}
use Rattle.mon_types.specs.Shape.{Shape}
use Rattle.mon_types.specs.Sizes.{slot_count, thread_count}
use Rattle.mon_types.specs.Budgets.{event_budget}
use Rattle.mon_types.specs.Objects.{width}
use Rattle.mon_types.specs.Owns.{region_from}
use Rattle.mon_types.specs.Enclaves.{enclave_from, enclave_within}
use Rattle.mon_types.specs.Threads.{thread_from}
use Rattle.mon_types.specs.Cells.{cell_from}
use Rattle.mon_types.specs.declared.image.Image.{Image}
use Rattle.mon_types.specs.declared.script.Line.{Line}
use Rattle.mon_types.specs.declared.enclave.Enclave.{Enclave}
use Rattle.mon_types.specs.declared.object.ObjectId.{ObjectId}
use Rattle.mon_types.specs.declared.object.ObjectId.TheVariants as objects
use Rattle.dram_map.specs.Addresses.{word_total}
use Rattle.hist.specs.Logged.{Logged}
use Rattle.hist.specs.declared.event.Why.{Why}
use Rattle.hist.specs.declared.finished.Finished.{Finished}
use Rattle.image_memory.specs.StartMemory.{start_memory}
use Rattle.protocol.specs.declared.action.Move.{Move}
use Rattle.protocol.specs.declared.action.Move.TheVariants as moves
use Rattle.protocol.specs.declared.action.Outcome.TheVariants as outcomes
use Rattle.protocol.specs.Places.{Memory, Row, Dram}
use Rattle.protocol.specs.Views.{core_log, answers_of, mode_in}
use Rattle.protocol.specs.Runs.{Made, moves_of, memory_after, outcome_after}
use Rattle.core_behaviour.specs.Course.{Course, Ends, Acts, first_of, left_of}
use Rattle.core_behaviour.specs.Lines.{core_behaviour}

-- the lines of a core, none where the script has none for it
abbrev pub lines_of : List (List Line) → ℕ → List Line
lines_of script core = slice_index_or script core []

-- all that a core does by its lines
abbrev pub course_of : Image → List (List Line) → ℕ → Course
course_of image script core = core_behaviour image core (lines_of script core)

-- the words of DRAM at the start
abbrev pub start_words : Image → List ℕ
start_words image = start_memory image.config image.segments

-- ---- one step

-- a stop of a core, as it stands in a list of moves
abbrev pub stop_made : ℕ → ℕ → Why → Made
stop_made core line why = record { core = core; move = moves.Stop line why; outcome = outcomes.Done }

-- a move of a core, made on the words that these moves have left
abbrev pub move_made : Image → ℕ → Move → List Made → Made
move_made image core move run =
    record { core = core; move = move; outcome = outcome_after image.config (start_words image) run move }

-- the moves after one step of a core that has still to do this: its stops up to its next move, and that move; only its
-- stops, where no move is left
unfoldable pub step_from : Image → ℕ → Course → List Made → List Made
step_from image core Ends run = run
step_from image core (Acts (moves.Stop line why) next) run =
    step_from image core (next outcomes.Done) (stop_made core line why ∷ run)
step_from image core (Acts move next) run = move_made image core move run ∷ run

-- the moves after one step of a core
unfoldable pub stepped : Image → List (List Line) → List Made → ℕ → List Made
stepped image script run core = step_from image core (left_of (course_of image script core) (moves_of core run)) run

-- the moves after a step of each of these cores, the first one first
unfoldable pub run_under : Image → List (List Line) → List ℕ → List Made → List Made
run_under image script [] run = run
run_under image script (core ∷ cores) run = run_under image script cores (stepped image script run core)

-- ---- a whole run

-- every core has ended
abbrev pub HaveEnded : Image → List (List Line) → List Made → Type 0
HaveEnded image script run =
    (core : ℕ) → core < image.config.cores → first_of (left_of (course_of image script core) (moves_of core run)) ≡ None

-- so many rounds, in each of which every core makes a step, from core 0 on
unfoldable pub rounds : ℕ → ℕ → List ℕ
rounds cores zero = []
rounds cores (suc count) = range_with_len 0 cores ++ rounds cores count

-- the moves by a list of core numbers, and by so many rounds behind it
abbrev pub run_by : Image → List (List Line) → List ℕ → ℕ → List Made
run_by image script q count = run_under image script (q ++ rounds image.config.cores count) []

-- ---- what it leaves

-- the words of an object's row
abbrev pub row_in : Memory → ObjectId → List ℕ
row_in memory o = map (λ i. memory (Row o i)) (range_with_len 0 (width o))

-- the record of an enclave slot, by its row
abbrev pub enclave_in : Shape → Memory → ℕ → Enclave
enclave_in shape memory e = enclave_within shape (enclave_from (row_in memory (objects.Enclave e)))

-- the log of a core by its moves, with the room that is left
abbrev pub logged_by : ℕ → List Made → Logged
logged_by core run =
    let events = core_log core (moves_of core run) in
    record { events = events; spare = event_budget - length events }

-- What moves leave: each core's log, answers and mode are read off its own moves, the tables are the records that the
-- rows hold, and the words are those of DRAM.
unfoldable pub finished_run : Image → List Made → Finished
finished_run image run =
    let shape = image.config in
    let memory = memory_after shape (start_words image) run in
    record {
      config = shape;
      logs = map (λ core. logged_by core run) (range_with_len 0 shape.cores);
      answers = map (λ core. answers_of (moves_of core run)) (range_with_len 0 shape.cores);
      regions = map (λ r. region_from (row_in memory (objects.Region r))) (range_with_len 0 shape.regions);
      enclaves = map (λ e. enclave_in shape memory e) (range_with_len 0 slot_count);
      threads = map (λ t. thread_from (row_in memory (objects.Thread t))) (range_with_len 0 thread_count);
      flushed = map (λ c. cell_from (row_in memory (objects.Cell c))) (range_with_len 0 shape.cores);
      modes = map (λ core. mode_in core (moves_of core run)) (range_with_len 0 shape.cores);
      words = map (λ i. memory (Dram i)) (range_with_len 0 (word_total shape));
    }

-- ---- RunOf

-- F is the finished run of this list of core numbers: the cores make a step for each number of it, and then in turn,
-- from core 0, until all have ended. A core that has ended makes no step.
pub record IsFinishedBy (image : Image) (script : List (List Line)) (q : List ℕ) (f : Finished) : Type 0 where
  pub count : ℕ
  pub ended : HaveEnded image script (run_by image script q count)
  pub finished : f ≡ finished_run image (run_by image script q count)
