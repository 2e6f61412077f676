-- What a list of permitted moves leaves where no call is under way, as a finished run: one legal history, and its tables.
use Rattle.std.proofs.Common.{◌≡◌, ◌∙◌, ◌+◌, ◌<◌, ℕ, suc, true, List, [], ◌∷◌, length, map, get_or, ap, sym, refl, subst, arith}
use Rattle.std.specs.Prelude.{slice_index}
use Rattle.std.specs.List.{AllByRecursion, range_with_len}
use Rattle.std.proofs.lemmas.List.FromFn.{get_or-map-range_with_len}
use Rattle.mon_types.specs.Shape.{Shape, is_shape}
use Rattle.mon_types.specs.Objects.{width}
use Rattle.mon_types.specs.Owns.{region_from}
use Rattle.mon_types.specs.Enclaves.{enclave_from, enclave_within, empty_enclave}
use Rattle.mon_types.specs.Threads.{thread_from, empty_thread}
use Rattle.mon_types.specs.Cells.{cell_from}
use Rattle.mon_types.proofs.Rows.{fitting_is}
use Rattle.mon_types.proofs.RegionRows.{region_back}
use Rattle.mon_types.proofs.EnclaveRows.{enclave_back}
use Rattle.mon_types.proofs.ThreadRows.{thread_back}
use Rattle.mon_types.specs.declared.image.Image.{Image}
use Rattle.mon_types.specs.declared.region.Region.TheVariants as regions
use Rattle.mon_types.specs.declared.thread.Mode.TheVariants as modes
use Rattle.mon_types.specs.declared.object.ObjectId.{ObjectId}
use Rattle.mon_types.specs.declared.object.ObjectId.TheVariants as objects
use Rattle.mon_model.specs.State.{State, region_at, enclave_at, thread_at, flushed_at}
use Rattle.mon_types.specs.Bits.{has_bit}
use Rattle.mon_model.specs.RegionCalls.{is_loading}
use Rattle.mon_model.specs.RegionStep.{is_idle}
use Rattle.dram_map.specs.Addresses.{word_total, region_of_word}
use Rattle.lock_plan.specs.Objects.{HasObject}
use Rattle.mon_records.specs.Rows.{row_words}
use Rattle.mon_records.specs.RebuiltLaws.{IsReadable}
use Rattle.mon_records.proofs.Readable.{readable}
use Rattle.mon_records.proofs.RebuiltStates.{rows_long}
use Rattle.hist.specs.declared.event.Event.{Event}
use Rattle.hist.specs.Logged.{Logged, events_of}
use Rattle.hist.specs.declared.event.Entry.{Entry}
use Rattle.hist.specs.History.{history, last_state}
use Rattle.hist.specs.Legal.{Legal, HasLastTables}
use Rattle.hist.specs.Busy.{idle, Busy}
use Rattle.hist.specs.SafeLog.{SafeLog}
use Rattle.loaded_pages.specs.Content.{Content}
use Rattle.loaded_pages.specs.History.{content_at, HaveReadPages}
use Rattle.protocol.specs.Places.{Memory, Row, Dram, row_word}
use Rattle.protocol.specs.Views.{mode_in, call_moves}
use Rattle.protocol.specs.Runs.{Made, moves_of, memory_after, IsRun}
use Rattle.protocol.specs.Worlds.{World, logs, answers, state_now}
use Rattle.protocol.specs.Passes.{IsGiven}
use Rattle.protocol_steps.specs.Rest.{Rests}
use Rattle.protocol_steps.proofs.Items.{some_core, state_is}
use Rattle.protocol_steps.proofs.Kept.{Kept, log_mode}
use Rattle.protocol_steps.proofs.Everything.{reached}
use Rattle.protocol_steps.proofs.Given.{always_2, always_8, always_10}
use Rattle.protocol_steps.proofs.Resting.{rests_where_no_call_is}
use Rattle.core_behaviour.specs.Course.{left_of}
use Rattle.core_behaviour.specs.Runs.{course_of, start_words, run_by, row_in, enclave_in, logged_by, finished_run}
use Rattle.core_laws.specs.Finished.{IsOneHistory}
use Rattle.core_laws.specs.Laws.{EverySchedule}
use Rattle.core_laws.proofs.GivenRuns.{good}
use Rattle.core_laws.proofs.Permits.{left_permitted, end_rests}
use Rattle.core_laws.proofs.Courses.{course_permitted}
use Rattle.core_laws.proofs.Scheduled.{by_so_far}

-- ---- lists

-- a list is that of its elements
same_from : {X : Type 0} (f : ℕ → X) (d : X) (xs : List X) (k : ℕ) → ((i : ℕ) → i < length xs → f (k + i) ≡ get_or xs i d) → map f (range_with_len k (length xs)) ≡ xs
same_from f d [] k h = refl
same_from {X} f d (x ∷ xs) k h =
    let here : f k ≡ x = subst (λ j. f j ≡ x) (zero_more k) (h 0 (omega arith)) in
    ap (λ (y : X). y ∷ map f (range_with_len (k + 1) (length xs))) here
    ∙ ap (λ (ys : List X). x ∷ ys) (same_from f d xs (k + 1) (λ i lt. subst (λ j. f j ≡ get_or xs i d) (one_more k i) (h (suc i) (omega arith))))
  where
    zero_more : (k : ℕ) → k + 0 ≡ k
    zero_more k = omega arith

    one_more : (k i : ℕ) → k + suc i ≡ k + 1 + i
    one_more k i = omega arith

same_list : {X : Type 0} (f : ℕ → X) (d : X) (xs : List X) (n : ℕ) → length xs ≡ n → ((i : ℕ) → i < n → f i ≡ get_or xs i d) → map f (range_with_len 0 n) ≡ xs
same_list f d xs n e h = ap (λ m. map f (range_with_len 0 m)) (sym e) ∙ same_from f d xs 0 (λ i lt. subst (λ j. f j ≡ get_or xs i d) (zero_less i) (h i (omega arith)))
  where
    zero_less : (i : ℕ) → i ≡ 0 + i
    zero_less i = omega arith

map_twice : {X Y Z : Type 0} (f : X → Y) (g : Y → Z) (xs : List X) → map g (map f xs) ≡ map (λ x. g (f x)) xs
map_twice f g [] = refl
map_twice {X} {Y} {Z} f g (x ∷ xs) = ap (λ (zs : List Z). g (f x) ∷ zs) (map_twice f g xs)

-- ---- the tables

-- each row is that of the state's record
abbrev RowsStand : Shape → State → Memory → Type 0
RowsStand shape s memory = (o : ObjectId) (i : ℕ) → HasObject shape o → i < width o → memory (Row o i) ≡ row_word s o i

row_is : (shape : Shape) (s : State) (memory : Memory) (o : ObjectId) → IsReadable s → HasObject shape o → RowsStand shape s memory → row_in memory o ≡ row_words s o
row_is shape s memory o can there rows = same_list (λ i. memory (Row o i)) 0 (row_words s o) (width o) (rows_long s o can) (λ i lt. rows o i there lt)

module _ (shape : Shape) (s : State) (shaped : s.shape ≡ shape) (can : IsReadable s) (memory : Memory) (rows : RowsStand shape s memory) where
  regions_are : map (λ r. region_from (row_in memory (objects.Region r))) (range_with_len 0 shape.regions) ≡ s.regions
  unfolding row_words
  regions_are = same_list (λ r. region_from (row_in memory (objects.Region r))) regions.Free s.regions shape.regions (can.whole.regions ∙ ap (λ (m : Shape). m.regions) shaped)
      (λ r lt. ap region_from (row_is shape s memory (objects.Region r) can lt rows) ∙ region_back (region_at s r) (can.ranges.region r))

  enclaves_are : map (λ e. enclave_in shape memory e) (range_with_len 0 8) ≡ s.enclaves
  unfolding row_words
  enclaves_are = same_list (λ e. enclave_in shape memory e) empty_enclave s.enclaves 8 can.whole.enclaves
      (λ e lt. ap (λ ws. enclave_within shape (enclave_from ws)) (row_is shape s memory (objects.Enclave e) can lt rows) ∙ ap (enclave_within shape) (enclave_back (enclave_at s e) (can.ranges.enclave e))
      ∙ ap (λ m. enclave_within m (enclave_at s e)) (sym shaped) ∙ can.within e)

  threads_are : map (λ t. thread_from (row_in memory (objects.Thread t))) (range_with_len 0 16) ≡ s.threads
  unfolding row_words
  threads_are = same_list (λ t. thread_from (row_in memory (objects.Thread t))) empty_thread s.threads 16 can.whole.threads
      (λ t lt. ap thread_from (row_is shape s memory (objects.Thread t) can lt rows) ∙ thread_back (thread_at s t) (can.ranges.thread t))

  flushed_are : map (λ c. cell_from (row_in memory (objects.Cell c))) (range_with_len 0 shape.cores) ≡ s.flushed
  unfolding row_words cell_from
  flushed_are = same_list (λ c. cell_from (row_in memory (objects.Cell c))) 0 s.flushed shape.cores (can.whole.flushed ∙ ap (λ (m : Shape). m.cores) shaped)
      (λ c lt. ap cell_from (row_is shape s memory (objects.Cell c) can lt rows) ∙ fitting_is _ (flushed_at s c) (can.ranges.cell c))

-- ---- the finished run

module _ (image : Image) (is : is_shape image.config ≡ true) (run : List Made) (runs : IsRun image.config (start_words image) run) (rest : (core : ℕ) → core < image.config.cores → call_moves (moves_of core run) ≡ []) where
  abbrev world : World
  world = record { memory = memory_after image.config (start_words image) run; moves = λ core. moves_of core run }

  all_cores : (run : List Made) → IsRun image.config (start_words image) run → AllByRecursion (λ made. made.core < image.config.cores) run
  all_cores [] r = tt
  all_cores (made ∷ run) r = (r.0.core, all_cores run r.1)

  given : IsGiven image.config (start_words image) image.config.cores world
  given = (run, record { permitted = runs; cores = all_cores run runs; words = λ p has. refl; moves = λ core. refl })

  rests : Rests image.config world
  rests = rests_where_no_call_is image.config is (start_words image) image.config.cores world given rest

  logs_are : events_of (finished_run image run).logs ≡ logs image.config world
  unfolding finished_run
  logs_are = map_twice (λ core. logged_by core run) (λ (log : Logged). log.events) (range_with_len 0 image.config.cores)

  word_is : (i : ℕ) → i < word_total image.config → slice_index (finished_run image run).words i ≡ world.memory (Dram i)
  unfolding finished_run
  word_is i lt = get_or-map-range_with_len (λ j. world.memory (Dram j)) 0 (word_total image.config) i i 0 lt (omega arith)

  module _ (h : List Entry) (s : State) (content : Content) (kept : Kept image.config (memory_after image.config (start_words image) run) (λ core. moves_of core run) h s content) where
    now_is : state_now image.config world ≡ s
    now_is = state_is image.config is world.memory world.moves h s content kept world.memory (λ p has. refl)

    can : IsReadable s
    can = (let sound = kept.sound 0 (some_core image.config is) in readable s sound.tables sound.facts sound.ranges)

    rows : RowsStand image.config s world.memory
    rows o i there lt = rests.rows o i there lt ∙ ap (λ z. row_word z o i) now_is

    end_is : s ≡ last_state image.config (events_of (finished_run image run).logs)
    end_is = sym (ap (last_state image.config) logs_are ∙ now_is)

    tables : HasLastTables (finished_run image run)
    unfolding finished_run
    tables = record {
      regions = regions_are image.config s kept.shaped can world.memory rows ∙ ap (λ (z : State). z.regions) end_is;
      enclaves = enclaves_are image.config s kept.shaped can world.memory rows ∙ ap (λ (z : State). z.enclaves) end_is;
      threads = threads_are image.config s kept.shaped can world.memory rows ∙ ap (λ (z : State). z.threads) end_is;
      flushed = flushed_are image.config s kept.shaped can world.memory rows ∙ ap (λ (z : State). z.flushed) end_is;
      modes = same_list (λ core. mode_in core (moves_of core run)) modes.Os s.modes image.config.cores (can.whole.modes ∙ ap (λ (m : Shape). m.cores) kept.shaped)
          (λ core lt. log_mode image.config is world.memory world.moves h s content kept core lt) ∙ ap (λ (z : State). z.modes) end_is;
    }

    one : IsOneHistory (finished_run image run)
    unfolding finished_run
    one =
        let here = sym logs_are in
        let entries = always_2 image.config is (start_words image) image.config.cores world given in
        let loading = always_8 image.config is (start_words image) image.config.cores world given in
        let safe = always_10 image.config is (start_words image) image.config.cores world given in
        record {
          legal = subst (Legal image.config) here entries.legal;
          tables = tables;
          busy = subst (λ (ls : List (List Event)). Busy image.config ls idle) here rests.busy;
          safe = subst (SafeLog image.config) here safe.safe;
          zeros = λ i lt none. word_is i lt ∙ rests.zeros i lt (subst (λ (ls : List (List Event)). is_idle (region_at (last_state image.config ls) (region_of_word image.config i)) ≡ true) logs_are none);
          loading = λ e i of. word_is i of.word
              ∙ rests.loading e i (record {
                word = of.word;
                loading = subst (λ (ls : List (List Event)). is_loading (enclave_at (last_state image.config ls) e).stage ≡ true) logs_are of.loading;
                region = subst (λ (ls : List (List Event)). has_bit (enclave_at (last_state image.config ls) e).regions (region_of_word image.config i) ≡ true) logs_are of.region;
              })
              ∙ ap (λ (ls : List (List Event)). content_at image.config ls (answers image.config world) (length (history ls)) i) here;
          read = subst (λ (ls : List (List Event)). HaveReadPages (answers image.config world) (history ls)) here loading.read;
        }

  pub one_history : IsOneHistory (finished_run image run)
  one_history = (let at = reached image.config is (start_words image) run runs in one at.h at.state at.content at.every.all.kept)

pub every_schedule : EverySchedule IsOneHistory
every_schedule = λ image script q f said h x.
    let run : List Made = run_by image script q x.count in
    let s = by_so_far image script q x.count h in
    let g = good image script run said s.given s.begun in
    subst IsOneHistory (sym x.finished) (one_history image said.machine.shape run g.runs
    (λ core lt. end_rests image.config core (moves_of core run) (left_of (course_of image script core) (moves_of core run))
    (left_permitted image.config core (course_of image script core) (moves_of core run) (course_permitted image script core said lt) (s.begun core lt) (g.answered core lt)) (x.ended core lt)))
