-- What a machine leaves is the finished run of the moves for which it stands.
use Rattle.std.proofs.Common.{◌≡◌, ◌∙◌, ◌+◌, ◌-◌, ◌<◌, ℕ, zero, suc, true, Some, List, [], ◌∷◌, length, map, ap, sym, refl, subst, arith}
use Rattle.std.specs.List.{slice_get, range_with_len}
use Rattle.mon_types.specs.Shape.{Shape}
use Rattle.mon_types.specs.Budgets.{event_budget}
use Rattle.mon_types.specs.declared.image.Image.{Image}
use Rattle.mon_types.specs.declared.script.Line.{Line}
use Rattle.mon_types.specs.declared.region.Region.{Region}
use Rattle.mon_types.specs.declared.enclave.Enclave.{Enclave}
use Rattle.mon_types.specs.declared.thread.Thread.{Thread}
use Rattle.mon_types.specs.declared.thread.Mode.{Mode}
use Rattle.hist.specs.declared.event.Event.{Event}
use Rattle.hist.specs.Logged.{Logged}
use Rattle.hist.specs.History.{entries_of}
use Rattle.hist.specs.SafeLog.{mode_after}
use Rattle.hist.specs.declared.finished.Finished.{Finished}
use Rattle.protocol.specs.Places.{Memory}
use Rattle.protocol.specs.Views.{core_log, answers_of, mode_in}
use Rattle.protocol.specs.Runs.{Made, moves_of, memory_after}
use Rattle.core_behaviour.specs.Runs.{start_words, logged_by, finished_run, run_by, HaveEnded, IsFinishedBy}
use Rattle.word_list.specs.declared.tables.Tables.{Tables}
use Rattle.word_list.specs.Tables.{AreTablesOf}
use Rattle.word_list.proofs.Finished.{tables_are}
use Rattle.lab.specs.declared.lab_core.LabCore.{LabCore}
use Rattle.lab.specs.declared.bench.Bench.{Bench}
use Rattle.lab.specs.declared.room.Left.{Left}
use Rattle.lab.specs.Cores.{CoreStands}
use Rattle.lab.specs.Stands.{Stands}
use Rattle.lab.specs.Rounds.{HaveAllEnded}

-- what each core leaves, as a list of the numbers
map_cores : {Y : Type 0} (g : LabCore → Y) (h : ℕ → Y) (ks : List LabCore) (first : ℕ) → ((core : ℕ) (k : LabCore) → slice_get ks core ≡ Some k → g k ≡ h (first + core)) → map g ks ≡ map h (range_with_len first (length ks))
map_cores g h [] first each = refl
map_cores {Y} g h (k ∷ ks) first each =
    let here : g k ≡ h first = each 0 k refl ∙ ap h (let e : first + 0 ≡ first = omega arith in e) in
    ap (λ (y : Y). y ∷ map g ks) here
    ∙ ap (λ (ys : List Y). h first ∷ ys) (map_cores g h ks (first + 1) (λ core q e. each (suc core) q e ∙ ap h (let e : first + suc core ≡ first + 1 + core = omega arith in e)))

cores_map : {Y : Type 0} (g : LabCore → Y) (h : ℕ → Y) (ks : List LabCore) (n : ℕ) → length ks ≡ n → ((core : ℕ) (k : LabCore) → slice_get ks core ≡ Some k → g k ≡ h core) → map g ks ≡ map h (range_with_len 0 n)
cores_map g h ks n count each =
    map_cores g h ks 0 (λ core k e. each core k e ∙ ap h (let e : core ≡ 0 + core = omega arith in e)) ∙ ap (λ m. map h (range_with_len 0 m)) count

log_is : (l : Logged) (events : List Event) (spare : ℕ) → l.events ≡ events → l.spare ≡ spare → l ≡ record { events = events; spare = spare }
log_is l events spare e s = ap (λ (z : List Event). record { events = z; spare = l.spare }) e ∙ ap (λ (n : ℕ). record { events = events; spare = n }) s

core_leaves : (image : Image) (script : List (List Line)) (run : List Made) (core : ℕ) (k : LabCore) → CoreStands image script core (moves_of core run) k → k.log ≡ logged_by core run
core_leaves image script run core k s =
    log_is k.log (core_log core (moves_of core run)) (event_budget - length (core_log core (moves_of core run))) s.log
    (let n = ap (λ (z : List Event). length z) s.log in omega (arith, s.room, n))

parts_same : (shape form : Shape) (l m : List Logged) (a b : List (List ℕ)) (r s : List Region) (e f : List Enclave) (t u : List Thread) (c d : List ℕ) (o p : List Mode) (w x : List ℕ)
    → shape ≡ form → l ≡ m → a ≡ b → r ≡ s → e ≡ f → t ≡ u → c ≡ d → o ≡ p → w ≡ x
    → ◌≡◌ {A = Finished} (record { config = shape; logs = l; answers = a; regions = r; enclaves = e; threads = t; flushed = c; modes = o; words = w })
    (record { config = form; logs = m; answers = b; regions = s; enclaves = f; threads = u; flushed = d; modes = p; words = x })
parts_same shape form l m a b r s e f t u c d o p w x h0 h1 h2 h3 h4 h5 h6 h7 h8 = rw (h0, h1, h2, h3, h4, h5, h6, h7, h8) refl

-- what is left by the cores, and by the words
pub leaves : (image : Image) (script : List (List Line)) (run : List Made) (b : Bench) (left : Left) (t : Tables) → Stands image script run b
    → left.logs ≡ map (λ k. k.log) b.cores.items → left.answers ≡ map (λ k. k.answers) b.cores.items → left.modes ≡ map (λ k. k.machine.own.mode) b.cores.items
    → AreTablesOf b.words.shape (memory_after image.config (start_words image) run) t
    → ◌≡◌ {A = Finished} (record { config = b.config; logs = left.logs; answers = left.answers; regions = t.regions; enclaves = t.enclaves; threads = t.threads; flushed = t.flushed; modes = left.modes; words = t.words }) (finished_run image run)
unfolding finished_run
leaves image script run b left t s logs answers modes tables =
    let n = image.config.cores in
    let of_run = tables_are image run t (subst (λ shape. AreTablesOf shape (memory_after image.config (start_words image) run) t) s.words.shape tables) in
    parts_same _ _ _ _ _ _ _ _ _ _ _ _ _ _ _ _ _ _
    s.config
    (logs ∙ cores_map (λ k. k.log) (λ core. logged_by core run) b.cores.items n s.count (λ core k e. core_leaves image script run core k (s.each core k e)))
    (answers ∙ cores_map (λ k. k.answers) (λ core. answers_of (moves_of core run)) b.cores.items n s.count (λ core k e. (s.each core k e).answers))
    (sym of_run.regions)
    (sym of_run.enclaves)
    (sym of_run.threads)
    (sym of_run.flushed)
    (modes ∙ cores_map (λ k. k.machine.own.mode) (λ core. mode_in core (moves_of core run)) b.cores.items n s.count (λ core k e.
    let h = s.each core k e in
    subst (λ j. k.machine.own.mode ≡ mode_after (entries_of (core_log j (moves_of core run)))) h.number (sym h.follows.counts.mode)))
    (sym of_run.words)

-- an item of a list below its length
at_place : {X : Type 0} (xs : List X) (i : ℕ) → i < length xs → (x : X) × (slice_get xs i ≡ Some x)
at_place [] i lt = absurd (omega arith)
at_place (x ∷ xs) zero lt = (x, refl)
at_place (x ∷ xs) (suc i) lt = at_place xs i (omega arith)

-- every core of the machine has ended
have_ended : (image : Image) (script : List (List Line)) (run : List Made) (b : Bench) → Stands image script run b → HaveAllEnded b → HaveEnded image script run
have_ended image script run b s ended = λ core lt.
    let low : core < length b.cores.items = omega (arith, s.count) in
    let at = at_place b.cores.items core low in
    (s.each core at.0 at.1).ended (ended core at.0 at.1)

pub finished_by : (image : Image) (script : List (List Line)) (q : List ℕ) (count : ℕ) (b : Bench) (f : Finished) → Stands image script (run_by image script q count) b → HaveAllEnded b
    → f ≡ finished_run image (run_by image script q count) → IsFinishedBy image script q f
finished_by image script q count b f s ended is = record {
  count = count;
  ended = have_ended image script (run_by image script q count) b s ended;
  finished = is;
}
