-- One core of a machine takes a step, and the others stay as they are.
use Rattle.std.proofs.Common.{◌≡◌, ◌∙◌, ◌⊎◌, inl, inr, ◌+◌, ◌<◌, ◌≤◌, ℕ, zero, suc, Bool, true, false, not, cond, Option, Some, None, List, [], ◌∷◌, length, set, get_or, ap, sym, refl, subst, arith}
use Rattle.std.specs.Prelude.{sum_by}
use Rattle.std.specs.List.{slice_get}
use Rattle.std.proofs.lemmas.List.{length-set}
use Rattle.std.proofs.lemmas.List.Sums.{sum_by-set}
use Rattle.std.proofs.lemmas.Option.{slice_get_within, get_or_from_slice_get, slice_get-get_or}
use Rattle.mon_types.specs.declared.image.Image.{Image}
use Rattle.mon_types.specs.declared.script.Line.{Line}
use Rattle.hist.specs.declared.event.Why.{Why}
use Rattle.protocol.specs.declared.action.Move.TheVariants as moves
use Rattle.protocol.specs.declared.action.Outcome.{Outcome}
use Rattle.protocol.specs.declared.action.Outcome.TheVariants as outcomes
use Rattle.protocol.specs.Runs.{Made, moves_of}
use Rattle.core_behaviour.specs.Course.{Course, Ends, Acts, left_of}
use Rattle.core_behaviour.specs.Runs.{course_of, stop_made, move_made, step_from, stepped, run_under}
use Rattle.core_behaviour.proofs.Words.{moves_other}
use Rattle.word_list.specs.Listed.{Listed}
use Rattle.lab.specs.declared.lab_core.LabCore.{LabCore}
use Rattle.lab.specs.declared.bench.Bench.{Bench}
use Rattle.lab.specs.Cores.{CoreStands, makes_move, work_left}
use Rattle.lab.specs.Stands.{IsRunOf, WordsStand, Goes, HasRoom, Stands, IsReached}
use Rattle.lab.specs.Rounds.{GoesUnder}
use Rattle.lab.specs.Steps.{course_left, TakesStep, EndsAtLast}

-- ---- lists with one item set

-- an item of such a list is the one that was set, or one that stood there
pub set_is : {X : Type 0} (xs : List X) (i j : ℕ) (y x : X) → i < length xs → slice_get (set xs i y) j ≡ Some x → ((j ≡ i) × (x ≡ y)) ⊎ ((i ≡ j → ⊥) × (slice_get xs j ≡ Some x))
set_is [] i j y x lt e = absurd (omega arith)
set_is (a ∷ xs) zero zero y x lt e = inl (refl, cc)
set_is (a ∷ xs) zero (suc j) y x lt e = inr (λ q. absurd (omega arith), e)
set_is (a ∷ xs) (suc i) zero y x lt e = inr (λ q. absurd (omega arith), e)
set_is (a ∷ xs) (suc i) (suc j) y x lt e = elim (set_is xs i j y x (omega arith) e) [
  | inl s ↦ inl (ap suc s.0, s.1)
  | inr o ↦ inr (λ q. o.0 (omega arith), o.1)
]

pub set_same : {X : Type 0} (xs : List X) (i : ℕ) (y : X) → i < length xs → slice_get (set xs i y) i ≡ Some y
set_same [] i y lt = absurd (omega arith)
set_same (a ∷ xs) zero y lt = refl
set_same (a ∷ xs) (suc i) y lt = set_same xs i y (omega arith)

-- setting what stands there changes nothing
pub set_back : {X : Type 0} (xs : List X) (i : ℕ) (x : X) → slice_get xs i ≡ Some x → set xs i x ≡ xs
set_back [] i x e = absurd (cc)
set_back {X} (a ∷ xs) zero x e = let same : x ≡ a = cc in ap (λ (z : X). z ∷ xs) same
set_back {X} (a ∷ xs) (suc i) x e = ap (λ (z : List X). a ∷ z) (set_back xs i x e)

-- ---- the moves of the others

step_others : (image : Image) (core other : ℕ) → (core ≡ other → ⊥) → (course : Course) (run : List Made) → moves_of other (step_from image core course run) ≡ moves_of other run
unfolding step_from
step_others image core other ne Ends run = refl
step_others image core other ne (Acts (moves.Stop line why) next) run =
    step_others image core other ne (next outcomes.Done) (stop_made core line why ∷ run) ∙ moves_other other (stop_made core line why) run ne
step_others image core other ne (Acts (moves.InCall a) next) run = moves_other other (move_made image core (moves.InCall a) run) run ne
step_others image core other ne (Acts (moves.Look r owner) next) run = moves_other other (move_made image core (moves.Look r owner) run) run ne
step_others image core other ne (Acts (moves.Load i) next) run = moves_other other (move_made image core (moves.Load i) run) run ne
step_others image core other ne (Acts (moves.Store i word) next) run = moves_other other (move_made image core (moves.Store i word) run) run ne
step_others image core other ne (Acts (moves.Swap i old word) next) run = moves_other other (move_made image core (moves.Swap i old word) run) run ne

stepped_others : (image : Image) (script : List (List Line)) (run : List Made) (core other : ℕ) → (core ≡ other → ⊥) → moves_of other (stepped image script run core) ≡ moves_of other run
unfolding stepped
stepped_others image script run core other ne = step_others image core other ne (left_of (course_of image script core) (moves_of core run)) run

-- ---- the machine

-- one core of it
pub at_core : (image : Image) (script : List (List Line)) (run : List Made) (b : Bench) (core : ℕ) (k : LabCore) → Stands image script run b → slice_get b.cores.items core ≡ Some k → Goes image script core run k b.words
at_core image script run b core k s at = record {
  low = let lt = slice_get_within b.cores.items core k at in omega (arith, lt, s.count);
  made = s.made;
  own = s.each core k at;
  listed = s.words;
}

-- the core of a number below the count
pub core_there : (image : Image) (script : List (List Line)) (run : List Made) (b : Bench) (core : ℕ) → Stands image script run b → core < b.config.cores → core < length b.cores.items
core_there image script run b core s lt = omega (arith, s.count, ap (λ (c : _). c.cores) s.config)

-- after a step of a core
pub stands_stepped : (image : Image) (script : List (List Line)) (run : List Made) (old new : Bench) (core : ℕ) (k l : LabCore) → Stands image script run old → slice_get old.cores.items core ≡ Some k
    → new.config ≡ old.config → new.room ≡ old.room → new.cores.items ≡ set old.cores.items core l → TakesStep core k old.words l new.words → Stands image script (stepped image script run core) new
stands_stepped image script run old new core k l s at config room cores takes =
    let lt = slice_get_within old.cores.items core k at in
    let g = takes image script run (at_core image script run old core k s at) in
    record {
      config = config ∙ s.config;
      made = g.made;
      words = g.listed;
      count = ap length cores ∙ length-set old.cores.items core l ∙ s.count;
      each = λ other m e. elim (set_is old.cores.items core other l m lt (subst (λ z. slice_get z other ≡ Some m) cores e)) [
        | inl here ↦ subst (λ n. CoreStands image script n (moves_of n (stepped image script run core)) m) (sym here.0) (subst (CoreStands image script core (moves_of core (stepped image script run core))) (sym here.1) g.own)
        | inr there ↦ subst (λ ms. CoreStands image script other ms m) (sym (stepped_others image script run core other there.0)) (s.each other m there.1)
      ];
      room = subst (HasRoom image.config.cores) (sym room) s.room;
    }

-- what is left to do
pub left_stepped : (old new : List LabCore) (core : ℕ) (k l : LabCore) (b : Bool) → slice_get old core ≡ Some k → new ≡ set old core l → b ≡ not k.ended → work_left l + cond k.ended 0 1 ≤ work_left k → sum_by work_left new + cond b 1 0 ≤ sum_by work_left old
left_stepped old new core k l b at is told less =
    let lt = slice_get_within old core k at in
    let set_sum = sum_by-set work_left old core l k lt in
    let here = ap work_left (get_or_from_slice_get old core k k at) in
    let now = ap (sum_by work_left) is in
    by k.ended b told less (omega (arith, set_sum, here, now))
  where
    by : (e b : Bool) → b ≡ not e → work_left l + cond e 0 1 ≤ work_left k → sum_by work_left new + work_left k ≡ sum_by work_left old + work_left l → sum_by work_left new + cond b 1 0 ≤ sum_by work_left old
    by true b t h s = rw t (omega (arith, h, s))
    by false b t h s = rw t (omega (arith, h, s))

-- a core that had ended stays as it is
pub stays_stepped : (old new : List LabCore) (core : ℕ) (k l : LabCore) (b : Bool) → slice_get old core ≡ Some k → new ≡ set old core l → b ≡ not k.ended → (k.ended ≡ true → l ≡ k) → b ≡ false → new ≡ old
stays_stepped old new core k l b at is told stays rested =
    is ∙ ap (set old core) (stays (was k.ended (sym told ∙ rested))) ∙ set_back old core k at
  where
    was : (e : Bool) → not e ≡ false → e ≡ true
    was true h = refl
    was false h = absurd (cc)

-- ---- steps as lists of core numbers

pub one_step : (image : Image) (script : List (List Line)) (core : ℕ) (run : List Made) → run_under image script (core ∷ []) run ≡ stepped image script run core
unfolding run_under
one_step image script core run = refl

-- a machine whose one core takes a step goes under that step
pub goes_stepped : (old new : Bench) (core : ℕ) (k l : LabCore) → slice_get old.cores.items core ≡ Some k → new.config ≡ old.config → new.room ≡ old.room → new.cores.items ≡ set old.cores.items core l → TakesStep core k old.words l new.words
    → GoesUnder (λ image. core ∷ []) old new
goes_stepped old new core k l at config room cores takes = λ image script run s.
    subst (λ z. Stands image script z new) (sym (one_step image script core run)) (stands_stepped image script run old new core k l s at config room cores takes)
