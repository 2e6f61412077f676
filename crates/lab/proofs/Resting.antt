-- A core that has ended, as a step of it answers.
use Rattle.std.proofs.Common.{◌≡◌, ◌∙◌, ◌+◌, ◌<◌, ◌≤◌, ℕ, zero, suc, Bool, true, false, not, cond, Some, List, [], ◌∷◌, length, ap, sym, refl, subst, inl, inr, arith}
use Rattle.std.specs.List.{slice_get}
use Rattle.std.specs.Int.{from_bool}
use Rattle.std.proofs.lemmas.Bool.{cases_lt}
use Rattle.std.proofs.lemmas.Option.{slice_get_within}
use Rattle.mon_types.specs.Shape.{Shape}
use Rattle.mon_types.specs.declared.image.Image.{Image}
use Rattle.mon_types.specs.declared.script.Line.{Line}
use Rattle.protocol.specs.Runs.{Made}
use Rattle.core_behaviour.specs.Runs.{stepped}
use Rattle.lab.specs.declared.lab_core.LabCore.{LabCore}
use Rattle.lab.specs.declared.bench.Bench.{Bench}
use Rattle.lab.specs.Stands.{Stands}
use Rattle.lab.specs.Rounds.{HasEnded, HaveAllEnded, AnswersStep}
use Rattle.lab.proofs.Ways.{step_rests}
use Rattle.lab.proofs.Among.{at_core, core_there}

place : {X : Type 0} (xs : List X) (i : ℕ) → i < length xs → (x : X) × (slice_get xs i ≡ Some x)
place [] i lt = absurd (omega arith)
place (x ∷ xs) zero lt = (x, refl)
place (x ∷ xs) (suc i) lt = place xs i (omega arith)

was : (e : Bool) → false ≡ not e → e ≡ true
was true h = refl
was false h = absurd (cc)

-- a core that had ended before the step has ended
pub ended_by : (b : Bench) (core : ℕ) (result : Bool) → AnswersStep core b result → result ≡ false → HasEnded b core
ended_by b core result answers no_step = λ k at. was k.ended (sym no_step ∙ answers k at)

-- and a step leaves the moves
pub rests_by : (image : Image) (script : List (List Line)) (run : List Made) (b : Bench) (core : ℕ) (result : Bool) → Stands image script run b → core < b.config.cores → AnswersStep core b result → result ≡ false → stepped image script run core ≡ run
rests_by image script run b core result s lt answers no_step =
    let at = place b.cores.items core (core_there image script run b core s lt) in
    (step_rests image script core run at.0 b.words (at_core image script run b core at.0 s at.1) (ended_by b core result answers no_step at.0 at.1)).0

-- ---- a round

-- what a step counts is at most one
pub counts_one : (b : Bool) (n : ℕ) → n ≡ from_bool b → n ≤ 1
counts_one true n is = omega (arith, is)
counts_one false n is = omega (arith, is)

-- and that much less is left to do
pub one_less : (old mid new made from : ℕ) (b : Bool) → from ≡ from_bool b → new + cond b 1 0 ≤ mid → mid + made ≤ old → new + (made + from) ≤ old
one_less old mid new made from true is step before = omega (arith, is, step, before)
one_less old mid new made from false is step before = omega (arith, is, step, before)

-- one core more has ended, where nothing was counted
pub one_more_ended : (mid new : Bench) (core made from : ℕ) (result : Bool) → from ≡ from_bool result → AnswersStep core mid result → (result ≡ false → new.cores.items ≡ mid.cores.items)
    → (made ≡ 0 → (other : ℕ) → other < core → HasEnded mid other) → made + from ≡ 0 → (other : ℕ) → other < core + 1 → HasEnded new other
one_more_ended mid new core made from true is answers stays before none = absurd (omega (arith, is, none))
one_more_ended mid new core made from false is answers stays before none = λ other lt k at.
    let there : slice_get mid.cores.items other ≡ Some k = subst (λ items. slice_get items other ≡ Some k) (stays refl) at in
    elim (cases_lt other core) [
      | inl b ↦ before (omega (arith, none)) other b k there
      | inr a ↦ let same : other ≡ core = omega (arith, lt, a) in ended_by mid core false answers refl k (subst (λ j. slice_get mid.cores.items j ≡ Some k) same there)
    ]

-- where so many cores as there are have ended, all have
pub every_ended : (image : Image) (script : List (List Line)) (run : List Made) (b : Bench) (n : ℕ) → Stands image script run b → n ≡ b.config.cores → ((other : ℕ) → other < n → HasEnded b other) → HaveAllEnded b
every_ended image script run b n s is each = λ core k at.
    let lt = slice_get_within b.cores.items core k at in
    let cores = ap (λ (c : Shape). c.cores) s.config in
    each core (omega (arith, lt, s.count, cores, is)) k at
