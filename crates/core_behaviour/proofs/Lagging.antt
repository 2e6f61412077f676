-- A list of moves, and another with the same moves of each core that has logged fewer of its stops as yet.
use Rattle.std.proofs.Common.{◌≡◌, ℕ, zero, suc, ◌+◌, ◌<◌, eqb, false, List, [], ◌∷◌, ◌++◌, refl, sym, ap, subst, ◌∙◌, arith, inl, inr}
use Rattle.std.specs.List.{range_with_len}
use Rattle.std.proofs.lemmas.Bool.{cases_Bool, eqb-true, eqb-false}
use Rattle.std.proofs.lemmas.List.{append-nil}
use Rattle.mon_types.specs.declared.image.Image.{Image}
use Rattle.mon_types.specs.declared.script.Line.{Line}
use Rattle.hist.specs.declared.event.Why.{Why}
use Rattle.protocol.specs.declared.action.Move.TheVariants as moves
use Rattle.protocol.specs.declared.action.Outcome.{Outcome}
use Rattle.protocol.specs.declared.action.Outcome.TheVariants as outcomes
use Rattle.protocol.specs.Views.{Moves}
use Rattle.protocol.specs.Runs.{Made, moves_of, outcome_after}
use Rattle.core_behaviour.specs.Course.{left_of, IsBegun, IsWhole}
use Rattle.core_behaviour.specs.Runs.{course_of, start_words, move_made, step_from, stepped, run_under}
use Rattle.core_behaviour.specs.RunLaw.{AreGiven, core_in, cores_of}
use Rattle.core_behaviour.proofs.Words.{words_after, AreSame, moves_own, moves_other, outcome_same, step_same, stop_leaves, stop_done}
use Rattle.core_behaviour.proofs.Stopping.{AreStops, is_stop, Kind, AStop, AMove, kind_of, core_of_move, core_of_stop, in_front, own_in_front, other_in_front, words_in_front, stops_first, one_move, no_move}

-- these moves are those, and stops behind them
pub record HasStops (ms slow : Moves) : Type 0 where
  pub stops : Moves
  pub are : AreStops stops
  pub is : ms ≡ stops ++ slow

-- the words are the same, and each core's moves too, but for stops
pub record Lags (image : Image) (run slow : List Made) : Type 0 where
  pub words : AreSame (words_after image run) (words_after image slow)
  pub stops : (core : ℕ) → HasStops (moves_of core run) (moves_of core slow)

-- a core has logged all its stops
abbrev pub IsCaught : List Made → List Made → ℕ → Type 0
IsCaught run slow core = moves_of core run ≡ moves_of core slow

no_stops : (ms slow : Moves) → ms ≡ slow → HasStops ms slow
no_stops ms slow h = record { stops = []; are = tt; is = h }

-- ---- one more of the list

pub stop_more : (image : Image) (made : Made) (run slow : List Made) (line : ℕ) (why : Why) → made.move ≡ moves.Stop line why → made.outcome ≡ outcomes.Done → Lags image run slow → Lags image (made ∷ run) slow
stop_more image made run slow line why h d l = record {
  words = λ p. stop_leaves image made run line why h p ∙ l.words p;
  stops = λ core.
      let s = l.stops core in
      elim (cases_Bool (eqb made.core core)) [
        | inl t ↦ record {
          stops = (made.move, made.outcome) ∷ s.stops;
          are = (record { line = line; why = why; move = h; done = d }, s.are);
          is = moves_own core made run (eqb-true made.core core t) ∙ ap (λ (x : Moves). (made.move, made.outcome) ∷ x) s.is;
        }
        | inr f ↦ record { stops = s.stops; are = s.are; is = moves_other core made run (eqb-false made.core core f) ∙ s.is }
      ];
}

stepped_is : (image : Image) (script : List (List Line)) (slow : List Made) (core : ℕ) → stepped image script slow core ≡ step_from image core (left_of (course_of image script core) (moves_of core slow)) slow
unfolding stepped
stepped_is image script slow core = refl

-- a step of a core logs its stops first
stops_logged : (image : Image) (script : List (List Line)) (run slow : List Made) (core : ℕ) (s : HasStops (moves_of core run) (moves_of core slow)) → IsBegun (course_of image script core) (moves_of core run)
    → stepped image script slow core ≡ step_from image core (left_of (course_of image script core) (moves_of core run)) (in_front core s.stops slow)
stops_logged image script run slow core s b =
    let course = course_of image script core in
    stepped_is image script slow core
    ∙ stops_first image core course s.stops (moves_of core slow) slow s.are (subst (IsBegun course) s.is b)
    ∙ ap (λ (ms : Moves). step_from image core (left_of course ms) (in_front core s.stops slow)) (sym s.is)

-- with the stops of a core in front it is caught, and the others are as they were
own_caught : (run slow : List Made) (core : ℕ) (s : HasStops (moves_of core run) (moves_of core slow)) → IsCaught run (in_front core s.stops slow) core
own_caught run slow core s = s.is ∙ sym (own_in_front core s.stops slow)

stops_front : (run slow : List Made) (core other : ℕ) (s : HasStops (moves_of core run) (moves_of core slow)) → HasStops (moves_of other run) (moves_of other slow) → HasStops (moves_of other run) (moves_of other (in_front core s.stops slow))
stops_front run slow core other s o =
    elim (cases_Bool (eqb core other)) [
      | inl t ↦ no_stops (moves_of other run) (moves_of other (in_front core s.stops slow)) (subst (IsCaught run (in_front core s.stops slow)) (eqb-true core other t) (own_caught run slow core s))
      | inr f ↦ record { stops = o.stops; are = o.are; is = o.is ∙ ap (λ (x : Moves). o.stops ++ x) (sym (other_in_front core other s.stops slow (eqb-false core other f))) }
    ]

lags_front : (image : Image) (run slow : List Made) (core : ℕ) (l : Lags image run slow) → Lags image run (in_front core (l.stops core).stops slow)
lags_front image run slow core l =
    let s = l.stops core in
    record {
      words = λ p. l.words p ∙ sym (words_in_front image core s.stops slow s.are p);
      stops = λ other. stops_front run slow core other s (l.stops other);
    }

caught_front : (run slow : List Made) (core other : ℕ) (s : HasStops (moves_of core run) (moves_of core slow)) → IsCaught run slow other → IsCaught run (in_front core s.stops slow) other
caught_front run slow core other s c =
    elim (cases_Bool (eqb core other)) [
      | inl t ↦ subst (IsCaught run (in_front core s.stops slow)) (eqb-true core other t) (own_caught run slow core s)
      | inr f ↦ c ∙ sym (other_in_front core other s.stops slow (eqb-false core other f))
    ]

-- the same move in front of both
lags_same : (image : Image) (made : Made) (run slow : List Made) → IsCaught run slow made.core → Lags image run slow → Lags image (made ∷ run) (made ∷ slow)
lags_same image made run slow c l = record {
  words = step_same image made run slow c l.words;
  stops = λ core.
      let s = l.stops core in
      elim (cases_Bool (eqb made.core core)) [
        | inl t ↦
            let e : made.core ≡ core = eqb-true made.core core t in
            no_stops (moves_of core (made ∷ run)) (moves_of core (made ∷ slow))
            (moves_own core made run e ∙ ap (λ (x : Moves). (made.move, made.outcome) ∷ x) (subst (IsCaught run slow) e c) ∙ sym (moves_own core made slow e))
        | inr f ↦
            let ne = eqb-false made.core core f in
            record { stops = s.stops; are = s.are; is = moves_other core made run ne ∙ s.is ∙ ap (λ (x : Moves). s.stops ++ x) (sym (moves_other core made slow ne)) }
      ];
}

pub move_more : (image : Image) (script : List (List Line)) (made : Made) (run slow : List Made) → is_stop made.move ≡ false → made.outcome ≡ outcome_after image.config (start_words image) run made.move
    → IsBegun (course_of image script made.core) (moves_of made.core (made ∷ run)) → Lags image run slow → Lags image (made ∷ run) (stepped image script slow made.core)
move_more image script made run slow real given begun l =
    let core : ℕ = made.core in
    let course = course_of image script core in
    let s = l.stops core in
    let caught : List Made = in_front core s.stops slow in
    let b = subst (IsBegun course) (moves_own core made run refl) begun in
    let words : AreSame (words_after image caught) (words_after image run) = λ p. words_in_front image core s.stops slow s.are p ∙ sym (l.words p) in
    let outcome : outcome_after image.config (start_words image) caught made.move ≡ made.outcome = outcome_same (words_after image caught) (words_after image run) made.move words ∙ sym given in
    let same : move_made image core made.move caught ≡ made = ap (λ (o : Outcome). record { core = made.core; move = made.move; outcome = o }) outcome in
    let total : stepped image script slow core ≡ made ∷ caught =
    stops_logged image script run slow core s b.0 ∙ one_move image core (left_of course (moves_of core run)) made.move caught b.1 real ∙ ap (λ (m : Made). m ∷ caught) same in
    subst (Lags image (made ∷ run)) (sym total) (lags_same image made run caught (own_caught run slow core s) (lags_front image run slow core l))

-- ---- the whole list

pub under_more : (image : Image) (script : List (List Line)) (xs ys : List ℕ) (run : List Made) → run_under image script (xs ++ ys) run ≡ run_under image script ys (run_under image script xs run)
unfolding run_under
under_more image script [] ys run = refl
under_more image script (x ∷ xs) ys run = under_more image script xs ys (stepped image script run x)

under_one : (image : Image) (script : List (List Line)) (core : ℕ) (run : List Made) → run_under image script (core ∷ []) run ≡ stepped image script run core
unfolding run_under
under_one image script core run = refl

under_none : (image : Image) (script : List (List Line)) (run : List Made) → run_under image script [] run ≡ run
unfolding run_under
under_none image script run = refl

-- each core's moves are those with which its course begins
abbrev pub AreBegun : Image → List (List Line) → List Made → Type 0
AreBegun image script run = (core : ℕ) → core < image.config.cores → IsBegun (course_of image script core) (moves_of core run)

pub begun_before : (image : Image) (script : List (List Line)) (made : Made) (run : List Made) → AreBegun image script (made ∷ run) → AreBegun image script run
begun_before image script made run b = λ core lt.
    elim (cases_Bool (eqb made.core core)) [
      | inl t ↦ (subst (IsBegun (course_of image script core)) (moves_own core made run (eqb-true made.core core t)) (b core lt)).0
      | inr f ↦ subst (IsBegun (course_of image script core)) (moves_other core made run (eqb-false made.core core f)) (b core lt)
    ]

no_cores : cores_of [] ≡ []
unfolding cores_of
no_cores = refl

cores_more : (made : Made) (run : List Made) → cores_of (made ∷ run) ≡ cores_of run ++ core_in made.move made.core
unfolding cores_of
cores_more made run = refl

by_kind : (image : Image) (script : List (List Line)) (made : Made) (run : List Made) → Kind made.move → made.core < image.config.cores → made.outcome ≡ outcome_after image.config (start_words image) run made.move
    → AreBegun image script (made ∷ run) → Lags image run (run_under image script (cores_of run) []) → Lags image (made ∷ run) (run_under image script (cores_of (made ∷ run)) [])
by_kind image script made run (AStop line why h) lt given b l =
    let same : cores_of run ≡ cores_of (made ∷ run) = sym (cores_more made run ∙ ap (λ (cs : List ℕ). cores_of run ++ cs) (core_of_stop made.move made.core line why h) ∙ append-nil (cores_of run)) in
    subst (λ (cs : List ℕ). Lags image (made ∷ run) (run_under image script cs [])) same
    (stop_more image made run (run_under image script (cores_of run) []) line why h (stop_done image made run line why h given) l)
by_kind image script made run (AMove real) lt given b l =
    let one : cores_of (made ∷ run) ≡ cores_of run ++ made.core ∷ [] = cores_more made run ∙ ap (λ (cs : List ℕ). cores_of run ++ cs) (core_of_move made.move made.core real) in
    let last : run_under image script (cores_of (made ∷ run)) [] ≡ stepped image script (run_under image script (cores_of run) []) made.core =
    ap (λ (cs : List ℕ). run_under image script cs []) one ∙ under_more image script (cores_of run) (made.core ∷ []) [] ∙ under_one image script made.core (run_under image script (cores_of run) []) in
    subst (Lags image (made ∷ run)) (sym last) (move_more image script made run (run_under image script (cores_of run) []) real given (b made.core lt) l)

-- a list of moves that are given lags behind the run of its own cores in nothing but stops
pub lags : (image : Image) (script : List (List Line)) (run : List Made) → AreGiven image run → AreBegun image script run → Lags image run (run_under image script (cores_of run) [])
lags image script [] g b =
    let none : run_under image script (cores_of []) [] ≡ [] = ap (λ (cs : List ℕ). run_under image script cs []) no_cores ∙ under_none image script [] in
    subst (Lags image []) (sym none) (record { words = λ p. refl; stops = λ core. no_stops (moves_of core []) (moves_of core []) refl })
lags image script (made ∷ run) g b = by_kind image script made run (kind_of made.move) g.0 g.1 b (lags image script run g.2 (begun_before image script made run b))

-- ---- a round

-- every core's moves are all of its course
abbrev pub AreWhole : Image → List (List Line) → List Made → Type 0
AreWhole image script run = (core : ℕ) → core < image.config.cores → IsWhole (course_of image script core) (moves_of core run)

-- a step of a core that has only stops left logs them
catches : (image : Image) (script : List (List Line)) (run slow : List Made) (core : ℕ) (l : Lags image run slow) → IsWhole (course_of image script core) (moves_of core run) → stepped image script slow core ≡ in_front core (l.stops core).stops slow
catches image script run slow core l w =
    stops_logged image script run slow core (l.stops core) w.begun ∙ no_move image core (left_of (course_of image script core) (moves_of core run)) (in_front core (l.stops core).stops slow) w.over

-- all cores are caught
pub record AreCaught (image : Image) (run slow : List Made) : Type 0 where
  pub lags : Lags image run slow
  pub caught : (core : ℕ) → core < image.config.cores → IsCaught run slow core

below_next : (P : ℕ → Type 0) (k : ℕ) → ((core : ℕ) → core < k → P core) → P k → (core : ℕ) → core < k + 1 → P core
below_next P k below here core lt =
    elim (cases_Bool (eqb core k)) [
      | inl t ↦ subst P (sym (eqb-true core k t)) here
      | inr f ↦ let ne = eqb-false core k f in below core (omega (arith, lt, ne))
    ]

round_from : (image : Image) (script : List (List Line)) (run : List Made) → AreWhole image script run → (j k : ℕ) (slow : List Made) → k + j ≡ image.config.cores → Lags image run slow → ((core : ℕ) → core < k → IsCaught run slow core)
    → AreCaught image run (run_under image script (range_with_len k j) slow)
unfolding run_under
round_from image script run w zero k slow e l c = record { lags = l; caught = λ core lt. c core (omega (arith, e, lt)) }
round_from image script run w (suc j) k slow e l c =
    let here : k < image.config.cores = omega (arith, e) in
    let next : List Made = in_front k (l.stops k).stops slow in
    let is : stepped image script slow k ≡ next = catches image script run slow k l (w k here) in
    let more : k + 1 + j ≡ image.config.cores = omega (arith, e) in
    subst (λ (r : List Made). AreCaught image run (run_under image script (range_with_len (k + 1) j) r)) (sym is)
    (round_from image script run w j (k + 1) next more (lags_front image run slow k l)
    (below_next (IsCaught run next) k (λ core lt. caught_front run slow k core (l.stops k) (c core lt)) (own_caught run slow k (l.stops k))))

pub round : (image : Image) (script : List (List Line)) (run slow : List Made) → AreWhole image script run → Lags image run slow → AreCaught image run (run_under image script (range_with_len 0 image.config.cores) slow)
round image script run slow w l = round_from image script run w image.config.cores 0 slow (omega arith) l (λ core lt. absurd (omega (arith, lt)))
