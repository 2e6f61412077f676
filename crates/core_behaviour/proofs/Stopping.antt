-- Stops of a core, logged before its next move or at its end.
use Rattle.std.proofs.Common.{◌≡◌, ℕ, Bool, true, false, List, [], ◌∷◌, ◌++◌, Some, None, refl, sym, ap, ◌∙◌}
use Rattle.mon_types.specs.declared.image.Image.{Image}
use Rattle.hist.specs.declared.event.Why.{Why}
use Rattle.protocol.specs.declared.action.Move.{Move}
use Rattle.protocol.specs.declared.action.Move.TheVariants as moves
use Rattle.protocol.specs.declared.action.Outcome.{Outcome}
use Rattle.protocol.specs.declared.action.Outcome.TheVariants as outcomes
use Rattle.protocol.specs.Views.{Moves}
use Rattle.protocol.specs.Runs.{Made, moves_of}
use Rattle.core_behaviour.specs.Course.{Course, Ends, Acts, first_of, behind, left_of, IsBegun}
use Rattle.core_behaviour.specs.Runs.{stop_made, move_made, step_from}
use Rattle.core_behaviour.specs.RunLaw.{core_in}
use Rattle.core_behaviour.proofs.Words.{words_after, AreSame, moves_own, moves_other, stop_leaves}

-- a stop that is done
pub record IsStop (m : Move × Outcome) : Type 0 where
  pub line : ℕ
  pub why : Why
  pub move : m.0 ≡ moves.Stop line why
  pub done : m.1 ≡ outcomes.Done

-- they all are
abbrev pub AreStops : Moves → Type 0
AreStops [] = Unit {0}
AreStops (m ∷ ms) = IsStop m × AreStops ms

-- whether it is a stop, or a move
abbrev pub is_stop : Move → Bool
is_stop (moves.Stop line why) = true
is_stop _ = false

-- a stop, or a move
pub data Kind (move : Move) : Type 0 where
  AStop : (line : ℕ) (why : Why) → move ≡ moves.Stop line why → Kind move
  AMove : is_stop move ≡ false → Kind move

pub kind_of : (move : Move) → Kind move
kind_of (moves.InCall a) = AMove refl
kind_of (moves.Look r owner) = AMove refl
kind_of (moves.Load i) = AMove refl
kind_of (moves.Store i value) = AMove refl
kind_of (moves.Swap i loaded value) = AMove refl
kind_of (moves.Stop line why) = AStop line why refl

pub core_of_move : (move : Move) (core : ℕ) → is_stop move ≡ false → core_in move core ≡ core ∷ []
core_of_move (moves.InCall a) core h = refl
core_of_move (moves.Look r owner) core h = refl
core_of_move (moves.Load i) core h = refl
core_of_move (moves.Store i value) core h = refl
core_of_move (moves.Swap i loaded value) core h = refl
core_of_move (moves.Stop line why) core h = absurd cc

pub core_of_stop : (move : Move) (core line : ℕ) (why : Why) → move ≡ moves.Stop line why → core_in move core ≡ []
core_of_stop move core line why h = ap (λ (x : Move). core_in x core) h

-- ---- a list with stops of a core in front

-- these moves of a core in front of a list
abbrev pub in_front : ℕ → Moves → List Made → List Made
in_front core [] run = run
in_front core (m ∷ ms) run = record { core = core; move = m.0; outcome = m.1 } ∷ in_front core ms run

pub own_in_front : (core : ℕ) (ms : Moves) (run : List Made) → moves_of core (in_front core ms run) ≡ ms ++ moves_of core run
own_in_front core [] run = refl
own_in_front core (m ∷ ms) run =
    moves_own core (record { core = core; move = m.0; outcome = m.1 }) (in_front core ms run) refl
    ∙ ap (λ (x : Moves). m ∷ x) (own_in_front core ms run)

pub other_in_front : (core other : ℕ) (ms : Moves) (run : List Made) → (core ≡ other → ⊥) → moves_of other (in_front core ms run) ≡ moves_of other run
other_in_front core other [] run h = refl
other_in_front core other (m ∷ ms) run h =
    moves_other other (record { core = core; move = m.0; outcome = m.1 }) (in_front core ms run) h ∙ other_in_front core other ms run h

pub words_in_front : (image : Image) (core : ℕ) (ms : Moves) (run : List Made) → AreStops ms → AreSame (words_after image (in_front core ms run)) (words_after image run)
words_in_front image core [] run h = λ p. refl
words_in_front image core (m ∷ ms) run h = λ p.
    stop_leaves image (record { core = core; move = m.0; outcome = m.1 }) (in_front core ms run) h.0.line h.0.why h.0.move p
    ∙ words_in_front image core ms run h.1 p

-- ---- a step

pub none_first : (move : Move) (P : Type 0) → first_of Ends ≡ Some move → P
unfolding first_of
none_first move P h = absurd cc

pub acts_first : (x move : Move) (next : Outcome → Course) → first_of (Acts x next) ≡ Some move → x ≡ move
unfolding first_of
acts_first x move next h = cc

stop_step : (image : Image) (core line : ℕ) (why : Why) (next : Outcome → Course) (run : List Made) → step_from image core (Acts (moves.Stop line why) next) run ≡ step_from image core (next outcomes.Done) (stop_made core line why ∷ run)
unfolding step_from
stop_step image core line why next run = refl

acts_behind : (x : Move) (next : Outcome → Course) (outcome : Outcome) → behind (Acts x next) outcome ≡ next outcome
unfolding behind
acts_behind x next outcome = refl

-- a stop that comes first is logged
one_stop : (image : Image) (core : ℕ) (course : Course) (m : Move × Outcome) (run : List Made) → first_of course ≡ Some m.0 → IsStop m
    → step_from image core course run ≡ step_from image core (behind course m.1) (record { core = core; move = m.0; outcome = m.1 } ∷ run)
one_stop image core Ends m run h s = none_first m.0 _ h
one_stop image core (Acts x next) m run h s =
    let is : x ≡ moves.Stop s.line s.why = acts_first x m.0 next h ∙ s.move in
    let head : stop_made core s.line s.why ≡ record { core = core; move = m.0; outcome = m.1 } =
    ap (λ (move : Move). record { core = core; move = move; outcome = outcomes.Done }) (sym s.move) ∙ ap (λ (o : Outcome). record { core = core; move = m.0; outcome = o }) (sym s.done) in
    ap (λ (y : Move). step_from image core (Acts y next) run) is ∙ stop_step image core s.line s.why next run
    ∙ ap (λ (made : Made). step_from image core (next outcomes.Done) (made ∷ run)) head
    ∙ ap (λ (o : Outcome). step_from image core (next o) (record { core = core; move = m.0; outcome = m.1 } ∷ run)) (sym s.done)
    ∙ ap (λ (c : Course). step_from image core c (record { core = core; move = m.0; outcome = m.1 } ∷ run)) (sym (acts_behind x next m.1))

left_more : (course : Course) (m : Move × Outcome) (ms : Moves) → left_of course (m ∷ ms) ≡ behind (left_of course ms) m.1
unfolding left_of
left_more course m ms = refl

-- all stops that come first are
pub stops_first : (image : Image) (core : ℕ) (course : Course) (stops ms : Moves) (run : List Made) → AreStops stops → IsBegun course (stops ++ ms)
    → step_from image core (left_of course ms) run ≡ step_from image core (left_of course (stops ++ ms)) (in_front core stops run)
stops_first image core course [] ms run h b = refl
stops_first image core course (m ∷ stops) ms run h b =
    stops_first image core course stops ms run h.1 b.0
    ∙ one_stop image core (left_of course (stops ++ ms)) m (in_front core stops run) b.1 h.0
    ∙ ap (λ (c : Course). step_from image core c (in_front core (m ∷ stops) run)) (sym (left_more course m (stops ++ ms)))

move_step : (image : Image) (core : ℕ) (x : Move) (next : Outcome → Course) (run : List Made) → is_stop x ≡ false → step_from image core (Acts x next) run ≡ move_made image core x run ∷ run
unfolding step_from
move_step image core (moves.InCall a) next run h = refl
move_step image core (moves.Look r owner) next run h = refl
move_step image core (moves.Load i) next run h = refl
move_step image core (moves.Store i value) next run h = refl
move_step image core (moves.Swap i loaded value) next run h = refl
move_step image core (moves.Stop line why) next run h = absurd cc

-- a move that comes first is made
pub one_move : (image : Image) (core : ℕ) (course : Course) (move : Move) (run : List Made) → first_of course ≡ Some move → is_stop move ≡ false → step_from image core course run ≡ move_made image core move run ∷ run
one_move image core Ends move run h real = none_first move _ h
one_move image core (Acts x next) move run h real =
    let is : x ≡ move = acts_first x move next h in
    ap (λ (y : Move). step_from image core (Acts y next) run) is ∙ move_step image core move next run real

pub acts_none : (x : Move) (next : Outcome → Course) (P : Type 0) → first_of (Acts x next) ≡ None → P
unfolding first_of
acts_none x next P h = absurd cc

ends_step : (image : Image) (core : ℕ) (run : List Made) → step_from image core Ends run ≡ run
unfolding step_from
ends_step image core run = refl

-- nothing comes where the script is over
pub no_move : (image : Image) (core : ℕ) (course : Course) (run : List Made) → first_of course ≡ None → step_from image core course run ≡ run
no_move image core Ends run h = ends_step image core run
no_move image core (Acts x next) run h = acts_none x next _ h
