-- A core on its way through its stops to its next move or its end.
use Rattle.std.proofs.Common.{◌≡◌, ◌∙◌, ◌+◌, ◌<◌, ◌≤◌, ℕ, Bool, true, false, not, cond, Option, Some, None, List, [], ◌∷◌, ◌++◌, length, ap, sym, refl, subst, arith}
use Rattle.mon_types.specs.declared.image.Image.{Image}
use Rattle.mon_types.specs.declared.script.Line.{Line}
use Rattle.mon_types.specs.Budgets.{answer_budget}
use Rattle.hist.specs.declared.event.Why.{Why}
use Rattle.protocol.specs.declared.action.Move.{Move}
use Rattle.protocol.specs.declared.action.Move.TheVariants as moves
use Rattle.protocol.specs.declared.action.Outcome.{Outcome}
use Rattle.protocol.specs.declared.action.Outcome.TheVariants as outcomes
use Rattle.protocol.specs.Places.{Memory}
use Rattle.protocol.specs.Moves.{place_of, word_found, outcome_of, left_at, memory_after_move}
use Rattle.protocol.specs.Views.{Moves, core_log, answers_of, logged, answered}
use Rattle.protocol.specs.Runs.{Made, moves_of, memory_after, outcome_after}
use Rattle.core_behaviour.specs.Course.{Course, first_of, behind, left_of, IsBegun}
use Rattle.core_behaviour.specs.Runs.{course_of, start_words, stop_made, move_made, step_from, stepped}
use Rattle.core_behaviour.proofs.Words.{moves_own}
use Rattle.core_behaviour.proofs.Stopping.{is_stop, in_front, stops_first, one_move, no_move}
use Rattle.core_machine.specs.declared.progress.Progress.{Progress}
use Rattle.core_machine.specs.declared.step.Step.{Step}
use Rattle.core_machine.specs.declared.step.Step.TheVariants as steps
use Rattle.core_machine.specs.Follows.{Follows, Gives}
use Rattle.core_machine.specs.Effort.{effort, AreInBudget}
use Rattle.word_list.specs.Listed.{Listed, StandsFor}
use Rattle.lab.specs.declared.lab_core.LabCore.{LabCore}
use Rattle.lab.specs.Cores.{CoreStands, Adds, makes_move, work_left}
use Rattle.lab.specs.Stands.{IsRunOf, WordsStand, Goes}
use Rattle.lab.specs.Steps.{course_left, CanStep, CanMake, MakesMove}
use Rattle.lab.proofs.Fair.{run_more}
use Rattle.lab.proofs.Growing.{events_fit, answers_fit, core_more}
use Rattle.lab.proofs.Giving.{move_given, stop_given, none_given, stop_makes, move_makes, none_makes}

-- what every core tells of its next step, by its contract
abbrev pub Tells : Progress → Option Step → Progress → Type 0
Tells old step new = (course : Course) (ms : Moves) → Follows old course ms → Gives new course ms step

-- ---- the way so far

-- by stops of the core it has come so far, and a step from there on is one from the begin
pub record HasCome (image : Image) (script : List (List Line)) (core : ℕ) (run : List Made) (k : LabCore) (words : Listed) : Type 0 where
  pub mid : List Made
  pub goes : Goes image script core mid k words
  pub same : stepped image script run core ≡ stepped image script mid core
  pub left : makes_move (course_left image script core run) ≡ makes_move (course_left image script core mid)

abbrev pub IsOnWay : ℕ → LabCore → Listed → LabCore → Listed → Type 0
IsOnWay core old words new later =
    (image : Image) (script : List (List Line)) (run : List Made) → Goes image script core run old words → HasCome image script core run new later

pub at_begin : (core : ℕ) (k : LabCore) (words : Listed) → IsOnWay core k words k words
at_begin core k words = λ image script run g. record { mid = run; goes = g; same = refl; left = refl }

-- ---- a stop

stepped_is : (image : Image) (script : List (List Line)) (run : List Made) (core : ℕ) → stepped image script run core ≡ step_from image core (course_left image script core run) run
unfolding stepped
stepped_is image script run core = refl

left_more : (course : Course) (m : Move × Outcome) (ms : Moves) → left_of course (m ∷ ms) ≡ behind (left_of course ms) m.1
unfolding left_of
left_more course m ms = refl

stop_keeps_words : (image : Image) (core line : ℕ) (why : Why) (run : List Made) → memory_after image.config (start_words image) (stop_made core line why ∷ run) ≡ memory_after image.config (start_words image) run
unfolding memory_after memory_after_move place_of left_at
stop_keeps_words image core line why run = refl

pub stop_outcome : (memory : Memory) (line : ℕ) (why : Why) → outcomes.Done ≡ outcome_of (moves.Stop line why) (word_found memory (place_of (moves.Stop line why)))
unfolding outcome_of
stop_outcome memory line why = refl

module _ (image : Image) (script : List (List Line)) (core : ℕ) (run : List Made) (k : LabCore) (words : Listed) (g : Goes image script core run k words) (m : Progress) (number : m.own.number ≡ k.machine.own.number) where
  abbrev ms : Moves
  ms = moves_of core run

  own_number : m.own.number ≡ core
  own_number = number ∙ g.own.number

  module _ (line : ℕ) (why : Why) (gives : Gives m (course_of image script core) (moves_of core run) (Some (steps.Stop line why))) where
    stop_first : first_of (course_left image script core run) ≡ Some (moves.Stop line why)
    stop_first = stop_given (first_of (course_left image script core run)) line why gives.first

    pub stop_events : AreInBudget m.own.counts → length (logged core k.log.events (moves.Stop line why) outcomes.Done) ≤ k.log.spare
    stop_events b = events_fit image script core (moves_of core run) k m (moves.Stop line why) outcomes.Done g.own own_number gives.follows b

    pub stop_answers : AreInBudget m.own.counts → length k.answers + length (answered (moves.Stop line why) outcomes.Done) ≤ answer_budget
    stop_answers b = answers_fit image script core (moves_of core run) k m (moves.Stop line why) outcomes.Done g.own own_number gives.follows b

    stop_own : moves_of core (stop_made core line why ∷ run) ≡ (moves.Stop line why, outcomes.Done) ∷ moves_of core run
    stop_own = moves_own core (stop_made core line why) run refl

    pub stop_goes : (new : LabCore) → k.ended ≡ false → Adds core (moves.Stop line why) outcomes.Done (record k { machine = m }) new → Goes image script core (stop_made core line why ∷ run) new words
    stop_goes new goes a = record {
      low = g.low;
      made = run_more image script (stop_made core line why) run g.low (stop_outcome (memory_after image.config (start_words image) run) line why) stop_first g.made;
      own = subst (λ z. CoreStands image script core z new) (sym stop_own)
          (core_more image script core (moves_of core run) k m (moves.Stop line why) outcomes.Done g.own own_number gives.follows new goes a);
      listed = record { shape = g.listed.shape; holds = subst (StandsFor words) (sym (stop_keeps_words image core line why run)) g.listed.holds };
    }

    pub stop_same : stepped image script run core ≡ stepped image script (stop_made core line why ∷ run) core
    stop_same =
        stepped_is image script run core
        ∙ stops_first image core (course_of image script core) ((moves.Stop line why, outcomes.Done) ∷ []) (moves_of core run) run
        (record { line = line; why = why; move = refl; done = refl }, tt) (g.made.lines core g.low, stop_first)
        ∙ ap (λ z. step_from image core (left_of (course_of image script core) z) (stop_made core line why ∷ run)) (sym stop_own)
        ∙ sym (stepped_is image script (stop_made core line why ∷ run) core)

    pub stop_left : makes_move (course_left image script core run) ≡ makes_move (course_left image script core (stop_made core line why ∷ run))
    stop_left =
        stop_makes (course_left image script core run) line why stop_first
        ∙ ap makes_move (sym (left_more (course_of image script core) (moves.Stop line why, outcomes.Done) (moves_of core run)))
        ∙ ap (λ z. makes_move (left_of (course_of image script core) z)) (sym stop_own)

-- one stop further on the way
pub past_stop : (core : ℕ) (old mid new : LabCore) (words : Listed) (later : Listed) (m : Progress) (line : ℕ) (why : Why) → IsOnWay core old words mid later → m.own.number ≡ mid.machine.own.number
    → Tells mid.machine (Some (steps.Stop line why)) m → mid.ended ≡ false → Adds core (moves.Stop line why) outcomes.Done (record mid { machine = m }) new → IsOnWay core old words new later
past_stop core old mid new words later m line why way number tells goes a = λ image script run g.
    let c = way image script run g in
    let gives = tells (course_of image script core) (moves_of core c.mid) c.goes.own.follows in
    record {
      mid = stop_made core line why ∷ c.mid;
      goes = stop_goes image script core c.mid mid later c.goes m number line why gives new goes a;
      same = c.same ∙ stop_same image script core c.mid mid later c.goes m number line why gives;
      left = c.left ∙ stop_left image script core c.mid mid later c.goes m number line why gives;
    }

-- ---- the core after its private work

pub told_core : (image : Image) (script : List (List Line)) (core : ℕ) (run : List Made) (k : LabCore) (words : Listed) (m : Progress) → Goes image script core run k words → m.own.number ≡ k.machine.own.number
    → Follows m (course_of image script core) (moves_of core run) → Goes image script core run (record k { machine = m }) words
told_core image script core run k words m g number f = record {
  low = g.low;
  made = g.made;
  own = record {
    number = number ∙ g.own.number;
    follows = f;
    log = g.own.log;
    room = g.own.room;
    answers = g.own.answers;
    ended = g.own.ended;
  };
  listed = g.listed;
}

-- ---- a move

-- the core can make the move that it was told
pub may_make : (core : ℕ) (old mid : LabCore) (words later : Listed) (m : Progress) (move : Move) → CanStep core old words → IsOnWay core old words mid later → m.own.number ≡ mid.machine.own.number
    → Tells mid.machine (Some (steps.Move move)) m → CanMake core move (record mid { machine = m }) later
may_make core old mid words later m move can way number tells =
    let c = way can.image can.script can.run can.goes in
    let gives = tells (course_of can.image can.script core) (moves_of core c.mid) c.goes.own.follows in
    record {
      image = can.image;
      script = can.script;
      run = c.mid;
      goes = told_core can.image can.script core c.mid mid later m c.goes number gives.follows;
      first = (move_given (first_of (course_left can.image can.script core c.mid)) move gives.first).0;
    }

-- behind it the step is made
pub step_moves : (core : ℕ) (old mid new : LabCore) (words later last : Listed) (m : Progress) (move : Move) → IsOnWay core old words mid later → m.own.number ≡ mid.machine.own.number
    → Tells mid.machine (Some (steps.Move move)) m → MakesMove core move (record mid { machine = m }) later new last
    → (image : Image) (script : List (List Line)) (run : List Made) → Goes image script core run old words
    → Goes image script core (stepped image script run core) new last × (makes_move (course_left image script core run) ≡ true)
step_moves core old mid new words later last m move way number tells makes image script run g =
    let c = way image script run g in
    let gives = tells (course_of image script core) (moves_of core c.mid) c.goes.own.follows in
    let given = move_given (first_of (course_left image script core c.mid)) move gives.first in
    let same = c.same ∙ stepped_is image script c.mid core ∙ one_move image core (course_left image script core c.mid) move c.mid given.0 given.1 in (
      subst (λ z. Goes image script core z new last) (sym same)
          (makes image script c.mid (told_core image script core c.mid mid later m c.goes number gives.follows) given.0),
      c.left ∙ move_makes (course_left image script core c.mid) move given.0 given.1,
    )

-- ---- the end

-- a core whose script is over has made its step
pub step_ends : (core : ℕ) (old mid : LabCore) (words later : Listed) (m : Progress) → IsOnWay core old words mid later → m.own.number ≡ mid.machine.own.number → Tells mid.machine None m
    → (image : Image) (script : List (List Line)) (run : List Made) → Goes image script core run old words
    → Goes image script core (stepped image script run core) (record mid { machine = m; ended = true }) later × (makes_move (course_left image script core run) ≡ false)
step_ends core old mid words later m way number tells image script run g =
    let c = way image script run g in
    let gives = tells (course_of image script core) (moves_of core c.mid) c.goes.own.follows in
    let over = none_given (first_of (course_left image script core c.mid)) gives.first in
    let same = c.same ∙ stepped_is image script c.mid core ∙ no_move image core (course_left image script core c.mid) c.mid over in (
      subst (λ z. Goes image script core z (record mid { machine = m; ended = true }) later) (sym same) (record {
        low = c.goes.low;
        made = c.goes.made;
        own = record {
          number = number ∙ c.goes.own.number;
          follows = gives.follows;
          log = c.goes.own.log;
          room = c.goes.own.room;
          answers = c.goes.own.answers;
          ended = λ t. over;
        };
        listed = c.goes.listed;
      }),
      c.left ∙ none_makes (course_left image script core c.mid) over,
    )

-- a core that had ended makes none
pub step_rests : (image : Image) (script : List (List Line)) (core : ℕ) (run : List Made) (k : LabCore) (words : Listed) → Goes image script core run k words → k.ended ≡ true
    → (stepped image script run core ≡ run) × (makes_move (course_left image script core run) ≡ false)
step_rests image script core run k words g t =
    let over = g.own.ended t in
    (stepped_is image script run core ∙ no_move image core (course_left image script core run) run over, none_makes (course_left image script core run) over)

-- ---- small parts of a step

pub stop_done : (line : ℕ) (why : Why) → outcomes.Done ≡ outcome_of (moves.Stop line why) 0
unfolding outcome_of
stop_done line why = refl

-- what is left, of a core that had ended, and of one that had not
pub rest_left : (k : LabCore) → k.ended ≡ true → work_left k + cond k.ended 0 1 ≤ work_left k
rest_left k t = by k.ended (effort k.machine) t
  where
    by : (e : Bool) (n : ℕ) → e ≡ true → cond e 0 (n + 1) + cond e 0 1 ≤ cond e 0 (n + 1)
    by true n t = omega arith
    by false n t = absurd (cc)

pub step_left : (old new : LabCore) → old.ended ≡ false → new.ended ≡ false → effort new.machine < effort old.machine → work_left new + cond old.ended 0 1 ≤ work_left old
step_left old new f g less = by old.ended new.ended (effort old.machine) (effort new.machine) f g less
  where
    by : (d e : Bool) (n m : ℕ) → d ≡ false → e ≡ false → m < n → cond e 0 (m + 1) + cond d 0 1 ≤ cond d 0 (n + 1)
    by false false n m f g less = omega arith
    by false true n m f g less = absurd (cc)
    by true e n m f g less = absurd (cc)

pub end_left : (old new : LabCore) → old.ended ≡ false → new.ended ≡ true → work_left new + cond old.ended 0 1 ≤ work_left old
end_left old new f t = by old.ended new.ended (effort old.machine) (effort new.machine) f t
  where
    by : (d e : Bool) (n m : ℕ) → d ≡ false → e ≡ true → cond e 0 (m + 1) + cond d 0 1 ≤ cond d 0 (n + 1)
    by false true n m f t = omega arith
    by false false n m f t = absurd (cc)
    by true e n m f t = absurd (cc)
