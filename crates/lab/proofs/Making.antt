-- The next move of a core is made.
use Rattle.std.proofs.Common.{◌≡◌, ◌∙◌, ◌<◌, ◌≤◌, ℕ, false, Some, List, ◌∷◌, unwrap_or, ap, sym, refl, subst}
use Rattle.mon_types.specs.Locks.{lock_word}
use Rattle.mon_types.specs.declared.image.Image.{Image}
use Rattle.mon_types.specs.declared.script.Line.{Line}
use Rattle.protocol.specs.declared.action.Move.{Move}
use Rattle.protocol.specs.declared.action.Outcome.{Outcome}
use Rattle.protocol.specs.Places.{Memory}
use Rattle.protocol.specs.Moves.{place_of, word_found, outcome_of, memory_after_move}
use Rattle.protocol.specs.Views.{Moves}
use Rattle.protocol.specs.Runs.{Made, moves_of, memory_after, outcome_after}
use Rattle.core_behaviour.specs.Course.{Course, first_of, left_of}
use Rattle.core_behaviour.specs.Runs.{course_of, start_words, move_made}
use Rattle.core_behaviour.proofs.Words.{moves_own}
use Rattle.core_machine.specs.declared.progress.Progress.{Progress}
use Rattle.core_machine.specs.Meaning.{due, calling_of}
use Rattle.core_machine.specs.Follows.{Follows, told}
use Rattle.core_machine.specs.Effort.{IsFresh}
use Rattle.word_list.specs.Listed.{Listed, StandsFor}
use Rattle.lab.specs.declared.lab_core.LabCore.{LabCore}
use Rattle.lab.specs.Cores.{CoreStands, Adds}
use Rattle.lab.specs.Stands.{Goes}
use Rattle.lab.specs.Steps.{course_left}
use Rattle.lab.proofs.Fair.{next_run}
use Rattle.lab.proofs.Leaving.{words_more}
use Rattle.lab.proofs.Growing.{core_more}

-- what a core does with every outcome that it is told
abbrev pub Takes : Progress → Outcome → Progress → Type 0
Takes old outcome new = (course : Course) (ms : Moves) → Follows old course ms → Follows new course (told (first_of (left_of course ms)) outcome ms)

-- what a move answers, and leaves
abbrev pub Answers : Listed → Move → Outcome → Type 0
Answers words move outcome = (memory : Memory) → StandsFor words memory → outcome ≡ outcome_of move (word_found memory (place_of move))

abbrev pub LeavesWords : Listed → ℕ → Move → Listed → Type 0
LeavesWords words mine move later = (memory : Memory) → StandsFor words memory → StandsFor later (memory_after_move mine memory move)

pub takes_move : (old new : Progress) (course : Course) (ms : Moves) (move : Move) (outcome : Outcome) → Takes old outcome new → Follows old course ms → first_of (left_of course ms) ≡ Some move → Follows new course ((move, outcome) ∷ ms)
takes_move old new course ms move outcome takes f first = subst (λ o. Follows new course (told o outcome ms)) first (takes course ms f)

module _ (image : Image) (script : List (List Line)) (core : ℕ) (run : List Made) (old new : LabCore) (words later : Listed) (m : Progress) (serial : ℕ) (move : Move) (outcome : Outcome)
    (g : Goes image script core run old words) (first : first_of (course_left image script core run) ≡ Some move) where
  answered_so : Answers words move outcome → outcome ≡ outcome_after image.config (start_words image) run move
  answered_so answers = answers (memory_after image.config (start_words image) run) g.listed.holds

  pub move_goes : due old.machine ≡ Some move → IsFresh old.machine → old.ended ≡ false → serial ≡ unwrap_or (calling_of old.machine) 0 → Answers words move outcome → LeavesWords words (lock_word core serial) move later → later.shape ≡ words.shape
      → m.own.number ≡ old.machine.own.number → Takes old.machine outcome m → Adds core move outcome (record old { machine = m }) new → Goes image script core (move_made image core move run ∷ run) new later
  move_goes is_due fresh goes is answers leaves shape number takes adds =
      let e = answered_so answers in
      let f = takes_move old.machine m (course_of image script core) (moves_of core run) move outcome takes g.own.follows first in
      let own : moves_of core (move_made image core move run ∷ run) ≡ (move, outcome) ∷ moves_of core run =
      moves_own core (move_made image core move run) run refl ∙ ap (λ (o : Outcome). (move, o) ∷ moves_of core run) (sym e) in
      record {
        low = g.low;
        made = next_run image script core run old words g move first;
        own = subst (λ z. CoreStands image script core z new) (sym own)
            (core_more image script core (moves_of core run) old m move outcome g.own (number ∙ g.own.number) f new goes adds);
        listed = words_more image script core run old words later serial g move first is_due fresh is shape leaves;
      }
