-- A core with one move or stop more, and its room for it.
use Rattle.std.proofs.Common.{◌≡◌, ◌∙◌, ◌+◌, ◌≤◌, ℕ, false, true, List, ◌∷◌, ◌++◌, length, ap, sym, subst, arith}
use Rattle.std.proofs.lemmas.List.{length-append}
use Rattle.mon_types.specs.Budgets.{event_budget, answer_budget}
use Rattle.mon_types.specs.declared.image.Image.{Image}
use Rattle.mon_types.specs.declared.script.Line.{Line}
use Rattle.protocol.specs.declared.action.Move.{Move}
use Rattle.protocol.specs.declared.action.Outcome.{Outcome}
use Rattle.protocol.specs.Views.{Moves, core_log, answers_of, logged, answered}
use Rattle.core_behaviour.specs.Runs.{course_of}
use Rattle.core_machine.specs.declared.progress.Progress.{Progress}
use Rattle.core_machine.specs.Follows.{Follows}
use Rattle.core_machine.specs.Effort.{AreInBudget}
use Rattle.lab.specs.declared.lab_core.LabCore.{LabCore}
use Rattle.lab.specs.Cores.{CoreStands, Adds}

module _ (image : Image) (script : List (List Line)) (core : ℕ) (ms : Moves) (k : LabCore) (m : Progress) (move : Move) (outcome : Outcome)
    (s : CoreStands image script core ms k) (number : m.own.number ≡ core) (f : Follows m (course_of image script core) ((move, outcome) ∷ ms)) where
  -- what the move adds is counted
  events_counted : length (k.log.events ++ logged core k.log.events move outcome) ≡ m.own.counts.events
  unfolding core_log
  events_counted =
      ap (λ z. length (z ++ logged core z move outcome)) s.log
      ∙ subst (λ n. length (core_log n ((move, outcome) ∷ ms)) ≡ m.own.counts.events) number f.counts.events

  answers_counted : length (k.answers ++ answered move outcome) ≡ m.own.counts.answers
  unfolding answers_of
  answers_counted = ap (λ z. length (z ++ answered move outcome)) s.answers ∙ f.counts.answers

  pub events_fit : AreInBudget m.own.counts → length (logged core k.log.events move outcome) ≤ k.log.spare
  events_fit b = omega (arith, b.events, s.room, events_counted, length-append k.log.events (logged core k.log.events move outcome))

  pub answers_fit : AreInBudget m.own.counts → length k.answers + length (answered move outcome) ≤ answer_budget
  answers_fit b = omega (arith, b.answers, answers_counted, length-append k.answers (answered move outcome))

  -- the core after it
  pub core_more : (new : LabCore) → k.ended ≡ false → Adds core move outcome (record k { machine = m }) new → CoreStands image script core ((move, outcome) ∷ ms) new
  unfolding core_log answers_of
  core_more new goes a = record {
    number = ap (λ (x : Progress). x.own.number) a.machine ∙ number;
    follows = subst (λ x. Follows x (course_of image script core) ((move, outcome) ∷ ms)) (sym a.machine) f;
    log = a.log ∙ ap (λ z. z ++ logged core z move outcome) s.log;
    room = a.room ∙ s.room;
    answers = a.answers ∙ ap (λ z. z ++ answered move outcome) s.answers;
    ended = λ t. absurd (let e : false ≡ true = sym goes ∙ sym a.ended ∙ t in cc);
  }
