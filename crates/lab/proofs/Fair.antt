-- The next move of a core may be made on the words: it is permitted, acts on a word of the machine, and has a ticket.
use Rattle.std.proofs.Common.{◌≡◌, ◌∙◌, ◌-◌, ◌<◌, ◌≤◌, ◌^◌, ℕ, suc, false, Some, List, [], ◌∷◌, ap, sym, refl, subst, inl, inr, eqb, arith}
use Rattle.std.specs.List.{AllByRecursion}
use Rattle.std.proofs.lemmas.Bool.{cases_Bool, eqb-true, eqb-false}
use Rattle.mon_types.specs.Shape.{Shape}
use Rattle.mon_types.specs.LimitLaws.{few_cores}
use Rattle.mon_types.specs.declared.image.Image.{Image}
use Rattle.mon_types.specs.declared.script.Line.{Line}
use Rattle.mon_types.specs.declared.object.ObjectId.{ObjectId}
use Rattle.mon_types.specs.declared.call.Call.{Call}
use Rattle.protocol.specs.declared.action.Action.{Action}
use Rattle.protocol.specs.declared.action.Action.TheVariants as actions
use Rattle.protocol.specs.declared.action.Move.{Move}
use Rattle.protocol.specs.declared.action.Move.TheVariants as moves
use Rattle.protocol.specs.declared.action.Outcome.{Outcome}
use Rattle.protocol.specs.Places.{Memory, Counter}
use Rattle.protocol.specs.Layout.{place_index}
use Rattle.protocol.specs.Moves.{place_of, action_place, word_found, outcome_of, action_outcome}
use Rattle.protocol.specs.CallTree.{Tree, Makes, Issuer, call_tree}
use Rattle.protocol.specs.Views.{Moves, next_serial, call_moves, issuer_of, has_drawn}
use Rattle.protocol.specs.Permitted.{Follows, Permitted}
use Rattle.protocol.specs.Runs.{Made, moves_of, memory_after, outcome_after, IsRun}
use Rattle.protocol.specs.Words.{IsPlaced}
use Rattle.protocol.specs.Worlds.{World}
use Rattle.protocol.specs.Passes.{IsGiven}
use Rattle.protocol_steps.specs.Stages.{Stage, Locking, Met, Drawn, Astray, stage_of, MayMake}
use Rattle.protocol_steps.proofs.Views.{IsOver, undrawn}
use Rattle.protocol_steps.proofs.Goes.{goes_now}
use Rattle.protocol_steps.proofs.Next.{serial_next}
use Rattle.protocol_steps.proofs.Given.{permitted_is_placed}
use Rattle.core_behaviour.specs.Course.{first_of, left_of, IsBegun}
use Rattle.core_behaviour.specs.Runs.{course_of, start_words, move_made}
use Rattle.core_behaviour.specs.RunLaw.{AreGiven}
use Rattle.core_behaviour.proofs.Words.{moves_own, moves_other}
use Rattle.core_laws.specs.Outcomes.{MayAnswer, AreAnswered}
use Rattle.core_laws.proofs.Courses.{next_is_permitted}
use Rattle.core_laws.proofs.GivenRuns.{given_is_run, given_are_answered}
use Rattle.word_list.specs.Listed.{Listed, StandsFor, tickets_in, HasTicket, CanBeMade}
use Rattle.lab.specs.declared.lab_core.LabCore.{LabCore}
use Rattle.lab.specs.Stands.{IsRunOf, Goes}
use Rattle.lab.specs.Steps.{course_left}

-- ---- one move more of a core

pub run_more : (image : Image) (script : List (List Line)) (made : Made) (run : List Made) → made.core < image.config.cores → made.outcome ≡ outcome_after image.config (start_words image) run made.move
    → first_of (course_left image script made.core run) ≡ Some made.move → IsRunOf image script run → IsRunOf image script (made ∷ run)
run_more image script made run low answers first r = record {
  said = r.said;
  given = (low, answers, r.given);
  lines = λ core lt. elim (cases_Bool (eqb made.core core)) [
    | inl t ↦
        let e : made.core ≡ core = eqb-true made.core core t in
        subst (IsBegun (course_of image script core)) (sym (moves_own core made run e))
        (r.lines core lt, subst (λ q. first_of (course_left image script q run) ≡ Some made.move) e first)
    | inr f ↦ subst (IsBegun (course_of image script core)) (sym (moves_other core made run (eqb-false made.core core f))) (r.lines core lt)
  ];
}

-- ---- where the next move of a core is this

all_low : (image : Image) (run : List Made) → AreGiven image run → AllByRecursion (λ made. made.core < image.config.cores) run
all_low image [] given = tt
all_low image (made ∷ run) given = (given.0, all_low image run given.2)

-- it answers a word of 64 bits, or a ticket of 32
ticket_left : (memory : Memory) (drawn : ℕ) (move : Move) → drawn ≡ memory Counter → MayAnswer move (outcome_of move (word_found memory (place_of move))) → HasTicket move drawn
unfolding outcome_of action_outcome place_of action_place word_found
ticket_left memory drawn (moves.InCall (actions.TryLock o)) e h = tt
ticket_left memory drawn (moves.InCall (actions.Read o i)) e h = tt
ticket_left memory drawn (moves.InCall (actions.Write o i word)) e h = tt
ticket_left memory drawn (moves.InCall (actions.Draw draft)) e h = omega (arith, e, h)
ticket_left memory drawn (moves.InCall (actions.Unlock o)) e h = tt
ticket_left memory drawn (moves.InCall (actions.Load i)) e h = tt
ticket_left memory drawn (moves.InCall (actions.Store i word)) e h = tt
ticket_left memory drawn (moves.Look r owner) e h = tt
ticket_left memory drawn (moves.Load i) e h = tt
ticket_left memory drawn (moves.Store i word) e h = tt
ticket_left memory drawn (moves.Swap i old word) e h = tt
ticket_left memory drawn (moves.Stop line why) e h = tt

counter_is : (words : Listed) (memory : Memory) → StandsFor words memory → tickets_in words ≡ memory Counter
unfolding place_index
counter_is words memory h = h.each Counter tt

module _ (image : Image) (script : List (List Line)) (core : ℕ) (run : List Made) (k : LabCore) (words : Listed) (g : Goes image script core run k words) (move : Move) (first : first_of (course_left image script core run) ≡ Some move) where
  pub is_low : core < 16
  is_low = let few = few_cores image.config g.made.said.machine.shape in let low = g.low in omega arith

  pub next_run : IsRunOf image script (move_made image core move run ∷ run)
  next_run = run_more image script (move_made image core move run) run g.low refl first g.made

  pub is_permitted : Permitted image.config core (moves_of core run) move
  is_permitted = next_is_permitted image script g.made.said core (moves_of core run) (record {
    there = g.low;
    begun = g.made.lines core g.low;
    answered = given_are_answered image script run g.made.said g.made.given g.made.lines core g.low;
  }) move first

  is_run : IsRun image.config (start_words image) run
  is_run = given_is_run image script run g.made.said g.made.given g.made.lines

  world : World
  world = record { memory = memory_after image.config (start_words image) run; moves = λ c. moves_of c run }

  is_given : IsGiven image.config (start_words image) image.config.cores world
  unfolding world
  is_given = (
    run,
    record {
      permitted = is_run;
      cores = all_low image run g.made.given;
      words = λ p h. refl;
      moves = λ c. refl;
    },
  )

  is_placed : IsPlaced image.config (place_of move)
  unfolding world
  is_placed = permitted_is_placed image.config g.made.said.machine.shape (start_words image) image.config.cores world is_given core move g.low is_permitted

  answers : MayAnswer move (outcome_after image.config (start_words image) run move)
  answers =
      let all = given_are_answered image script (move_made image core move run ∷ run) g.made.said next_run.given next_run.lines core g.low in
      let own : AreAnswered ((move, outcome_after image.config (start_words image) run move) ∷ moves_of core run) = subst AreAnswered (moves_own core (move_made image core move run) run refl) all in
      own.0

  pub can_be_made : CanBeMade words move
  can_be_made = record {
    placed = subst (λ (shape : Shape). IsPlaced shape (place_of move)) (sym g.listed.shape) is_placed;
    ticket = ticket_left (memory_after image.config (start_words image) run) (tickets_in words) move (counter_is words (memory_after image.config (start_words image) run) g.listed.holds) answers;
  }

-- ---- a call that tries a lock has drawn no ticket

try_first : (shape : Shape) (call : Call) (o : ObjectId) (stage : Stage) → MayMake shape call stage (actions.TryLock o) → IsOver stage → ⊥
try_first shape call o (Locking os) may over = over
try_first shape call o (Met lock holder serial os) may over = over
try_first shape call o (Drawn draft) may over = may
try_first shape call o Astray may over = may

none_drawn : (shape : Shape) (by : Issuer) (call : Call) (ms : List (Action × Outcome)) (o : ObjectId) (next : Outcome → Tree) → Follows (call_tree shape by call) ms (Makes (actions.TryLock o) next) → has_drawn ms ≡ false
none_drawn shape by call ms o next h =
    undrawn ms (try_first shape call o (stage_of ms) (goes_now shape by call ms (Makes (actions.TryLock o) next) h).0)

pub try_serial : (shape : Shape) (core : ℕ) (ms : Moves) (o : ObjectId) → Permitted shape core ms (moves.InCall (actions.TryLock o)) → (issuer_of core ms).serial ≡ next_serial core ms
try_serial shape core ms o p = serial_next core ms (none_drawn shape (issuer_of core ms) p.call (call_moves ms) o p.next p.follows)
