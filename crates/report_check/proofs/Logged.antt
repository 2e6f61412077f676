-- The check of a core's log, line by line.
use Rattle.std.proofs.Common.{◌≡◌, ℕ, ◌+◌, ◌<◌, ◌≤◌, Bool, true, false, List, [], ◌∷◌, ◌++◌, length, Option, Some, None, refl, sym, ap, subst, ◌∙◌, arith, append_assoc, append-nil}
use Rattle.std.specs.Prelude.{is_some}
use Rattle.std.specs.Bool.{Decides}
use Rattle.std.proofs.lemmas.Bool.{true≢false}
use Rattle.std.proofs.lemmas.List.{length-append}
use Rattle.mon_types.specs.Shape.{Shape}
use Rattle.hist.specs.SafeLog.{IsTouch}
use Rattle.hist.specs.declared.event.Entry.{Entry}
use Rattle.report_lines.specs.Lines.{ended_lines}
use Rattle.report_lines.specs.Reading.{event_in}
use Rattle.report_lines.specs.declared.event.EventLine.{EventLine}
use Rattle.report_lines.specs.declared.event.EventLine.TheVariants as lines
use Rattle.legal_report.specs.Form.{Parsed, events_at, with_event}
use Rattle.legal_report.specs.Counted.{counted, events_named, next_ticket}
use Rattle.legal_report.specs.Checks.{OfEvent, IsRightEvent, event_checks}
use Rattle.legal_report.specs.Drawn.{tickets_in}
use Rattle.legal_report.specs.FirstFailing.{FirstFailing}
use Rattle.legal_report.specs.Kept.{calls_told}
use Rattle.legal_report.specs.declared.tickets.Calls.{Calls}
use Rattle.legal_report.proofs.Walk.{no_lines_in}
use Rattle.report_check.specs.Place.{StandsBehind, at_start, IsPassed}
use Rattle.report_check.specs.Whole.{IsWhole}
use Rattle.report_check.specs.Known.{HasCalls, calls_alone}
use Rattle.report_check.specs.Event.{DecidesEvent}
use Rattle.report_check.specs.Log.{events_in, FirstWrongEvent, IsCounted}
use Rattle.report_check.specs.declared.place.Place.{Place}
use Rattle.report_check.specs.declared.whole.Whole.{Whole}
use Rattle.report_check.specs.declared.log.Passed.{Passed}
use Rattle.report_check.proofs.Finding.{found_next, found_here}
use Rattle.report_check.proofs.Standing.{stands_at_start}

-- ---- the event lines of a text

one_first : (shape : Shape) (line : List ℕ) (more : List (List ℕ)) (event : EventLine) → event_in shape line ≡ Some event → (events_at shape (line ∷ more)).0 ≡ event ∷ (events_at shape more).0
unfolding events_at
one_first shape line more event is = ap (λ (o : Option EventLine). (with_event o (line ∷ more) (events_at shape more)).0) is

none_first : (shape : Shape) (line : List ℕ) (more : List (List ℕ)) → event_in shape line ≡ None → (events_at shape (line ∷ more)).0 ≡ []
unfolding events_at
none_first shape line more is = ap (λ (o : Option EventLine). (with_event o (line ∷ more) (events_at shape more)).0) is

no_lines : (shape : Shape) → (events_at shape []).0 ≡ []
unfolding events_at
no_lines shape = refl

pub some_text : (shape : Shape) (text : List ℕ) → 0 < length (events_in shape text) → 0 < length text
some_text shape [] some = absurd (omega (arith, ap length (ap (λ (ls : List (List ℕ)). (events_at shape ls).0) (no_lines_in [] refl) ∙ no_lines shape), some))
some_text shape (b ∷ bs) some = omega arith

is_event : (shape : Shape) (line : List ℕ) (more : List (List ℕ)) (o : Option EventLine) → event_in shape line ≡ o → 0 < length (events_at shape (line ∷ more)).0 → is_some o ≡ true
is_event shape line more None is some = absurd (omega (arith, ap length (none_first shape line more is), some))
is_event shape line more (Some event) is some = refl

pub line_is_event : (shape : Shape) (text line : List ℕ) (more : List (List ℕ)) (read : Option EventLine) → ended_lines text ≡ line ∷ more → read ≡ event_in shape line → 0 < length (events_in shape text) → is_some read ≡ true
line_is_event shape text line more read l is some =
    is_event shape line more read (sym is) (subst (λ (ls : List (List ℕ)). 0 < length (events_at shape ls).0) l some)

pub event_first : (shape : Shape) (text line : List ℕ) (more : List (List ℕ)) (read : Option EventLine) (event : EventLine) → ended_lines text ≡ line ∷ more → read ≡ event_in shape line → read ≡ Some event → events_in shape text ≡ event ∷ (events_at shape more).0
event_first shape text line more read event l is some = ap (λ (ls : List (List ℕ)). (events_at shape ls).0) l ∙ one_first shape line more event (sym is ∙ some)

-- ---- line by line

-- these event lines are left, behind so many others that pass
pub record StandsAt (calls : Calls) (core first : ℕ) (log left : List EventLine) (passed : ℕ) (place : Place) : Type 0 where
  pub before : List EventLine
  pub log_is : log ≡ before ++ left
  pub count : length before ≡ passed
  pub stands : StandsBehind (calls_told calls) core before place
  pub goes : (p : Parsed) → HasCalls calls p → (found : Option ℕ) → FirstFailing p (first + passed) (event_checks core before left) found → FirstFailing p first (event_checks core [] log) found

pub stands_first : (calls : Calls) (core first : ℕ) (log : List EventLine) → (place : Place) → place ≡ at_start → StandsAt calls core first log log 0 place
stands_first calls core first log place is = record {
  before = [];
  log_is = refl;
  count = refl;
  stands = subst (StandsBehind (calls_told calls) core []) (sym is) (stands_at_start (calls_told calls) core);
  goes = λ p has found here. subst (λ (n : ℕ). FirstFailing p n (event_checks core [] log) found) (omega arith) here;
}

pub some_left : (calls : Calls) (core first : ℕ) (log left : List EventLine) (passed events : ℕ) (place : Place) → StandsAt calls core first log left passed place → events ≡ length log → passed < events → 0 < length left
some_left calls core first log left passed events place at e lt = omega (arith, ap length at.log_is, length-append at.before left, at.count)

none_left : (calls : Calls) (core first : ℕ) (log left : List EventLine) (passed events : ℕ) (place : Place) → StandsAt calls core first log left passed place → events ≡ length log → events ≤ passed → left ≡ []
none_left calls core first log [] passed events place at e le = refl
none_left calls core first log (x ∷ left) passed events place at e le = absurd (omega (arith, ap length at.log_is, length-append at.before (x ∷ left), at.count))

few_tickets : (log : List EventLine) → length (tickets_in log) ≤ length log
few_tickets [] = omega arith
few_tickets (lines.Entry t ∷ log) = omega (arith, few_tickets log)
few_tickets (lines.Touch r a ∷ log) = omega (arith, few_tickets log)
few_tickets (lines.Stop line why ∷ log) = omega (arith, few_tickets log)

pub few_entries : (calls : Calls) (core first : ℕ) (log left : List EventLine) (passed : ℕ) (place : Place) → StandsAt calls core first log left passed place → place.entries ≤ passed
few_entries calls core first log left passed place at = omega (arith, at.stands.entries, few_tickets at.before, at.count)

-- what is asked of an event line asks for the machine and the calls alone
in_report : (calls : Calls) (p : Parsed) (core : ℕ) (before behind : List EventLine) (event : EventLine) → HasCalls calls p → IsRightEvent (calls_alone calls) core before event behind → IsRightEvent p core before event behind
in_report calls p core before behind (lines.Entry t) has right = subst (λ (es : List Entry). next_ticket es core before ≡ Some t) (sym has.calls) right
in_report calls p core before behind (lines.Touch r a) has right =
    subst (λ (s : Shape). IsTouch s (counted p.calls) (events_named p.calls core before) r a (events_named p.calls core behind)) (sym has.shape)
    (subst (λ (es : List Entry). IsTouch calls.config.now (counted es) (events_named es core before) r a (events_named es core behind)) (sym has.calls) right)
in_report calls p core before behind (lines.Stop line why) has right = right

of_report : (calls : Calls) (p : Parsed) (core : ℕ) (before behind : List EventLine) (event : EventLine) → HasCalls calls p → IsRightEvent p core before event behind → IsRightEvent (calls_alone calls) core before event behind
of_report calls p core before behind (lines.Entry t) has right = subst (λ (es : List Entry). next_ticket es core before ≡ Some t) has.calls right
of_report calls p core before behind (lines.Touch r a) has right =
    subst (λ (es : List Entry). IsTouch calls.config.now (counted es) (events_named es core before) r a (events_named es core behind)) has.calls
    (subst (λ (s : Shape). IsTouch s (counted p.calls) (events_named p.calls core before) r a (events_named p.calls core behind)) has.shape right)
of_report calls p core before behind (lines.Stop line why) has right = right

-- whether the line is right, by what is kept
decided : (calls : Calls) (core first : ℕ) (log left more : List EventLine) (event : EventLine) (passed : ℕ) (place : Place) (whole : Whole) (right : Bool) → (at : StandsAt calls core first log left passed place) → left ≡ event ∷ more
    → IsWhole (calls_told calls) core log whole → DecidesEvent calls core place whole passed event right → Decides right (IsRightEvent (calls_alone calls) core at.before event more)
decided calls core first log left more event passed place whole right at l is d =
    d at.before more at.count at.stands (subst (λ (es : List EventLine). IsWhole (calls_told calls) core es whole) (at.log_is ∙ ap (λ (es : List EventLine). at.before ++ es) l) is)

pub stands_wrong : (calls : Calls) (core first : ℕ) (log left more : List EventLine) (event : EventLine) (passed : ℕ) (place : Place) (whole : Whole) (right : Bool) → StandsAt calls core first log left passed place → left ≡ event ∷ more
    → IsWhole (calls_told calls) core log whole → DecidesEvent calls core place whole passed event right → right ≡ false → FirstWrongEvent calls core first log (Some (first + passed))
stands_wrong calls core first log left more event passed place whole right at l is d fails p has =
    let wrong = decided calls core first log left more event passed place whole right at l is d in
    at.goes p has (Some (first + passed))
    (subst (λ (es : List EventLine). FirstFailing p (first + passed) (event_checks core at.before es) (Some (first + passed))) (sym l)
    (found_here p (first + passed) (OfEvent core at.before event more) (event_checks core (at.before ++ event ∷ []) more)
    (λ passes. true≢false (sym (wrong.1 (of_report calls p core at.before more event has passes)) ∙ fails))))

pub stands_next : (calls : Calls) (core first : ℕ) (log left more : List EventLine) (event : EventLine) (passed : ℕ) (old new : Place) (whole : Whole) (right : Bool) → StandsAt calls core first log left passed old → left ≡ event ∷ more
    → IsWhole (calls_told calls) core log whole → DecidesEvent calls core old whole passed event right → right ≡ true → IsPassed (calls_told calls) core event old new → StandsAt calls core first log more (passed + 1) new
stands_next calls core first log left more event passed old new whole right at l is d holds next =
    let sure = decided calls core first log left more event passed old whole right at l is d in
    record {
      before = at.before ++ event ∷ [];
      log_is = at.log_is ∙ ap (λ (es : List EventLine). at.before ++ es) l ∙ sym (append_assoc at.before (event ∷ []) more);
      count = omega (arith, length-append at.before (event ∷ []), at.count);
      stands = next at.before at.stands;
      goes = λ p has found later.
          at.goes p has found
          (subst (λ (es : List EventLine). FirstFailing p (first + passed) (event_checks core at.before es) found) (sym l)
          (found_next p (first + passed) (OfEvent core at.before event more) (event_checks core (at.before ++ event ∷ []) more) found
          (in_report calls p core at.before more event has (sure.0 holds))
          (subst (λ (n : ℕ). FirstFailing p n (event_checks core (at.before ++ event ∷ []) more) found) (omega arith) later)));
    }

pub stands_last : (calls : Calls) (core first : ℕ) (log left : List EventLine) (passed events : ℕ) (place : Place) → StandsAt calls core first log left passed place → events ≡ length log → events ≤ passed → FirstWrongEvent calls core first log None
stands_last calls core first log left passed events place at e le p has =
    at.goes p has None (subst (λ (es : List EventLine). FirstFailing p (first + passed) (event_checks core at.before es) None) (sym (none_left calls core first log left passed events place at e le)) tt)

pub all_counted : (calls : Calls) (core first : ℕ) (log left : List EventLine) (passed events : ℕ) (place : Place) (result : Passed) → StandsAt calls core first log left passed place → events ≡ length log → events ≤ passed
    → result.events ≡ events → result.entries ≡ place.entries → IsCounted log result
all_counted calls core first log left passed events place result at e le re rn =
    let all : log ≡ at.before = at.log_is ∙ ap (λ (es : List EventLine). at.before ++ es) (none_left calls core first log left passed events place at e le) ∙ append-nil at.before in
    record { events = re ∙ e; entries = rn ∙ at.stands.entries ∙ ap (λ (es : List EventLine). length (tickets_in es)) (sym all) }
