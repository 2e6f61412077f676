-- What each line of a report is checked for, once all lines have their form. This project's own.
use Rattle.std.specs.Prelude.{◌≡◌, ◌≢◌, ℕ, ◌+◌, ◌-◌, ◌≤◌, ⊤, List, [], ◌∷◌, ◌++◌, length, Option, Some, None}
use Rattle.std.specs.List.{AllByRecursion, slice_index_or}
use Rattle.mon_types.specs.Shape.{Shape}
use Rattle.mon_model.specs.State.{State}
use Rattle.hist.specs.declared.event.Entry.{Entry}
use Rattle.hist.specs.declared.event.Why.{Why}
use Rattle.hist.specs.declared.event.Why.TheVariants as whys
use Rattle.hist.specs.Legal.{IsLegalEntry}
use Rattle.hist.specs.Busy.{own, idle, IsRightlyBusy}
use Rattle.hist.specs.SafeLog.{IsTouch}
use Rattle.report.specs.Objects.{numbered}
use Rattle.report.specs.Tables.{region_line, enclave_text, thread_text, core_lines}
use Rattle.report.specs.Report.{end_line}
use Rattle.report_lines.specs.Lines.{ended_lines}
use Rattle.report_lines.specs.declared.event.EventLine.{EventLine}
use Rattle.report_lines.specs.declared.event.EventLine.TheVariants as lines
use Rattle.legal_report.specs.Form.{Parsed}
use Rattle.legal_report.specs.Counted.{counted, counted_behind, state_behind, next_ticket, events_named}

-- ---- which checks there are

-- A line and what is asked of it: a call, with the calls before it; the line that begins a log, with the core whose log
-- it ends, if there is one; an event of a core's log, with those before it and behind it; and a line behind the logs,
-- as it is to be and as it is, the first of which ends a log too.
pub data Check : Type 0 where
  OfCall : (before : List Entry) (e : Entry) → Check
  OfLog : (ended : Option ℕ) → Check
  OfEvent : (core : ℕ) (before : List EventLine) (event : EventLine) (behind : List EventLine) → Check
  OfTable : (ended : Option ℕ) (wanted there : Option (List ℕ)) → Check

-- the checks of the calls behind these
abbrev pub call_checks : List Entry → List Entry → List Check
call_checks before [] = []
call_checks before (e ∷ es) = OfCall before e ∷ call_checks (before ++ e ∷ []) es

-- those of the events of a core's log behind these
abbrev pub event_checks : ℕ → List EventLine → List EventLine → List Check
event_checks core before [] = []
event_checks core before (event ∷ behind) =
    OfEvent core before event behind ∷ event_checks core (before ++ event ∷ []) behind

-- those of the logs of the cores from this one on, the first of which ends the log of another, if there is one before
abbrev pub log_checks : Option ℕ → ℕ → List (List EventLine) → List Check
log_checks ended core [] = []
log_checks ended core (log ∷ logs) =
    OfLog ended ∷ (event_checks core [] log ++ log_checks (Some core) (core + 1) logs)

-- those of the lines behind the logs, line by line, up to the first that is missing or one too many
abbrev pub table_checks : Option ℕ → List (List ℕ) → List (List ℕ) → List Check
table_checks ended [] [] = []
table_checks ended [] (line ∷ rest) = OfTable ended None (Some line) ∷ []
table_checks ended (line ∷ wanted) [] = OfTable ended (Some line) None ∷ []
table_checks ended (line ∷ wanted) (have ∷ rest) =
    OfTable ended (Some line) (Some have) ∷ table_checks None wanted rest

-- the text that is to stand behind the logs, in this state of the monitor: each region, each slot that is not empty,
-- each core, and the end
abbrev pub closing_text : State → List ℕ
closing_text s =
    numbered region_line 0 s.regions ++ numbered enclave_text 0 s.enclaves ++ numbered thread_text 0 s.threads
    ++ core_lines 0 s.modes s.flushed ++ end_line

-- the checks of all lines from the third on, one for each, in order
abbrev pub checks_of : Parsed → List Check
checks_of p =
    call_checks [] p.calls ++ log_checks None 0 p.logs
    ++ table_checks (Some (p.shape.cores - 1)) (ended_lines (closing_text (state_behind p.shape p.calls))) p.rest

-- ---- what they ask

-- A call line: its ticket is its place, and its serial the number of earlier calls of its core; it is what the monitor
-- does then, and where it met a held lock, rightly so.
pub record IsRightCall (shape : Shape) (calls before : List Entry) (e : Entry) : Type 0 where
  pub ticket : e.ticket ≡ length before + 1
  pub serial : e.serial ≡ length (own e.core before)
  pub legal : IsLegalEntry (state_behind shape before) (counted_behind before e)
  pub busy : IsRightlyBusy shape (counted calls) idle (counted_behind before e) e.reply

-- where a log ends, all tickets of its core stood in it: there is no next one
abbrev pub HasEnded : Parsed → Option ℕ → Type 0
HasEnded p None = ⊤
HasEnded p (Some core) = next_ticket p.calls core (slice_index_or p.logs core []) ≡ None

-- an earlier stop was at no later line
abbrev pub StopsBy : ℕ → EventLine → Type 0
StopsBy line (lines.Entry ticket) = ⊤
StopsBy line (lines.Touch region since) = ⊤
StopsBy line (lines.Stop earlier why) = earlier ≤ line

-- nothing follows the end of a core's budgets
abbrev pub EndsAt : Why → List EventLine → Type 0
EndsAt (whys.Trap cause value) behind = ⊤
EndsAt whys.Limit behind = behind ≡ []

-- a stop: at a line of the script, none before that of an earlier stop
pub record IsRightStop (before : List EventLine) (line : ℕ) (why : Why) (behind : List EventLine) : Type 0 where
  pub counted : line ≢ 0
  pub ascends : AllByRecursion (StopsBy line) before
  pub ends : EndsAt why behind

-- an event line: an entry has its core's next ticket, a touch is a safe one of a period of the history
abbrev pub IsRightEvent : Parsed → ℕ → List EventLine → EventLine → List EventLine → Type 0
IsRightEvent p core before (lines.Entry ticket) behind = next_ticket p.calls core before ≡ Some ticket
IsRightEvent p core before (lines.Touch region since) behind =
    IsTouch p.shape (counted p.calls) (events_named p.calls core before) region since (events_named p.calls core behind)
IsRightEvent p core before (lines.Stop line why) behind = IsRightStop before line why behind

-- what is asked of a line
abbrev pub Passes : Parsed → Check → Type 0
Passes p (OfCall before e) = IsRightCall p.shape p.calls before e
Passes p (OfLog ended) = HasEnded p ended
Passes p (OfEvent core before event behind) = IsRightEvent p core before event behind
Passes p (OfTable ended wanted there) = HasEnded p ended × (wanted ≡ there)
