-- What the lines of the report of a finished run tell. This project's own.
use Rattle.std.specs.Prelude.{◌≡◌, ◌<◌, true, List, ◌++◌, length, map, Option, Some, None, Ok}
use Rattle.std.specs.List.{AllByRecursion}
use Rattle.mon_types.specs.Shape.{is_shape}
use Rattle.hist.specs.declared.event.PageInput.{PageInput}
use Rattle.hist.specs.declared.event.Entry.{Entry}
use Rattle.hist.specs.declared.event.Event.{Event}
use Rattle.hist.specs.declared.event.Event.TheVariants as events
use Rattle.hist.specs.declared.finished.Finished.{Finished}
use Rattle.hist.specs.Logged.{Logged, events_of}
use Rattle.hist.specs.History.{history}
use Rattle.report.specs.Report.{tables_text, end_line, report_text}
use Rattle.report_lines.specs.Lines.{ended_lines}
use Rattle.report_lines.specs.Fits.{FitsEntry, FitsEvent}
use Rattle.report_lines.specs.declared.event.EventLine.{EventLine}
use Rattle.report_lines.specs.declared.event.EventLine.TheVariants as lines
use Rattle.legal_report.specs.Form.{Parsed, form_of}

-- where a page stands among the answers is not printed
abbrev pub page_told : Option PageInput → Option PageInput
page_told None = None
page_told (Some page) = Some (record { digest = page.digest; at = 0 })

-- what the line of a call tells
abbrev pub entry_told : Entry → Entry
entry_told e = record e { page = page_told e.page }

-- what the line of an event tells
abbrev pub event_told : Event → EventLine
event_told (events.Entry e) = lines.Entry e.ticket
event_told (events.Touch region since) = lines.Touch region since
event_told (events.Stop line why) = lines.Stop line why

-- what the lines of a log tell
abbrev pub log_told : Logged → List EventLine
log_told log = map event_told log.events

-- what the lines of the report of a run tell
abbrev pub run_told : Finished → Parsed
run_told f = record {
  shape = f.config;
  calls = map entry_told (history (events_of f.logs));
  logs = map log_told f.logs;
  rest = ended_lines (tables_text f ++ end_line);
}

-- a run of a machine with a log for each core, of which each call and each event fits into a line
pub record FitsRun (f : Finished) : Type 0 where
  pub shape : is_shape f.config ≡ true
  pub cores : length f.logs ≡ f.config.cores
  pub calls : AllByRecursion (λ e. FitsEntry f.config (entry_told e)) (history (events_of f.logs))
  pub events : AllByRecursion (λ log. AllByRecursion (λ event. FitsEvent f.config (event_told event)) log.events) f.logs
  pub regions : 0 < length f.regions

-- the report of such a run has the form of a report, and tells that
abbrev pub PrintedHaveForm : Type 0
PrintedHaveForm = (f : Finished) → FitsRun f → form_of (ended_lines (report_text f)) ≡ Ok (run_told f)
