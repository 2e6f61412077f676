-- Which line of a report tells what: the line is what the report prints of it. This project's own format.
use Rattle.std.specs.Prelude.{◌≡◌, ℕ, true, List}
use Rattle.mon_types.specs.Shape.{Shape, is_shape}
use Rattle.hist.specs.declared.event.Entry.{Entry}
use Rattle.hist.specs.declared.event.Event.TheVariants as events
use Rattle.report.specs.Calls.{call_line}
use Rattle.report.specs.Events.{entry_line, event_line}
use Rattle.report.specs.Report.{machine_line}
use Rattle.report_lines.specs.declared.event.EventLine.{EventLine}
use Rattle.report_lines.specs.declared.event.EventLine.TheVariants as lines
use Rattle.report_lines.specs.Fits.{FitsEntry, FitsEvent}

-- the line of a machine
pub record IsMachineLine (line : List ℕ) (shape : Shape) : Type 0 where
  pub fits : is_shape shape ≡ true
  pub printed : line ≡ machine_line shape

-- the line of a call
pub record IsCallLine (shape : Shape) (line : List ℕ) (e : Entry) : Type 0 where
  pub fits : FitsEntry shape e
  pub printed : line ≡ call_line e

-- the text of an event's line; of a call it has the ticket alone
abbrev pub event_text : EventLine → List ℕ
event_text (lines.Entry ticket) = entry_line ticket
event_text (lines.Touch region since) = event_line (events.Touch region since)
event_text (lines.Stop line why) = event_line (events.Stop line why)

-- the line of an event
pub record IsEventLine (shape : Shape) (line : List ℕ) (event : EventLine) : Type 0 where
  pub fits : FitsEvent shape event
  pub printed : line ≡ event_text event
