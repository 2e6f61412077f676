-- What is known of the calls of a report while its logs are checked. This project's own.
use Rattle.std.specs.Prelude.{◌≡◌, ℕ, ◌+◌, List, [], length}
use Rattle.legal_report.specs.Form.{Parsed}
use Rattle.legal_report.specs.Counted.{counted}
use Rattle.legal_report.specs.Kept.{CallsLaid, calls_told, KeepsTickets}
use Rattle.legal_report.specs.Marks.{PeriodsTell}
use Rattle.legal_report.specs.declared.form.Form.{Form}
use Rattle.legal_report.specs.declared.tickets.Calls.{Calls}
use Rattle.report_check.specs.declared.known.Known.{Known}

-- the periods of each region, and the tickets of each core's calls, are those of these calls
pub record IsKnown (known : Known) : Type 0 where
  pub laid : CallsLaid known.calls
  pub periods : PeriodsTell (counted (calls_told known.calls)) (length known.calls.places.now + 1)
      known.calls.config.now.regions known.marks.now
  pub tickets : KeepsTickets known.calls.config.now.cores (calls_told known.calls) known.tickets.now

-- the calls whose lines begin at the places of a form
pub record AreCallsOf (bytes : List ℕ) (form : Form) (kept : Calls) : Type 0 where
  pub config : kept.config.now ≡ form.config
  pub text : kept.bytes.now ≡ bytes
  pub places : kept.places.now ≡ form.calls

-- a report with these calls
pub record HasCalls (kept : Calls) (p : Parsed) : Type 0 where
  pub shape : p.shape ≡ kept.config.now
  pub calls : p.calls ≡ calls_told kept

-- the one in which nothing else stands
abbrev pub calls_alone : Calls → Parsed
calls_alone calls = record { shape = calls.config.now; calls = calls_told calls; logs = []; rest = [] }
