-- The text of a report, this project's own format: the calls by ticket, the log of each core, and the
-- tables that they leave.
use Rattle.std.specs.Prelude.{◌≡◌, ℕ, List, ◌++◌, length, codes}
use Rattle.std.specs.List.{flat_map}
use Rattle.std.specs.Fmt.{decimal}
use Rattle.mon_types.specs.Shape.{Shape}
use Rattle.hist.specs.declared.finished.Finished.{Finished}
use Rattle.hist.specs.Logged.{Logged, events_of}
use Rattle.hist.specs.History.{history}
use Rattle.report.specs.Objects.{numbered}
use Rattle.report.specs.Calls.{call_line}
use Rattle.report.specs.Events.{log_text}
use Rattle.report.specs.Tables.{region_line, enclave_text, thread_text, core_lines}

-- the first line: the format's name and version
unfoldable pub title_line : List ℕ
title_line = codes "sanctum report 1\n"

-- the second line: how large the machine is
unfoldable pub machine_line : Shape → List ℕ
machine_line shape =
    codes "machine cores " ++ decimal shape.cores ++ codes " regions " ++ decimal shape.regions
    ++ codes " pages " ++ decimal shape.pages ++ codes " shift " ++ decimal shape.shift ++ codes "\n"

-- the last line
unfoldable pub end_line : List ℕ
end_line = codes "end\n"

-- the first two lines
abbrev pub head_text : Shape → List ℕ
head_text shape = title_line ++ machine_line shape

-- the calls of all cores, by ticket
abbrev pub calls_text : List Logged → List ℕ
calls_text logs = flat_map call_line (history (events_of logs))

-- what stands before the logs
abbrev pub opening_text : Finished → List ℕ
opening_text f = head_text f.config ++ calls_text f.logs

-- the log of each core
abbrev pub logs_text : List Logged → List ℕ
logs_text logs = numbered log_text 0 logs

-- each enclave and each thread slot that is not empty
abbrev pub slots_text : Finished → List ℕ
slots_text f = numbered enclave_text 0 f.enclaves ++ numbered thread_text 0 f.threads

-- each region, each slot and each core
abbrev pub tables_text : Finished → List ℕ
tables_text f = numbered region_line 0 f.regions ++ slots_text f ++ core_lines 0 f.modes f.flushed

-- what stands behind the calls: the logs and the tables
abbrev pub records_text : Finished → List ℕ
records_text f = logs_text f.logs ++ tables_text f

-- the report of a finished run
abbrev pub report_text : Finished → List ℕ
report_text f = opening_text f ++ records_text f ++ end_line

-- a run has one log, one flush ticket and one mode for each core
pub record HasAllCores (f : Finished) : Type 0 where
  pub logs : length f.logs ≡ f.config.cores
  pub flushed : length f.flushed ≡ f.config.cores
  pub modes : length f.modes ≡ f.config.cores
