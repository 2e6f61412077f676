-- What all event lines of a core's log tell of its calls. This project's own.
use Rattle.std.specs.Prelude.{◌≡◌, ℕ, ◌<◌, ⊤, List, length, filter, Any, Option, Some, None}
use Rattle.std.specs.List.Sorted.{IsPermutation, IsNonDecreasing}
use Rattle.hist.specs.declared.event.Entry.{Entry}
use Rattle.report_lines.specs.declared.event.EventLine.{EventLine}
use Rattle.legal_report.specs.Drawn.{tickets_in, is_flush_named}
use Rattle.legal_report.specs.Least.{least_behind}
use Rattle.report_check.specs.declared.whole.Whole.{Whole}

-- how many event lines there are, the least of each ticket and those behind it, and the tickets of Ok flushes, which
-- ascend
pub record IsWhole (calls : List Entry) (core : ℕ) (log : List EventLine) (whole : Whole) : Type 0 where
  pub events : whole.events ≡ length log
  pub least : whole.least ≡ least_behind (tickets_in log)
  pub flushes : IsPermutation (filter (is_flush_named calls core) (tickets_in log)) whole.flushes
  pub ascend : IsNonDecreasing whole.flushes

-- a ticket between two others
abbrev pub Between : ℕ → ℕ → ℕ → Type 0
Between low high t = (low < t) × (t < high)

-- one of these is between the block and the freeing, if there are both
abbrev pub FlushedBetween : List ℕ → Option ℕ → Option ℕ → Type 0
FlushedBetween flushes (Some low) (Some high) = Any (Between low high) flushes
FlushedBetween flushes (Some low) None = ⊤
FlushedBetween flushes None freed = ⊤
