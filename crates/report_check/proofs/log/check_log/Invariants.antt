use Rattle.std.proofs.Common.{◌+◌, ◌≤◌, length}
use Rattle.report_check.specs.Log.{events_in}
use Rattle.report_check.proofs.Logged.{StandsAt}
use Rattle.report_check.proofs.log.check_log.Given as goal

abbrev pub invariant-loop-passed : goal.invariant-loop-passed
invariant-loop-passed l = record {
  stands : StandsAt l.known.calls l.core l.first (events_in l.known.calls.config.now l.text) (events_in l.known.calls.config.now l.rest) l.passed l.place;
  size : l.passed + length l.rest ≤ length l.text;
}
