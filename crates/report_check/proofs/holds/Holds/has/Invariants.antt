use Rattle.std.proofs.Common.{◌≡◌, drop}
use Rattle.report_check.specs.Holds.{is_held}
use Rattle.report_check.proofs.holds.Holds.has.Given as goal

-- the touches that are left have the period where all have it
abbrev pub invariant-loop-touch : goal.invariant-loop-touch
invariant-loop-touch l = is_held (drop l.touch-index l.touch-items) l.region l.since ≡ is_held l.self l.region l.since
