use Rattle.std.proofs.Common.{◌≡◌, drop}
use Rattle.core_access.specs.Touched.{is_touched}
use Rattle.core_access.proofs.touch.Touches.has.Given as goal

-- the touches that are left have the period where all have it
abbrev pub invariant-loop-touch : goal.invariant-loop-touch
invariant-loop-touch l = is_touched (drop l.touch-index l.touch-items) l.region l.since ≡ is_touched l.self l.region l.since
