use Rattle.std.proofs.Common.{◌≡◌, ◌+◌, take}
use Rattle.hist.proofs.tests.log_of.Given as goal

abbrev pub invariant-loop-event : goal.invariant-loop-event
invariant-loop-event l = (l.log.events ≡ take l.event-index l.events) × (l.log.spare + l.event-index ≡ 16)
