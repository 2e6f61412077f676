use Rattle.std.proofs.Common.{◌≡◌, false, fold, take}
use Rattle.hist.specs.Touched.{touched_by}
use Rattle.lab.proofs.logging.is_touched.Given as goal

abbrev pub invariant-loop-event : goal.invariant-loop-event
invariant-loop-event l = l.touched ≡ fold (touched_by l.region l.since) false (take l.event-index l.events)
